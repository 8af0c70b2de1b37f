-- The trees of a project's files.
use Rattle.std.proofs.Common.{◌≡◌, ℕ, suc, ◌+◌, ◌≤◌, ◌<◌, ◌^◌, Bool, List, [], ◌∷◌, ◌++◌, length, length-append, None, refl, ap, arith}
use Rattle.std.specs.List.{All, sum_by}
use Rattle.std.proofs.lemmas.Bool.{cond_both, ltb-false}
use Rattle.std.proofs.lemmas.List.{length-map}
use Rattle.std.proofs.lemmas.List.Elements.{All-cons, All-head, All-nil, All-tail}
use Rattle.std.proofs.lemmas.List.Sums.{sum_by-cons}
use Rattle.ftn_base.specs.Files.{File}
use Rattle.ftn_base.specs.Limits.{most_project_bytes}
use Rattle.ftn_base.specs.declared.name.Edition.{Edition}
use Rattle.ftn_tree.specs.FileFaults.{IsTreeOf}
use Rattle.ftn_tree.specs.Marks.{is_construct, begins_arm}
use Rattle.ftn_tree.specs.NestFaults.{marks_of}
use Rattle.ftn_tree.specs.Nesting.{Held, Nested, Row, held, nest, none as no_more, spelled, stands}
use Rattle.ftn_tree.specs.ProjectFaults.{HasTree}
use Rattle.ftn_tree.specs.ProjectLimits.{limit_of, past_bytes}
use Rattle.ftn_tree.specs.Projects.{AreTrees, IsSomeTree}
use Rattle.ftn_tree.specs.declared.mark.Mark.{Mark}
use Rattle.ftn_tree.specs.declared.unit.FileTree.{FileTree}
use Rattle.ftn_tree.specs.declared.unit.Unit.{Unit as UnitTree}
use Rattle.ftn_tool.specs.BuiltFaults.{AreTreesOf, units_of}
use Rattle.ftn_tool.specs.steps.Fronts.{IsSmall}
use Rattle.ftn_tool.proofs.Sizes.{none_few, none_past, not_past}
use Rattle.free_scan.proofs.TextSizes.{tree_statements, tree_tokens}

-- ---- one file

held_units : (at : ℕ) (row : Row) → length (held at row).units ≤ length (spelled row)
held_units at no_more = omega arith
held_units at (stands m rest) =
    let more : length (held (at + 1) rest).units ≤ length (spelled rest) = held_units (at + 1) rest in
    cond_both (begins_arm m) _ _ (λ (h : Held). length h.units ≤ suc (length (spelled rest))) (λ e. omega (arith, more)) (λ e. omega (arith, more))
held_units at (nest what inside end rest) =
    let next : ℕ = at + 1 + length (spelled inside) + 1 in
    let more : length (held next rest).units ≤ length (spelled rest) = held_units next rest in
    let all : length (spelled inside ++ end ∷ spelled rest) ≡ length (spelled inside) + suc (length (spelled rest)) = length-append (spelled inside) (end ∷ spelled rest) in
    cond_both (is_construct what.word) _ _ (λ (h : Held). length h.units ≤ suc (length (spelled inside ++ end ∷ spelled rest))) (λ e. omega (arith, more, all)) (λ e. omega (arith, more, all))

nested_units : (same : ℕ → ℕ → Bool) (marks : List Mark) (units : List UnitTree) → Nested same marks units → length units ≤ length marks
nested_units same marks units is =
    let held_are : length (held 0 is.0).units ≡ length units = ap (λ (us : List UnitTree). length us) is.3 in
    let marks_are : length (spelled is.0) ≡ length marks = ap (λ (ms : List Mark). length ms) is.2 in
    omega (arith, held_units 0 is.0, held_are, marks_are)

-- nor more program units than statements
few_units : (edition : Edition) (text : List ℕ) (tree : FileTree) → IsTreeOf edition text tree → length tree.units ≤ length tree.statements
few_units edition text tree is =
    let marks : length (marks_of tree.statements) ≡ length tree.statements = length-map tree.statements _ in
    omega (arith, marks, nested_units _ (marks_of tree.statements) tree.units is.1.nested)

-- ---- files

abbrev bytes_of : List File → ℕ
bytes_of files = sum_by (λ (file : File). length file.1) files

abbrev statements_of : List FileTree → ℕ
statements_of trees = sum_by (λ (tree : FileTree). length tree.statements) trees

abbrev tokens_of_all : List FileTree → ℕ
tokens_of_all trees = sum_by (λ (tree : FileTree). length tree.tokens.items) trees

few_bytes : (before : ℕ) (files : List File) → before ≤ most_project_bytes → past_bytes before files ≡ None → before + bytes_of files ≤ most_project_bytes
few_bytes before [] small none = omega (arith, small)
few_bytes before (file ∷ files) small none =
    let parts = not_past before file files none in
    let here : before + length file.1 ≤ most_project_bytes = ltb-false most_project_bytes (before + length file.1) parts.1 in
    let more : before + length file.1 + bytes_of files ≤ most_project_bytes = few_bytes (before + length file.1) files here parts.2 in
    let sum : bytes_of (file ∷ files) ≡ length file.1 + bytes_of files = sum_by-cons (λ (f : File). length f.1) file files in
    omega (arith, more, sum)

module _ (edition : Edition) where
  pub same_length : (files : List File) (trees : List FileTree) → AreTreesOf edition files trees → length trees ≡ length files
  same_length [] [] are = refl
  same_length [] (tree ∷ trees) are = absurd are
  same_length (file ∷ files) [] are = absurd are
  same_length (file ∷ files) (tree ∷ trees) are = ap (λ (n : ℕ). suc n) (same_length files trees are.1)

  all_statements : (files : List File) (trees : List FileTree) → AreTreesOf edition files trees → statements_of trees ≤ bytes_of files
  all_statements [] [] are = omega arith
  all_statements [] (tree ∷ trees) are = absurd are
  all_statements (file ∷ files) [] are = absurd are
  all_statements (file ∷ files) (tree ∷ trees) are =
      let first : length tree.statements ≤ length file.1 = tree_statements edition file.1 tree are.0 in
      let more : statements_of trees ≤ bytes_of files = all_statements files trees are.1 in
      let one : statements_of (tree ∷ trees) ≡ length tree.statements + statements_of trees = sum_by-cons (λ (t : FileTree). length t.statements) tree trees in
      let other : bytes_of (file ∷ files) ≡ length file.1 + bytes_of files = sum_by-cons (λ (f : File). length f.1) file files in
      omega (arith, first, more, one, other)

  all_tokens : (files : List File) (trees : List FileTree) → AreTreesOf edition files trees → tokens_of_all trees ≤ bytes_of files
  all_tokens [] [] are = omega arith
  all_tokens [] (tree ∷ trees) are = absurd are
  all_tokens (file ∷ files) [] are = absurd are
  all_tokens (file ∷ files) (tree ∷ trees) are =
      let first : length tree.tokens.items ≤ length file.1 = tree_tokens edition file.1 tree are.0 in
      let more : tokens_of_all trees ≤ bytes_of files = all_tokens files trees are.1 in
      let one : tokens_of_all (tree ∷ trees) ≡ length tree.tokens.items + tokens_of_all trees = sum_by-cons (λ (t : FileTree). length t.tokens.items) tree trees in
      let other : bytes_of (file ∷ files) ≡ length file.1 + bytes_of files = sum_by-cons (λ (f : File). length f.1) file files in
      omega (arith, first, more, one, other)

  all_units : (files : List File) (trees : List FileTree) → AreTreesOf edition files trees → units_of trees ≤ statements_of trees
  all_units [] [] are = omega arith
  all_units [] (tree ∷ trees) are = absurd are
  all_units (file ∷ files) [] are = absurd are
  all_units (file ∷ files) (tree ∷ trees) are =
      let first : length tree.units ≤ length tree.statements = few_units edition file.1 tree are.0 in
      let more : units_of trees ≤ statements_of trees = all_units files trees are.1 in
      let one : units_of (tree ∷ trees) ≡ length tree.units + units_of trees = sum_by-cons (λ (t : FileTree). length t.units) tree trees in
      let other : statements_of (tree ∷ trees) ≡ length tree.statements + statements_of trees = sum_by-cons (λ (t : FileTree). length t.statements) tree trees in
      omega (arith, first, more, one, other)

  some_trees : (files : List File) (trees : List FileTree) → All IsSmall files → AreTreesOf edition files trees → All IsSomeTree trees
  some_trees [] [] small are = All-nil IsSomeTree
  some_trees [] (tree ∷ trees) small are = absurd are
  some_trees (file ∷ files) [] small are = absurd are
  some_trees (file ∷ files) (tree ∷ trees) small are =
      All-cons IsSomeTree tree trees (edition, file.1, All-head IsSmall file files small, are.0) (some_trees files trees (All-tail IsSmall file files small) are.1)

  project_bytes : (files : List File) → limit_of files ≡ None → bytes_of files ≤ most_project_bytes
  project_bytes files none = let bytes : 0 + bytes_of files ≤ most_project_bytes = few_bytes 0 files (omega arith) (none_past files none) in omega (arith, bytes)

  -- trees of files within the limits are what the stages after reading ask for
  pub are_trees : (files : List File) (trees : List FileTree) → limit_of files ≡ None → All IsSmall files → AreTreesOf edition files trees → AreTrees trees
  are_trees files trees none small are = record {
    few = omega (arith, same_length files trees are, none_few files none);
    trees = some_trees files trees small are;
    small = omega (arith, project_bytes files none, all_statements files trees are);
    short = omega (arith, project_bytes files none, all_tokens files trees are);
  }

  pub units_fit : (files : List File) (trees : List FileTree) → limit_of files ≡ None → AreTreesOf edition files trees → units_of trees < 2 ^ 32
  units_fit files trees none are = omega (arith, project_bytes files none, all_statements files trees are, all_units files trees are)

  -- ---- file by file

  pub push_tree : (files : List File) (trees : List FileTree) (file : File) (tree : FileTree) → AreTreesOf edition files trees → IsTreeOf edition file.1 tree → AreTreesOf edition (files ++ file ∷ []) (trees ++ tree ∷ [])
  push_tree [] [] file tree are is = (is, tt)
  push_tree [] (t ∷ trees) file tree are is = absurd are
  push_tree (f ∷ files) [] file tree are is = absurd are
  push_tree (f ∷ files) (t ∷ trees) file tree are is = (are.0, push_tree files trees file tree are.1 is)

  pub have_trees : (files : List File) (trees : List FileTree) → AreTreesOf edition files trees → All (HasTree edition) files
  have_trees [] [] are = All-nil (HasTree edition)
  have_trees [] (tree ∷ trees) are = absurd are
  have_trees (file ∷ files) [] are = absurd are
  have_trees (file ∷ files) (tree ∷ trees) are = All-cons (HasTree edition) file files (tree, are.0) (have_trees files trees are.1)
