-- A file by itself is a project.
use Rattle.std.proofs.Common.{◌≡◌, ℕ, ◌+◌, ◌≤◌, List, [], ◌∷◌, length, arith}
use Rattle.std.specs.List.{sum_by}
use Rattle.std.proofs.lemmas.List.Elements.{All-cons, All-nil}
use Rattle.std.proofs.lemmas.List.Sums.{sum_by-cons}
use Rattle.ftn_base.specs.Limits.{most_file_bytes}
use Rattle.ftn_base.specs.declared.name.Edition.{Edition}
use Rattle.ftn_tree.specs.FileFaults.{IsTreeOf}
use Rattle.ftn_tree.specs.Projects.{AreTrees, IsSomeTree}
use Rattle.ftn_tree.specs.declared.unit.FileTree.{FileTree}
use Rattle.free_scan.proofs.TextSizes.{tree_statements, tree_tokens}

in_all : (count : FileTree → ℕ) (tree : FileTree) → sum_by count (tree ∷ []) ≡ count tree + 0
in_all count tree = sum_by-cons count tree []

pub one_tree : (edition : Edition) (text : List ℕ) (tree : FileTree) → length text ≤ most_file_bytes → IsTreeOf edition text tree → AreTrees (tree ∷ [])
one_tree edition text tree short is = record {
  few = omega arith;
  trees = All-cons IsSomeTree tree [] (edition, text, short, is) (All-nil IsSomeTree);
  small = omega (arith, in_all (λ (t : FileTree). length t.statements) tree, tree_statements edition text tree is);
  short = omega (arith, in_all (λ (t : FileTree). length t.tokens.items) tree, tree_tokens edition text tree is);
}
