-- What is told of a project, one part after the other.
use Rattle.std.proofs.Common.{◌≡◌, ℕ, ◌+◌, ◌<◌, Bool, List, [], ◌∷◌, ◌++◌, length, drop, get_or, Option, sym, ap, ap₂, ◌∙◌, arith, append-nil}
use Rattle.std.specs.List.{flat_map, range_with_len}
use Rattle.std.proofs.lemmas.List.{drop_more, map-id}
use Rattle.std.proofs.lemmas.List.Concat.{flat_map-append}
use Rattle.std.proofs.lemmas.List.FromFn.{map-range_with_len_more}
use Rattle.ftn_tree.specs.declared.unit.FileTree.{FileTree}
use Rattle.ftn_tree.specs.declared.unit.Statement.{Statement}
use Rattle.ftn_tree.specs.DeclarationFaults.{Finding}
use Rattle.decl_table.specs.steps.Rows.{Row}
use Rattle.const_expr.specs.declared.naming.Naming.{Naming}
use Rattle.const_value.specs.declared.measured.Measured.{Measured}
use Rattle.const_value.specs.declared.project.Project.{Project}
use Rattle.const_value.specs.declared.view.View.{View}
use Rattle.const_value.specs.steps.Findings.{gathered}
use Rattle.const_value.specs.steps.FirstFault.{file_told, files_told, if_within, is_within, sight_at, statements_by}
use Rattle.const_value.specs.steps.Projects.{row_in}
use Rattle.const_value.specs.steps.Telling.{Sight, sight_of, statement_by}
use Rattle.const_value.proofs.FirstFindings.{gathered_both}

abbrev sight : Project → List Measured → List (Option ℕ) → List Naming → ℕ → Sight
sight p known row namings file = record { project = p; known = known; row = row; namings = namings; file = file }

pub sight_is : (view : View) (p : Project) (known : List Measured) (namings : List Naming) (file : ℕ) → view.project.now ≡ p → view.known.now ≡ known → view.names.row.now ≡ row_in p.rows.items file
    → view.names.namings.now ≡ namings → view.file ≡ file → sight_of view ≡ sight_at p known namings file
sight_is view p known namings file project_is known_is row_is namings_is file_is =
    ap₂ (λ q k. sight q k view.names.row.now view.names.namings.now view.file) project_is known_is
    ∙ ap₂ (λ r n. sight p known r n view.file) row_is namings_is ∙ ap (sight p known (row_in p.rows.items file) namings) file_is

pub file_turn : (p : Project) (known : List Measured) (namings : List Naming) (rows : List Row) (all : List FileTree) (at index : ℕ) (tree : FileTree) (before after : Option Finding) → index < length all → tree ≡ get_or all index tree
    → after ≡ gathered before (file_told p known namings rows at tree)
    → gathered before (files_told p known namings rows at (drop index all)) ≡ gathered after (files_told p known namings rows (at + 1) (drop (index + 1) all))
file_turn p known namings rows all at index tree before after less is one =
    let rest = files_told p known namings rows (at + 1) (drop (index + 1) all) in
    ap (λ xs. gathered before (files_told p known namings rows at xs)) (drop_more all index tree less ∙ ap (λ y. y ∷ drop (index + 1) all) (sym is))
    ∙ gathered_both before (file_told p known namings rows at tree) rest ∙ ap (λ o. gathered o rest) (sym one)

range_more : (n : ℕ) → range_with_len 0 (n + 1) ≡ range_with_len 0 n ++ n ∷ []
range_more n =
    let same : 0 + n ≡ n = omega arith in
    sym (map-id (range_with_len 0 (n + 1))) ∙ map-range_with_len_more (λ (k : ℕ). k) 0 n n same ∙ ap (λ xs. xs ++ n ∷ []) (map-id (range_with_len 0 n))

pub number_turn : (f : ℕ → List Finding) (n : ℕ) (first before after : Option Finding) → before ≡ gathered first (flat_map f (range_with_len 0 n)) → after ≡ gathered before (f n)
    → after ≡ gathered first (flat_map f (range_with_len 0 (n + 1)))
number_turn f n first before after so_far one =
    one ∙ ap (λ o. gathered o (f n)) so_far ∙ sym (gathered_both first (flat_map f (range_with_len 0 n)) (f n))
    ∙ ap (gathered first)
    (sym (ap (flat_map f) (range_more n) ∙ flat_map-append f (range_with_len 0 n) (n ∷ []) ∙ ap (λ ys. flat_map f (range_with_len 0 n) ++ ys) (append-nil (f n))))

pub statement_turn : (s : Sight) (rows : List Row) (all : List Statement) (at index : ℕ) (statement : Statement) (within : Bool) (before after : Option Finding) → index < length all → statement ≡ get_or all index statement
    → within ≡ is_within rows s.file at → after ≡ gathered before (if_within within (statement_by s statement))
    → gathered before (statements_by s rows at (drop index all)) ≡ gathered after (statements_by s rows (at + 1) (drop (index + 1) all))
statement_turn s rows all at index statement within before after less is within_is one =
    let rest = statements_by s rows (at + 1) (drop (index + 1) all) in
    ap (λ xs. gathered before (statements_by s rows at xs)) (drop_more all index statement less ∙ ap (λ y. y ∷ drop (index + 1) all) (sym is))
    ∙ gathered_both before (if_within (is_within rows s.file at) (statement_by s statement)) rest
    ∙ ap (λ w. gathered (gathered before (if_within w (statement_by s statement))) rest) (sym within_is)
    ∙ ap (λ o. gathered o rest) (sym one)
