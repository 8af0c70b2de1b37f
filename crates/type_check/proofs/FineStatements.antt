-- Where a project has no fault of its constants and shapes, nothing of these is told of its statements.
use Rattle.std.proofs.Common.{◌≡◌, ℕ, zero, suc, ◌<◌, List, [], ◌∷◌, ◌++◌, length, get_or, Option, Some, None, option_map, refl, sym, ap, ◌∙◌, arith}
use Rattle.std.specs.Prelude.{slice_get}
use Rattle.std.specs.List.{enumerate_from, flat_map}
use Rattle.ftn_tree.specs.declared.table.Extent.{Extent}
use Rattle.ftn_tree.specs.declared.unit.FileTree.{FileTree}
use Rattle.ftn_tree.specs.Cases.{case_findings}
use Rattle.ftn_tree.specs.ConstantFaults.{circular_findings, constant_fault, constant_findings, constant_rank, designators_told, name_findings, placed_told, scope_findings, statement_told}
use Rattle.ftn_tree.specs.DeclarationFaults.{Finding, fault_of, first_finding}
use Rattle.ftn_tree.specs.DeclaredEntities.{names_after}
use Rattle.ftn_tree.specs.Extents.{layer_at, scoping}
use Rattle.ftn_tree.specs.Sayings.{sayings}
use Rattle.ftn_tree.specs.Scopes.{own_statements}
use Rattle.ftn_tree.specs.Wants.{expressions_at}
use Rattle.std.specs.Option.{option_map_or}

-- ---- lists of which nothing is left

pub none_left : {X : Type 0} (xs ys : List X) → xs ++ ys ≡ [] → xs ≡ []
none_left [] ys none = refl
none_left (x ∷ xs) ys none = absurd (cc none)

pub none_right : {X : Type 0} (xs ys : List X) → xs ++ ys ≡ [] → ys ≡ []
none_right [] ys none = none
none_right (x ∷ xs) ys none = absurd (cc none)

pub none_there : {X Y : Type 0} (f : X → List Y) (xs : List X) (n : ℕ) (x : X) → slice_get xs n ≡ Some x → flat_map f xs ≡ [] → f x ≡ []
none_there f [] n x there none = absurd (cc there)
none_there f (y ∷ xs) zero x there none = ap f (sym (cc there)) ∙ none_left (f y) (flat_map f xs) none
none_there f (y ∷ xs) (suc n) x there none = none_there f xs n x there (none_right (f y) (flat_map f xs) none)

none_at : {X Y : Type 0} (f : X → List Y) (xs : List X) (at : ℕ) (x : X) → at < length xs → flat_map f xs ≡ [] → f (get_or xs at x) ≡ []
none_at f [] at x less none = absurd (omega (arith, less))
none_at f (y ∷ xs) zero x less none = none_left (f y) (flat_map f xs) none
none_at f (y ∷ xs) (suc at) x less none = none_at f xs at x (omega (arith, less)) (none_right (f y) (flat_map f xs) none)

-- an element that is there, whatever stands for one that isn't
pub any_default : {X : Type 0} (xs : List X) (at : ℕ) (x y : X) → at < length xs → get_or xs at x ≡ get_or xs at y
any_default [] at x y less = absurd (omega (arith, less))
any_default (z ∷ xs) zero x y less = refl
any_default (z ∷ xs) (suc at) x y less = any_default xs at x y (omega (arith, less))

pub none_here : {X Y : Type 0} (f : X → List Y) (xs : List X) (at : ℕ) (x : X) → at < length xs → x ≡ get_or xs at x → flat_map f xs ≡ [] → f x ≡ []
none_here f xs at x less is none = ap f is ∙ none_at f xs at x less none

-- ---- statements

pub designators_fine : (files : List FileTree) (file statement : ℕ) → statement_told files file statement ≡ [] → designators_told files file (layer_at files file statement) ≡ []
designators_fine files file statement none =
    none_right (flat_map (placed_told files file) (option_map_or expressions_at (layer_at files file statement) [])) (designators_told files file (layer_at files file statement)) none

pub none_found : (files : List FileTree) → constant_fault files ≡ None → constant_findings files ≡ []
none_found files fine = none_first (constant_findings files) (of (first_finding constant_rank (constant_findings files)) fine) where
  none_first : (all : List Finding) → first_finding constant_rank all ≡ None → all ≡ []
  none_first [] is = refl
  none_first (f ∷ all) is = absurd (cc is)

  of : (o : Option Finding) → option_map (fault_of files) o ≡ None → o ≡ None
  of None is = refl
  of (Some f) is = absurd (cc is)

pub statements_fine : (files : List FileTree) → constant_fault files ≡ None → (n : ℕ) (e : Extent) → slice_get (scoping files) n ≡ Some e → flat_map (statement_told files e.file) (own_statements files e) ≡ []
statements_fine files fine n e there =
    let scopes = flat_map (scope_findings files) (scoping files) in
    let cases = flat_map (λ numbered. case_findings files numbered.0 numbered.1) (enumerate_from 0 files) in
    none_left (flat_map (statement_told files e.file) (own_statements files e)) (flat_map (name_findings files e) (names_after [] (sayings files e)))
    (none_there (scope_findings files) (scoping files) n e there (none_left scopes cases (none_right (circular_findings files) (scopes ++ cases) (none_found files fine))))
