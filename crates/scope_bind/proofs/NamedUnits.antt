-- What indexes of candidates have.
use Rattle.std.proofs.Common.{◌≡◌, ℕ, Bool, true, false, cond, ◌&&◌, List, [], ◌∷◌, map, if◌then◌else◌, Option, Some, None, is_none, refl, sym, ap, ap₂, ◌∙◌, bytes_eq}
use Rattle.std.specs.Prelude.{slice_get}
use Rattle.std.specs.List.{filter, find, position}
use Rattle.std.specs.Option.{option_and_then}
use Rattle.ftn_tree.specs.declared.table.Extent.{Extent}
use Rattle.ftn_tree.specs.declared.table.Occurrence.{Occurrence}
use Rattle.ftn_tree.specs.declared.table.ScopeKind.{ScopeKind}
use Rattle.ftn_tree.specs.declared.unit.FileTree.{FileTree}
use Rattle.ftn_tree.specs.DeclaredEntities.{occurrences_of}
use Rattle.ftn_tree.specs.Extents.{scoping, is_body}
use Rattle.ftn_tree.specs.GlobalNames.{has_no_host}
use Rattle.ftn_tree.specs.Meanings.{module_number, module_numbered}
use Rattle.ftn_tree.specs.Projects.{AreTrees}
use Rattle.ftn_tree.specs.Scopes.{scope_kind, scope_name, scope_number, host_number}
use Rattle.decl_table.specs.steps.Following.{is_number}
use Rattle.decl_table.proofs.OwnStatements.{number_of}
use Rattle.scope_bind.specs.declared.candidates.Sort.{Sort}
use Rattle.scope_bind.specs.steps.Globals.{unit_at, outer_candidate, inner_candidate, module_candidate, own_candidate, name_candidate, unit_number, wanted_by}
use Rattle.scope_bind.specs.steps.Index.{candidate, first_at, is_at}
use Rattle.scope_bind.specs.steps.Numbering.{own_occurrence, name_occurrence}
use Rattle.scope_bind.proofs.FoundUnits.{find_position}
use Rattle.scope_bind.proofs.Positions.{position_map, position_same}
use Rattle.scope_bind.proofs.Units.{found, no_host, unit_is}

find_filter : {X : Type 0} (test among : X → Bool) (xs : List X) → find test (filter among xs) ≡ find (λ x. among x && test x) xs
find_filter test among [] = refl
find_filter {X} test among (x ∷ xs) = by (among x) (find_filter test among xs) where
  by : (b : Bool) → find test (filter among xs) ≡ find (λ x. among x && test x) xs
      → find test (if b then x ∷ filter among xs else filter among xs) ≡ cond (b && test x) (Some x) (find (λ x. among x && test x) xs)
  by true rest = ap (cond (test x) (Some x)) rest
  by false rest = rest

-- the number of what is found is its place
number_found : (files : List FileTree) → AreTrees files → (test : Extent → Bool) → option_and_then (scope_number files) (find test (scoping files)) ≡ position test (scoping files)
number_found files are test = ap (option_and_then (scope_number files)) (find_position test (scoping files)) ∙ by (position test (scoping files)) refl where
  by : (o : Option ℕ) → position test (scoping files) ≡ o → option_and_then (scope_number files) (option_and_then (slice_get (scoping files)) (position test (scoping files))) ≡ position test (scoping files)
  by None is = rw is refl
  by (Some j) is = let (less, x, there, passes) = found test (scoping files) j is in rw (is, there) (number_of files are j x there)

pub units_found : (files : List FileTree) → AreTrees files → (sort : Sort) (name : List ℕ) → first_at 0 name (map (outer_candidate files sort) (scoping files)) ≡ unit_number files sort name
units_found files are sort name =
    position_map (is_at 0 name) (outer_candidate files sort) (scoping files)
    ∙ position_same (λ x. is_at 0 name (outer_candidate files sort x)) (λ x. has_no_host files x && test x) (scoping files) (λ x. by (has_no_host files x) (wanted_by sort (scope_kind files x)) (bytes_eq (scope_name files x) name))
    ∙ sym (number_found files are (λ x. has_no_host files x && test x))
    ∙ ap (option_and_then (scope_number files)) (sym (find_filter test (has_no_host files) (scoping files)))
  where
    test : Extent → Bool
    test x = wanted_by sort (scope_kind files x) && bytes_eq (scope_name files x) name

    by : (outer wanted named : Bool) → (is_number 0 (if outer && wanted then Some 0 else None) && named) ≡ (outer && (wanted && named))
    by true true named = refl
    by true false named = refl
    by false wanted named = refl

pub modules_found : (files : List FileTree) (name : List ℕ) → first_at 0 name (map (module_candidate files) (module_numbered files)) ≡ module_number files name
modules_found files name = position_map (is_at 0 name) (module_candidate files) (module_numbered files)

pub own_found : (files : List FileTree) (scope : ℕ) (name : List ℕ) → first_at scope name (map own_candidate (occurrences_of files)) ≡ own_occurrence files scope name
own_found files scope name = position_map (is_at scope name) own_candidate (occurrences_of files)

pub name_found : (files : List FileTree) (name : List ℕ) → first_at 0 name (map name_candidate (occurrences_of files)) ≡ name_occurrence files name
name_found files name = position_map (is_at 0 name) name_candidate (occurrences_of files)

-- ---- one candidate

pub outer_is : (files : List FileTree) → AreTrees files → (sort : Sort) (n : ℕ) (e : Extent) (host : Option ℕ) (kind : ScopeKind) (counts : Bool) (under : Option ℕ) (name : List ℕ)
    → slice_get (scoping files) n ≡ Some e → host ≡ host_number files e → kind ≡ scope_kind files e → counts ≡ (is_none host && wanted_by sort kind)
    → under ≡ (if counts then Some 0 else None) → name ≡ scope_name files e → candidate under name ≡ outer_candidate files sort (unit_at files n)
outer_is files are sort n e host kind counts under name there hosted is counted so named =
    ap₂ candidate (so ∙ ap (λ b. if b then Some 0 else None) (counted ∙ ap₂ (λ a b. a && b) (no_host files are e host hosted) (ap (wanted_by sort) is))) named
    ∙ ap (outer_candidate files sort) (sym (unit_is files n e there))

pub inner_is : (files : List FileTree) (n : ℕ) (e : Extent) (body : Bool) (host under : Option ℕ) (name : List ℕ)
    → slice_get (scoping files) n ≡ Some e → body ≡ is_body files e → host ≡ host_number files e → under ≡ (if body then None else host)
    → name ≡ scope_name files e → candidate under name ≡ inner_candidate files (unit_at files n)
inner_is files n e body host under name there bodied hosted so named =
    ap₂ candidate (so ∙ ap₂ (λ b h. if b then None else h) bodied hosted) named ∙ ap (inner_candidate files) (sym (unit_is files n e there))
