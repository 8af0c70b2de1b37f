-- Scoping units that are found by name, by their numbers.
use Rattle.std.proofs.Common.{◌≡◌, ℕ, suc, ◌<◌, ◌≤◌, if◌then◌else◌, Bool, true, false, cond, ◌&&◌, not, List, [], ◌∷◌, length, map, Option, Some, None, refl, sym, ap, ap₂, ◌∙◌, subst, arith, bytes_eq}
use Rattle.std.specs.Prelude.{slice_get, nat_lt}
use Rattle.std.specs.List.{filter, find, position, position_or_len}
use Rattle.std.specs.Option.{option_map, option_and_then}
use Rattle.std.proofs.lemmas.List.Folds.{find_at}
use Rattle.std.proofs.lemmas.Option.{slice_get_past}
use Rattle.std.proofs.lemmas.Bool.Decides.{nat_tests}
use Rattle.ftn_tree.specs.declared.table.Extent.{Extent}
use Rattle.ftn_tree.specs.declared.unit.FileTree.{FileTree}
use Rattle.ftn_tree.specs.Extents.{scoping, host_of, is_body, is_some_extent}
use Rattle.ftn_tree.specs.GlobalNames.{program_units, has_no_host}
use Rattle.ftn_tree.specs.Meanings.{Key, Meaning, known, unit, unit_of, inner_of}
use Rattle.ftn_tree.specs.Projects.{AreTrees}
use Rattle.ftn_tree.specs.Scopes.{scope_name, scope_kind, scope_number, host_number}
use Rattle.decl_table.specs.steps.Following.{is_number}
use Rattle.decl_table.proofs.OwnStatements.{number_of}
use Rattle.decl_table.proofs.Said.{host_test}
use Rattle.scope_bind.specs.declared.candidates.Sort.{Sort}
use Rattle.scope_bind.specs.steps.Declared.{known_unit, meant, inner_by}
use Rattle.scope_bind.specs.steps.Globals.{unit_at, unit_number, wanted_by, inner_candidate}
use Rattle.scope_bind.specs.steps.Index.{first_at, is_at}
use Rattle.scope_bind.proofs.Positions.{position_map, position_same}
use Rattle.scope_bind.proofs.Units.{found, unit_there, unit_is, number_less}

-- ---- lists

less_is : (m n : ℕ) → nat_lt m n ≡ false → n ≤ m
less_is m n is = grind (arith, nat_tests)

pub find_position : {X : Type 0} (test : X → Bool) (xs : List X) → find test xs ≡ option_and_then (slice_get xs) (position test xs)
find_position test xs = find_at test xs ∙ by (nat_lt (position_or_len test xs) (length xs)) refl where
  by : (b : Bool) → nat_lt (position_or_len test xs) (length xs) ≡ b → slice_get xs (position_or_len test xs)
      ≡ option_and_then (slice_get xs) (cond (nat_lt (position_or_len test xs) (length xs)) (Some (position_or_len test xs)) None)
  by true less = sym (ap (λ b. option_and_then (slice_get xs) (cond b (Some (position_or_len test xs)) None)) less)
  by false more =
      slice_get_past xs (position_or_len test xs) (less_is (position_or_len test xs) (length xs) more)
      ∙ sym (ap (λ b. option_and_then (slice_get xs) (cond b (Some (position_or_len test xs)) None)) more)

-- what is found among those that pass is one of all
pub found_among : {X : Type 0} (test among : X → Bool) (xs : List X) (x : X) → find test (filter among xs) ≡ Some x → (j : ℕ) × (slice_get xs j ≡ Some x)
found_among test among [] x is = absurd (cc is)
found_among {X} test among (y ∷ xs) x is = by (among y) is (found_among test among xs x) where
  more : (find test (filter among xs) ≡ Some x → (j : ℕ) × (slice_get xs j ≡ Some x)) → find test (filter among xs) ≡ Some x → (j : ℕ) × (slice_get (y ∷ xs) j ≡ Some x)
  more rest is = let (j, there) = rest is in (suc j, there)

  here : (b : Bool) → cond b (Some y) (find test (filter among xs)) ≡ Some x → (find test (filter among xs) ≡ Some x → (j : ℕ) × (slice_get xs j ≡ Some x))
      → (j : ℕ) × (slice_get (y ∷ xs) j ≡ Some x)
  here true is rest = (0, is)
  here false is rest = more rest is

  by : (b : Bool) → find test (if b then y ∷ filter among xs else filter among xs) ≡ Some x → (find test (filter among xs) ≡ Some x → (j : ℕ) × (slice_get xs j ≡ Some x))
      → (j : ℕ) × (slice_get (y ∷ xs) j ≡ Some x)
  by true is rest = here (test y) is rest
  by false is rest = more rest is

-- ---- program units

pub unit_known : (files : List FileTree) → AreTrees files → (scope : ℕ) (name other : List ℕ) (sort : Sort)
    → meant files scope name (known_unit (unit_number files sort other)) ≡ known (option_map unit (unit_of files (wanted_by sort) other))
unit_known files are scope name other sort = by (unit_of files (wanted_by sort) other) (λ e is. found_among (λ e. wanted_by sort (scope_kind files e) && bytes_eq (scope_name files e) other) (has_no_host files) (scoping files) e is) refl where
  by : (o : Option Extent) → ((e : Extent) → unit_of files (wanted_by sort) other ≡ Some e → (j : ℕ) × (slice_get (scoping files) j ≡ Some e)) → unit_of files (wanted_by sort) other ≡ o
      → meant files scope name (known_unit (option_and_then (scope_number files) (unit_of files (wanted_by sort) other))) ≡ known (option_map unit (unit_of files (wanted_by sort) other))
  by None there is = rw is refl
  by (Some e) there is =
      let (j, at) = there e is in
      rw (is, number_of files are j e at) (ap (λ x. known (Some (unit x))) (unit_is files j e at))

pub unit_number_less : (files : List FileTree) → AreTrees files → (sort : Sort) (name : List ℕ) (n : ℕ) → unit_number files sort name ≡ Some n → n < length (scoping files)
unit_number_less files are sort name n is = by (unit_of files (wanted_by sort) name) is where
  by : (o : Option Extent) → option_and_then (scope_number files) o ≡ Some n → n < length (scoping files)
  by None is = absurd (cc is)
  by (Some e) is = number_less files e n is

-- ---- procedures inside

inner_test : (files : List FileTree) → AreTrees files → (scope : ℕ) → scope < length (scoping files) → (name : List ℕ) (x : Extent)
    → is_at scope name (inner_candidate files x) ≡ (is_some_extent (unit_at files scope) (host_of files x) && not (is_body files x) && bytes_eq (scope_name files x) name)
inner_test files are scope less name x =
    by (is_body files x)
    ∙ ap (λ b. b && not (is_body files x) && bytes_eq (scope_name files x) name) (host_test files are scope (unit_at files scope) x (unit_there files scope less))
  where
    none : (a b : Bool) → false ≡ (a && false && b)
    none true b = refl
    none false b = refl

    keep : (a b : Bool) → (a && b) ≡ (a && true && b)
    keep true b = refl
    keep false b = refl

    by : (body : Bool) → (is_number scope (if body then None else host_number files x) && bytes_eq (scope_name files x) name)
        ≡ (is_number scope (host_number files x) && not body && bytes_eq (scope_name files x) name)
    by true = none (is_number scope (host_number files x)) (bytes_eq (scope_name files x) name)
    by false = keep (is_number scope (host_number files x)) (bytes_eq (scope_name files x) name)

pub inner_known : (files : List FileTree) → AreTrees files → (scope : ℕ) → scope < length (scoping files) → (name : List ℕ)
    → meant files scope name (inner_by files scope name) ≡ known (option_map unit (inner_of files (unit_at files scope) name))
inner_known files are scope less name =
    ap (λ o. meant files scope name (known_unit o)) places
    ∙ by (position test (scoping files)) refl
    ∙ sym (ap (λ o. known (option_map unit o)) (find_position test (scoping files)))
  where
    test : Extent → Bool
    test x = is_some_extent (unit_at files scope) (host_of files x) && not (is_body files x) && bytes_eq (scope_name files x) name

    places : first_at scope name (map (inner_candidate files) (scoping files)) ≡ position test (scoping files)
    places = position_map (is_at scope name) (inner_candidate files) (scoping files) ∙ position_same (λ x. is_at scope name (inner_candidate files x)) test (scoping files) (inner_test files are scope less name)

    by : (o : Option ℕ) → position test (scoping files) ≡ o
        → meant files scope name (known_unit (position test (scoping files))) ≡ known (option_map unit (option_and_then (slice_get (scoping files)) (position test (scoping files))))
    by None is = rw is refl
    by (Some j) is =
        let (within, x, there, passes) = found test (scoping files) j is in
        rw (is, there) refl

pub inner_less : (files : List FileTree) (scope : ℕ) (name : List ℕ) (n : ℕ) → first_at scope name (map (inner_candidate files) (scoping files)) ≡ Some n → n < length (scoping files)
inner_less files scope name n is =
    (found (λ x. is_at scope name (inner_candidate files x)) (scoping files) n (sym (position_map (is_at scope name) (inner_candidate files) (scoping files)) ∙ is)).0
