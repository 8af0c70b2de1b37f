-- External procedures by name, and what is found in lists.
use Rattle.std.proofs.Common.{◌≡◌, ℕ, suc, ◌+◌, ◌<◌, ◌≤◌, Bool, true, false, cond, ◌&&◌, if◌then◌else◌, List, [], ◌∷◌, length, map, is_none, Option, Some, None, refl, sym, ap, ap₂, ◌∙◌, subst, arith, bytes_eq}
use Rattle.std.specs.Prelude.{slice_get, nat_lt}
use Rattle.std.specs.List.{filter, find, position, position_from, position_or_len}
use Rattle.std.specs.Option.{option_and_then, option_map_or}
use Rattle.std.proofs.lemmas.Bool.Decides.{nat_tests}
use Rattle.std.proofs.lemmas.Iterator.Adapters.{position_from-zero}
use Rattle.std.proofs.lemmas.List.Folds.{find_at}
use Rattle.std.proofs.lemmas.Option.{slice_get_past}
use Rattle.ftn_tree.specs.declared.table.Extent.{Extent}
use Rattle.ftn_tree.specs.declared.table.ScopeKind.{ScopeKind}
use Rattle.ftn_tree.specs.declared.unit.FileTree.{FileTree}
use Rattle.ftn_tree.specs.Extents.{scoping, host_of}
use Rattle.ftn_tree.specs.GlobalNames.{has_no_host}
use Rattle.ftn_tree.specs.Meanings.{is_procedure}
use Rattle.ftn_tree.specs.Projects.{AreTrees}
use Rattle.ftn_tree.specs.Scopes.{scope_kind, scope_name, scope_number, host_number}
use Rattle.decl_table.specs.steps.Following.{is_number}
use Rattle.decl_table.proofs.OwnStatements.{number_of}
use Rattle.decl_table.proofs.Said.{host_there}
use Rattle.const_value.proofs.UnitNumbers.{unit_is}
use Rattle.name_types.specs.steps.Generics.{unit_at, outside_candidate, outside_number}
use Rattle.name_types.specs.steps.Index.{candidate, first_at, is_at}
use Rattle.name_types.proofs.Positions.{position_map, position_same}

-- ---- lists

-- the first that passes is there, and passes
pub found : {X : Type 0} (test : X → Bool) (xs : List X) (i : ℕ) → position test xs ≡ Some i → (i < length xs) × (x : X) × (slice_get xs i ≡ Some x) × (test x ≡ true)
found {X} test xs i is =
    let (k, same, less, x, there, passes) = from xs 0 (sym (position_from-zero test xs) ∙ is) in
    let equal : k ≡ i = omega (arith, same) in
    (subst (λ n. n < length xs) equal less, x, subst (λ n. slice_get xs n ≡ Some x) equal there, passes)
  where
    from : (ys : List X) (at : ℕ) → position_from test at ys ≡ Some i → (k : ℕ) × (i ≡ at + k) × (k < length ys) × (x : X) × (slice_get ys k ≡ Some x) × (test x ≡ true)
    from [] at is = absurd (cc is)
    from (y ∷ ys) at is = by (test y) refl is (from ys (at + 1)) where
      by : (b : Bool) → test y ≡ b → cond b (Some at) (position_from test (at + 1) ys) ≡ Some i
          → (position_from test (at + 1) ys ≡ Some i → (k : ℕ) × (i ≡ at + 1 + k) × (k < length ys) × (x : X) × (slice_get ys k ≡ Some x) × (test x ≡ true))
          → (k : ℕ) × (i ≡ at + k) × (k < length (y ∷ ys)) × (x : X) × (slice_get (y ∷ ys) k ≡ Some x) × (test x ≡ true)
      by true passes is rest = let same : at ≡ i = cc is in (0, omega (arith, same), omega arith, y, refl, passes)
      by false fails is rest = let (k, same, less, x, there, passes) = rest is in (suc k, omega (arith, same), omega (arith, less), x, there, passes)

less_is : (m n : ℕ) → nat_lt m n ≡ false → n ≤ m
less_is m n is = grind (arith, nat_tests)

pub find_position : {X : Type 0} (test : X → Bool) (xs : List X) → find test xs ≡ option_and_then (slice_get xs) (position test xs)
find_position test xs = find_at test xs ∙ by (nat_lt (position_or_len test xs) (length xs)) refl where
  by : (b : Bool) → nat_lt (position_or_len test xs) (length xs) ≡ b → slice_get xs (position_or_len test xs)
      ≡ option_and_then (slice_get xs) (cond (nat_lt (position_or_len test xs) (length xs)) (Some (position_or_len test xs)) None)
  by true less = sym (ap (λ b. option_and_then (slice_get xs) (cond b (Some (position_or_len test xs)) None)) less)
  by false more =
      slice_get_past xs (position_or_len test xs) (less_is (position_or_len test xs) (length xs) more)
      ∙ sym (ap (λ b. option_and_then (slice_get xs) (cond b (Some (position_or_len test xs)) None)) more)

-- what is found among those that pass is one of all
pub found_among : {X : Type 0} (test among : X → Bool) (xs : List X) (x : X) → find test (filter among xs) ≡ Some x → (j : ℕ) × (slice_get xs j ≡ Some x)
found_among test among [] x is = absurd (cc is)
found_among {X} test among (y ∷ xs) x is = by (among y) is (found_among test among xs x) where
  more : (find test (filter among xs) ≡ Some x → (j : ℕ) × (slice_get xs j ≡ Some x)) → find test (filter among xs) ≡ Some x → (j : ℕ) × (slice_get (y ∷ xs) j ≡ Some x)
  more rest is = let (j, there) = rest is in (suc j, there)

  here : (b : Bool) → cond b (Some y) (find test (filter among xs)) ≡ Some x → (find test (filter among xs) ≡ Some x → (j : ℕ) × (slice_get xs j ≡ Some x))
      → (j : ℕ) × (slice_get (y ∷ xs) j ≡ Some x)
  here true is rest = (0, is)
  here false is rest = more rest is

  by : (b : Bool) → find test (if b then y ∷ filter among xs else filter among xs) ≡ Some x → (find test (filter among xs) ≡ Some x → (j : ℕ) × (slice_get xs j ≡ Some x))
      → (j : ℕ) × (slice_get (y ∷ xs) j ≡ Some x)
  by true is rest = here (test y) is rest
  by false is rest = more rest is

find_filter : {X : Type 0} (test among : X → Bool) (xs : List X) → find test (filter among xs) ≡ find (λ x. among x && test x) xs
find_filter test among [] = refl
find_filter {X} test among (x ∷ xs) = by (among x) (find_filter test among xs) where
  by : (b : Bool) → find test (filter among xs) ≡ find (λ x. among x && test x) xs
      → find test (if b then x ∷ filter among xs else filter among xs) ≡ cond (b && test x) (Some x) (find (λ x. among x && test x) xs)
  by true rest = ap (cond (test x) (Some x)) rest
  by false rest = rest

-- ---- external procedures

-- the number of what is found is its place
number_found : (files : List FileTree) → AreTrees files → (test : Extent → Bool) → option_and_then (scope_number files) (find test (scoping files)) ≡ position test (scoping files)
number_found files are test = ap (option_and_then (scope_number files)) (find_position test (scoping files)) ∙ by (position test (scoping files)) refl where
  by : (o : Option ℕ) → position test (scoping files) ≡ o → option_and_then (scope_number files) (option_and_then (slice_get (scoping files)) (position test (scoping files))) ≡ position test (scoping files)
  by None is = rw is refl
  by (Some j) is = let (less, x, there, passes) = found test (scoping files) j is in rw (is, there) (number_of files are j x there)

pub outside_found : (files : List FileTree) → AreTrees files → (name : List ℕ) → first_at 0 name (map (outside_candidate files) (scoping files)) ≡ outside_number files name
outside_found files are name =
    position_map (is_at 0 name) (outside_candidate files) (scoping files)
    ∙ position_same (λ x. is_at 0 name (outside_candidate files x)) (λ x. has_no_host files x && test x) (scoping files) (λ x. by (has_no_host files x) (is_procedure (scope_kind files x)) (bytes_eq (scope_name files x) name))
    ∙ sym (number_found files are (λ x. has_no_host files x && test x))
    ∙ ap (option_and_then (scope_number files)) (sym (find_filter test (has_no_host files) (scoping files)))
  where
    test : Extent → Bool
    test x = is_procedure (scope_kind files x) && bytes_eq (scope_name files x) name

    by : (outer wanted named : Bool) → (is_number 0 (if outer && wanted then Some 0 else None) && named) ≡ (outer && (wanted && named))
    by true true named = refl
    by true false named = refl
    by false wanted named = refl

-- what has no number for a host has none
no_host : (files : List FileTree) → AreTrees files → (e : Extent) (host : Option ℕ) → host ≡ host_number files e → is_none host ≡ has_no_host files e
no_host files are e host hosted = ap is_none hosted ∙ by (host_there files e) (host_of files e) refl where
  by : ((h : Extent) → host_of files e ≡ Some h → (j : ℕ) × (slice_get (scoping files) j ≡ Some h)) → (found : Option Extent) → host_of files e ≡ found
      → is_none (option_and_then (scope_number files) (host_of files e)) ≡ option_map_or (λ host. false) (host_of files e) true
  by there None is = rw is refl
  by there (Some h) is = let (j, at) = there h is in rw (is, number_of files are j h at) refl

pub outside_is : (files : List FileTree) → AreTrees files → (n : ℕ) (e : Extent) (host : Option ℕ) (kind : ScopeKind) (counts : Bool) (under : Option ℕ) (name : List ℕ)
    → slice_get (scoping files) n ≡ Some e → host ≡ host_number files e → kind ≡ scope_kind files e → counts ≡ (is_none host && is_procedure kind)
    → under ≡ (if counts then Some 0 else None) → name ≡ scope_name files e → candidate under name ≡ outside_candidate files (unit_at files n)
outside_is files are n e host kind counts under name there hosted is counted so named =
    ap₂ candidate (so ∙ ap (λ b. if b then Some 0 else None) (counted ∙ ap₂ (λ a b. a && b) (no_host files are e host hosted) (ap is_procedure is))) named
    ∙ ap (outside_candidate files) (sym (unit_is files n e there))
