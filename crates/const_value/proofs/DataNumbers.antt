-- A name's number is its place among the names of all scoping units.
use Rattle.std.proofs.Common.{◌≡◌, ℕ, zero, suc, ◌+◌, ◌-◌, ◌<◌, ◌≤◌, Bool, true, false, cond, ◌||◌, List, [], ◌∷◌, ◌++◌, length, map, take, drop, Option, Some, None, option_map, bytes_eq, ◌⊎◌, inl, inr, refl, sym, subst, ap, ap₂, ◌∙◌, arith, length-append}
use Rattle.std.specs.Prelude.{slice_get}
use Rattle.std.specs.List.{flat_map}
use Rattle.std.specs.Option.{option_and_then}
use Rattle.std.specs.Cmp.Lexicographic.{nat_list_eq_equiv}
use Rattle.std.proofs.lemmas.Bool.{cases_lt}
use Rattle.std.proofs.lemmas.Option.{slice_get-map, slice_get_within}
use Rattle.ftn_tree.specs.declared.table.Extent.{Extent}
use Rattle.ftn_tree.specs.declared.unit.FileTree.{FileTree}
use Rattle.ftn_tree.specs.DeclaredEntities.{names_after}
use Rattle.ftn_tree.specs.Extents.{scoping}
use Rattle.ftn_tree.specs.KeyKinds.{Datum, datum}
use Rattle.ftn_tree.specs.Sayings.{Saying, sayings}
use Rattle.decl_table.specs.steps.Said.{IsWithin}
use Rattle.decl_table.specs.steps.Seen.{is_among}
use Rattle.const_value.specs.steps.Names.{all_data, all_said, data_in, first_of, number_from, number_of}
use Rattle.const_value.proofs.NamePlaces.{AreApart, all_apart}
use Rattle.const_value.proofs.NamedPlaces.{get_behind, same_bytes}
use Rattle.const_value.proofs.UnitWriting.{number_is, whole}

-- ---- lists

pub get_front : {X : Type 0} (xs ys : List X) (k : ℕ) → k < length xs → slice_get (xs ++ ys) k ≡ slice_get xs k
get_front [] ys k less = absurd (omega (arith, less))
get_front (x ∷ xs) ys zero less = refl
get_front (x ∷ xs) ys (suc k) less = get_front xs ys k (omega (arith, less))

-- what a member gives
pub record Given {X Y : Type 0} (f : X → List Y) (xs : List X) (n : ℕ) (y : Y) : Type 0 where
  pub j : ℕ
  pub x : X
  pub k : ℕ
  pub member : slice_get xs j ≡ Some x
  pub here : slice_get (f x) k ≡ Some y
  pub place : n ≡ length (flat_map f (take j xs)) + k

pub flat_place : {X Y : Type 0} (f : X → List Y) (xs : List X) (n : ℕ) (y : Y) → slice_get (flat_map f xs) n ≡ Some y → Given f xs n y
flat_place f [] n y is = absurd (cc is)
flat_place {X} {Y} f (x ∷ xs) n y is = by (cases_lt n (length (f x))) (flat_place f xs (n - length (f x)) y) where
  by : (n < length (f x)) ⊎ (length (f x) ≤ n) → (slice_get (flat_map f xs) (n - length (f x)) ≡ Some y → Given f xs (n - length (f x)) y) → Given f (x ∷ xs) n y
  by (inl less) again = record {
    j = 0;
    x = x;
    k = n;
    member = refl;
    here = sym (get_front (f x) (flat_map f xs) n less) ∙ is;
    place = omega arith;
  }
  by (inr more) again =
      let same : n ≡ length (f x) + (n - length (f x)) = omega (arith, more) in
      let g = again (sym (get_behind (f x) (flat_map f xs) (n - length (f x))) ∙ ap (slice_get (f x ++ flat_map f xs)) (sym same) ∙ is) in
      let size : length (f x ++ flat_map f (take g.j xs)) ≡ length (f x) + length (flat_map f (take g.j xs)) = length-append (f x) (flat_map f (take g.j xs)) in
      let inner : n - length (f x) ≡ length (flat_map f (take g.j xs)) + g.k = g.place in record {
        j = suc g.j;
        x = g.x;
        k = g.k;
        member = g.member;
        here = g.here;
        place = omega (arith, size, inner, same);
      }

-- ---- the names of one scoping unit

not_among : (name : List ℕ) (names : List (List ℕ)) (k : ℕ) (other : List ℕ) → is_among name names ≡ false → slice_get names k ≡ Some other → bytes_eq other name ≡ false
not_among name [] k other apart is = absurd (cc is)
not_among name (x ∷ names) zero other apart is =
    let same : x ≡ other = cc is in subst (λ n. bytes_eq n name ≡ false) same (by (bytes_eq x name) apart) where
      by : (b : Bool) → (b || is_among name names) ≡ false → b ≡ false
      by true none = absurd (cc none)
      by false none = refl
not_among name (x ∷ names) (suc k) other apart is = not_among name names k other (by (bytes_eq x name) apart) is where
  by : (b : Bool) → (b || is_among name names) ≡ false → is_among name names ≡ false
  by true none = absurd (cc none)
  by false none = none

place_number : (first : ℕ) (names : List (List ℕ)) (k : ℕ) (name : List ℕ) → AreApart names → slice_get names k ≡ Some name → number_from first name names ≡ Some (first + k)
place_number first [] k name apart is = absurd (cc is)
place_number first (x ∷ names) zero name apart is =
    let same : x ≡ name = cc is in
    let none : first ≡ first + 0 = omega arith in
    ap (λ n. cond (bytes_eq name n) (Some first) (number_from (first + 1) name names)) same
    ∙ ap (λ b. cond b (Some first) (number_from (first + 1) name names)) (nat_list_eq_equiv.refl name) ∙ ap Some none
place_number first (x ∷ names) (suc k) name apart is =
    let next : first + 1 + k ≡ first + suc k = omega arith in
    ap (λ b. cond b (Some first) (number_from (first + 1) name names)) (not_among x names k name apart.0 is)
    ∙ place_number (first + 1) names k name apart.1 is ∙ ap Some next

-- where a name has a number
record Placed (first : ℕ) (name : List ℕ) (names : List (List ℕ)) (n : ℕ) : Type 0 where
  k : ℕ
  same : n ≡ first + k
  here : slice_get names k ≡ Some name

number_place : (first : ℕ) (name : List ℕ) (names : List (List ℕ)) (n : ℕ) → number_from first name names ≡ Some n → Placed first name names n
number_place first name [] n is = absurd (cc is)
number_place first name (x ∷ names) n is = by (bytes_eq name x) refl is (number_place (first + 1) name names n) where
  by : (b : Bool) → bytes_eq name x ≡ b → cond b (Some first) (number_from (first + 1) name names) ≡ Some n → (number_from (first + 1) name names ≡ Some n → Placed (first + 1) name names n)
      → Placed first name (x ∷ names) n
  by true eq is again =
      let same : first ≡ n = cc is in record { k = 0; same = omega (arith, same); here = ap Some (sym (same_bytes name x eq)) }
  by false eq is again =
      let p = again is in
      let next : n ≡ first + 1 + p.k = p.same in record { k = suc p.k; same = omega (arith, next); here = p.here }

-- ---- a number and its datum

pub record Numbered (files : List FileTree) (scope : ℕ) (name : List ℕ) (n : ℕ) : Type 0 where
  pub unit : Extent
  pub there : slice_get (scoping files) scope ≡ Some unit
  pub here : slice_get (all_data files) n ≡ Some (datum unit name)

module _ (files : List FileTree) where
  in_unit : (scope : ℕ) (e : Extent) → slice_get (scoping files) scope ≡ Some e → (name : List ℕ) (n : ℕ) → number_of (all_said files) scope name ≡ Some n → Numbered files scope name n
  in_unit scope e there name n is =
      let before = flat_map (data_in files) (take scope (scoping files)) in
      let rest = flat_map (data_in files) (drop_after scope) in
      let p = number_place (length before) name (names_after [] (sayings files e)) n (sym (number_is files scope e there name) ∙ is) in
      let here : slice_get (data_in files e) p.k ≡ Some (datum e name) =
      slice_get-map (datum e) (names_after [] (sayings files e)) p.k ∙ ap (option_map (datum e)) p.here in
      record {
        unit = e;
        there = there;
        here =
            ap₂ slice_get (whole files scope e there) p.same
            ∙ get_behind before (data_in files e ++ rest) p.k
            ∙ get_front (data_in files e) rest p.k (slice_get_within (data_in files e) p.k (datum e name) here) ∙ here;
      }
    where
      drop_after : ℕ → List Extent
      drop_after scope = drop (scope + 1) (scoping files)

  pub number_datum : (scope : ℕ) (name : List ℕ) (n : ℕ) → number_of (all_said files) scope name ≡ Some n → Numbered files scope name n
  number_datum scope name n is = by (slice_get (scoping files) scope) refl where
    by : (o : Option Extent) → slice_get (scoping files) scope ≡ o → Numbered files scope name n
    by None past =
        let none : number_of (all_said files) scope name ≡ None =
        ap (option_and_then (λ (one : List Saying). number_from (first_of (all_said files) scope) name (names_after [] one))) (slice_get-map (sayings files) (scoping files) scope ∙ ap (option_map (sayings files)) past) in
        absurd (cc (is, none))
    by (Some e) there = in_unit scope e there name n is

  pub record Owner (n : ℕ) (d : Datum) : Type 0 where
    pub scope : ℕ
    pub there : slice_get (scoping files) scope ≡ Some d.scope
    pub number : number_of (all_said files) scope d.name ≡ Some n

  pub datum_owner : (n : ℕ) (d : Datum) → slice_get (all_data files) n ≡ Some d → Owner n d
  datum_owner n d is =
      let g = flat_place (data_in files) (scoping files) n d is in
      let named : slice_get (names_after [] (sayings files g.x)) g.k ≡ Some d.name = name_in g.x (names_after [] (sayings files g.x)) g.k g.here in
      let home : g.x ≡ d.scope = scope_in g.x (names_after [] (sayings files g.x)) g.k g.here in
      record {
        scope = g.j;
        there = g.member ∙ ap Some home;
        number =
            number_is files g.j g.x g.member d.name
            ∙ place_number (length (flat_map (data_in files) (take g.j (scoping files)))) (names_after [] (sayings files g.x)) g.k d.name (all_apart (sayings files g.x)) named ∙ ap Some (sym g.place);
      }
    where
      name_in : (e : Extent) (names : List (List ℕ)) (k : ℕ) → slice_get (map (datum e) names) k ≡ Some d → slice_get names k ≡ Some d.name
      name_in e [] k is = absurd (cc is)
      name_in e (x ∷ names) zero is = let same : datum e x ≡ d = cc is in ap Some (ap (λ (d : Datum). d.name) same)
      name_in e (x ∷ names) (suc k) is = name_in e names k is

      scope_in : (e : Extent) (names : List (List ℕ)) (k : ℕ) → slice_get (map (datum e) names) k ≡ Some d → e ≡ d.scope
      scope_in e [] k is = absurd (cc is)
      scope_in e (x ∷ names) zero is = let same : datum e x ≡ d = cc is in ap (λ (d : Datum). d.scope) same
      scope_in e (x ∷ names) (suc k) is = scope_in e names k is

  pub number_within : (scope : ℕ) (name : List ℕ) → IsWithin (length (all_data files)) (number_of (all_said files) scope name)
  number_within scope name = by (number_of (all_said files) scope name) refl where
    by : (o : Option ℕ) → number_of (all_said files) scope name ≡ o → IsWithin (length (all_data files)) o
    by None is = tt
    by (Some n) is = let p = number_datum scope name n is in slice_get_within (all_data files) n (datum p.unit name) p.here
