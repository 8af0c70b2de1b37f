-- What is known of a constant that isn't defined by itself is the same by chains of any number of references, from some number on.
use Rattle.std.proofs.Common.{◌≡◌, refl, sym, ◌∙◌, ap, ap₂, subst, cond, inl, inr, ℕ, zero, suc, ◌<◌, ◌≤◌, Bool, true, false, List, [], ◌∷◌, map, length, get_or, Option, Some, None, All, Contains, arith}
use Rattle.std.specs.Prelude.{◌&&◌, nat_lt, slice_get, slice_index_or}
use Rattle.std.specs.List.{cons_option, filter_map, list_any}
use Rattle.std.specs.Option.{option_map_or, option_and_then}
use Rattle.std.proofs.lemmas.Bool.{and_parts, lt-ltb, ltb-true}
use Rattle.std.proofs.lemmas.List.{length-map}
use Rattle.std.proofs.lemmas.List.Elements.{All-cons, All-map, All-nil, Contains-append_cases, Contains-append_right, Contains-get_or, Contains-push_cases}
use Rattle.std.proofs.lemmas.List.Folds.{list_any_at}
use Rattle.std.proofs.lemmas.List.Quantifiers.{position-Some}
use Rattle.std.proofs.lemmas.Option.{slice_get_within}
use Rattle.ftn_base.specs.ModuleUses.{AreKnown, Uses, used_by}
use Rattle.ftn_tree.specs.declared.unit.FileTree.{FileTree}
use Rattle.ftn_tree.specs.Circles.{constant_at, constant_number, constant_uses, constants, is_circular, is_on_circle, refers_of, tokens_for}
use Rattle.ftn_tree.specs.Constants.{Known, constant_if, evaluated_in, known_after, known_by, known_from, known_of, naming_at, naming_of, not_known}
use Rattle.ftn_tree.specs.Evaluations.{Constant, Stray}
use Rattle.ftn_tree.specs.KeyKinds.{Datum, datum_of, is_constant, key_at, kind_of, rank_of}
use Rattle.ftn_tree.specs.Meanings.{Key, unit, own, block, intrinsic_function, same_key}
use Rattle.ftn_tree.specs.NameFaults.{leads_to}
use Rattle.const_value.specs.steps.Numbered.{AreNumbered, IsNumbered}
use Rattle.const_value.proofs.ExpressionsFor.{known_same, tokens_agree}
use Rattle.const_value.proofs.Leading.{alike_or_more, leads_all, leads_by_use, leads_from, leads_itself, leads_on, passing, passing_fits, passing_some}

-- ---- lists

pub index_map : {A B : Type 0} (f : A → B) (xs : List A) (i : ℕ) (x : A) (d : B) → slice_get xs i ≡ Some x → slice_index_or (map f xs) i d ≡ f x
index_map f [] i x d is = absurd (cc is)
index_map f (y ∷ xs) zero x d is = let same : y ≡ x = cc is in ap f same
index_map f (y ∷ xs) (suc i) x d is = index_map f xs i x d is

kept : {B : Type 0} (o : Option B) (ys : List B) (y : B) → Contains ys y → Contains (cons_option o ys) y
kept None ys y there = there
kept (Some b) ys y there = Contains-append_right (b ∷ []) ys y there

only : {A : Type 0} (a x : A) → Contains (a ∷ []) x → a ≡ x
only a x there = elim (Contains-push_cases [] a x there) [
  | inl none ↦ absurd (let less : none.0 < 0 = none.1 in omega arith)
  | inr same ↦ same
]

-- what each of a list gives, where it gives something
pub filter_map_some : {A B : Type 0} (f : A → Option B) (xs : List A) (x : A) (y : B) → Contains xs x → f x ≡ Some y → Contains (filter_map f xs) y
filter_map_some f [] x y there is = absurd (let less : there.0 < 0 = there.1 in omega arith)
filter_map_some f (a ∷ xs) x y there is = elim (Contains-append_cases (a ∷ []) xs x there) [
  | inl here ↦ subst (λ o. Contains (cons_option o (filter_map f xs)) y) (sym (ap f (only a x here) ∙ is)) (Contains-get_or (y ∷ filter_map f xs) 0 y (omega arith))
  | inr later ↦ kept (f a) (filter_map f xs) y (filter_map_some f xs x y later is)
]

pub All-filter_map : {A B : Type 0} (f : A → Option B) (P : B → Type 0) → ((x : A) (y : B) → f x ≡ Some y → P y) → (xs : List A) → All P (filter_map f xs)
All-filter_map f P each [] = All-nil P
All-filter_map {A} {B} f P each (x ∷ xs) = by (f x) refl (All-filter_map f P each xs) where
  by : (o : Option B) → f x ≡ o → All P (filter_map f xs) → All P (cons_option o (filter_map f xs))
  by None is rest = rest
  by (Some y) is rest = All-cons P y (filter_map f xs) (each x y is) rest

not_any : {A : Type 0} (p : A → Bool) (xs : List A) (x : A) → list_any p xs ≡ false → Contains xs x → p x ≡ false
not_any p xs x none there = by (p x) refl where
  by : (b : Bool) → p x ≡ b → p x ≡ false
  by false is = is
  by true is =
      let here : p (get_or xs there.0 x) ≡ true = ap p there.2 ∙ is in
      let some : list_any p xs ≡ true = list_any_at p xs there.0 x there.1 here in
      absurd (cc (some, none))

-- ---- references among constants that aren't circular lead to fewer and fewer

module _ (uses : List (List ℕ)) where
  reaches : ℕ → ℕ → Bool
  reaches x z = nat_lt z (length uses) && leads_to uses x z

  -- how many it leads to
  pub reach : ℕ → ℕ
  reach x = passing (reaches x) (length uses)

  reach_from : (x z : ℕ) → z < length uses → leads_to uses x z ≡ true → reaches x z ≡ true
  unfolding reaches
  reach_from x z less leads = ap₂ (λ a b. a && b) (lt-ltb z (length uses) less) leads

  reach_parts : (x z : ℕ) → reaches x z ≡ true → (z < length uses) × (leads_to uses x z ≡ true)
  unfolding reaches
  reach_parts x z is = let both = and_parts (nat_lt z (length uses)) (leads_to uses x z) is in (ltb-true z (length uses) both.0, both.1)

  pub reach_fits : (x : ℕ) → reach x ≤ length uses
  unfolding reach
  reach_fits x = passing_fits (reaches x) (length uses)

  pub reach_some : (x : ℕ) → x < length uses → 1 ≤ reach x
  unfolding reach
  reach_some x less = passing_some (reaches x) x (reach_from x x less (leads_all uses x x less (leads_itself uses x))) (length uses) less

  pub reach_less : (x y : ℕ) → x < length uses → Uses uses x y → leads_to uses y x ≡ false → suc (reach y) ≤ reach x
  unfolding reach
  reach_less x y less use_of not_back = elim (alike_or_more (reaches y) (reaches x) more (length uses)) [
    | inl alike ↦
        let there : reaches y x ≡ true = alike x less (reach_from x x less (leads_all uses x x less (leads_itself uses x))) in
        let back : leads_to uses y x ≡ true = (reach_parts y x there).1 in
        absurd (cc (back, not_back))
    | inr fewer ↦ fewer
  ]
    where
      more : (z : ℕ) → reaches y z ≡ true → reaches x z ≡ true
      more z is =
          let parts = reach_parts y z is in
          reach_from x z parts.0 (leads_all uses x z parts.0 (leads_on uses x y z (leads_by_use uses x y use_of) (leads_from uses y z parts.1)))

-- ---- references of a constant

refers_known : (files : List FileTree) (key : Key) → All (λ used. used < length (constants files)) (option_map_or (refers_of files) (datum_of files key) [])
refers_known files key = by (datum_of files key) where
  number_known : (o : Option Key) (y : ℕ) → option_and_then (constant_number files) o ≡ Some y → y < length (constants files)
  number_known None y is = absurd (cc is)
  number_known (Some other) y is = (position-Some (same_key other) (constants files) y other is).0

  by : (o : Option Datum) → All (λ used. used < length (constants files)) (option_map_or (refers_of files) o [])
  by None = All-nil (λ used. used < length (constants files))
  by (Some d) =
      All-filter_map (constant_at files d.scope.file) (λ used. used < length (constants files)) (λ token y is. number_known (key_at files d.scope.file token) y is) (tokens_for files d)

pub uses_sized : (files : List FileTree) → length (constant_uses files) ≡ length (constants files)
uses_sized files = length-map (constants files) (λ key. option_map_or (refers_of files) (datum_of files key) [])

pub uses_known : (files : List FileTree) → AreKnown (constant_uses files)
uses_known files =
    subst (λ n. All (All (λ used. used < n)) (constant_uses files)) (sym (uses_sized files))
    (All-map (All (λ used. used < length (constants files))) (λ key. option_map_or (refers_of files) (datum_of files key) []) (constants files)
    (λ i key less. refers_known files (get_or (constants files) i key)))

module _ (files : List FileTree) (numbered : AreNumbered files) where
  abbrev uses : List (List ℕ)
  uses = constant_uses files

  pub number_known : (key : Key) (x : ℕ) → IsNumbered files key x → x < length uses
  number_known key x is = subst (λ n. x < n) (sym (uses_sized files)) (slice_get_within (constants files) x key is.there)

  pub used_is : (key : Key) (x : ℕ) → IsNumbered files key x → used_by uses x ≡ option_map_or (refers_of files) (datum_of files key) []
  used_is key x is = index_map (λ key. option_map_or (refers_of files) (datum_of files key) []) (constants files) x key [] is.there

  -- a constant whose name stands in the expressions of another one
  pub use_at : (key : Key) (x : ℕ) (d : Datum) (token : ℕ) (other : Key) (y : ℕ) → IsNumbered files key x → datum_of files key ≡ Some d → Contains (tokens_for files d) token
      → key_at files d.scope.file token ≡ Some other → IsNumbered files other y → Uses uses x y
  use_at key x d token other y is of there at also =
      subst (λ list. Contains list y) (sym (used_is key x is ∙ ap (λ o. option_map_or (refers_of files) o []) of))
      (filter_map_some (constant_at files d.scope.file) (tokens_for files d) token y there (ap (option_and_then (constant_number files)) at ∙ also.number_is))

  pub not_back : (key : Key) (x y : ℕ) → IsNumbered files key x → is_circular files key ≡ false → Uses uses x y → leads_to uses y x ≡ false
  not_back key x y is not_circular use_of =
      let alone : is_on_circle files x ≡ false = ap (λ o. option_map_or (is_on_circle files) o false) (sym is.number_is) ∙ not_circular in
      not_any (λ other. leads_to uses other x) (used_by uses x) y alone use_of

  -- ---- what is known of a constant, by what is known of those to which it refers

  module _ (f g : Key → Known) where
    constant_alike : (key : Key) → (is_constant (kind_of files key) ≡ true → f key ≡ g key) → constant_if files f key ≡ constant_if files g key
    constant_alike key alike = by (is_constant (kind_of files key)) refl where
      rank : ℕ
      rank = option_map_or (rank_of files) (datum_of files key) 0

      by : (b : Bool) → is_constant (kind_of files key) ≡ b → cond b (Constant (f key).value rank (f key).bounds) Stray ≡ cond b (Constant (g key).value rank (g key).bounds) Stray
      by true is = ap (λ (k : Known). Constant k.value rank k.bounds) (alike is)
      by false is = refl

    pub named_alike : (o : Option Key) → ((key : Key) → o ≡ Some key → is_constant (kind_of files key) ≡ true → f key ≡ g key) → naming_of files f o ≡ naming_of files g o
    named_alike None alike = refl
    named_alike (Some (intrinsic_function name)) alike = refl
    named_alike (Some (unit e)) alike = constant_alike (unit e) (alike (unit e) refl)
    named_alike (Some (own e name)) alike = constant_alike (own e name) (alike (own e name) refl)
    named_alike (Some (block name)) alike = constant_alike (block name) (alike (block name) refl)

    pub from_alike : (key : Key) (x : ℕ) → IsNumbered files key x
        → ((other : Key) (y : ℕ) → IsNumbered files other y → Uses uses x y → leads_to uses y x ≡ false → f other ≡ g other) → known_from files f key ≡ known_from files g key
    from_alike key x is alike = by (is_circular files key) refl where
      by : (b : Bool) → is_circular files key ≡ b
          → cond b not_known (option_map_or (known_by files f) (datum_of files key) not_known) ≡ cond b not_known (option_map_or (known_by files g) (datum_of files key) not_known)
      by true circular = refl
      by false alone = of (datum_of files key) refl where
        of : (o : Option Datum) → datum_of files key ≡ o → option_map_or (known_by files f) o not_known ≡ option_map_or (known_by files g) o not_known
        of None at = refl
        of (Some d) at =
            known_same (evaluated_in files f d.scope.file) (evaluated_in files g d.scope.file) files d
            (tokens_agree (naming_at files f d.scope.file) (naming_at files g d.scope.file) files d
            (λ token there. named_alike (key_at files d.scope.file token) (λ other found constant.
            let (y, name, named) = numbered.constant d.scope.file token other found constant in
            let number : IsNumbered files other y = named.constant in
            let use_of : Uses uses x y = use_at key x d token other y is at there found number in
            alike other y number use_of (not_back key x y is alone use_of))))

  -- ---- by chains of any number of references

  pub settled : (k x : ℕ) (key : Key) → IsNumbered files key x → reach uses x ≤ k → (r s : ℕ) → reach uses x ≤ r → reach uses x ≤ s → known_after files r key ≡ known_after files s key
  settled zero x key is le r s a b = absurd (let some : 1 ≤ reach uses x = reach_some uses x (number_known key x is) in omega arith)
  settled (suc k) x key is le zero s a b = absurd (let some : 1 ≤ reach uses x = reach_some uses x (number_known key x is) in omega arith)
  settled (suc k) x key is le (suc r) zero a b = absurd (let some : 1 ≤ reach uses x = reach_some uses x (number_known key x is) in omega arith)
  settled (suc k) x key is le (suc r) (suc s) a b =
      from_alike (known_after files r) (known_after files s) key x is
      (λ other y number use_of not_back.
      let less : suc (reach uses y) ≤ reach uses x = reach_less uses x y (number_known key x is) use_of not_back in
      settled k y other number (omega arith) r s (omega arith) (omega arith))

  -- what is known of a constant is what its expressions give by what is known of all constants
  pub known_again : (key : Key) (x : ℕ) → IsNumbered files key x → known_of files key ≡ known_from files (known_of files) key
  known_again key x is =
      let fits : reach uses x ≤ length uses = reach_fits uses x in
      let sized : length uses ≡ length (constants files) = uses_sized files in
      settled (length uses) x key is fits (suc (length (constants files))) (suc (suc (length (constants files)))) (omega arith) (omega arith)

  pub known_by_all : (key : Key) (x : ℕ) (d : Datum) → IsNumbered files key x → is_circular files key ≡ false → datum_of files key ≡ Some d
      → known_of files key ≡ known_by files (known_of files) d
  known_by_all key x d is alone at =
      known_again key x is ∙ ap (λ b. cond b not_known (option_map_or (known_by files (known_of files)) (datum_of files key) not_known)) alone
      ∙ ap (λ o. option_map_or (known_by files (known_of files)) o not_known) at

pub circular_unknown : (files : List FileTree) (key : Key) → is_circular files key ≡ true → known_of files key ≡ not_known
circular_unknown files key circular =
    ap (λ b. cond b not_known (option_map_or (known_by files (known_after files (length (constants files)))) (datum_of files key) not_known)) circular
