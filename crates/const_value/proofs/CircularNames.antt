-- Constants that are defined by themselves, by the numbers of names.
use Rattle.std.proofs.Common.{◌≡◌, refl, sym, ◌∙◌, ap, subst, cond, inl, inr, ℕ, ◌<◌, Bool, true, false, List, [], ◌∷◌, length, get_or, Option, Some, None, Contains, arith}
use Rattle.std.specs.List.{cons_option, filter_map, list_any}
use Rattle.std.specs.Option.{option_map_or, option_and_then}
use Rattle.std.proofs.lemmas.Bool.{eqb-true}
use Rattle.std.proofs.lemmas.List.{length-map}
use Rattle.std.proofs.lemmas.List.Elements.{Contains-get_or, Contains-append_right, Contains-push_cases, Contains-append_cases}
use Rattle.std.proofs.lemmas.List.Folds.{Any-from_list_any, list_any_at}
use Rattle.std.proofs.lemmas.Option.{slice_get_within}
use Rattle.ftn_base.specs.ModuleUses.{Uses, used_by}
use Rattle.ftn_tree.specs.declared.unit.FileTree.{FileTree}
use Rattle.ftn_tree.specs.Circles.{constant_at, constant_number, constant_uses, is_circular, is_on_circle, refers_of, tokens_for}
use Rattle.ftn_tree.specs.KeyKinds.{datum_of, is_constant, key_at, kind_of}
use Rattle.ftn_tree.specs.Meanings.{Key}
use Rattle.ftn_tree.specs.NameFaults.{leads_to}
use Rattle.const_value.specs.steps.Components.{Leads}
use Rattle.const_value.specs.steps.Gathered.{datum_number}
use Rattle.const_value.specs.steps.Labelling.{AreLabels, label_at}
use Rattle.const_value.specs.steps.Names.{all_data}
use Rattle.const_value.specs.steps.Numbered.{AreNumbered, IsNamed, constant_name, name_at, name_refers, name_uses}
use Rattle.const_value.specs.steps.References.{same_label}
use Rattle.const_value.proofs.Leading.{leads_all, leads_by_use, leads_from, same_number}
use Rattle.const_value.proofs.Renumbering.{carried}
use Rattle.const_value.proofs.Rounds.{filter_map_some, index_map, number_known, use_at, used_is}

-- ---- labels

same_true : (a b : Option ℕ) → same_label a b ≡ true → a ≡ b
same_true None None is = refl
same_true None (Some b) is = absurd (cc is)
same_true (Some a) None is = absurd (cc is)
same_true (Some a) (Some b) is = ap Some (eqb-true a b is)

same_itself : (a : Option ℕ) → same_label a a ≡ true
same_itself None = refl
same_itself (Some a) = same_number a

pub same_alike : (a b : Option ℕ) → a ≡ b → same_label a b ≡ true
same_alike a b is = subst (λ c. same_label a c ≡ true) is (same_itself a)

-- ---- lists

record Given {A B : Type 0} (f : A → Option B) (xs : List A) (y : B) : Type 0 where
  from : A
  there : Contains xs from
  is : f from ≡ Some y

filter_map_from : {A B : Type 0} (f : A → Option B) (xs : List A) (y : B) → Contains (filter_map f xs) y → Given f xs y
filter_map_from f [] y there = absurd (let less : there.0 < 0 = there.1 in omega arith)
filter_map_from {A} {B} f (x ∷ xs) y there = by (f x) refl there (filter_map_from f xs y) where
  later : Given f xs y → Given f (x ∷ xs) y
  later g = record { from = g.from; there = Contains-append_right (x ∷ []) xs g.from g.there; is = g.is }

  by : (o : Option B) → f x ≡ o → Contains (cons_option o (filter_map f xs)) y → (Contains (filter_map f xs) y → Given f xs y) → Given f (x ∷ xs) y
  by None is there rest = later (rest there)
  by (Some z) is there rest = elim (Contains-append_cases (z ∷ []) (filter_map f xs) y there) [
    | inl here ↦ elim (Contains-push_cases [] z y here) [
      | inl none ↦ absurd (let less : none.0 < 0 = none.1 in omega arith)
      | inr same ↦ record { from = x; there = Contains-get_or (x ∷ xs) 0 x (omega arith); is = is ∙ ap Some same }
    ]
    | inr more ↦ later (rest more)
  ]

iff : (a b : Bool) → (a ≡ true → b ≡ true) → (b ≡ true → a ≡ true) → a ≡ b
iff true b there back = sym (there refl)
iff false true there back = back refl
iff false false there back = refl

-- ---- the same references in both numbers

module _ (files : List FileTree) (numbered : AreNumbered files) where
  abbrev U : List (List ℕ)
  U = constant_uses files

  abbrev V : List (List ℕ)
  V = name_uses files

  -- the constant of that number has that name
  pub record R (x n : ℕ) : Type 0 where
    pub key : Key
    pub is : IsNamed files key x n

  datum_is : (x n : ℕ) (r : R x n) → datum_of files r.key ≡ Some r.is.datum
  datum_is x n r = ap (datum_of files) r.is.key_is

  one_name : (x n m : ℕ) → R x n → R x m → n ≡ m
  one_name x n m r s =
      let same : r.key ≡ s.key = cc (r.is.constant.there, s.is.constant.there) in
      let one_datum : r.is.datum ≡ s.is.datum = cc (datum_is x n r, datum_is x m s, same) in
      cc (r.is.name_is, s.is.name_is, one_datum)

  one_number : (x y n : ℕ) → R x n → R y n → x ≡ y
  one_number x y n r s =
      let one_datum : r.is.datum ≡ s.is.datum = cc (r.is.there, s.is.there) in
      let same : r.key ≡ s.key = cc (r.is.key_is, s.is.key_is, one_datum) in
      cc (r.is.constant.number_is, s.is.constant.number_is, same)

  name_known : (x n : ℕ) → R x n → n < length V
  name_known x n r = subst (λ k. n < k) (sym (length-map (all_data files) (name_refers files))) (slice_get_within (all_data files) n r.is.datum r.is.there)

  constant_refers : (x n : ℕ) (r : R x n) → used_by U x ≡ filter_map (constant_at files r.is.datum.scope.file) (tokens_for files r.is.datum)
  constant_refers x n r = used_is files numbered r.key x r.is.constant ∙ ap (λ o. option_map_or (refers_of files) o []) (datum_is x n r)

  name_refers_is : (x n : ℕ) (r : R x n) → used_by V n ≡ filter_map (name_at files r.is.datum.scope.file) (tokens_for files r.is.datum)
  name_refers_is x n r =
      index_map (name_refers files) (all_data files) n r.is.datum [] r.is.there
      ∙ ap (λ b. cond b (filter_map (name_at files r.is.datum.scope.file) (tokens_for files r.is.datum)) []) (ap (λ k. is_constant (kind_of files k)) (sym r.is.key_is) ∙ r.is.kind)

  -- a constant whose name stands in the expressions of another one
  pub name_use_at : (x n : ℕ) (r : R x n) (token : ℕ) (other : Key) (y m : ℕ) → Contains (tokens_for files r.is.datum) token → key_at files r.is.datum.scope.file token ≡ Some other
      → IsNamed files other y m → Uses V n m
  name_use_at x n r token other y m there at named =
      let one_datum : datum_of files other ≡ Some named.datum = ap (datum_of files) named.key_is in
      let name : name_at files r.is.datum.scope.file token ≡ Some m =
      ap (option_and_then (constant_name files)) at ∙ ap (λ b. cond b (option_and_then (datum_number files) (datum_of files other)) None) named.kind
      ∙ ap (option_and_then (datum_number files)) one_datum ∙ named.name_is in
      subst (λ list. Contains list m) (sym (name_refers_is x n r)) (filter_map_some (name_at files r.is.datum.scope.file) (tokens_for files r.is.datum) token m there name)

  forth : (x n y : ℕ) → R x n → Uses U x y → (m : ℕ) × R y m × Uses V n m
  forth x n y r use_of = of (key_at files r.is.datum.scope.file given.from) refl given.is where
    given : Given (constant_at files r.is.datum.scope.file) (tokens_for files r.is.datum) y
    given = filter_map_from (constant_at files r.is.datum.scope.file) (tokens_for files r.is.datum) y (subst (λ list. Contains list y) (constant_refers x n r) use_of)

    of : (o : Option Key) → key_at files r.is.datum.scope.file given.from ≡ o → option_and_then (constant_number files) o ≡ Some y → (m : ℕ) × R y m × Uses V n m
    of None at is = absurd (cc is)
    of (Some other) at is =
        let kind : is_constant (kind_of files other) ≡ true = numbered.only r.is.datum.scope.file given.from other y at is in
        let (z, m, named) = numbered.constant r.is.datum.scope.file given.from other at kind in
        let same : z ≡ y = cc (named.constant.number_is, is) in
        (m, subst (λ k. R k m) same (record { key = other; is = named }), name_use_at x n r given.from other z m given.there at named)

  back : (n x m : ℕ) → R x n → Uses V n m → (y : ℕ) × R y m × Uses U x y
  back n x m r use_of = of (key_at files r.is.datum.scope.file given.from) refl given.is where
    given : Given (name_at files r.is.datum.scope.file) (tokens_for files r.is.datum) m
    given = filter_map_from (name_at files r.is.datum.scope.file) (tokens_for files r.is.datum) m (subst (λ list. Contains list m) (name_refers_is x n r) use_of)

    of : (o : Option Key) → key_at files r.is.datum.scope.file given.from ≡ o → option_and_then (constant_name files) o ≡ Some m → (y : ℕ) × R y m × Uses U x y
    of None at is = absurd (cc is)
    of (Some other) at is = by (is_constant (kind_of files other)) refl is where
      by : (b : Bool) → is_constant (kind_of files other) ≡ b → cond b (option_and_then (datum_number files) (datum_of files other)) None ≡ Some m → (y : ℕ) × R y m × Uses U x y
      by false kind is = absurd (cc is)
      by true kind is =
          let (y, k, named) = numbered.constant r.is.datum.scope.file given.from other at kind in
          let one_datum : datum_of files other ≡ Some named.datum = ap (datum_of files) named.key_is in
          let same : k ≡ m = cc (sym (ap (option_and_then (datum_number files)) one_datum ∙ named.name_is), is) in (
            y,
            subst (λ j. R y j) same (record { key = other; is = named }),
            use_at files numbered r.key x r.is.datum given.from other y r.is.constant (datum_is x n r) given.there at named.constant,
          )

  -- ---- leading back

  pub back_to_name : (x n y m : ℕ) → R x n → R y m → Leads U y x → Leads V m n
  back_to_name x n y m r s one =
      let (k, named, there) = carried U V R forth y m x s one in
      subst (λ j. Leads V m j) (one_name x k n named r) there

  pub back_to_constant : (x n y m : ℕ) → R x n → R y m → Leads V m n → Leads U y x
  back_to_constant x n y m r s one =
      let (k, named, there) = carried V U (λ i j. R j i) (λ i j k r use_of. back i j k r use_of) m y n s one in
      subst (λ j. Leads U y j) (one_number k x n named r) there

  -- labels that are alike exactly where names lead to one another tell which constants are defined by themselves
  module _ (labels : List (Option ℕ)) (alike : AreLabels V labels) where
    abbrev leads_back : ℕ → ℕ → Bool
    leads_back n m = same_label (label_at labels n) (label_at labels m)

    -- a name to which it refers
    pub leads_on_circle : (x n m : ℕ) → R x n → Uses V n m → Leads V m n → leads_back n m ≡ true
    leads_on_circle x n m r use_of one =
        let (y, s, also) = back n x m r use_of in
        same_alike (label_at labels n) (label_at labels m) (alike.whole n m (name_known x n r) (name_known y m s) (leads_by_use V n m use_of) one)

    pub circle_leads : (x n m : ℕ) → R x n → Uses V n m → leads_back n m ≡ true → Leads V m n
    circle_leads x n m r use_of is =
        let (y, s, also) = back n x m r use_of in
        (alike.alike n m (name_known x n r) (name_known y m s) (same_true (label_at labels n) (label_at labels m) is)).1

    name_circular : (x n : ℕ) (r : R x n) → list_any (leads_back n) (used_by V n) ≡ true → is_on_circle files x ≡ true
    name_circular x n r some =
        let one = Any-from_list_any (leads_back n) (used_by V n) some in
        let use_of : Uses V n one.1 = (one.0, one.2, one.3) in
        let (y, s, also) = back n x one.1 r use_of in
        let leads : leads_to U y x ≡ true = leads_all U y x (number_known files numbered r.key x r.is.constant) (back_to_constant x n y one.1 r s (circle_leads x n one.1 r use_of one.4)) in
        let here : leads_to U (get_or (used_by U x) also.0 y) x ≡ true = ap (λ k. leads_to U k x) also.2 ∙ leads in
        list_any_at (λ other. leads_to U other x) (used_by U x) also.0 y also.1 here

    constant_circular : (x n : ℕ) (r : R x n) → is_on_circle files x ≡ true → list_any (leads_back n) (used_by V n) ≡ true
    constant_circular x n r some =
        let one = Any-from_list_any (λ other. leads_to U other x) (used_by U x) some in
        let (m, s, also) = forth x n one.1 r (one.0, one.2, one.3) in
        let leads : leads_back n m ≡ true = leads_on_circle x n m r also (back_to_name x n one.1 m r s (leads_from U one.1 x one.4)) in
        let here : leads_back n (get_or (used_by V n) also.0 m) ≡ true = ap (leads_back n) also.2 ∙ leads in
        list_any_at (leads_back n) (used_by V n) also.0 m also.1 here

    pub circular_is : (x n : ℕ) (r : R x n) → list_any (leads_back n) (used_by V n) ≡ is_circular files r.key
    circular_is x n r =
        iff (list_any (leads_back n) (used_by V n)) (is_on_circle files x) (name_circular x n r) (constant_circular x n r)
        ∙ ap (λ o. option_map_or (is_on_circle files) o false) (sym r.is.constant.number_is)
