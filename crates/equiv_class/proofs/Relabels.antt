-- Objects of one sequence that get another label and other places, one after another.
use Rattle.std.proofs.Common.{◌≡◌, ◌≢◌, ℕ, ◌+◌, ◌-◌, ◌<◌, ◌≤◌, List, [], ◌∷◌, ◌++◌, length, get_or, take, drop, set, Vec, All, AllPairs, Contains, inl, inr, sym, ◌∙◌, subst, ap, arith, length-set, length-take}
use Rattle.std.proofs.lemmas.Bool.{cases_eq}
use Rattle.std.proofs.lemmas.List.{get_or-map, get_or-set_other, get_or-set_same, get_or-take, get_or_default, map-set, take_more, take_at, length-map}
use Rattle.std.proofs.lemmas.List.Elements.{Contains-append_left, Contains-push, Contains-push_cases}
use Rattle.equiv_class.specs.steps.Lists.{IsMoved, member_lists, members_of}

-- an entry is not among the entries before it
fresh : (xs : List ℕ) (i : ℕ) → i < length xs → AllPairs (λ earlier later. earlier ≢ later) xs → Contains (take i xs) (get_or xs i 0) → ⊥
fresh xs i lt once c =
    let x = get_or xs i 0 in
    let within : c.0 < length (take i xs) = c.1 in
    let size = length-take i xs in
    let before : c.0 < i = omega arith in
    once c.0 i x before lt (sym (get_or-take i xs c.0 x before) ∙ c.2 ∙ get_or_default xs i 0 x lt)

module _ (label place moved : List ℕ) (now_label now_place : List ℕ) (to up down i : ℕ) (lt : i < length moved)
    (places : length place ≡ length label) (known : All (λ object. object < length label) moved) (once : AllPairs (λ earlier later. earlier ≢ later) moved)
    (low : All (λ object. down ≤ get_or place object 0 + up) moved) (so_far : IsMoved label place (take i moved) to up down now_label now_place) where
  abbrev this : ℕ
  this = get_or moved i 0

  this_label : this < length now_label
  this_label = let size = so_far.labels in let is : this < length label = known i 0 lt in omega arith

  this_place : this < length now_place
  this_place = let size = so_far.places in let is : this < length label = known i 0 lt in omega arith

  new : Contains (take i moved) this → ⊥
  new = fresh moved i lt once

  more : take (i + 1) moved ≡ take i moved ++ this ∷ []
  more = take_more moved i 0 lt

  earlier : (object : ℕ) → object ≢ this → Contains (take (i + 1) moved) object → Contains (take i moved) object
  earlier object ne c = elim (Contains-push_cases (take i moved) this object (subst (λ (l : List ℕ). Contains l object) more c)) [
    | inl before ↦ before
    | inr e ↦ absurd (ne (sym e))
  ]

  later : (object : ℕ) → Contains (take i moved) object → Contains (take (i + 1) moved) object
  later object c = subst (λ (l : List ℕ). Contains l object) (sym more) (Contains-append_left (take i moved) (this ∷ []) object c)

  here : Contains (take (i + 1) moved) this
  here = subst (λ (l : List ℕ). Contains l this) (sym more) (Contains-push (take i moved) this)

  other : (object : ℕ) → (Contains (take (i + 1) moved) object → ⊥) → object ≢ this
  other object none e = none (subst (λ (o : ℕ). Contains (take (i + 1) moved) o) (sym e) here)

  abbrev next_label : List ℕ
  next_label = set now_label this to

  abbrev next_place : List ℕ
  next_place = set now_place this (get_or now_place this 0 + up - down)

  placed : get_or next_place this 0 + down ≡ get_or place this 0 + up
  placed =
      let e : get_or next_place this 0 ≡ get_or now_place this 0 + up - down = get_or-set_same now_place this (get_or now_place this 0 + up - down) 0 this_place in
      let same : get_or now_place this 0 ≡ get_or place this 0 = so_far.place_elsewhere this new in
      let le : down ≤ get_or place this 0 + up = low i 0 lt in
      omega arith

  pub moved_next : IsMoved label place (take (i + 1) moved) to up down next_label next_place
  moved_next = record {
    labels = length-set now_label this to ∙ so_far.labels;
    places = length-set now_place this (get_or now_place this 0 + up - down) ∙ so_far.places;
    label_there = λ object c. elim (cases_eq object this) [
      | inl e ↦ subst (λ (o : ℕ). get_or next_label o 0 ≡ to) (sym e) (get_or-set_same now_label this to 0 this_label)
      | inr ne ↦ get_or-set_other now_label this object to 0 ne ∙ so_far.label_there object (earlier object ne c)
    ];
    place_there = λ object c. elim (cases_eq object this) [
      | inl e ↦ subst (λ (o : ℕ). get_or next_place o 0 + down ≡ get_or place o 0 + up) (sym e) placed
      | inr ne ↦ ap (λ (n : ℕ). n + down) (get_or-set_other now_place this object (get_or now_place this 0 + up - down) 0 ne) ∙ so_far.place_there object (earlier object ne c)
    ];
    label_elsewhere = λ object none. get_or-set_other now_label this object to 0 (other object none) ∙ so_far.label_elsewhere object (λ c. none (later object c));
    place_elsewhere = λ object none. get_or-set_other now_place this object (get_or now_place this 0 + up - down) 0 (other object none) ∙ so_far.place_elsewhere object (λ c. none (later object c));
  }

-- ---- lists of members

pub lists_length : {A : Type 0} (lists : List (Vec ℕ A)) → length (member_lists lists) ≡ length lists
lists_length lists = length-map lists (λ list. list.items)

pub list_at : {A : Type 0} (lists : List (Vec ℕ A)) (i : ℕ) (list : Vec ℕ A) → i < length lists → list ≡ get_or lists i list → list.items ≡ members_of (member_lists lists) i
list_at lists i list lt at = ap (λ v. v.items) at ∙ sym (get_or-map (λ v. v.items) lists i list [] lt)

lists_set : {A : Type 0} (lists : List (Vec ℕ A)) (i : ℕ) (list : Vec ℕ A) → member_lists (set lists i list) ≡ set (member_lists lists) i list.items
lists_set lists i list = map-set (λ v. v.items) lists i list

pub handed_over : {A : Type 0} (lists : List (Vec ℕ A)) (source target : ℕ) (none old grown : Vec ℕ A) (moved : List ℕ) → source < length lists → target < length lists → source ≢ target
    → none.items ≡ [] → old ≡ get_or (set lists source none) target old → moved ≡ members_of (member_lists lists) source → grown.items ≡ old.items ++ moved
    → member_lists (set (set lists source none) target grown) ≡ set (set (member_lists lists) source []) target (members_of (member_lists lists) target ++ members_of (member_lists lists) source)
handed_over lists source target none old grown moved lt_source lt_target apart empty is taken items =
    let ne : target ≢ source = λ e. apart (sym e) in
    let same : old ≡ get_or lists target old = is ∙ get_or-set_other lists source target none old ne in
    let there : old.items ≡ members_of (member_lists lists) target = list_at lists target old lt_target same in
    let whole : grown.items ≡ members_of (member_lists lists) target ++ members_of (member_lists lists) source = items ∙ ap (λ (l : List ℕ). l ++ moved) there ∙ ap (λ (l : List ℕ). members_of (member_lists lists) target ++ l) taken in
    lists_set (set lists source none) target grown ∙ ap (λ (l : List (List ℕ)). set l target grown.items) (lists_set lists source none ∙ ap (λ (l : List ℕ). set (member_lists lists) source l) empty)
    ∙ ap (λ (l : List ℕ). set (set (member_lists lists) source []) target l) whole

-- what was lent as a slice and is written back
pub written_back : {X : Type 0} (new old : List X) (n : ℕ) → length new ≡ n → take n (new ++ drop (length new) old) ≡ new
written_back new old n e = take_at new (drop (length new) old) n e
