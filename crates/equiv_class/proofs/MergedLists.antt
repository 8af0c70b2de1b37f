-- The lists fit each other after one sequence was moved into another.
use Rattle.std.proofs.Common.{◌≡◌, ◌≢◌, ℕ, ◌-◌, ◌<◌, ◌≤◌, List, [], ◌++◌, length, get_or, set, AllPairs, Contains, inl, inr, refl, sym, ◌∙◌, subst, ap, arith, length-set, length-append}
use Rattle.std.proofs.lemmas.Bool.{cases_eq, cases_lt}
use Rattle.std.proofs.lemmas.List.{get_or-append_right, get_or-set_other, get_or-set_same, get_or_append_left}
use Rattle.std.proofs.lemmas.List.Elements.{Contains-append_cases, Contains-append_left, Contains-append_right, Contains-get_or}
use Rattle.ftn_base.specs.declared.entity.Tie.{Tie}
use Rattle.equiv_class.specs.steps.Lists.{IsListed, Lists, members_of}
use Rattle.equiv_class.specs.steps.Joins.{IsAbsorbed, label_a, label_b}
use Rattle.equiv_class.proofs.Seats.{moved, seat, stayed, stayed_a}

none_in : (v : ℕ) → Contains [] v → ⊥
none_in v c = let lt : c.0 < 0 = c.1 in omega arith

right : (xs ys : List ℕ) (d j : ℕ) → length xs ≤ j → get_or (xs ++ ys) j d ≡ get_or ys (j - length xs) d
right xs ys d j le = get_or-append_right xs ys (length xs) j d refl le

distinct_append : (xs ys : List ℕ) → AllPairs (λ earlier later. earlier ≢ later) xs → AllPairs (λ earlier later. earlier ≢ later) ys → ((x : ℕ) → Contains xs x → Contains ys x → ⊥)
    → AllPairs (λ earlier later. earlier ≢ later) (xs ++ ys)
distinct_append xs ys one other apart i j d less lt e =
    let size = length-append xs ys in
    elim (cases_lt j (length xs)) [
      | inl j_left ↦
          let i_left : i < length xs = omega arith in
          one i j d less j_left (sym (get_or_append_left xs ys d i i_left) ∙ e ∙ get_or_append_left xs ys d j j_left)
      | inr j_right ↦
          let j_within : j - length xs < length ys = omega arith in
          elim (cases_lt i (length xs)) [
            | inl i_left ↦
                let same : get_or xs i d ≡ get_or ys (j - length xs) d = sym (get_or_append_left xs ys d i i_left) ∙ e ∙ right xs ys d j j_right in
                apart (get_or xs i d) (Contains-get_or xs i d i_left) (subst (λ (x : ℕ). Contains ys x) (sym same) (Contains-get_or ys (j - length xs) d j_within))
            | inr i_right ↦
                let before : i - length xs < j - length xs = omega arith in
                other (i - length xs) (j - length xs) d before j_within (sym (right xs ys d i i_right) ∙ e ∙ right xs ys d j j_right)
          ]
    ]

abbrev Distinct : List ℕ → Type 0
Distinct list = AllPairs (λ earlier later. earlier ≢ later) list

module _ (s new : Lists) (tie : Tie) (listed : IsListed s) (a_known : tie.a < length s.label) (b_known : tie.b < length s.label) (is : IsAbsorbed s tie new) where
  abbrev into : ℕ
  into = label_a s tie

  abbrev gone : ℕ
  gone = label_b s tie

  abbrev into_list : List ℕ
  into_list = members_of s.members into

  abbrev gone_list : List ℕ
  gone_list = members_of s.members gone

  size : length new.label ≡ length s.label
  size = is.moved.labels

  into_known : into < length s.label
  into_known = listed.known tie.a a_known

  list_into : members_of new.members into ≡ into_list ++ gone_list
  list_into =
      let lists : length s.members ≡ length s.label = listed.lists in
      let same : length (set s.members gone []) ≡ length s.members = length-set s.members gone [] in
      let lt : into < length (set s.members gone []) = let known = into_known in omega arith in
      ap (λ (m : List (List ℕ)). members_of m into) is.lists ∙ get_or-set_same (set s.members gone []) into (into_list ++ gone_list) [] lt

  list_other : (l : ℕ) → l ≢ into → members_of new.members l ≡ get_or (set s.members gone []) l []
  list_other l ne = ap (λ (m : List (List ℕ)). members_of m l) is.lists ∙ get_or-set_other (set s.members gone []) into l (into_list ++ gone_list) [] ne

  list_gone : members_of new.members gone ≡ []
  list_gone =
      let lists : length s.members ≡ length s.label = listed.lists in
      let known : gone < length s.label = listed.known tie.b b_known in
      let lt : gone < length s.members = omega arith in
      list_other gone is.apart ∙ get_or-set_same s.members gone [] [] lt

  list_kept : (l : ℕ) → l ≢ into → l ≢ gone → members_of new.members l ≡ members_of s.members l
  list_kept l ne_into ne_gone = list_other l ne_into ∙ get_or-set_other s.members gone l [] [] ne_gone

  abbrev IsMember : ℕ → ℕ → Type 0
  IsMember l v = (v < length new.label) × (get_or new.label v 0 ≡ l)

  there : (v : ℕ) → v < length s.label → v < length new.label
  there v lt = let same = size in omega arith

  member_into : (v : ℕ) → Contains (into_list ++ gone_list) v → IsMember into v
  member_into v c = elim (Contains-append_cases into_list gone_list v c) [
    | inl first ↦
        let old = listed.listed into v first in
        (there v old.0, (stayed_a s new tie listed is v old.1).after ∙ old.1)
    | inr second ↦
        let old = listed.listed gone v second in
        (there v old.0, (moved s new tie listed is v old.0 old.1).after)
  ]

  member : (l v : ℕ) → Contains (members_of new.members l) v → IsMember l v
  member l v c = elim (cases_eq l into) [
    | inl e ↦
        let c_into : Contains (members_of new.members into) v = subst (λ (k : ℕ). Contains (members_of new.members k) v) e c in
        let c_both : Contains (into_list ++ gone_list) v = subst (λ (list : List ℕ). Contains list v) list_into c_into in
        subst (λ (k : ℕ). IsMember k v) (sym e) (member_into v c_both)
    | inr ne ↦ elim (cases_eq l gone) [
      | inl e ↦
          let c_gone : Contains (members_of new.members gone) v = subst (λ (k : ℕ). Contains (members_of new.members k) v) e c in
          absurd (none_in v (subst (λ (list : List ℕ). Contains list v) list_gone c_gone))
      | inr ne_gone ↦
          let old = listed.listed l v (subst (λ (list : List ℕ). Contains list v) (list_kept l ne ne_gone) c) in
          let seat = stayed s new tie listed is v (λ e. ne_gone (sym old.1 ∙ e)) in
          (there v old.0, seat.after ∙ old.1)
    ]
  ]

  among_stayed : (v : ℕ) → v < length s.label → get_or s.label v 0 ≢ gone → Contains (members_of new.members (get_or s.label v 0)) v
  among_stayed v lt ne = elim (cases_eq (get_or s.label v 0) into) [
    | inl e ↦
        let old : Contains into_list v = subst (λ (l : ℕ). Contains (members_of s.members l) v) e (listed.among v lt) in
        let both : Contains (members_of new.members into) v = subst (λ (list : List ℕ). Contains list v) (sym list_into) (Contains-append_left into_list gone_list v old) in
        subst (λ (l : ℕ). Contains (members_of new.members l) v) (sym e) both
    | inr ne_into ↦ subst (λ (list : List ℕ). Contains list v) (sym (list_kept (get_or s.label v 0) ne_into ne)) (listed.among v lt)
  ]

  among_moved : (v : ℕ) → v < length s.label → get_or s.label v 0 ≡ gone → Contains (members_of new.members into) v
  among_moved v lt e =
      let old : Contains gone_list v = subst (λ (l : ℕ). Contains (members_of s.members l) v) e (listed.among v lt) in
      subst (λ (list : List ℕ). Contains list v) (sym list_into) (Contains-append_right into_list gone_list v old)

  among : (v : ℕ) → v < length s.label → Contains (members_of new.members (get_or new.label v 0)) v
  among v lt = elim (seat s new tie listed is v lt) [
    | inl m ↦ subst (λ (l : ℕ). Contains (members_of new.members l) v) (sym m.after) (among_moved v lt m.before)
    | inr k ↦ subst (λ (l : ℕ). Contains (members_of new.members l) v) (sym k.after) (among_stayed v lt k.before)
  ]

  once : (l : ℕ) → Distinct (members_of new.members l)
  once l = elim (cases_eq l into) [
    | inl e ↦
        let both : Distinct (into_list ++ gone_list) = distinct_append into_list gone_list (listed.once into) (listed.once gone)
        (λ x first second. is.apart (sym (listed.listed gone x second).1 ∙ (listed.listed into x first).1)) in
        subst (λ (k : ℕ). Distinct (members_of new.members k)) (sym e) (subst (λ (list : List ℕ). Distinct list) (sym list_into) both)
    | inr ne ↦ elim (cases_eq l gone) [
      | inl e ↦
          let none : Distinct [] = λ i j d less lt. absurd (let l_none : j < 0 = lt in omega arith) in
          subst (λ (k : ℕ). Distinct (members_of new.members k)) (sym e) (subst (λ (list : List ℕ). Distinct list) (sym list_gone) none)
      | inr ne_gone ↦ subst (λ (list : List ℕ). Distinct list) (sym (list_kept l ne ne_gone)) (listed.once l)
    ]
  ]

  known : (v : ℕ) → v < length s.label → get_or new.label v 0 < length s.label
  known v lt = elim (seat s new tie listed is v lt) [
    | inl m ↦ subst (λ (l : ℕ). l < length s.label) (sym m.after) into_known
    | inr k ↦ subst (λ (l : ℕ). l < length s.label) (sym k.after) (listed.known v lt)
  ]

  back : (v : ℕ) → v < length new.label → v < length s.label
  back v lt = let same = size in omega arith

  pub listed_next : IsListed new
  listed_next = record {
    places = is.moved.places ∙ listed.places ∙ sym size;
    lists = ap length is.lists ∙ length-set (set s.members gone []) into (into_list ++ gone_list) ∙ length-set s.members gone [] ∙ listed.lists ∙ sym size;
    belows = ap length is.below ∙ length-set (set s.below into _) gone 0 ∙ length-set s.below into _ ∙ listed.belows ∙ sym size;
    aboves = ap length is.above ∙ length-set (set s.above into _) gone 0 ∙ length-set s.above into _ ∙ listed.aboves ∙ sym size;
    known = λ v lt. there (get_or new.label v 0) (known v (back v lt));
    listed = member;
    among = λ v lt. among v (back v lt);
    once = once;
  }
