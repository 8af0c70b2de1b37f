-- Sequences are numbered one after another.
use Rattle.std.proofs.Common.{◌≡◌, ◌≢◌, ℕ, ◌+◌, ◌<◌, ◌≤◌, Option, Some, None, List, [], ◌∷◌, ◌++◌, length, get_or, take, drop, set, All, inl, inr, sym, ◌∙◌, subst, subst₂, ap, arith, length-set}
use Rattle.std.proofs.lemmas.Bool.{cases_eq, cases_lt}
use Rattle.std.proofs.lemmas.List.{get_or-set_other, get_or-set_same, get_or_append_left, get_or_push, length_push}
use Rattle.std.proofs.lemmas.Option.{same_Some}
use Rattle.equiv_class.specs.steps.Numbers.{IsCounted, IsNumbered, IsNumbering, number_at}
use Rattle.equiv_class.proofs.Relabels.{written_back}

clash : (a : ℕ) → Some a ≡ None → ⊥
clash a e = cc

module _ (label : List ℕ) (count : ℕ) (numbers : List (Option ℕ)) (class order : List ℕ) (number : ℕ) (lt : count < length label)
    (known : All (λ one. one < length label) label) (so_far : IsNumbering label count numbers class order) where
  abbrev this : ℕ
  this = get_or label count 0

  abbrev next_class : List ℕ
  next_class = class ++ number ∷ []

  this_known : this < length numbers
  this_known = let is : this < length label = known count 0 lt in let size = so_far.sized in omega arith

  class_before : (v : ℕ) → v < count → get_or next_class v 0 ≡ get_or class v 0
  class_before v before = let size = so_far.counted in let within : v < length class = omega arith in get_or_append_left class (number ∷ []) 0 v within

  class_here : get_or next_class count 0 ≡ number
  class_here = get_or_push class number 0 count so_far.counted

  counted_next : length next_class ≡ count + 1
  counted_next = let size = so_far.counted in length_push class number ∙ (omega arith)

  abbrev IsUsed : ℕ → Type 0
  IsUsed n = (object : ℕ) × (object < count + 1) × (get_or next_class object 0 ≡ n)

  used_before : (n : ℕ) → n < length order → (object : ℕ) × (object < count) × (get_or next_class object 0 ≡ n)
  used_before n within = let one = so_far.used n within in (one.0, one.1, class_before one.0 one.1 ∙ one.2)

  rising_next : number ≤ length order → (v n : ℕ) → v < count + 1 → n < get_or next_class v 0 → (earlier : ℕ) × (earlier < v) × (get_or next_class earlier 0 ≡ n)
  rising_next le v n within less = elim (cases_lt v count) [
    | inl before ↦
        let same : get_or next_class v 0 ≡ get_or class v 0 = class_before v before in
        let less_too : n < get_or class v 0 = omega arith in
        let one = so_far.rising v n before less_too in
        let one_before : one.0 < count = let l : one.0 < v = one.1 in omega arith in
        (one.0, one.1, class_before one.0 one_before ∙ one.2)
    | inr le_v ↦
        let e : v ≡ count = omega arith in
        let same : get_or next_class v 0 ≡ number = ap (λ (k : ℕ). get_or next_class k 0) e ∙ class_here in
        let less_too : n < length order = omega arith in
        let one = used_before n less_too in
        (one.0, subst (λ (k : ℕ). one.0 < k) (sym e) one.1, one.2)
  ]

  -- ---- the label had the number

  module _ (told : number_at numbers this ≡ Some number) where
    number_within : number < length order
    number_within = (so_far.back this number told).0

    told_next : (v : ℕ) → v < count + 1 → number_at numbers (get_or label v 0) ≡ Some (get_or next_class v 0)
    told_next v within = elim (cases_lt v count) [
      | inl before ↦ so_far.told v before ∙ ap Some (sym (class_before v before))
      | inr le ↦
          let e : count ≡ v = omega arith in
          subst (λ (k : ℕ). number_at numbers (get_or label k 0) ≡ Some (get_or next_class k 0)) e (told ∙ ap Some (sym class_here))
    ]

    had : IsNumbering label (count + 1) numbers next_class order
    had = record {
      sized = so_far.sized;
      counted = counted_next;
      few = let le = so_far.few in omega arith;
      told = told_next;
      back = so_far.back;
      rising = let lt_number = number_within in rising_next (omega arith);
      used = λ n within. let one = used_before n within in (one.0, (let l : one.0 < count = one.1 in omega arith), one.2);
    }

  -- ---- the label gets the number

  module _ (none : number_at numbers this ≡ None) (next : number ≡ length order) where
    abbrev next_numbers : List (Option ℕ)
    next_numbers = set numbers this (Some number)

    abbrev next_order : List ℕ
    next_order = order ++ this ∷ []

    number_here : number_at next_numbers this ≡ Some number
    number_here = get_or-set_same numbers this (Some number) None this_known

    number_other : (one : ℕ) → one ≢ this → number_at next_numbers one ≡ number_at numbers one
    number_other one ne = get_or-set_other numbers this one (Some number) None ne

    seen_apart : (v : ℕ) → v < count → get_or label v 0 ≢ this
    seen_apart v before e = clash (get_or class v 0) (sym (so_far.told v before) ∙ ap (λ (k : ℕ). number_at numbers k) e ∙ none)

    get_told : (v : ℕ) → v < count + 1 → number_at next_numbers (get_or label v 0) ≡ Some (get_or next_class v 0)
    get_told v within = elim (cases_lt v count) [
      | inl before ↦ number_other (get_or label v 0) (seen_apart v before) ∙ so_far.told v before ∙ ap Some (sym (class_before v before))
      | inr le ↦
          let e : count ≡ v = omega arith in
          subst (λ (k : ℕ). number_at next_numbers (get_or label k 0) ≡ Some (get_or next_class k 0)) e (number_here ∙ ap Some (sym class_here))
    ]

    order_here : get_or next_order number 0 ≡ this
    order_here = get_or_push order this 0 number (sym next)

    get_back : (one n : ℕ) → number_at next_numbers one ≡ Some n → (n < length next_order) × (get_or next_order n 0 ≡ one)
    get_back one n told = elim (cases_eq one this) [
      | inl e ↦
          let same : number ≡ n = same_Some number n (sym number_here ∙ ap (λ (k : ℕ). number_at next_numbers k) (sym e) ∙ told) in
          let size = length_push order this in
          ((omega arith), ap (λ (k : ℕ). get_or next_order k 0) (sym same) ∙ order_here ∙ sym e)
      | inr ne ↦
          let old = so_far.back one n (sym (number_other one ne) ∙ told) in
          let within : n < length order = old.0 in
          let size = length_push order this in
          ((omega arith), get_or_append_left order (this ∷ []) 0 n within ∙ old.1)
    ]

    gets : IsNumbering label (count + 1) next_numbers next_class next_order
    gets = record {
      sized = length-set numbers this (Some number) ∙ so_far.sized;
      counted = counted_next;
      few = let le = so_far.few in let size = length_push order this in omega arith;
      told = get_told;
      back = get_back;
      rising = rising_next (omega arith);
      used = λ n within. elim (cases_lt n (length order)) [
        | inl before ↦ let one = used_before n before in (one.0, (let l : one.0 < count = one.1 in omega arith), one.2)
        | inr le ↦
            let size = length_push order this in
            let e : number ≡ n = omega arith in
            (count, (omega arith), class_here ∙ e)
      ];
    }

  pub numbering_next : (new_numbers : List (Option ℕ)) (new_class new_order : List ℕ) → IsCounted numbers order this number new_numbers new_order → new_class ≡ next_class
      → IsNumbering label (count + 1) new_numbers new_class new_order
  numbering_next new_numbers new_class new_order (inl had_it) e =
      rw (had_it.1, had_it.2, e) (had had_it.0)
  numbering_next new_numbers new_class new_order (inr gets_it) e =
      rw (gets_it.2, gets_it.3, e) (gets gets_it.0 gets_it.1)

pub numbered_whole : (label : List ℕ) (count : ℕ) (numbers : List (Option ℕ)) (class order : List ℕ) → count ≡ length label → IsNumbering label count numbers class order → IsNumbered label class order
numbered_whole label count numbers class order e n =
    let all : (v : ℕ) → v < length label → v < count = λ v lt. (omega arith) in
    record {
      counted = n.counted ∙ e;
      few = let le = n.few in omega arith;
      same = λ one other lt_one lt_other same. same_Some (get_or class one 0) (get_or class other 0) (sym (n.told one (all one lt_one)) ∙ ap (λ (k : ℕ). number_at numbers k) same ∙ n.told other (all other lt_other));
      known = λ v lt. (n.back (get_or label v 0) (get_or class v 0) (n.told v (all v lt))).0;
      back = λ v lt. (n.back (get_or label v 0) (get_or class v 0) (n.told v (all v lt))).1;
      rising = λ v number lt less. n.rising v number (all v lt) less;
      used = λ number lt. let one = n.used number lt in (one.0, (let l : one.0 < count = one.1 in omega arith), one.2);
    }

-- numbers that were lent as a slice and are written back
pub counted_back : (numbers lent new : List (Option ℕ)) (order : List ℕ) (one number : ℕ) (new_order : List ℕ) (size : ℕ) → lent ≡ numbers → length new ≡ size
    → IsCounted lent order one number new new_order → IsCounted numbers order one number (take size (new ++ drop (length new) numbers)) new_order
counted_back numbers lent new order one number new_order size e same counted =
    subst₂ (λ (a b : List (Option ℕ)). IsCounted a order one number b new_order) e (sym (written_back new numbers size same)) counted
