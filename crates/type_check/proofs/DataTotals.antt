-- How many elements and values a group of DATA has, one object or value after the other.
use Rattle.std.proofs.Common.{◌≡◌, ℕ, ◌+◌, ◌-◌, ◌^◌, ◌<◌, ◌≤◌, ◌==◌, Bool, true, false, cond, not, ◌||◌, List, [], ◌∷◌, ◌++◌, map, length, drop, get_or, Option, Some, None, option_map, refl, sym, ap, ap₂, ◌∙◌, arith}
use Rattle.std.specs.List.{list_any}
use Rattle.std.specs.Option.{is_none, unwrap_or}
use Rattle.std.proofs.lemmas.Bool.Decides.{nat_tests}
use Rattle.std.proofs.lemmas.List.{drop_more}
use Rattle.ftn_base.specs.declared.fault.FaultKind.TheVariants.{WrongCount}
use Rattle.ftn_tree.specs.DataTypes.{Counted, counts_told, first_of, is_known, runs_from, total, wrong_values}
use Rattle.ftn_tree.specs.ExpressionTypes.{Told}
use Rattle.type_check.specs.steps.DataBy.{limited, total_of}

-- with what was there before
abbrev pub total_from : ℕ → List Counted → Option ℕ
total_from before all = option_map (λ n. before + n) (total_of all)

pub from_none : (all : List Counted) → total_of all ≡ total_from 0 all
from_none all = by (total_of all) where
  by : (o : Option ℕ) → o ≡ option_map (λ n. 0 + n) o
  by None = refl
  by (Some n) = let same : n ≡ 0 + n = omega arith in ap (λ k. Some k) same

pub from_end : (before : ℕ) → total_from before [] ≡ Some before
from_end before = let none : before + 0 ≡ before = omega arith in ap (λ n. Some n) none

abbrev unknown : List Counted → Bool
unknown all = list_any (λ c. not (is_known c)) all

-- by the count of the first
abbrev first_counts : ℕ → List Counted → Option ℕ → Option ℕ
first_counts before rest count = option_map (λ m. before + m) (cond (not (not (is_none count)) || unknown rest) None (Some (unwrap_or count 0 + total rest)))

known_next : (c : Counted) (n before : ℕ) (rest : List Counted) → c.count ≡ Some n → total_from before (c ∷ rest) ≡ total_from (before + n) rest
known_next c n before rest is = ap (first_counts before rest) is ∙ by (unknown rest) where
  by : (b : Bool) → option_map (λ m. before + m) (cond b None (Some (n + total rest))) ≡ option_map (λ m. (before + n) + m) (cond b None (Some (total rest)))
  by true = refl
  by false = let same : before + (n + total rest) ≡ (before + n) + total rest = omega arith in ap (λ k. Some k) same

unknown_next : (c : Counted) (before : ℕ) (rest : List Counted) → c.count ≡ None → total_from before (c ∷ rest) ≡ None
unknown_next c before rest is = ap (first_counts before rest) is

module _ {X : Type 0} (f : X → Counted) (xs : List X) (at : ℕ) (x : X) (less : at < length xs) (is : x ≡ get_or xs at x) where
  pub next_is : map f (drop at xs) ≡ f x ∷ map f (drop (at + 1) xs)
  next_is = ap (map f) (drop_more xs at x less ∙ ap (λ y. y ∷ drop (at + 1) xs) (sym is))

  pub known_turn : (n before : ℕ) → (f x).count ≡ Some n → total_from before (map f (drop at xs)) ≡ total_from (before + n) (map f (drop (at + 1) xs))
  known_turn n before count = ap (total_from before) next_is ∙ known_next (f x) n before (map f (drop (at + 1) xs)) count

  pub unknown_turn : (before : ℕ) → (f x).count ≡ None → total_from before (map f (drop at xs)) ≡ None
  unknown_turn before count = ap (total_from before) next_is ∙ unknown_next (f x) before (map f (drop (at + 1) xs)) count

  -- counts as 128 bits hold them
  pub limited_turn : (count before next : ℕ) → Some count ≡ option_map limited (f x).count → next ≡ limited (before + count)
      → option_map limited (total_from before (map f (drop at xs))) ≡ option_map limited (total_from next (map f (drop (at + 1) xs)))
  limited_turn count before next known sum = by (f x).count refl where
    by : (o : Option ℕ) → (f x).count ≡ o → option_map limited (total_from before (map f (drop at xs))) ≡ option_map limited (total_from next (map f (drop (at + 1) xs)))
    by None none = absurd (no (known ∙ ap (option_map limited) none)) where
      no : Some count ≡ None → ⊥
      no e = cc e
    by (Some n) some =
        ap (option_map limited) (known_turn n before some) ∙ more (total_of (map f (drop (at + 1) xs))) where
          same : count ≡ limited n
          same = some_same (known ∙ ap (option_map limited) some) where
            some_same : Some count ≡ Some (limited n) → count ≡ limited n
            some_same e = cc e

          more : (o : Option ℕ) → option_map limited (option_map (λ m. (before + n) + m) o) ≡ option_map limited (option_map (λ m. next + m) o)
          more None = refl
          more (Some m) = let together : limited ((before + n) + m) ≡ limited (next + m) = omega (arith, same, sum) in ap (λ k. Some k) together

  pub limited_none : (before : ℕ) → None ≡ option_map limited (f x).count → option_map limited (total_from before (map f (drop at xs))) ≡ None
  limited_none before known = by (f x).count refl where
    by : (o : Option ℕ) → (f x).count ≡ o → option_map limited (total_from before (map f (drop at xs))) ≡ None
    by None none = ap (option_map limited) (unknown_turn before none)
    by (Some n) some = absurd (no (known ∙ ap (option_map limited) some)) where
      no : None ≡ Some (limited n) → ⊥
      no e = cc e

pub limited_end : (total : ℕ) (all : Option ℕ) → total ≤ 2 ^ 128 - 1 → option_map limited all ≡ option_map limited (total_from total []) → Some total ≡ option_map limited all
limited_end total all within is = let same : total ≡ limited (total + 0) = omega (arith, within) in ap (λ k. Some k) same ∙ sym is

-- ---- what is told of the numbers

unknown_both : (objects values : List Counted) → unknown (objects ++ values) ≡ unknown objects || unknown values
unknown_both [] values = refl
unknown_both (c ∷ objects) values = ap (λ b. not (is_known c) || b) (unknown_both objects values) ∙ sym (assoc (not (is_known c)) (unknown objects) (unknown values)) where
  assoc : (a b d : Bool) → (a || b) || d ≡ a || (b || d)
  assoc true b d = refl
  assoc false b d = refl

abbrev told_if : Bool → List Counted → List Counted → List Told
told_if known objects values =
    cond known [] (cond (total objects == total values) (wrong_values (runs_from 0 objects) (runs_from 0 values)) ((WrongCount, first_of objects) ∷ []))

told_is : (objects values : List Counted) → counts_told objects values ≡ told_if (unknown objects || unknown values) objects values
told_is objects values = ap (λ b. told_if b objects values) (unknown_both objects values)

is_unknown : (all : List Counted) → total_of all ≡ None → unknown all ≡ true
is_unknown all none = by (unknown all) none where
  by : (b : Bool) → cond b None (Some (total all)) ≡ None → b ≡ true
  by true e = refl
  by false e = absurd (cc e)

is_total : (all : List Counted) (n : ℕ) → total_of all ≡ Some n → (unknown all ≡ false) × (total all ≡ n)
is_total all n some = by (unknown all) some where
  by : (b : Bool) → cond b None (Some (total all)) ≡ Some n → (b ≡ false) × (total all ≡ n)
  by true e = absurd (cc e)
  by false e = (refl, cc e)

pub objects_unknown : (objects values : List Counted) → total_of objects ≡ None → counts_told objects values ≡ []
objects_unknown objects values none = told_is objects values ∙ ap (λ b. told_if (b || unknown values) objects values) (is_unknown objects none)

pub values_unknown : (objects values : List Counted) → total_of values ≡ None → counts_told objects values ≡ []
values_unknown objects values none = told_is objects values ∙ ap (λ b. told_if (unknown objects || b) objects values) (is_unknown values none) ∙ by (unknown objects) where
  by : (b : Bool) → told_if (b || true) objects values ≡ []
  by true = refl
  by false = refl

pub both_known : (objects values : List Counted) (m n : ℕ) → total_of objects ≡ Some m → total_of values ≡ Some n
    → counts_told objects values ≡ cond (m == n) (wrong_values (runs_from 0 objects) (runs_from 0 values)) ((WrongCount, first_of objects) ∷ [])
both_known objects values m n some other =
    let one = is_total objects m some in
    let two = is_total values n other in
    told_is objects values ∙ ap₂ (λ a b. told_if (a || b) objects values) one.0 two.0
    ∙ ap₂ (λ j k. cond (j == k) (wrong_values (runs_from 0 objects) (runs_from 0 values)) ((WrongCount, first_of objects) ∷ [])) one.1 two.1

-- ---- of what the code finds

pub objects_open : (objects values : List Counted) → None ≡ option_map limited (total_of objects) → counts_told objects values ≡ []
objects_open objects values none = objects_unknown objects values (by (total_of objects) none) where
  by : (o : Option ℕ) → None ≡ option_map limited o → o ≡ None
  by None e = refl
  by (Some n) e = absurd (cc e)

pub found_equal : (objects values : List Counted) (elements given : ℕ) → Some elements ≡ option_map limited (total_of objects) → Some given ≡ total_of values → given < 2 ^ 128 - 1
    → elements ≡ given → counts_told objects values ≡ wrong_values (runs_from 0 objects) (runs_from 0 values)
found_equal objects values elements given found some few same = by (total_of objects) refl where
  by : (o : Option ℕ) → total_of objects ≡ o → counts_told objects values ≡ wrong_values (runs_from 0 objects) (runs_from 0 values)
  by None e = absurd (no (found ∙ ap (option_map limited) e)) where
    no : Some elements ≡ None → ⊥
    no x = cc x
  by (Some m) e =
      both_known objects values m given e (sym some) ∙ ap (λ b. cond b (wrong_values (runs_from 0 objects) (runs_from 0 values)) ((WrongCount, first_of objects) ∷ [])) alike where
        is : elements ≡ limited m
        is = of (found ∙ ap (option_map limited) e) where
          of : Some elements ≡ Some (limited m) → elements ≡ limited m
          of x = cc x

        equal : m ≡ given
        equal = omega (arith, is, few, same)

        alike : (m == given) ≡ true
        alike = let equal = equal in grind (arith, nat_tests, equal)

pub found_other : (objects values : List Counted) (elements given : ℕ) → Some elements ≡ option_map limited (total_of objects) → Some given ≡ total_of values → given < 2 ^ 128 - 1
    → (elements ≡ given → ⊥) → counts_told objects values ≡ (WrongCount, first_of objects) ∷ []
found_other objects values elements given found some few other = by (total_of objects) refl where
  by : (o : Option ℕ) → total_of objects ≡ o → counts_told objects values ≡ (WrongCount, first_of objects) ∷ []
  by None e = absurd (no (found ∙ ap (option_map limited) e)) where
    no : Some elements ≡ None → ⊥
    no x = cc x
  by (Some m) e =
      both_known objects values m given e (sym some) ∙ ap (λ b. cond b (wrong_values (runs_from 0 objects) (runs_from 0 values)) ((WrongCount, first_of objects) ∷ [])) apart where
        is : elements ≡ limited m
        is = of (found ∙ ap (option_map limited) e) where
          of : Some elements ≡ Some (limited m) → elements ≡ limited m
          of x = cc x

        different : m ≡ given → ⊥
        different same = other (omega (arith, is, few, same))

        apart : (m == given) ≡ false
        apart = let different = different in grind (arith, nat_tests, different)
