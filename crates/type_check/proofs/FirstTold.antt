-- The first of what is told of several parts.
use Rattle.std.proofs.Common.{◌≡◌, refl, sym, ◌∙◌, ap, ap₂, cond, Bool, true, false, ℕ, arith, List, [], ◌∷◌, ◌++◌, map, Option, Some, None, option_map}
use Rattle.std.specs.Prelude.{nat_lt, if◌then◌else◌}
use Rattle.std.specs.List.{flat_map, zip}
use Rattle.std.specs.Option.{is_some, is_none, option_and_then, unwrap_or}
use Rattle.std.proofs.lemmas.Bool.{lt-ltb, le-ltb, ltb-true, ltb-false}
use Rattle.ftn_base.specs.declared.fault.FaultKind.{FaultKind}
use Rattle.ftn_tree.specs.KeyKinds.{Kind}
use Rattle.ftn_tree.specs.ExpressionTypes as spec
use Rattle.ftn_tree.specs.ExpressionTypes.{Told, Typed, if_told, if_nothing}
use Rattle.const_expr.specs.FirstTold.{sooner}
use Rattle.type_check.specs.steps.Kept.{Sight, told_key, first_told, seen}
use Rattle.type_check.specs.steps.Sights.{sooner_told, told_where, kind_if, among, among_pairs, in_range, given_told, range_seen}

sooner_still : {A : Type 0} (key : A → ℕ) (a b c : Option A) → sooner key (sooner key a b) c ≡ sooner key a (sooner key b c)
sooner_still key None b c = refl
sooner_still key (Some a) None c = refl
sooner_still key (Some a) (Some b) None = by (nat_lt (key b) (key a)) where
  by : (x : Bool) → sooner key (cond x (Some b) (Some a)) None ≡ cond x (Some b) (Some a)
  by true = refl
  by false = refl
sooner_still key (Some a) (Some b) (Some c) = by (nat_lt (key b) (key a)) refl (nat_lt (key c) (key b)) refl where
  by : (x : Bool) → nat_lt (key b) (key a) ≡ x → (y : Bool) → nat_lt (key c) (key b) ≡ y
      → sooner key (cond x (Some b) (Some a)) (Some c) ≡ sooner key (Some a) (cond y (Some c) (Some b))
  by true p true q =
      ap (λ t. cond t (Some c) (Some b)) q
      ∙ sym (ap (λ t. cond t (Some c) (Some a)) (lt-ltb (key c) (key a) (omega (arith, ltb-true (key b) (key a) p, ltb-true (key c) (key b) q))))
  by true p false q = ap (λ t. cond t (Some c) (Some b)) q ∙ sym (ap (λ t. cond t (Some b) (Some a)) p)
  by false p true q = refl
  by false p false q =
      ap (λ t. cond t (Some c) (Some a)) (le-ltb (key c) (key a) (omega (arith, ltb-false (key b) (key a) p, ltb-false (key c) (key b) q)))
      ∙ sym (ap (λ t. cond t (Some b) (Some a)) p)

pub sooner_joins : (a b c : Option Told) → sooner_told (sooner_told a b) c ≡ sooner_told a (sooner_told b c)
sooner_joins a b c = sooner_still told_key a b c

pub sooner_none : (a : Option Told) → sooner_told a None ≡ a
sooner_none None = refl
sooner_none (Some a) = refl

pub first_told_append : (xs ys : List Told) → first_told (xs ++ ys) ≡ sooner_told (first_told xs) (first_told ys)
first_told_append [] ys = refl
first_told_append (x ∷ xs) ys = ap (sooner_told (Some x)) (first_told_append xs ys) ∙ sym (sooner_joins (Some x) (first_told xs) (first_told ys))

-- of two lists, by the first of each
pub joined : (xs ys : List Told) (x y : Option Told) → first_told xs ≡ x → first_told ys ≡ y → first_told (xs ++ ys) ≡ sooner_told x y
joined xs ys x y one other = first_told_append xs ys ∙ ap₂ sooner_told one other

pub told_if : (holds : Bool) (what : FaultKind) (token : ℕ) → first_told (if_told holds what token) ≡ told_where holds what token
told_if true what token = refl
told_if false what token = refl

pub chosen_told : (b : Bool) (xs ys : List Told) (x y : Option Told) → first_told xs ≡ x → first_told ys ≡ y → first_told (if b then xs else ys) ≡ (if b then x else y)
chosen_told true xs ys x y one other = one
chosen_told false xs ys x y one other = other

-- ---- nothing is told exactly where there is no first

kind_of_more : (a : Told) (o : Option Told) (k : Kind) → None ≡ kind_if (sooner told_key (Some a) o) k
kind_of_more a None k = refl
kind_of_more a (Some b) k = by (nat_lt (told_key b) (told_key a)) where
  by : (x : Bool) → None ≡ kind_if (cond x (Some b) (Some a)) k
  by true = refl
  by false = refl

pub kind_first : (told : List Told) (k : Kind) → if_nothing told k ≡ kind_if (first_told told) k
kind_first [] k = refl
kind_first (a ∷ told) k = kind_of_more a (first_told told) k

pub kinds_first : (told : List Told) (k : Option Kind) → option_and_then (if_nothing told) k ≡ option_and_then (kind_if (first_told told)) k
kinds_first told None = refl
kinds_first told (Some k) = kind_first told k

some_more : (a : Told) (o : Option Told) → false ≡ is_none (sooner told_key (Some a) o)
some_more a None = refl
some_more a (Some b) = by (nat_lt (told_key b) (told_key a)) where
  by : (x : Bool) → false ≡ is_none (cond x (Some b) (Some a))
  by true = refl
  by false = refl

pub untold : (told : List Told) (k : Kind) → is_some (if_nothing told k) ≡ is_none (first_told told)
untold [] k = refl
untold (a ∷ told) k = some_more a (first_told told)

-- ---- what is told of several parts

module _ (f : Sight → Option Told) (g : Typed → List Told) (same : (t : Typed) → first_told (g t) ≡ f (seen t)) where
  pub among_first : (ts : List Typed) → first_told (flat_map g ts) ≡ among f (map seen ts)
  among_first [] = refl
  among_first (t ∷ ts) = joined (g t) (flat_map g ts) (f (seen t)) (among f (map seen ts)) (same t) (among_first ts)

  one_first : (t : Typed) → first_told (flat_map g (t ∷ [])) ≡ f (seen t)
  one_first t = among_first (t ∷ []) ∙ sooner_none (f (seen t))

  pub ends_first : (range : spec.Range) → first_told (flat_map g (spec.ends_of range)) ≡ in_range f (range_seen range)
  ends_first None = refl
  ends_first (Some (None, None)) = refl
  ends_first (Some (Some low, None)) = among_first (low ∷ [])
  ends_first (Some (None, Some high)) = one_first high
  ends_first (Some (Some low, Some high)) = among_first (low ∷ high ∷ []) ∙ ap (sooner_told (f (seen low))) (sooner_none (f (seen high)))

  pub given_first : (given : Option (List Typed)) → first_told (flat_map g (unwrap_or given [])) ≡ given_told f (option_map (map seen) given)
  given_first None = refl
  given_first (Some ts) = among_first ts

pub pairs_first : {A : Type 0} (f : A → Sight → Option Told) (g : A × Typed → List Told) → ((a : A) (t : Typed) → first_told (g (a, t)) ≡ f a (seen t)) →
    (xs : List A) (ts : List Typed) → first_told (flat_map g (zip xs ts)) ≡ among_pairs f xs (map seen ts)
pairs_first f g same [] ts = refl
pairs_first f g same (a ∷ xs) [] = refl
pairs_first f g same (a ∷ xs) (t ∷ ts) =
    joined (g (a, t)) (flat_map g (zip xs ts)) (f a (seen t)) (among_pairs f xs (map seen ts)) (same a t) (pairs_first f g same xs ts)
