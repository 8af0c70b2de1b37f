-- Numbers of the first that pass, from the last on.
use Rattle.std.proofs.Common.{◌≡◌, ℕ, suc, ◌+◌, ◌-◌, ◌<◌, ◌≤◌, arith, Bool, cond, List, [], ◌∷◌, drop, drop-cons, get_or, length, map, Option, Some, refl, sym, ap, ◌∙◌}
use Rattle.std.specs.List.{position, position_from}
use Rattle.std.proofs.lemmas.Iterator.Adapters.{position_from-zero}

pub from_next : {X : Type 0} (test : X → Bool) (x : X) (rest : List X) (at : ℕ) (new old : Option ℕ) → 0 < at
    → new ≡ cond (test x) (Some (at - 1)) old → old ≡ position_from test at rest → new ≡ position_from test (at - 1) (x ∷ rest)
from_next test x rest at new old some put is =
    put ∙ ap (λ o. cond (test x) (Some (at - 1)) o) (is ∙ ap (λ k. position_from test k rest) (sym (less at some)))
  where
    less : (at : ℕ) → 0 < at → at - 1 + 1 ≡ at
    less at some = omega (arith, some)

pub from_start : {X : Type 0} (test : X → Bool) (all : List X) (at : ℕ) → at ≡ 0 → position_from test at (drop at all) ≡ position test all
from_start test all at none = ap (λ k. position_from test k (drop k all)) none ∙ sym (position_from-zero test all)

-- of what a function gives
pub position_map : {X Y : Type 0} (test : Y → Bool) (f : X → Y) (all : List X) → position test (map f all) ≡ position (λ x. test (f x)) all
position_map test f all = position_from-zero test (map f all) ∙ from test f all 0 ∙ sym (position_from-zero (λ x. test (f x)) all) where
  from : {X Y : Type 0} (test : Y → Bool) (f : X → Y) (all : List X) (at : ℕ) → position_from test at (map f all) ≡ position_from (λ x. test (f x)) at all
  from test f [] at = refl
  from test f (x ∷ all) at = ap (λ o. cond (test (f x)) (Some at) o) (from test f all (at + 1))

-- where two tests agree
pub position_same : {X : Type 0} (one other : X → Bool) (all : List X) → ((x : X) → one x ≡ other x) → position one all ≡ position other all
position_same one other all same = position_from-zero one all ∙ from one other all 0 same ∙ sym (position_from-zero other all) where
  from : {X : Type 0} (one other : X → Bool) (all : List X) (at : ℕ) → ((x : X) → one x ≡ other x) → position_from one at all ≡ position_from other at all
  from one other [] at same = refl
  from one other (x ∷ all) at same =
      ap (λ b. cond b (Some at) (position_from one (at + 1) all)) (same x) ∙ ap (λ o. cond (other x) (Some at) o) (from one other all (at + 1) same)

pub opened_or : {X : Type 0} (all : List X) (at : ℕ) (d : X) → 0 < at → at ≤ length all → drop (at - 1) all ≡ get_or all (at - 1) d ∷ drop at all
opened_or all at d some lt = drop-cons all (at - 1) d (omega (arith, some, lt)) ∙ ap (λ k. get_or all (at - 1) d ∷ drop k all) (next at some) where
  next : (at : ℕ) → 0 < at → suc (at - 1) ≡ at
  next at some = omega (arith, some)
