-- The first of findings, one after the other.
use Rattle.std.proofs.Common.{◌≡◌, Bool, true, false, cond, List, [], ◌∷◌, ◌++◌, fold, Option, Some, None, refl, sym, ap, ◌∙◌}
use Rattle.ftn_tree.specs.TypeFaults.{type_rank}
use Rattle.ftn_tree.specs.DeclarationFaults.{Finding, before_in_place, first_finding}
use Rattle.type_check.specs.steps.Findings.{earlier, gathered}
use Rattle.type_check.proofs.FindingOrder.{before_follows, before_fails}

from_one : (first : Finding) (more : List Finding) → Some (fold (λ one other. cond (before_in_place type_rank other one) other one) first more) ≡ gathered (Some first) more
from_one first [] = refl
from_one first (f ∷ more) =
    from_one (cond (before_in_place type_rank f first) f first) more ∙ ap (λ o. gathered o more) (inside (before_in_place type_rank f first))
  where
    inside : (b : Bool) → Some (cond b f first) ≡ cond b (Some f) (Some first)
    inside true = refl
    inside false = refl

pub first_gathered : (all : List Finding) → first_finding type_rank all ≡ gathered None all
first_gathered [] = refl
first_gathered (f ∷ more) = from_one f more

pub nothing_more : (o : Option Finding) → o ≡ earlier o None
nothing_more None = refl
nothing_more (Some f) = refl

-- ---- of some and then of others

pub earlier_joins : (a b c : Option Finding) → earlier (earlier a b) c ≡ earlier a (earlier b c)
earlier_joins None b c = refl
earlier_joins (Some a) None c = refl
earlier_joins (Some a) (Some b) None = sym (nothing_more (earlier (Some a) (Some b)))
earlier_joins (Some a) (Some b) (Some c) = by (before_in_place type_rank b a) (before_in_place type_rank c b) (before_in_place type_rank c a) refl refl refl
  where
    by : (x y z : Bool) → before_in_place type_rank b a ≡ x → before_in_place type_rank c b ≡ y → before_in_place type_rank c a ≡ z
        → earlier (cond x (Some b) (Some a)) (Some c) ≡ earlier (Some a) (cond y (Some c) (Some b))
    by true true z ba cb ca = ap (λ t. cond t (Some c) (Some b)) cb ∙ sym (ap (λ t. cond t (Some c) (Some a)) (before_follows c b a cb ba))
    by true false z ba cb ca = ap (λ t. cond t (Some c) (Some b)) cb ∙ sym (ap (λ t. cond t (Some b) (Some a)) ba)
    by false true z ba cb ca = refl
    by false false z ba cb ca = ap (λ t. cond t (Some c) (Some a)) (before_fails c b a cb ba) ∙ sym (ap (λ t. cond t (Some b) (Some a)) ba)

pub gathered_after : (best : Option Finding) (all : List Finding) → gathered best all ≡ earlier best (gathered None all)
gathered_after best [] = nothing_more best
gathered_after best (f ∷ more) =
    gathered_after (earlier best (Some f)) more ∙ earlier_joins best (Some f) (gathered None more) ∙ ap (earlier best) (sym (gathered_after (Some f) more))

pub gathered_both : (best : Option Finding) (xs ys : List Finding) → gathered best (xs ++ ys) ≡ gathered (gathered best xs) ys
gathered_both best [] ys = refl
gathered_both best (x ∷ xs) ys = gathered_both (earlier best (Some x)) xs ys
