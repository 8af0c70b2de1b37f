-- The first of findings, one after the other.
use Rattle.std.proofs.Common.{◌≡◌, Bool, true, false, cond, List, [], ◌∷◌, ◌++◌, fold, Option, Some, None, option_map, refl, sym, ap, ap₂, ◌∙◌}
use Rattle.std.specs.Option.{option_map_or}
use Rattle.ftn_tree.specs.Sayings.{Saying}
use Rattle.ftn_tree.specs.DeclarationFaults.{Finding, declaration_rank, before_in_place, first_finding}
use Rattle.decl_table.specs.steps.Gathering.{earlier, gathered}
use Rattle.decl_table.proofs.FindingOrder.{before_follows, before_fails}

from_one : (first : Finding) (more : List Finding) → Some (fold (λ one other. cond (before_in_place declaration_rank other one) other one) first more) ≡ gathered (Some first) more
from_one first [] = refl
from_one first (f ∷ more) =
    from_one (cond (before_in_place declaration_rank f first) f first) more ∙ ap (λ o. gathered o more) (inside (before_in_place declaration_rank f first))
  where
    inside : (b : Bool) → Some (cond b f first) ≡ cond b (Some f) (Some first)
    inside true = refl
    inside false = refl

pub first_gathered : (all : List Finding) → first_finding declaration_rank all ≡ gathered None all
first_gathered [] = refl
first_gathered (f ∷ more) = from_one f more

nothing_more : (o : Option Finding) → o ≡ earlier o None
nothing_more None = refl
nothing_more (Some f) = refl

-- what is found at one saying, and what comes after it
pub gathered_at : (best : Option Finding) (twice : Saying → Finding) (partner : Option Saying) (conflict : Finding) (conflicts : Bool) (more : List Finding)
    → gathered best (option_map_or (λ e. twice e ∷ []) partner [] ++ (cond conflicts (conflict ∷ []) [] ++ more))
    ≡ gathered (earlier (earlier best (option_map twice partner)) (cond conflicts (Some conflict) None)) more
gathered_at best twice None conflict true more = ap (λ o. gathered (earlier o (Some conflict)) more) (nothing_more best)
gathered_at best twice None conflict false more = ap (λ o. gathered o more) (nothing_more best ∙ nothing_more (earlier best None))
gathered_at best twice (Some e) conflict true more = refl
gathered_at best twice (Some e) conflict false more = ap (λ o. gathered o more) (nothing_more (earlier best (Some (twice e))))

-- ---- of some and then of others

earlier_joins : (a b c : Option Finding) → earlier (earlier a b) c ≡ earlier a (earlier b c)
earlier_joins None b c = refl
earlier_joins (Some a) None c = refl
earlier_joins (Some a) (Some b) None = sym (nothing_more (earlier (Some a) (Some b)))
earlier_joins (Some a) (Some b) (Some c) = by (before_in_place declaration_rank b a) (before_in_place declaration_rank c b) (before_in_place declaration_rank c a) refl refl refl
  where
    choice : Finding → Finding → Bool → Option Finding
    choice one other b = cond b (Some other) (Some one)

    by : (x y z : Bool) → before_in_place declaration_rank b a ≡ x → before_in_place declaration_rank c b ≡ y → before_in_place declaration_rank c a ≡ z
        → earlier (cond x (Some b) (Some a)) (Some c) ≡ earlier (Some a) (cond y (Some c) (Some b))
    by true true z ba cb ca = ap (λ t. cond t (Some c) (Some b)) cb ∙ sym (ap (λ t. cond t (Some c) (Some a)) (before_follows c b a cb ba))
    by true false z ba cb ca = ap (λ t. cond t (Some c) (Some b)) cb ∙ sym (ap (λ t. cond t (Some b) (Some a)) ba)
    by false true z ba cb ca = refl
    by false false z ba cb ca = ap (λ t. cond t (Some c) (Some a)) (before_fails c b a cb ba) ∙ sym (ap (λ t. cond t (Some b) (Some a)) ba)

gathered_after : (best : Option Finding) (all : List Finding) → gathered best all ≡ earlier best (gathered None all)
gathered_after best [] = nothing_more best
gathered_after best (f ∷ more) =
    gathered_after (earlier best (Some f)) more ∙ earlier_joins best (Some f) (gathered None more) ∙ ap (earlier best) (sym (gathered_after (Some f) more))

gathered_both : (best : Option Finding) (xs ys : List Finding) → gathered best (xs ++ ys) ≡ gathered (gathered best xs) ys
gathered_both best [] ys = refl
gathered_both best (x ∷ xs) ys = gathered_both (earlier best (Some x)) xs ys

first_joined : (xs ys : List Finding) → earlier (first_finding declaration_rank xs) (first_finding declaration_rank ys) ≡ first_finding declaration_rank (xs ++ ys)
first_joined xs ys =
    ap₂ earlier (first_gathered xs) (first_gathered ys) ∙ sym (gathered_after (gathered None xs) ys) ∙ sym (gathered_both None xs ys) ∙ sym (first_gathered (xs ++ ys))

pub joined_is_first : (first second result : Option Finding) (xs ys : List Finding) → result ≡ earlier first second
    → first ≡ first_finding declaration_rank xs → second ≡ first_finding declaration_rank ys → result ≡ first_finding declaration_rank (xs ++ ys)
joined_is_first first second result xs ys is one other = is ∙ ap₂ earlier one other ∙ first_joined xs ys
