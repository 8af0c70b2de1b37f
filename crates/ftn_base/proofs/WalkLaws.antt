-- Laws of walks: they are joined, taken backward, and kept where links are added; and what each link keeps, a
-- walk keeps.
use Rattle.std.proofs.Common.{◌≡◌, ℤ, pos, neg_ℤ, ◌+ℤ◌, List, [], ◌∷◌, ◌++◌, Contains, refl, sym, ◌∙◌, subst, ap, arith}
use Rattle.std.proofs.lemmas.Int.{ints}
use Rattle.ftn_base.specs.Storage.{Thing, Link, Step, forward, backward, link_of, start_of, end_of, shift_of, IsWalk, displacement, Leads}

-- ---- walks of steps

walk_on : (links : List Link) (first middle last : Thing) (steps more : List Step) → IsWalk links first steps middle → IsWalk links middle more last → IsWalk links first (steps ++ more) last
walk_on links first middle last [] more here next = subst (λ (thing : Thing). IsWalk links thing more last) (sym here) next
walk_on links first middle last (step ∷ steps) more here next = (here.0, here.1, walk_on links (end_of step) middle last steps more here.2 next)

sum_on : (steps more : List Step) → displacement (steps ++ more) ≡ displacement steps +ℤ displacement more
sum_on [] more = omega (arith, ints)
sum_on (step ∷ steps) more = let rest : displacement (steps ++ more) ≡ displacement steps +ℤ displacement more = sum_on steps more in omega (arith, ints)

abbrev turned : Step → Step
turned (forward link) = backward link
turned (backward link) = forward link

abbrev turned_all : List Step → List Step
turned_all [] = []
turned_all (step ∷ steps) = turned_all steps ++ turned step ∷ []

link_turned : (step : Step) → link_of (turned step) ≡ link_of step
link_turned (forward link) = refl
link_turned (backward link) = refl

start_turned : (step : Step) → start_of (turned step) ≡ end_of step
start_turned (forward link) = refl
start_turned (backward link) = refl

end_turned : (step : Step) → end_of (turned step) ≡ start_of step
end_turned (forward link) = refl
end_turned (backward link) = refl

shift_turned : (step : Step) → shift_of (turned step) ≡ neg_ℤ (shift_of step)
shift_turned (forward link) = refl
shift_turned (backward link) = omega (arith, ints)

walk_back : (links : List Link) (first last : Thing) (steps : List Step) → IsWalk links first steps last → IsWalk links last (turned_all steps) first
walk_back links first last [] here = sym here
walk_back links first last (step ∷ steps) here =
    walk_on links last (end_of step) first (turned_all steps) (turned step ∷ []) (walk_back links (end_of step) last steps here.2)
    (subst (λ (link : Link). Contains links link) (sym (link_turned step)) here.0, sym (start_turned step), end_turned step ∙ sym here.1)

sum_back : (steps : List Step) → displacement (turned_all steps) ≡ neg_ℤ (displacement steps)
sum_back [] = omega (arith, ints)
sum_back (step ∷ steps) =
    let rest : displacement (turned_all steps) ≡ neg_ℤ (displacement steps) = sum_back steps in
    let both : displacement (turned_all steps ++ turned step ∷ []) ≡ displacement (turned_all steps) +ℤ (shift_of (turned step) +ℤ pos 0) = sum_on (turned_all steps) (turned step ∷ []) in
    let here : shift_of (turned step) ≡ neg_ℤ (shift_of step) = shift_turned step in
    omega (arith, ints)

walk_more : (links more : List Link) (first last : Thing) (steps : List Step) → ((link : Link) → Contains links link → Contains more link) → IsWalk links first steps last → IsWalk more first steps last
walk_more links more first last [] kept here = here
walk_more links more first last (step ∷ steps) kept here = (kept (link_of step) here.0, here.1, walk_more links more (end_of step) last steps kept here.2)

-- ---- what leads where

pub leads_nowhere : (links : List Link) (thing : Thing) → Leads links thing thing (pos 0)
leads_nowhere links thing = record { steps = []; walk = refl; sum = refl }

pub leads_forward : (links : List Link) (link : Link) → Contains links link → Leads links link.from link.to link.by
leads_forward links link there = record { steps = forward link ∷ []; walk = (there, refl, refl); sum = omega (arith, ints) }

pub leads_backward : (links : List Link) (link : Link) → Contains links link → Leads links link.to link.from (neg_ℤ link.by)
leads_backward links link there = record { steps = backward link ∷ []; walk = (there, refl, refl); sum = omega (arith, ints) }

pub leads_on : (links : List Link) (first middle last : Thing) (by more : ℤ) → Leads links first middle by → Leads links middle last more → Leads links first last (by +ℤ more)
leads_on links first middle last by more here next =
    let one : displacement here.steps ≡ by = here.sum in
    let other : displacement next.steps ≡ more = next.sum in
    let both = sum_on here.steps next.steps in
    record { steps = here.steps ++ next.steps; walk = walk_on links first middle last here.steps next.steps here.walk next.walk; sum = omega (arith, ints) }

pub leads_back : (links : List Link) (first last : Thing) (by : ℤ) → Leads links first last by → Leads links last first (neg_ℤ by)
leads_back links first last by here = record { steps = turned_all here.steps; walk = walk_back links first last here.steps here.walk; sum = sum_back here.steps ∙ ap neg_ℤ here.sum }

pub leads_more : (links more : List Link) (first last : Thing) (by : ℤ) → ((link : Link) → Contains links link → Contains more link) → Leads links first last by → Leads more first last by
leads_more links more first last by kept here = record { steps = here.steps; walk = walk_more links more first last here.steps kept here.walk; sum = here.sum }

pub leads_by : (links : List Link) (first last : Thing) (by same : ℤ) → Leads links first last by → by ≡ same → Leads links first last same
leads_by links first last by same here e = subst (λ (d : ℤ). Leads links first last d) e here

-- ---- what each link keeps in both directions, walks keep

module _ (links : List Link) (P : Thing → ℤ → Type 0)
    (onward : (link : Link) → Contains links link → (at : ℤ) → P link.from at → P link.to (at +ℤ link.by))
    (back : (link : Link) → Contains links link → (at : ℤ) → P link.to at → P link.from (at +ℤ neg_ℤ link.by)) where
  step_kept : (step : Step) (at : ℤ) → Contains links (link_of step) → P (start_of step) at → P (end_of step) (at +ℤ shift_of step)
  step_kept (forward link) at there p = onward link there at p
  step_kept (backward link) at there p = back link there at p

  walk_kept : (first last : Thing) (steps : List Step) (at : ℤ) → IsWalk links first steps last → P first at → P last (at +ℤ displacement steps)
  walk_kept first last [] at here p =
      let same : at ≡ at +ℤ pos 0 = omega (arith, ints) in
      subst (λ (d : ℤ). P last d) same (subst (λ (thing : Thing). P thing at) here p)
  walk_kept first last (step ∷ steps) at here p =
      let same : (at +ℤ shift_of step) +ℤ displacement steps ≡ at +ℤ (shift_of step +ℤ displacement steps) = omega (arith, ints) in
      subst (λ (d : ℤ). P last d) same (walk_kept (end_of step) last steps (at +ℤ shift_of step) here.2
      (step_kept step at here.0 (subst (λ (thing : Thing). P thing at) here.1 p)))

  pub leads_kept : (first last : Thing) (at by : ℤ) → Leads links first last by → P first at → P last (at +ℤ by)
  leads_kept first last at by here p = subst (λ (d : ℤ). P last (at +ℤ d)) here.sum (walk_kept first last here.steps at here.walk p)

-- where a walk leads along each link, a walk leads along each walk
pub leads_through : (links more : List Link) (first last : Thing) (by : ℤ) → ((link : Link) → Contains links link → Leads more link.from link.to link.by) → Leads links first last by → Leads more first last by
leads_through links more first last by each here =
    leads_by more first last (pos 0 +ℤ by) by (leads_kept links (λ thing at. Leads more first thing at)
    (λ link there at so_far. leads_on more first link.from link.to at link.by so_far (each link there))
    (λ link there at so_far. leads_on more first link.to link.from at (neg_ℤ link.by) so_far (leads_back more link.from link.to link.by (each link there)))
    first last (pos 0) by here (leads_nowhere more first)) (omega (arith, ints))
