-- Chains of uses, and that no module of an order lies on a cycle.
use Rattle.std.proofs.Common.{◌≡◌, ℕ, ◌<◌, List, [], ◌∷◌, ◌++◌, length, get_or, take, All, Contains, sym, ◌∙◌, subst, arith, length-take}
use Rattle.std.proofs.lemmas.List.{get_or-take, get_or_default}
use Rattle.std.proofs.lemmas.List.Elements.{All-contains}
use Rattle.ftn_base.specs.ModuleUses.{Uses, used_by}
use Rattle.ftn_base.specs.ModuleCycles.{IsChain, IsOnCycle}
use Rattle.ftn_base.specs.ModuleOrders.{IsGreedy}
use Rattle.module_graph.proofs.Listing.{user_known}

pub chain_more : (uses : List (List ℕ)) (first : ℕ) (between : List ℕ) (last next : ℕ) → IsChain uses first between last → Uses uses last next → IsChain uses first (between ++ last ∷ []) next
chain_more uses first [] last next chain used = (chain, used)
chain_more uses first (b ∷ between) last next chain used = (chain.0, chain_more uses b between last next chain.1 used)

first_known : (uses : List (List ℕ)) (first : ℕ) (between : List ℕ) (last : ℕ) → IsChain uses first between last → first < length uses
first_known uses first [] last chain = user_known uses first last chain
first_known uses first (b ∷ between) last chain = user_known uses first b chain.0

pub on_cycle_known : (uses : List (List ℕ)) (number : ℕ) → IsOnCycle uses number → number < length uses
on_cycle_known uses number cycle = first_known uses number cycle.0 number cycle.1

-- ---- places in the front of a list

pub place_in : (list : List ℕ) (k number : ℕ) → Contains (take k list) number → (j : ℕ) × (j < k) × (j < length list) × (get_or list j 0 ≡ number)
place_in list k number c =
    let short = length-take k list in
    let at : c.0 < length (take k list) = c.1 in
    let before : c.0 < k = omega arith in
    let within : c.0 < length list = omega arith in
    (c.0, before, within, get_or_default list c.0 0 number within ∙ sym (get_or-take k list c.0 number before) ∙ c.2)

pub in_take : (list : List ℕ) (k j number : ℕ) → j < k → j < length list → get_or list j 0 ≡ number → Contains (take k list) number
in_take list k j number before within e =
    let short = length-take k list in
    (j, omega arith, get_or-take k list j number before ∙ get_or_default list j number 0 within ∙ e)

-- ---- what an entry of an order leads to stands before it

used_before : (uses : List (List ℕ)) (list : List ℕ) → IsGreedy uses list → (k first last : ℕ) → k < length list → get_or list k 0 ≡ first → Uses uses first last → Contains (take k list) last
used_before uses list greedy k first last lt e used =
    All-contains (Contains (take k list)) (used_by uses first) last (subst (λ (n : ℕ). All (Contains (take k list)) (used_by uses n)) e (greedy k lt).ready.served) used

led_before : (uses : List (List ℕ)) (list : List ℕ) → IsGreedy uses list → (between : List ℕ) (k first last : ℕ) → k < length list → get_or list k 0 ≡ first → IsChain uses first between last
    → Contains (take k list) last
led_before uses list greedy [] k first last lt e chain = used_before uses list greedy k first last lt e chain
led_before uses list greedy (next ∷ between) k first last lt e chain =
    let p = place_in list k next (used_before uses list greedy k first next lt e chain.0) in
    let q = place_in list p.0 last (led_before uses list greedy between p.0 next last p.2 p.3 chain.1) in
    let a : p.0 < k = p.1 in
    let b : q.0 < p.0 = q.1 in
    let before : q.0 < k = omega arith in
    in_take list k q.0 last before q.2 q.3

pub on_no_cycle : (uses : List (List ℕ)) (list : List ℕ) → IsGreedy uses list → (number : ℕ) → Contains list number → IsOnCycle uses number → ⊥
on_no_cycle uses list greedy number c cycle =
    let e : get_or list c.0 0 ≡ number = get_or_default list c.0 0 number c.1 ∙ c.2 in
    let before = led_before uses list greedy cycle.0 c.0 number number c.1 e cycle.1 in
    (greedy c.0 c.1).ready.absent (subst (λ (n : ℕ). Contains (take c.0 list) n) (sym e) before)
