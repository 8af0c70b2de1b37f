use Rattle.std.proofs.Common.{◌≡◌, ◌∙◌, ◌<◌, ℕ, List, Vec, Option, Some, None, Global, length, option_map, refl, sym, ap, subst, arith}
use Rattle.ftn_base.specs.ModuleCycles.{IsOnCycle}
use Rattle.ftn_base.specs.ModuleUses.{AreKnown}
use Rattle.ftn_tree.specs.DeclarationFaults.{Finding, fault_of, first_finding}
use Rattle.ftn_tree.specs.Extents.{scoping}
use Rattle.ftn_tree.specs.NameFaults.{use_findings, use_rank}
use Rattle.module_graph.specs.Uses.{used_lists}
use Rattle.scope_bind.proofs.CycleFindings.{no_cycles}
use Rattle.scope_bind.proofs.LeastModule.{few_lists, uses_known}
use Rattle.scope_bind.proofs.use_faults.modules_in_order.Goals as goal

pub order_modules-requires-clause-few : goal.order_modules-requires-clause-few
order_modules-requires-clause-few c =
    let small = c.requires.known.small.names in
    let few : length (scoping c.args.known.now.files.now) < 4294967296 = omega arith in
    subst (λ (l : List (Vec ℕ Global)). length l < 4294967296) (sym c.deref.ensures.value)
    (few_lists c.args.known.now.files.now c.in_ok-uses.uses.items 4294967296 c.in_ok-uses.ensures few)

pub order_modules-requires-clause-known : goal.order_modules-requires-clause-known
order_modules-requires-clause-known c =
    subst (λ (l : List (Vec ℕ Global)). AreKnown (used_lists l)) (sym c.deref.ensures.value) (subst AreKnown (sym c.in_ok-uses.ensures) (uses_known c.args.known.now.files.now))

pub returns-in-Some-clause-fault : goal.returns-in-Some-clause-fault
returns-in-Some-clause-fault c f same =
    let files = c.args.known.now.files.now in
    let sound = rw c.in-Order.is at c.in_ok-list.ensures in
    let lists = ap (λ (l : List (Vec ℕ Global)). used_lists l) c.deref.ensures.value ∙ c.in_ok-uses.ensures in
    let none = subst (λ (us : List (List ℕ)). (number : ℕ) → IsOnCycle us number → ⊥) lists sound.none in
    let equal : c.in-Some.fault ≡ f = cc in
    ap (λ (fs : List Finding). option_map (fault_of files) (first_finding use_rank fs)) (no_cycles files c.requires.known.trees none)
    ∙ ap (option_map (fault_of files)) (sym c.first_of_uses.ensures) ∙ sym c.fault_of.ensures ∙ c.in-Some.is ∙ ap Some equal

no_first : {A B : Type 0} (g : A → B) (found : Option A) → option_map g found ≡ None → found ≡ None
no_first g None is = refl
no_first g (Some x) is = absurd cc

pub returns-in-Order-clause-none : goal.returns-in-Order-clause-none
returns-in-Order-clause-none c _ =
    let files = c.args.known.now.files.now in
    let sound = rw c.in-Order.is at c.in_ok-list.ensures in
    let lists = ap (λ (l : List (Vec ℕ Global)). used_lists l) c.deref.ensures.value ∙ c.in_ok-uses.ensures in
    let none = subst (λ (us : List (List ℕ)). (number : ℕ) → IsOnCycle us number → ⊥) lists sound.none in
    ap (first_finding use_rank) (no_cycles files c.requires.known.trees none) ∙ sym c.first_of_uses.ensures
    ∙ no_first (fault_of files) c.first_of_uses.result (sym c.fault_of.ensures ∙ c.in-None.is)
