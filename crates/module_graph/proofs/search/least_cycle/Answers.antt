use Rattle.std.proofs.Common.{◌<◌, ℕ, length, refl, arith, below_more}
use Rattle.ftn_base.specs.ModuleCycles.{IsOnCycle}
use Rattle.module_graph.specs.Uses.{used_lists}
use Rattle.module_graph.proofs.Chains.{on_cycle_known}
use Rattle.module_graph.proofs.Giving.{none_alike, on_none}
use Rattle.module_graph.proofs.Searching.{least_by_way_back}
use Rattle.module_graph.proofs.Listing.{lists_length}
use Rattle.module_graph.proofs.search.least_cycle.Goals as goal
use Rattle.module_graph.proofs.search.least_cycle.Goals.{then-has_one+in_ok-list+in_default, else-has_one}

pub returns-in-Some : goal.returns-in-Some
returns-in-Some c =
    let back = rw c.in-Some.is at c.in_ok-list.ensures in
    least_by_way_back (used_lists c.args.uses.now) c.loop-from.from c.in-Some.list.items back c.loop-from.invariant

pub loop-from-preserved : goal.loop-from-preserved
loop-from-preserved c =
    below_more (λ (number : ℕ). IsOnCycle (used_lists c.args.uses.now) number → ⊥) c.loop-from.from c.loop-from.invariant
    (elim c.if-has_one.branch [
      | then-has_one+in_ok-list+in_default w ↦ rw w.in_default.is at w.in_ok-list.ensures
      | else-has_one w ↦ on_none (used_lists c.args.uses.now) c.in_ok-numbers.numbers.items c.loop-from.from c.in_ok-numbers.ensures.never_falls
          (let lt : c.loop-from.from < length c.in_ok-numbers.numbers.items = omega (arith, c.in_ok-numbers.ensures.sized) in
          none_alike (used_lists c.args.uses.now) c.in_ok-numbers.numbers.items c.deref.result.now c.list_of.result.now c.loop-from.from c.index.result.now c.list_of.ensures c.deref.ensures.value c.index.ensures lt (w.if-has_one.ensures refl))
    ])

pub returns : goal.returns
returns c = λ number cycle.
    let known = on_cycle_known (used_lists c.args.uses.now) number cycle in
    let size = lists_length c.args.uses.now in
    c.loop-from.invariant number (omega arith) cycle
