use Rattle.std.proofs.Common.{◌≡◌, ◌<◌, [], length, get_or, refl, arith}
use Rattle.std.proofs.lemmas.Grind.{common_steps}
use Rattle.module_graph.specs.Uses.{used_lists}
use Rattle.module_graph.proofs.Giving as giving
use Rattle.module_graph.proofs.Listing.{lists_length}
use Rattle.module_graph.proofs.groups.give_from.Goals as goal

pub turns-init : goal.turns-init
turns-init c =
    let e = c.in_ok-stack.ensures.items in
    let size = lists_length c.args.uses.now in
    let known : c.args.from < length (used_lists c.args.uses.now) = omega arith in
    let bare : get_or c.args.numbers.now c.args.from 0 ≡ 0 = grind (arith, common_steps) in
    rw e (giving.given_alone (used_lists c.args.uses.now) c.args.number c.args.numbers.now [] c.requires.giving c.args.from known bare refl)

pub give_each-requires-clause-giving : goal.give_each-requires-clause-giving
give_each-requires-clause-giving c =
    giving.taken (used_lists c.args.uses.now) c.args.number c.turns.numbers c.turns.stack.items c.pop.new.self.items c.in-Some.user c.turns.invariant c.in-Some.ensures.items

pub turns-preserved : goal.turns-preserved
turns-preserved c = c.in_ok-give_each.ensures.giving
