use Rattle.std.proofs.Common.{◌≡◌, ◌<◌, ◌≤◌, length, arith}
use Rattle.const_value.specs.steps.Lists.{lists_of}
use Rattle.const_value.proofs.SearchTurns.{search_finished}
use Rattle.const_value.proofs.Users.{lists_length}
use Rattle.const_value.proofs.components.finish_order.Goals as goal

pub returns : goal.returns
returns c =
    let size : length (lists_of c.args.uses.now) ≡ length c.args.uses.now = lists_length c.args.uses.now in
    let over : length c.args.uses.now ≤ c.loop-at.at = c.loop-at-test.false in
    search_finished (lists_of c.args.uses.now) c.loop-at.seen.items c.loop-at.order.items c.loop-at.invariant.search
    (λ number less. let below : number < c.loop-at.at = omega (arith, less, size, over) in c.loop-at.invariant.below number below)
