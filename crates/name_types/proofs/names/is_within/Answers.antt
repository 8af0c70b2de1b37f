use Rattle.std.proofs.Common.{◌∙◌, sym, length}
use Rattle.name_types.proofs.HostWalks.{climbs}
use Rattle.name_types.proofs.names.is_within.Goals as goal

pub loop-preserved : goal.loop-preserved
loop-preserved c =
    c.loop.invariant
    ∙ climbs c.args.hosts.now c.args.outer c.loop.at c.in-Some.host (length c.args.hosts.now) c.loop.counter c.loop-test.true c.if-at-outer.false
    (sym c.in-Some.is ∙ c.host_of.ensures)
