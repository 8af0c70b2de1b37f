use Rattle.std.proofs.Common.{◌+◌}
use Rattle.std.specs.List.{flat_map}
use Rattle.ftn_tree.specs.Sayings.{said_at}
use Rattle.ftn_tree.specs.Scopes.{all_statements}
use Rattle.decl_table.proofs.Said.{flat_next, flat_done}
use Rattle.decl_table.proofs.sayings.all_said.Goals as goal

pub loop-at-preserved : goal.loop-at-preserved
loop-at-preserved c =
    flat_next (said_at c.args.files.now c.args.unit) (flat_map (said_at c.args.files.now c.args.unit) (all_statements c.args.unit))
    c.loop-at.said.items c.push_said.new.found.items c.loop-at.at (c.args.unit.ending + 1) c.loop-at-test.true c.loop-at.invariant c.in_ok-push_said.ensures

pub returns : goal.returns
returns c =
    flat_done (said_at c.args.files.now c.args.unit) (flat_map (said_at c.args.files.now c.args.unit) (all_statements c.args.unit))
    c.loop-at.said.items c.loop-at.at (c.args.unit.ending + 1) c.loop-at-test.false c.loop-at.invariant
