use Rattle.std.proofs.Common.{◌+◌}
use Rattle.ftn_tree.specs.NameFaults.{not_public_at}
use Rattle.scope_bind.specs.declared.finding.Kinds.TheVariants as kinds
use Rattle.scope_bind.proofs.FindingTurns.{next_turn, last_turn}
use Rattle.scope_bind.proofs.item_faults.first_in_unit.Goals as goal

pub loop-at-preserved : goal.loop-at-preserved
loop-at-preserved c =
    next_turn kinds.Uses (not_public_at c.args.known.now.files.now c.args.unit.file) _ c.loop-at.first _ c.earlier-first.result c.loop-at.at (c.args.unit.ending + 1) c.loop-at-test.true
    c.loop-at.invariant c.in_ok-next.ensures c.earlier-first.ensures.value

pub returns : goal.returns
returns c =
    last_turn kinds.Uses (not_public_at c.args.known.now.files.now c.args.unit.file) _ c.loop-at.first c.loop-at.at (c.args.unit.ending + 1) c.loop-at-test.false c.loop-at.invariant
