use Rattle.std.proofs.Common.{sym, ◌∙◌}
use Rattle.free_scan.proofs.CleanLaws.{gather_begin, gather_step, gather_stop}
use Rattle.free_scan.proofs.first_form.names.gather.Goals as goal

pub loop-names-init : goal.loop-names-init
loop-names-init c = gather_begin _ _ c.new-set.ensures

pub returns-then-not-branch : goal.returns-then-not-branch
returns-then-not-branch c =
    gather_stop _ _ c.loop-names.set c.args.lists.now c.loop-names.names-index c.names-item.result c.loop-names-test.true c.names-item.is
    (rw (← c.as_slice.ensures) (sym c.in_ok-add_all.ensures.fresh ∙ c.if-not-branch.true)) c.loop-names.invariant

pub loop-names-preserved : goal.loop-names-preserved
loop-names-preserved c =
    gather_step _ _ c.loop-names.set c.add_all.new.set c.args.lists.now c.loop-names.names-index c.names-item.result c.loop-names-test.true c.names-item.is
    (rw (← c.as_slice.ensures) (sym c.in_ok-add_all.ensures.fresh ∙ c.if-not-branch.false))
    (rw (← c.as_slice.ensures) (c.in_ok-add_all.ensures.names c.if-not-branch.false)) c.loop-names.invariant
