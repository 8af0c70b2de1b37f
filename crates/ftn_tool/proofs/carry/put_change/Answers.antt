use Rattle.std.proofs.Common.{refl}
use Rattle.store_io.specs.Told.{Takes}
use Rattle.store_io.proofs.Taking.{takes_both}
use Rattle.ftn_tool.specs.Lines.{store_fault_line}
use Rattle.ftn_tool.proofs.Writing.{rose_since, takes_then_front}
use Rattle.ftn_tool.proofs.carry.put_change.Goals as goal

pub returns-in-Err-put_plan-clause-put : goal.returns-in-Err-put_plan-clause-put
returns-in-Err-put_plan-clause-put g c =
    let announced : Takes c.args.line.now (g.O.Sink.taken c.args.out.now) (g.O.Sink.taken c.announce.new.out) = c.in_default-announce.ensures.whole in
    rw c.say.ensures.status (
      rw c.prepare.ensures.faults at (c.in-Err-put_plan.ensures.failed refl),
      (c.requires, rw (c.in-Ok.ensures.text, c.prepare.ensures.same) at c.in-Err-put_plan.ensures.part),
      record {
        front = takes_then_front c.args.line.now store_fault_line _ _ _ announced c.say.ensures.front;
        whole = λ holds. takes_both c.args.line.now store_fault_line _ _ _ announced
            (c.say.ensures.whole (λ rose. holds.0 (rose_since _ _ _ c.announce.ensures.later rose)) (λ rose. holds.1 (rose_since _ _ _ c.announce.ensures.wants_later rose)));
      },
    )

pub returns-in-Ok-put_plan-clause-put : goal.returns-in-Ok-put_plan-clause-put
returns-in-Ok-put_plan-clause-put g c =
    ((c.requires, rw (c.in-Ok.ensures.text, c.prepare.ensures.same) at c.in-Ok-put_plan.ensures.done), c.in_default-announce.ensures.whole)
