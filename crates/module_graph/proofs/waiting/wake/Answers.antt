use Rattle.module_graph.specs.steps.Waiting.{waiter_lists}
use Rattle.module_graph.proofs.Waits.{woken_next, woken_whole}
use Rattle.module_graph.proofs.waiting.wake.Goals as goal

pub loop-waiter-preserved : goal.loop-waiter-preserved
loop-waiter-preserved c =
    let settled = c.in_ok-settle.ensures in
    let before = c.loop-waiter.invariant in
    record {
      sound = settled.sound;
      kept = λ number covered. settled.kept number (before.kept number covered);
      here = woken_next c.args.marks.now (waiter_lists c.loop-waiter.waiting) c.loop-waiter.ready.keys (waiter_lists c.settle.new.waiting) c.settle.new.ready.keys c.args.woken.now c.loop-waiter.waiter-index _
          c.loop-waiter-test.true settled.kept settled.here before.here;
    }

pub returns-clause-here : goal.returns-clause-here
returns-clause-here c =
    woken_whole c.args.marks.now (waiter_lists c.loop-waiter.waiting) c.loop-waiter.ready.keys c.args.woken.now c.loop-waiter.waiter-index c.loop-waiter-test.false c.loop-waiter.invariant.here
