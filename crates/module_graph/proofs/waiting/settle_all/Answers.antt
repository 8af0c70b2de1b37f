use Rattle.std.proofs.Common.{ℕ, below_more}
use Rattle.module_graph.specs.steps.Waiting.{IsCovered, waiter_lists}
use Rattle.module_graph.proofs.waiting.settle_all.Goals as goal

pub loop-user-preserved : goal.loop-user-preserved
loop-user-preserved c =
    let settled = c.in_ok-settle.ensures in
    record {
      sound = settled.sound;
      covered = below_more (λ (number : ℕ). IsCovered c.args.marks.now (waiter_lists c.settle.new.waiting) c.settle.new.ready.keys number) c.loop-user.user
          (λ number lt. settled.kept number (c.loop-user.invariant.covered number lt)) (settled.here (c.requires.no_marks c.loop-user.user));
    }
