use Rattle.std.proofs.Common.{◌≡◌, ◌<◌, length, arith}
use Rattle.type_check.specs.steps.Noted.{first_seen}
use Rattle.type_check.proofs.PairedData.{pair_turn, pairs_end}
use Rattle.type_check.proofs.procedures.Declared.pair_faults.Goals as goal

pub loop-at-preserved : goal.loop-at-preserved
loop-at-preserved c files ds others known are those =
    let few : c.loop-at.at < length c.args.theirs.now = omega (arith, c.loop-at-test.true, c.requires) in
    pair_turn files c.args.file c.args.ours.now c.args.theirs.now c.loop-at.at (first_seen c.args.faults.now) (first_seen c.loop-at.faults) (first_seen c.dummy_fault.new.faults) c.loop-at-test.true few
    (λ a b of_a of_b. c.in_ok-dummy_fault.ensures {u = tt} files a b known of_a of_b) ds others are those (c.loop-at.invariant files ds others known are those)

pub returns : goal.returns
returns c files ds others known are those =
    let ends : c.loop-at.at ≡ length c.args.ours.now = omega (arith, c.loop-at-test.false, c.loop-at.auto.at-end) in
    pairs_end files c.args.file c.args.ours.now c.loop-at.at (first_seen c.args.faults.now) (first_seen c.loop-at.faults) ds others ends are (c.loop-at.invariant files ds others known are those)
