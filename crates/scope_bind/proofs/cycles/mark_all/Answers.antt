use Rattle.std.proofs.Common.{◌≡◌, ◌+◌, ◌<◌, ◌∙◌, length, get_or, ap, refl, arith}
use Rattle.std.proofs.lemmas.Grind.{common_steps}
use Rattle.std.proofs.lemmas.List.{length_push}
use Rattle.module_graph.specs.steps.Marks.{IsMarked, IsUnmarked}
use Rattle.module_graph.proofs.Marking.{unmarked_less}
use Rattle.scope_bind.proofs.Marks.{marked_more, marked_passed}
use Rattle.scope_bind.proofs.cycles.mark_all.Goals.{then-not-marks-number+in_ok-push, else-not-marks-number}
use Rattle.scope_bind.proofs.cycles.mark_all.Goals as goal

pub loop-number-preserved : goal.loop-number-preserved
loop-number-preserved c =
    let list = c.args.list.now in
    let i = c.loop-number.number-index in
    let number = get_or list i 0 in
    let marks = c.loop-number.marks in
    let stack = c.loop-number.stack.items in
    let marked = c.loop-number.invariant.marked in
    let lt = c.loop-number-test.true in
    let below : number < length c.args.marks.now = c.requires i 0 lt in
    let known : number < length marks = omega arith in
    elim c.if-not-marks-number.branch [
      | then-not-marks-number+in_ok-push w ↦
          let bare : IsUnmarked marks number = grind (arith, common_steps, w.if-not-marks-number.true) in
          record {
            marked = rw (w.marks-is, w.stack-is) (marked_more list i c.args.marks.now c.args.stack.now.items marks stack marked lt _ w.push.new.self.items known refl w.in_ok-push.ensures.items);
            shift =
                let less = unmarked_less marks number known bare in
                let more : length w.push.new.self.items ≡ length stack + 1 = ap length w.in_ok-push.ensures.items ∙ length_push stack number in
                let before = c.loop-number.invariant.shift in
                rw (w.marks-is, w.stack-is) (omega arith);
          }
      | else-not-marks-number w ↦
          let mark : IsMarked marks number = grind (arith, common_steps, w.if-not-marks-number.false) in
          record {
            marked = rw (w.marks-is, w.stack-is) (marked_passed list i c.args.marks.now c.args.stack.now.items marks stack marked lt mark);
            shift = rw (w.marks-is, w.stack-is) c.loop-number.invariant.shift;
          }
    ]
