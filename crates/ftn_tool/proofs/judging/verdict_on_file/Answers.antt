use Rattle.std.proofs.Common.{◌≤◌, length, arith}
use Rattle.ftn_base.specs.Limits.{most_first_form_bytes}
use Rattle.ftn_tool.proofs.FormVerdicts.{order_judged}
use Rattle.ftn_tool.proofs.judging.verdict_on_file.Goals as goal

pub returns : goal.returns
returns c =
    let size : length c.args.text.now ≤ most_first_form_bytes = omega arith in
    order_judged c.args.order.now c.args.name.now c.args.text.now c.in-Some.form.program c.in-Some.form.tokens c.in_ok-judgement.judgement c.judged.result size
    (rw c.in-Some.is at c.in_ok-form.ensures.program) (rw c.in-Some.is at c.in_ok-form.ensures.tokens) (rw c.as_slice.ensures at c.in_ok-judgement.ensures) c.judged.ensures
