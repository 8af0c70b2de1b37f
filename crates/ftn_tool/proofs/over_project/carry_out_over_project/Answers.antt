use Rattle.std.proofs.Common.{◌≡◌, refl}
use Rattle.ftn_tool.specs.Lines.{limit_line, pending_line}
use Rattle.ftn_tool.proofs.Applying.{answers, answers_limit, answers_waiting, carries_since}
use Rattle.ftn_tool.proofs.over_project.carry_out_over_project.Goals as goal

pub returns-in-Ok-due : goal.returns-in-Ok-due
returns-in-Ok-due g c =
    answers c.rename_keeps.ensures c.one_answer_per_text.ensures c.args.command.now _ c.carry_out.result c.in-Ok.files.items c.in-Ok-due.line c.in-Ok-due.verdict c.in-Ok.ensures.within
    (rw c.deref.ensures.value at c.in-Ok-due.ensures.due) c.in-Ok.ensures.files c.in-Ok.ensures.planless c.in-Ok.ensures.order
    (carries_since c.in-Ok-due.line c.in-Ok-due.verdict _ _ _ _ _ _ _ _ _ _ _ _ c.carry_out.result c.project_files.ensures.same c.project_files.ensures.later (rw c.bytes.ensures at c.carry_out.ensures.carried))

pub returns-in-Err-Past : goal.returns-in-Err-Past
returns-in-Err-Past g c =
    let line_is : c.limit_line.result.now ≡ limit_line c.in-Err-Past.limit = cc (c.limit_line.ensures, c.in-Err-Past.limit-is) in
    rw c.say-in-Err-Past.ensures.status (
    answers_limit c.one_answer_per_text.ensures c.args.command.now _ c.in-Err-Past.limit (rw c.in-Err-Past.field-0-is at c.in-Err-Past.ensures.stopped) c.project_files.ensures.same
    c.limit_line.result.now line_is (record { front = c.say-in-Err-Past.ensures.front; whole = λ holds. c.say-in-Err-Past.ensures.whole holds.0 holds.1 }))

pub returns-in-Err-Waiting : goal.returns-in-Err-Waiting
returns-in-Err-Waiting g c =
    rw c.say.ensures.status (
    answers_waiting c.one_answer_per_text.ensures c.args.command.now _ (rw c.in-Err-Waiting.field-0-is at c.in-Err-Waiting.ensures.stopped) c.project_files.ensures.same
    pending_line refl (record { front = c.say.ensures.front; whole = λ holds. c.say.ensures.whole holds.0 holds.1 }))
