use Rattle.std.proofs.Common.{sym, ap, ◌∙◌, cond, None, Some}
use Rattle.free_scan.proofs.OneProgram.{clean_given}
use Rattle.free_scan.proofs.first_form.reading.read_clean.Goals as goal

pub returns-in_default : goal.returns-in_default
returns-in_default c =
    sym (clean_given (λ row. row.now) c.deref.result.now c.args.pieces.now None (rw c.deref.ensures.value c.in_ok-rows.ensures) (sym c.in_ok-program.ensures ∙ c.in_default.is))

pub returns-then-branch : goal.returns-then-branch
returns-then-branch c =
    sym (clean_given (λ row. row.now) c.deref.result.now c.args.pieces.now (Some c.in-Some.program) (rw c.deref.ensures.value c.in_ok-rows.ensures) (sym c.in_ok-program.ensures ∙ c.in-Some.is)
    ∙ ap (λ b. cond b (Some c.in-Some.program) None) (sym c.in_ok-is_clean.ensures ∙ c.if-branch.true))

pub returns : goal.returns
returns c =
    sym (clean_given (λ row. row.now) c.deref.result.now c.args.pieces.now (Some c.in-Some.program) (rw c.deref.ensures.value c.in_ok-rows.ensures) (sym c.in_ok-program.ensures ∙ c.in-Some.is)
    ∙ ap (λ b. cond b (Some c.in-Some.program) None) (sym c.in_ok-is_clean.ensures ∙ c.if-branch.false))
