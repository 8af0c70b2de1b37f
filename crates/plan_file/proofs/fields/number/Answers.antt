use Rattle.std.proofs.Common.{sym, ◌∙◌}
use Rattle.plan_file.proofs.Fronts.{digits_are_text, number_read}
use Rattle.plan_file.proofs.fields.number.Goals as goal

pub returns-in_err-ok : goal.returns-in_err-ok
returns-in_err-ok c = λ n small is. absurd (digits_are_text c.from_utf8.result _ _ c.args.digits.now n c.from_utf8.ensures.cases (sym c.ok.ensures.value ∙ c.in_err-ok.was) small is)

pub returns : goal.returns
returns c = λ n small is.
    c.ok-2.ensures.value
    ∙ number_read (λ s. s.now) c.from_utf8.result _ c.in_ok-ok.field-0 c.args.digits.now n c.parse.result c.from_utf8.ensures.cases (sym c.ok.ensures.value ∙ c.in_ok-ok.was) c.parse.ensures.value.0 small is
