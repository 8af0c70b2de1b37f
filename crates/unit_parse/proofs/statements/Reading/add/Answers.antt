use Rattle.std.proofs.Common.{◌≡◌, sym, subst}
use Rattle.unit_parse.specs.declared.fault.ParseFault.{ParseFault}
use Rattle.unit_parse.specs.steps.Progress as spec
use Rattle.unit_parse.proofs.NextStatement.{goes, stays}
use Rattle.unit_parse.proofs.statements.Reading.add.Goals as goal

pub returns-in-Err-take_mark : goal.returns-in-Err-take_mark
returns-in-Err-take_mark c =
    subst (λ (found : ParseFault). spec.Stops c.args.tokens.now c.args.at c.args.self.now found) (sym c.refused.ensures)
    (stays c.args.tokens.now c.args.at c.args.self.now c.add_form.new.self c.in-Ok.form c.in_ok-mark-in-Ok.mark c.len-number.result c.in-Ok.ensures c.in_ok-mark-in-Ok.ensures c.len-number.ensures
    c.in-Err-take_mark.fault c.take_mark.new.self c.first_bytes-in-Err-take_mark.result c.in-Err-take_mark.ensures c.first_bytes-in-Err-take_mark.ensures)

pub returns : goal.returns
returns c =
    goes c.args.tokens.now c.args.at c.args.self.now c.add_form.new.self c.in-Ok.form c.in_ok-mark-in-Ok.mark c.len-number.result c.in-Ok.ensures c.in_ok-mark-in-Ok.ensures c.len-number.ensures
    c.take_mark.new.self c.in_default.ensures
