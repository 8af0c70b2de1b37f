use Rattle.std.proofs.Common.{Ok, Err}
use Rattle.ftn_tree.specs.FileFaults.{is_statement}
use Rattle.expr_parse.specs.steps.Input.{tokens_in}
use Rattle.expr_parse.specs.declared.fault.StatementFault.TheVariants.{TooDeep}
use Rattle.expr_parse.proofs.Fitting.{answer_deep, answer_fit, answer_misfit}
use Rattle.unit_parse.proofs.Misreads.{exact_form}
use Rattle.unit_parse.proofs.forms.read_form.Goals as goal

pub returns-then-is_deep : goal.returns-then-is_deep
returns-then-is_deep c =
    exact_form c.args.tokens.now c.args.at (Err TooDeep)
    (answer_deep is_statement c.args.at.start (tokens_in c.args.tokens.now.items c.args.at) c.new-cursor.result c.rest-all.result.now c.is_deep.result c.new-cursor.ensures c.rest-all.ensures
    c.is_deep.ensures c.if-is_deep.true)

pub returns-in-Ok : goal.returns-in-Ok
returns-in-Ok c =
    exact_form c.args.tokens.now c.args.at (Ok c.in-Ok.form)
    (answer_fit is_statement c.args.at.start (tokens_in c.args.tokens.now.items c.args.at) c.new-cursor.result c.rest-all.result.now c.is_deep.result c.new-cursor.ensures c.rest-all.ensures
    c.is_deep.ensures c.in-Ok.form c.if-is_deep.false c.in-Ok.ensures)

pub returns-in-Err-NoFit : goal.returns-in-Err-NoFit
returns-in-Err-NoFit c =
    let none = rw c.in-Err-NoFit.field-0-is at c.in-Err-NoFit.ensures in
    exact_form c.args.tokens.now c.args.at (Err c.misfit.result)
    (answer_misfit is_statement c.args.at.start (tokens_in c.args.tokens.now.items c.args.at) c.new-cursor.result c.rest-all.result.now c.is_deep.result c.new-cursor.ensures c.rest-all.ensures
    c.is_deep.ensures c.misfit.result c.if-is_deep.false none c.misfit.ensures)
