use Rattle.ftn_tree.specs.ExecutableForms.{is_executable}
use Rattle.expr_parse.specs.steps.Input.{tokens_in}
use Rattle.expr_parse.proofs.Fitting.{answer_deep, answer_fit, answer_misfit}
use Rattle.exec_parse.proofs.executables.executable.Goals as goal

pub returns-then-is_deep : goal.returns-then-is_deep
returns-then-is_deep c =
    answer_deep is_executable c.args.at.start (tokens_in c.args.tokens.now.items c.args.at) c.new-cursor.result c.rest-all.result.now c.is_deep.result c.new-cursor.ensures c.rest-all.ensures
    c.is_deep.ensures c.if-is_deep.true

pub returns-in-Ok : goal.returns-in-Ok
returns-in-Ok c =
    answer_fit is_executable c.args.at.start (tokens_in c.args.tokens.now.items c.args.at) c.new-cursor.result c.rest-all.result.now c.is_deep.result c.new-cursor.ensures c.rest-all.ensures
    c.is_deep.ensures c.in-Ok.form c.if-is_deep.false c.in-Ok.ensures

pub returns-in-Err-NoFit : goal.returns-in-Err-NoFit
returns-in-Err-NoFit c =
    let none = rw c.in-Err-NoFit.field-0-is at c.in-Err-NoFit.ensures in
    answer_misfit is_executable c.args.at.start (tokens_in c.args.tokens.now.items c.args.at) c.new-cursor.result c.rest-all.result.now c.is_deep.result c.new-cursor.ensures c.rest-all.ensures
    c.is_deep.ensures c.misfit.result c.if-is_deep.false none c.misfit.ensures
