use Rattle.ftn_tree.specs.Specifications.{is_specification}
use Rattle.expr_parse.specs.steps.Input.{tokens_in}
use Rattle.expr_parse.proofs.Fitting.{answer_deep, answer_fit, answer_misfit, answer_none}
use Rattle.spec_parse.proofs.specifications.specification.Goals as goal

pub returns-then-is_deep : goal.returns-then-is_deep
returns-then-is_deep c =
    answer_deep is_specification c.args.at.start (tokens_in c.args.tokens.now.items c.args.at) c.new-cursor.result c.rest-all.result.now c.is_deep.result c.new-cursor.ensures c.rest-all.ensures
    c.is_deep.ensures c.if-is_deep.true

-- an assignment is no specification
pub returns-then-is_assignment : goal.returns-then-is_assignment
returns-then-is_assignment c =
    answer_none is_specification c.args.at.start (tokens_in c.args.tokens.now.items c.args.at) c.new-cursor.result c.rest-all.result.now c.is_deep.result c.new-cursor.ensures c.rest-all.ensures
    c.is_deep.ensures c.misfit-fault.result c.if-is_deep.false (λ form says. says.0 (c.is_assignment.ensures.told c.if-is_assignment.true)) c.misfit-fault.ensures

pub returns-in-Ok : goal.returns-in-Ok
returns-in-Ok c =
    answer_fit is_specification c.args.at.start (tokens_in c.args.tokens.now.items c.args.at) c.new-cursor.result c.rest-all.result.now c.is_deep.result c.new-cursor.ensures c.rest-all.ensures
    c.is_deep.ensures c.in-Ok.form c.if-is_deep.false c.in-Ok.ensures

pub returns-in-Err-NoFit : goal.returns-in-Err-NoFit
returns-in-Err-NoFit c =
    let none = rw c.in-Err-NoFit.field-0-is at c.in-Err-NoFit.ensures in
    answer_misfit is_specification c.args.at.start (tokens_in c.args.tokens.now.items c.args.at) c.new-cursor.result c.rest-all.result.now c.is_deep.result c.new-cursor.ensures c.rest-all.ensures
    c.is_deep.ensures c.misfit.result c.if-is_deep.false none c.misfit.ensures
