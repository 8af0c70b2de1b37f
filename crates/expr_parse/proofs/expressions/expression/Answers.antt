use Rattle.expr_parse.specs.steps.Input.{tokens_in}
use Rattle.expr_parse.specs.steps.Reading.{whole_expression}
use Rattle.expr_parse.proofs.Laws.{expressions}
use Rattle.expr_parse.proofs.Judging.{answer_deep, answer_read, answer_misfit}
use Rattle.expr_parse.proofs.expressions.expression.Goals as goal

pub returns-then-is_deep : goal.returns-then-is_deep
returns-then-is_deep c =
    answer_deep expressions c.args.at.start (tokens_in c.args.tokens.now.items c.args.at) c.new-cursor.result c.rest-all.result.now c.is_deep.result c.new-cursor.ensures c.rest-all.ensures
    c.is_deep.ensures c.if-is_deep.true

pub returns-in-Ok : goal.returns-in-Ok
unfolding whole_expression
returns-in-Ok c =
    answer_read expressions c.args.at.start (tokens_in c.args.tokens.now.items c.args.at) c.new-cursor.result c.rest-all.result.now c.is_deep.result c.new-cursor.ensures c.rest-all.ensures
    c.is_deep.ensures c.in-Ok.found c.whole_expression.new.cursor c.if-is_deep.false c.in-Ok.ensures

pub returns-in-Err-NoFit : goal.returns-in-Err-NoFit
unfolding whole_expression
returns-in-Err-NoFit c =
    let read = rw c.in-Err-NoFit.field-0-is at c.in-Err-NoFit.ensures in
    answer_misfit expressions c.args.at.start (tokens_in c.args.tokens.now.items c.args.at) c.new-cursor.result c.rest-all.result.now c.is_deep.result c.new-cursor.ensures c.rest-all.ensures
    c.is_deep.ensures c.misfit.result c.if-is_deep.false read c.misfit.ensures
