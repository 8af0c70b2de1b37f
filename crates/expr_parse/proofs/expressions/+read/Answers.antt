use Rattle.std.proofs.Common.{◌≡◌, ap, arith}
use Rattle.expr_parse.specs.steps.Reading.{read}
use Rattle.expr_parse.proofs.Turns.{deeper}
use Rattle.expr_parse.proofs.expressions.+read.Goals as goal

pub returns-then-depth-eq0 : goal.returns-then-depth-eq0
unfolding read
returns-then-depth-eq0 t c = let none : c.args.depth ≡ 0 = omega arith in ap (λ n. read n c.args.most c.args.cursor.now) none

pub returns : goal.returns
unfolding read
returns t c = rw (deeper (λ n. read n c.args.most c.args.cursor.now) c.args.depth (omega arith)) c.level.ensures
