use Rattle.expr_parse.proofs.expressions.+read.Given as goal

abbrev pub decreases-read : goal.decreases-read
decreases-read l = l.depth
