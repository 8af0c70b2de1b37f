use Rattle.std.proofs.Common.{◌≡◌, ◌-◌}
use Rattle.expr_parse.specs.steps.Input.{Reader}
use Rattle.expr_parse.specs.steps.Callable.{Reads}
use Rattle.expr_parse.specs.steps.Combinators as spec
use Rattle.expr_parse.proofs.list.each_after_comma.Given as goal

abbrev pub invariant-turns : goal.invariant-turns
invariant-turns g l = (reader : Reader g.row.T.Denot) → Reads reader (goal.F-post g l.read) → spec.each_after_comma reader l.fn.cursor ≡ spec.each_after_comma_from reader (l._turn-end - l._turn) l.found l.cursor
