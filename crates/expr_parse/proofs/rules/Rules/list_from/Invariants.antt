use Rattle.std.proofs.Common.{◌≡◌, ◌-◌}
use Rattle.expr_parse.specs.steps.Combinators.{each_after_comma_from}
use Rattle.ftn_tree.specs.Levels.{loosest}
use Rattle.expr_parse.specs.steps.Reading.{list_from, read}
use Rattle.expr_parse.proofs.rules.Rules.list_from.Given as goal

abbrev pub invariant-loop-turn : goal.invariant-loop-turn
invariant-loop-turn g l = list_from (read l.self.depth) l.fn.first l.fn.cursor ≡ each_after_comma_from (read l.self.depth loosest) (l._turn-end - l._turn) l.found l.cursor
