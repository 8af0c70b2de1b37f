use Rattle.std.proofs.Common.{◌≡◌, ◌-◌}
use Rattle.spec_parse.specs.steps.Blocks as spec
use Rattle.spec_parse.proofs.common.groups_from.Given as goal

abbrev pub invariant-turns : goal.invariant-turns
invariant-turns l = spec.all_groups l.fn.first l.fn.cursor ≡ spec.groups_from (l._turn-end - l._turn) l.found l.cursor
