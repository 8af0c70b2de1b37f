use Rattle.std.proofs.Common.{◌≡◌, ◌-◌}
use Rattle.spec_parse.specs.steps.Data as spec
use Rattle.spec_parse.proofs.data.groups_from.Given as goal

abbrev pub invariant-turns : goal.invariant-turns
invariant-turns l = spec.all_groups l.fn.first l.fn.cursor ≡ spec.each_from spec.later_group (l._turn-end - l._turn) l.found l.cursor
