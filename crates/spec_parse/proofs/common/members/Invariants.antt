use Rattle.std.proofs.Common.{◌≡◌, ◌-◌}
use Rattle.spec_parse.specs.steps.Blocks as spec
use Rattle.spec_parse.proofs.common.members.Given as goal

abbrev pub invariant-turns : goal.invariant-turns
invariant-turns l = spec.members l.fn.cursor ≡ spec.members_from (l._turn-end - l._turn) l.found l.cursor
