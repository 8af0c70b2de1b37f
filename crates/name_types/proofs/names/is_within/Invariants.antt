use Rattle.std.proofs.Common.{◌≡◌, ◌-◌}
use Rattle.name_types.specs.steps.Senses.{is_inside, is_within}
use Rattle.name_types.proofs.names.is_within.Given as goal

abbrev pub invariant-loop : goal.invariant-loop
invariant-loop l = is_inside l.hosts l.outer l.scope ≡ is_within (l.end - l.counter) l.hosts l.outer l.at
