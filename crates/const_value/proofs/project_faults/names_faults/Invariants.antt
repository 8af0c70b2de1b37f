use Rattle.std.proofs.Common.{◌≡◌}
use Rattle.std.specs.List.{flat_map, range_with_len}
use Rattle.const_value.specs.steps.Findings.{gathered}
use Rattle.const_value.specs.steps.Shaping.{name_told}
use Rattle.const_value.specs.steps.Told.{first_seen}
use Rattle.const_value.proofs.project_faults.names_faults.Given as goal

abbrev pub invariant-loop-name : goal.invariant-loop-name
invariant-loop-name l = first_seen l.faults ≡ gathered (first_seen l.initial.faults) (flat_map (name_told l.project l.all.known.items l.all.namings.items) (range_with_len 0 l.name))
