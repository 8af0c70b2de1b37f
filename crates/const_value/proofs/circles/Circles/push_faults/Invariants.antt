use Rattle.std.proofs.Common.{◌≡◌}
use Rattle.std.specs.List.{flat_map, range_with_len}
use Rattle.const_value.specs.steps.Findings.{gathered}
use Rattle.const_value.specs.steps.References.{circles_of, file_of}
use Rattle.const_value.specs.steps.Told.{first_seen}
use Rattle.const_value.proofs.circles.Circles.push_faults.Given as goal

abbrev pub invariant-loop-name : goal.invariant-loop-name
invariant-loop-name l = first_seen l.faults ≡ gathered (first_seen l.initial.faults) (flat_map (λ name. circles_of l.self name (file_of l.project.names.items name)) (range_with_len 0 l.name))
