-- What is told, as findings of a file. It serves the proof alone.
use Rattle.std.specs.Prelude.{ℕ, List, map, Option}
use Rattle.std.specs.Option.{option_map}
use Rattle.ftn_tree.specs.DeclarationFaults.{Finding}
use Rattle.ftn_tree.specs.ExpressionTypes as spec
use Rattle.ftn_tree.specs.TypeFaults.{finding}
use Rattle.type_check.specs.declared.faults.Faults.{Faults}
use Rattle.type_check.specs.steps.Findings.{finding_seen, gathered}

abbrev pub first_seen : Faults → Option Finding
first_seen faults = option_map finding_seen faults.first

abbrev pub told_found : ℕ → Option spec.Told → Option Finding
told_found file told = option_map (finding file) told

-- the first, where one has looked at these too
abbrev pub noted : ℕ → Option Finding → List spec.Told → Option Finding
noted file first told = gathered first (map (finding file) told)
