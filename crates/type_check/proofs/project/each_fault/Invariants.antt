use Rattle.std.proofs.Common.{◌≡◌, take}
use Rattle.std.specs.List.{flat_map}
use Rattle.ftn_tree.specs.TypeFaults.{statement_told}
use Rattle.type_check.specs.steps.Noted.{first_seen, noted}
use Rattle.type_check.proofs.project.each_fault.Given as goal

abbrev pub invariant-loop-statement : goal.invariant-loop-statement
invariant-loop-statement l = first_seen l.faults ≡ noted l.unit.file (first_seen l.initial.faults) (flat_map (statement_told l.files l.unit) (take l.statement-index l.statements))
