use Rattle.std.proofs.Common.{◌≡◌, drop}
use Rattle.ftn_tree.specs.NestFaults as faults
use Rattle.unit_parse.specs.Taking as spec
use Rattle.unit_parse.proofs.nesting.take_all.Given as goal

-- going on from the state now with the statements left is going through them all
abbrev pub invariant-loop-statement : goal.invariant-loop-statement
invariant-loop-statement l =
    (l.number ≡ l.statement-index)
    × (spec.take_all (faults.same_name l.tokens) spec.start 0 (faults.marks_of l.statements)
    ≡ spec.take_all (faults.same_name l.tokens) l.nesting l.number (faults.marks_of (drop l.statement-index l.statements)))
