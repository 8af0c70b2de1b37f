use Rattle.std.proofs.Common.{◌≡◌, map, take}
use Rattle.implicit_type.proofs.rows.types_of.Given as goal

abbrev pub invariant-loop-entry : goal.invariant-loop-entry
invariant-loop-entry l = l.types.items ≡ map (λ entry. entry.0) (take l.entry-index l.entries)
