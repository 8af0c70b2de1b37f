use Rattle.std.proofs.Common.{◌≡◌, ◌+◌, ◌-◌}
use Rattle.std.specs.List.{find, range_with_len}
use Rattle.ftn_base.specs.ImplicitLetters.{first_given, is_given}
use Rattle.implicit_type.proofs.rows.any_given.Given as goal

abbrev pub invariant-loop-letter : goal.invariant-loop-letter
invariant-loop-letter l = first_given l.from l.to l.entries ≡ find (is_given l.entries) (range_with_len l.letter (l.to + 1 - l.letter))
