use Rattle.std.proofs.Common.{◌≡◌, ◌∷◌, take}
use Rattle.std.specs.List.{flat_map}
use Rattle.std.specs.Fmt.{signed_decimal}
use Rattle.rename_ref.proofs.first_meaning.statement.line_of.Given as goal

abbrev pub invariant-loop-number : goal.invariant-loop-number
invariant-loop-number l = l.line.items ≡ flat_map (λ z. 32 ∷ signed_decimal z) (take l.number-index l.numbers)
