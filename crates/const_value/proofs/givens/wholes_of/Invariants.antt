use Rattle.std.proofs.Common.{◌≡◌, ◌++◌, drop}
use Rattle.std.specs.Option.{option_map}
use Rattle.const_value.specs.steps.Giving.{wholes_by}
use Rattle.const_value.specs.steps.Measuring.{given}
use Rattle.const_value.proofs.givens.wholes_of.Given as goal

abbrev pub invariant-loop-subscript : goal.invariant-loop-subscript
invariant-loop-subscript l = wholes_by (given l.view) l.subscripts ≡ option_map (λ rest. l.found.items ++ rest) (wholes_by (given l.view) (drop l.subscript-index l.subscripts))
