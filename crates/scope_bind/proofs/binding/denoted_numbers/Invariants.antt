use Rattle.std.proofs.Common.{◌≡◌, map, take}
use Rattle.scope_bind.specs.declared.occurrences.Denoted.{Denoted}
use Rattle.scope_bind.specs.steps.Binding.{final_of}
use Rattle.scope_bind.proofs.binding.denoted_numbers.Given as goal

abbrev pub invariant-loop-one : goal.invariant-loop-one
invariant-loop-one l = l.found ≡ map (λ (d : Denoted). final_of l.numbers d.meaning) (take l.one-index l.denoted)
