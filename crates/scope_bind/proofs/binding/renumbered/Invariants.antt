use Rattle.std.proofs.Common.{◌≡◌, map, take}
use Rattle.scope_bind.specs.steps.Binding.{final_pair}
use Rattle.scope_bind.proofs.binding.renumbered.Given as goal

abbrev pub invariant-loop-pair : goal.invariant-loop-pair
invariant-loop-pair l = l.found ≡ map (final_pair l.numbers) (take l.pair-index l.pairs)
