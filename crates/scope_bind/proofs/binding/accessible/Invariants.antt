use Rattle.std.proofs.Common.{◌≡◌, map, take}
use Rattle.scope_bind.specs.steps.Binding.{final_pair}
use Rattle.scope_bind.proofs.binding.accessible.Given as goal

abbrev pub invariant-loop-one : goal.invariant-loop-one
invariant-loop-one l = l.found ≡ map (map (final_pair l.numbers)) (take l.one-index l.used)
