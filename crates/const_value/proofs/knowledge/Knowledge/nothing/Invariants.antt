use Rattle.std.proofs.Common.{◌≡◌, ℕ, map}
use Rattle.std.specs.List.{range_with_len}
use Rattle.const_value.specs.steps.Knowing.{naming_at, unknown}
use Rattle.const_value.proofs.knowledge.Knowledge.nothing.Given as goal

abbrev pub invariant-loop-name : goal.invariant-loop-name
invariant-loop-name l = l.known.items ≡ map (λ (name : ℕ). unknown) (range_with_len 0 l._name)

abbrev pub invariant-loop-number : goal.invariant-loop-number
invariant-loop-number l = l.namings.items ≡ map (naming_at l.project) (range_with_len 0 l.number)
