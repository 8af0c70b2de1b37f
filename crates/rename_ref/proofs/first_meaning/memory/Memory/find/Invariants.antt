use Rattle.std.proofs.Common.{◌≡◌, reverse, take, length, ◌≤◌}
use Rattle.std.specs.Map.{lookup}
use Rattle.std.specs.Str.{bytes_eq}
use Rattle.rename_ref.proofs.first_meaning.memory.Memory.find.Given as goal

abbrev pub invariant-loop-at : goal.invariant-loop-at
invariant-loop-at l = record {
  within : l.at ≤ length l.self-inside.stored.items;
  found : lookup (bytes_eq l.name) l.self ≡ lookup (bytes_eq l.name) (reverse (take l.at l.self-inside.stored.items));
}

abbrev pub decreases-loop-at : goal.decreases-loop-at
decreases-loop-at l = l.at
