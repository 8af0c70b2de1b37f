use Rattle.std.proofs.Common.{◌≡◌, ◌+◌, ◌∷◌, length, take, All}
use Rattle.module_graph.specs.Uses.{used_lists}
use Rattle.module_graph.specs.steps.Groups.{HasNumber, IsGiving, without_number}
use Rattle.module_graph.proofs.groups.give_each.Given as goal

abbrev pub invariant-loop-used : goal.invariant-loop-used
invariant-loop-used l = record {
  giving : IsGiving (used_lists l.uses) l.number l.numbers (l.user ∷ l.stack.items);
  done : All (HasNumber l.numbers) (take l.used-index l.used-items);
  shift : without_number l.numbers + length l.stack.items ≡ without_number l.initial.numbers + length l.initial.stack.items;
}
