use Rattle.std.proofs.Common.{◌+◌, ◌<◌, [], length, All}
use Rattle.module_graph.specs.Uses.{used_lists}
use Rattle.module_graph.specs.steps.Groups.{IsGiving}
use Rattle.module_graph.proofs.groups.group_numbers.Given as goal

abbrev pub invariant-roots : goal.invariant-roots
invariant-roots l = record {
  known : All (λ number. number < length l.uses) l.left.items;
  giving : IsGiving (used_lists l.uses) (length l.left.items + 1) l.numbers.items [];
}

abbrev pub decreases-roots : goal.decreases-roots
decreases-roots l = length l.left.items
