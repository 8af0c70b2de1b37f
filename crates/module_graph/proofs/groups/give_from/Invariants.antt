use Rattle.std.proofs.Common.{◌+◌, length}
use Rattle.module_graph.specs.Uses.{used_lists}
use Rattle.module_graph.specs.steps.Groups.{IsGiving, without_number}
use Rattle.module_graph.proofs.groups.give_from.Given as goal

abbrev pub invariant-turns : goal.invariant-turns
invariant-turns l = IsGiving (used_lists l.uses) l.number l.numbers l.stack.items

abbrev pub decreases-turns : goal.decreases-turns
decreases-turns l = without_number l.numbers + length l.stack.items
