use Rattle.std.proofs.Common.{All}
use Rattle.module_graph.specs.Uses.{used_lists}
use Rattle.module_graph.specs.steps.Marks.{IsEntry, IsSearch, to_do}
use Rattle.module_graph.specs.steps.Walks.{modules_of}
use Rattle.module_graph.proofs.search.way_back.Given as goal

abbrev pub invariant-steps : goal.invariant-steps
invariant-steps l = record {
  search : IsSearch (used_lists l.uses) l.from l.marks.items (modules_of l.path.items);
  entries : All (IsEntry (used_lists l.uses) l.marks.items) l.path.items;
}

abbrev pub decreases-steps : goal.decreases-steps
decreases-steps l = to_do l.marks.items l.path.items
