use Rattle.const_value.specs.steps.Lists.{lists_of}
use Rattle.const_value.specs.steps.Searching.{IsMarked, IsSearch, Stays, left_all}
use Rattle.const_value.proofs.components.finish_from.Given as goal

abbrev pub invariant-turns : goal.invariant-turns
invariant-turns l = record {
  search : IsSearch (lists_of l.uses) l.seen l.stack.items l.order.items;
  stays : Stays l.fn.seen l.seen;
  start : IsMarked l.seen l.start;
}

abbrev pub decreases-turns : goal.decreases-turns
decreases-turns l = left_all (lists_of l.uses) l.seen l.stack.items
