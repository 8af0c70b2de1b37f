use Rattle.std.proofs.Common.{◌-◌, length, All, take}
use Rattle.module_graph.specs.steps.Marks.{IsMarked}
use Rattle.module_graph.proofs.entries.next_open.Given as goal

abbrev pub invariant-entries : goal.invariant-entries
invariant-entries l = All (IsMarked l.marks) (take l.at l.list)

abbrev pub decreases-entries : goal.decreases-entries
decreases-entries l = length l.list - l.at
