use Rattle.std.proofs.Common.{ℕ}
use Rattle.storage_layout.specs.steps.EndTable.{end_in}
use Rattle.storage_layout.specs.steps.Ends.{IsGreatest}
use Rattle.storage_layout.proofs.ends.ends_of.Given as goal

abbrev pub invariant-loop-number : goal.invariant-loop-number
invariant-loop-number l = (block scope : ℕ)
    → IsGreatest l.things.members.items l.things.ties.items l.tied.class.items l.tied.offset.items l.tied.size.items l.number block scope (end_in l.ends.ends block scope)
