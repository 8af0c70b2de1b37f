use Rattle.std.proofs.Common.{◌≤◌, take, get_or, All}
use Rattle.storage_layout.proofs.extension.extends_before.Given as goal

abbrev pub invariant-loop-tie : goal.invariant-loop-tie
invariant-loop-tie l = All (λ tie. get_or l.offset tie.b 0 ≤ tie.at_a) (take l.tie-index l.members)
