use Rattle.std.proofs.Common.{◌≡◌, ◌++◌, map, take}
use Rattle.const_value.specs.steps.Intervals.{ends_of}
use Rattle.const_value.proofs.intervals.push_ends.Given as goal

abbrev pub invariant-loop-span : goal.invariant-loop-span
invariant-loop-span l = l.found.items ≡ l.initial.found.items ++ map ends_of (take l.span-index l.list)
