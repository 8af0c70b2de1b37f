use Rattle.std.proofs.Common.{◌≡◌, ◌++◌, map, take}
use Rattle.type_check.specs.steps.Calling.{call_seen, placed_by}
use Rattle.type_check.proofs.statement_calls.push_placed.Given as goal

abbrev pub invariant-loop-one : goal.invariant-loop-one
invariant-loop-one l = map call_seen l.made.items ≡ map call_seen l.initial.made.items ++ placed_by l.setting (take l.one-index l.placed)
