use Rattle.std.proofs.Common.{◌≡◌, ◌++◌, map, take}
use Rattle.std.specs.List.{flat_map}
use Rattle.type_check.specs.steps.Calling.{call_seen, calls_by}
use Rattle.type_check.proofs.expression_calls.+calling.Given as goal

abbrev pub invariant-push_args-loop-arg : goal.invariant-push_args-loop-arg
invariant-push_args-loop-arg l = map call_seen l.made.items ≡ map call_seen l.initial.made.items ++ flat_map (calls_by l.setting) (take l.arg-index l.arg-items)
