use Rattle.std.proofs.Common.{◌≡◌, ◌++◌, map, take}
use Rattle.std.specs.List.{flat_map}
use Rattle.ftn_tree.specs.Calls.{statement_calls}
use Rattle.type_check.specs.steps.Calling.{call_seen}
use Rattle.type_check.proofs.calls.push_statements.Given as goal

abbrev pub invariant-loop-statement : goal.invariant-loop-statement
invariant-loop-statement l = map call_seen l.made.items ≡ map call_seen l.initial.made.items ++ flat_map (statement_calls l.files l.unit) (take l.statement-index l.statements)
