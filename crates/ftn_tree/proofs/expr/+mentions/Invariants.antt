use Rattle.std.proofs.Common.{◌≡◌, ◌++◌, take}
use Rattle.std.specs.List.{flat_map}
use Rattle.ftn_tree.specs.Expressions.{mentions_in}
use Rattle.ftn_tree.proofs.expr.+mentions.Given as goal

abbrev pub invariant-push_in_args-loop-arg : goal.invariant-push_in_args-loop-arg
invariant-push_in_args-loop-arg l = l.mentions.items ≡ l.initial.mentions.items ++ flat_map mentions_in (take l.arg-index l.arg-items)
