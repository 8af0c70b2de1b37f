use Rattle.std.proofs.Common.{◌≡◌, take}
use Rattle.std.specs.List.{flat_map}
use Rattle.ftn_tree.specs.Sayings.{mentions_at}
use Rattle.decl_table.proofs.said_lists.own_list.Given as goal

abbrev pub invariant-loop-statement : goal.invariant-loop-statement
invariant-loop-statement l = l.own.items ≡ flat_map (mentions_at l.files l.unit.file) (take l.statement-index l.statement-items)
