use Rattle.std.proofs.Common.{◌≡◌, drop}
use Rattle.std.specs.List.{filter, list_any}
use Rattle.ftn_tree.specs.Sayings.{same_name, typed}
use Rattle.decl_table.proofs.unit_drafts.is_typed.Given as goal

abbrev pub invariant-loop-s : goal.invariant-loop-s
invariant-loop-s l = list_any typed (filter (same_name l.name) l.said) ≡ list_any typed (filter (same_name l.name) (drop l.s-index l.said))
