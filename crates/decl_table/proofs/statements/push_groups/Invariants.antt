use Rattle.std.proofs.Common.{◌≡◌, ◌++◌, take}
use Rattle.std.specs.List.{flat_map}
use Rattle.ftn_tree.specs.ScopeLetters.{given_group}
use Rattle.decl_table.proofs.statements.push_groups.Given as goal

abbrev pub invariant-loop-group : goal.invariant-loop-group
invariant-loop-group l = l.found.items ≡ l.initial.found.items ++ flat_map (given_group l.files l.file) (take l.group-index l.groups)
