use Rattle.std.proofs.Common.{◌≡◌, ◌++◌, map, take}
use Rattle.ftn_tree.specs.Roles.{mention}
use Rattle.ftn_tree.proofs.mentions.naming.push_names.Given as goal

abbrev pub invariant-loop-name : goal.invariant-loop-name
invariant-loop-name l = l.found.items ≡ l.initial.found.items ++ map (λ token. mention token l.role) (take l.name-index l.names)
