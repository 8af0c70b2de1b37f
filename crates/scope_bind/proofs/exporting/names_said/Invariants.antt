use Rattle.std.proofs.Common.{◌≡◌, map, filter, take}
use Rattle.ftn_tree.specs.Roles.{says}
use Rattle.ftn_tree.specs.Sayings.{Saying}
use Rattle.scope_bind.proofs.exporting.names_said.Given as goal

abbrev pub invariant-loop-s : goal.invariant-loop-s
invariant-loop-s l = l.names ≡ map (λ (s : Saying). s.name) (filter (λ s. says l.role s.said) (take l.s-index l.said))
