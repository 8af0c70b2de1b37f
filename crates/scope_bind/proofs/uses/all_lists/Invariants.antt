use Rattle.std.proofs.Common.{◌≡◌, map, take}
use Rattle.ftn_tree.specs.Extents.{scoping}
use Rattle.ftn_tree.specs.Meanings.{use_lists}
use Rattle.scope_bind.proofs.uses.all_lists.Given as goal

abbrev pub invariant-loop-at : goal.invariant-loop-at
invariant-loop-at l = map (λ one. one.items) l.made.items ≡ map (use_lists l.known.files.now) (take l.at (scoping l.known.files.now))
