use Rattle.std.proofs.Common.{◌≡◌, map, take}
use Rattle.ftn_tree.specs.Extents.{scoping}
use Rattle.name_types.specs.steps.Generics.{outside_candidate}
use Rattle.name_types.proofs.bodies.outside_candidates.Given as goal

abbrev pub invariant-loop-at : goal.invariant-loop-at
invariant-loop-at l = l.made.items ≡ map (outside_candidate l.files) (take l.at (scoping l.files))
