use Rattle.std.proofs.Common.{◌≡◌, map, take}
use Rattle.ftn_tree.specs.Extents.{scoping}
use Rattle.scope_bind.specs.steps.Globals.{outer_candidate}
use Rattle.scope_bind.proofs.candidates.outer_candidates.Given as goal

abbrev pub invariant-loop-at : goal.invariant-loop-at
invariant-loop-at l = l.made.items ≡ map (outer_candidate l.files l.sort) (take l.at (scoping l.files))
