use Rattle.std.proofs.Common.{◌≡◌, map, take}
use Rattle.name_types.specs.steps.Generics.{placed_of}
use Rattle.name_types.proofs.bodies.placed_among.Given as goal

abbrev pub invariant-loop-extent : goal.invariant-loop-extent
invariant-loop-extent l = (l.at ≡ l.extent-index) × (l.made.items ≡ map (placed_of l.files) (take l.extent-index l.extents.all.items))
