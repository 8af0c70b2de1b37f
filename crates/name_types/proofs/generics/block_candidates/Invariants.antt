use Rattle.std.proofs.Common.{◌≡◌, map, take}
use Rattle.name_types.specs.steps.Generics.{block_candidate}
use Rattle.name_types.proofs.generics.block_candidates.Given as goal

abbrev pub invariant-loop-extent : goal.invariant-loop-extent
invariant-loop-extent l = l.made.items ≡ map (block_candidate l.files) (take l.extent-index l.all)
