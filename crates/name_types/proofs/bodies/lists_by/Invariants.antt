use Rattle.std.proofs.Common.{◌≡◌, ◌<◌, ℕ, length, take}
use Rattle.std.specs.List.{filter_map}
use Rattle.const_value.specs.steps.Lists.{lists_of}
use Rattle.name_types.specs.steps.Generics.{list_at, in_place}
use Rattle.name_types.proofs.bodies.lists_by.Given as goal

abbrev pub invariant-loop-one : goal.invariant-loop-one
invariant-loop-one l =
    (length (lists_of l.lists.items) ≡ l.count)
    × ((at : ℕ) → at < l.count → list_at (lists_of l.lists.items) at ≡ filter_map (in_place at) (take l.one-index l.placed))
