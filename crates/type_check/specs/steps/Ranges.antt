-- What the code keeps of subscripts, arguments and ranges. It serves the proof alone.
use Rattle.std.specs.Prelude.{List, Vec, map, Option}
use Rattle.std.specs.Option.{option_map}
use Rattle.type_check.specs.declared.data_references.Range.{Range}
use Rattle.type_check.specs.declared.typed.Typed.{Typed}
use Rattle.type_check.specs.steps.Kept.{Sight, typed_seen}
use Rattle.type_check.specs.steps.Sights as sights

abbrev pub ends_kept : Range → Option Sight × Option Sight
ends_kept range = (option_map typed_seen range.low, option_map typed_seen range.high)

abbrev pub range_kept : Option Range → sights.Range
range_kept range = option_map ends_kept range

abbrev pub given_seen : {A : Type 0} → Option (Vec Typed A) → Option (List Sight)
given_seen given = option_map (λ parts. map typed_seen parts.items) given
