-- What objects and values of DATA are by what the code keeps of names, and what is told of a group. It serves the proof alone.
use Rattle.std.specs.Prelude.{ℕ, ◌-◌, ◌^◌, ◌==◌, min, Bool, false, not, ◌||◌, if◌then◌else◌, List, [], ◌++◌, map, slice_get, Option, Some, None}
use Rattle.std.specs.List.{flat_map, list_any}
use Rattle.std.specs.Option.{is_none, option_map, option_map_or, option_and_then}
use Rattle.ftn_base.specs.declared.entity.Shape.{Shape}
use Rattle.ftn_base.specs.declared.fault.FaultKind.TheVariants.{WrongType, NotDefinable}
use Rattle.ftn_tree.specs.declared.parts.DataConstant.{DataConstant}
use Rattle.ftn_tree.specs.declared.parts.DataConstant.TheVariants as constant
use Rattle.ftn_tree.specs.declared.parts.DataGroup.{DataGroup}
use Rattle.ftn_tree.specs.declared.parts.DataValue.{DataValue}
use Rattle.ftn_tree.specs.declared.parts.Designator.{Designator}
use Rattle.ftn_tree.specs.declared.parts.Repeat.{Repeat}
use Rattle.ftn_tree.specs.declared.parts.Repeat.TheVariants as repeat
use Rattle.ftn_tree.specs.declared.value.Value.{Value}
use Rattle.ftn_tree.specs.declared.value.Value.TheVariants as value
use Rattle.ftn_tree.specs.DataTypes.{Counted, constant_token, count_in, counts_told, elements_of, is_known, is_negative, total}
use Rattle.ftn_tree.specs.ExpressionTypes.{Told, if_told}
use Rattle.ftn_tree.specs.Sorts.{Sort, Whole, Truth, Text, is_sort}
use Rattle.const_expr.specs.Namings.{entity_in}
use Rattle.const_value.specs.steps.Giving.{is_object}
use Rattle.const_value.specs.steps.Projects.{row_in}
use Rattle.name_types.specs.declared.names.Naming.{Naming}
use Rattle.name_types.specs.declared.names.Setting.{Setting}
use Rattle.name_types.specs.steps.Senses.{naming_at, sort_by, sort_of}

abbrev pub entity_at : Setting → ℕ → Option ℕ
entity_at s token = entity_in (row_in s.names.now.project.now.rows.items s.file) token

abbrev pub of_entity : {X : Type 0} → List (Option X) → Option ℕ → Option X
of_entity all entity = option_and_then (λ found. found) (option_and_then (slice_get all) entity)

-- ---- objects

abbrev pub object_by : Setting → ℕ → Bool
object_by s token = option_map_or (is_object s.names.now.project.now s.scope) (entity_at s token) false

abbrev pub shape_by : Setting → ℕ → Option Shape
shape_by s token = of_entity s.names.now.values.now.shapes (entity_at s token)

abbrev pub count_by : Setting → Designator → Option ℕ
count_by s d = if is_none d.subscripts then option_map elements_of (shape_by s d.name) else Some 1

abbrev pub counted_object : Setting → Designator → Counted
counted_object s d = record { token = d.name; count = if object_by s d.name then count_by s d else None; sort = sort_by s d.name }

abbrev pub object_told : Setting → Designator → List Told
object_told s d = if_told (not (object_by s d.name)) NotDefinable d.name

-- ---- values

-- of an array nothing
abbrev pub scalar_of : Naming → Option Sort
scalar_of naming = if naming.rank == 0 then sort_of naming else None

abbrev pub scalar_by : Setting → ℕ → Option Sort
scalar_by s token = option_and_then scalar_of (naming_at s.names.now s.file token)

abbrev pub value_by : Setting → ℕ → Option Value
value_by s token = of_entity s.names.now.values.now.constants (entity_at s token)

abbrev pub repeat_by : Setting → Option Repeat → Option ℕ
repeat_by s None = Some 1
repeat_by s (Some (repeat.Whole token z)) = count_in (Some (value.Whole z))
repeat_by s (Some (repeat.Named token)) = if is_sort Whole (scalar_by s token) then count_in (value_by s token) else None

abbrev pub repeat_told : Setting → Option Repeat → List Told
repeat_told s (Some (repeat.Named token)) = if_told (not (is_sort Whole (scalar_by s token)) || is_negative (value_by s token)) WrongType token
repeat_told s _ = []

abbrev pub sort_of_constant : Setting → DataConstant → Option Sort
sort_of_constant s (constant.Whole sign token z) = Some Whole
sort_of_constant s (constant.Truth token t) = Some Truth
sort_of_constant s (constant.Quoted token text) = Some Text
sort_of_constant s (constant.Named token) = scalar_by s token

abbrev pub constant_told : Setting → DataConstant → List Told
constant_told s (constant.Named token) = if_told (is_none (scalar_by s token)) WrongType token
constant_told s _ = []

abbrev pub counted_value : Setting → DataValue → Counted
counted_value s v = record { token = constant_token v.constant; count = repeat_by s v.repeat; sort = sort_of_constant s v.constant }

abbrev pub value_told : Setting → DataValue → List Told
value_told s v = repeat_told s v.repeat ++ constant_told s v.constant

-- ---- a group

abbrev pub group_by : Setting → DataGroup → List Told
group_by s g =
    flat_map (object_told s) g.objects ++ (flat_map (value_told s) g.values ++ counts_told (map (counted_object s) g.objects) (map (counted_value s) g.values))

-- how many there are, where that is known of each
abbrev pub total_of : List Counted → Option ℕ
total_of all = if list_any (λ c. not (is_known c)) all then None else Some (total all)

-- a greater number counts as the greatest one of 128 bits
abbrev pub limited : ℕ → ℕ
limited n = min n (2 ^ 128 - 1)
