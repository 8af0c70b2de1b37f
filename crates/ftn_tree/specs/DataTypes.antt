-- What DATA gives: how many elements its objects have and how many values there are, and which value goes to which element (Fortran 90, 5.2.9).
-- Repeats are counted and nothing is written out.
use Rattle.std.specs.Prelude.{ℕ, ◌+◌, ◌-◌, ◌==◌, nat_lt, min, max, pos, negsuc, Bool, true, false, not, ◌&&◌, ◌||◌, if◌then◌else◌, List, [], ◌∷◌, ◌++◌, map, Option, Some, None}
use Rattle.std.specs.List.{filter, flat_map, list_any}
use Rattle.std.specs.Option.{is_none, option_map, option_and_then, unwrap_or}
use Rattle.ftn_base.specs.declared.entity.Shape.{Shape}
use Rattle.ftn_base.specs.declared.fault.FaultKind.TheVariants.{WrongType, WrongCount, NotDefinable}
use Rattle.ftn_tree.specs.declared.parts.DataConstant.{DataConstant}
use Rattle.ftn_tree.specs.declared.parts.DataConstant.TheVariants as constant
use Rattle.ftn_tree.specs.declared.parts.DataGroup.{DataGroup}
use Rattle.ftn_tree.specs.declared.parts.DataValue.{DataValue}
use Rattle.ftn_tree.specs.declared.parts.Designator.{Designator}
use Rattle.ftn_tree.specs.declared.parts.Repeat.{Repeat}
use Rattle.ftn_tree.specs.declared.parts.Repeat.TheVariants as repeat
use Rattle.ftn_tree.specs.declared.mention.Role.TheVariants as role
use Rattle.ftn_tree.specs.declared.table.EntityKind.{EntityKind}
use Rattle.ftn_tree.specs.declared.table.EntityKind.TheVariants as kinds
use Rattle.ftn_tree.specs.declared.table.Extent.{Extent}
use Rattle.ftn_tree.specs.declared.unit.FileTree.{FileTree}
use Rattle.ftn_tree.specs.declared.value.Value.{Value}
use Rattle.ftn_tree.specs.declared.value.Value.TheVariants as value
use Rattle.ftn_tree.specs.Roles.{says}
use Rattle.ftn_tree.specs.Extents.{same_extent}
use Rattle.ftn_tree.specs.Scopes.{scope_kind}
use Rattle.ftn_tree.specs.Sayings.{Saying, member}
use Rattle.ftn_tree.specs.DeclaredEntities.{is_said}
use Rattle.ftn_tree.specs.DeclarationFaults.{is_block_data}
use Rattle.ftn_tree.specs.Meanings.{Key, own}
use Rattle.ftn_tree.specs.NameFaults.{said_of}
use Rattle.ftn_tree.specs.Sorts.{Sort, Whole, Truth, Text, same_sort, is_sort}
use Rattle.ftn_tree.specs.Arrays.{axis_from, elements}
use Rattle.ftn_tree.specs.KeyKinds.{Datum, datum_of, key_at, kind_of, sort_of, rank_of}
use Rattle.ftn_tree.specs.ExpressionTypes.{Told, if_told}
use Rattle.ftn_tree.specs.Constants.{known_of}
use Rattle.ftn_tree.specs.Shapes.{shape_of}

-- ---- runs: so many elements or values on end, from that position of the group on

pub record Run : Type 0 where
  pub token : ℕ
  pub from : ℕ
  pub count : ℕ
  pub sort : Option Sort

-- how many there are, where that is known, of what type
pub record Counted : Type 0 where
  pub token : ℕ
  pub count : Option ℕ
  pub sort : Option Sort

abbrev pub count_or_none : Counted → ℕ
count_or_none c = unwrap_or c.count 0

abbrev pub runs_from : ℕ → List Counted → List Run
runs_from from [] = []
runs_from from (c ∷ rest) = record { token = c.token; from = from; count = count_or_none c; sort = c.sort } ∷ runs_from (from + count_or_none c) rest

abbrev pub end_of : Run → ℕ
end_of run = run.from + run.count

-- there is a position of both
abbrev pub meets : Run → Run → Bool
meets one other = nat_lt (max one.from other.from) (min (end_of one) (end_of other))

abbrev pub total : List Counted → ℕ
total [] = 0
total (c ∷ rest) = count_or_none c + total rest

-- ---- objects

-- neither a dummy argument nor a result
abbrev pub is_plain_variable : EntityKind → Bool
is_plain_variable kinds.Variable = true
is_plain_variable _ = false

abbrev pub is_free : List FileTree → Extent → Saying → Bool
is_free files e s = not (member s) || (says role.NamedMember s.said && is_block_data (scope_kind files e))

-- a variable of the scoping unit, no member of blank common, and of a named block only in a BLOCK DATA
abbrev pub is_object : List FileTree → Extent → Option Key → Bool
is_object files e (Some (own home name)) =
    is_plain_variable (kind_of files (own home name)) && same_extent e home && not (is_said (λ s. not (is_free files e s)) (said_of files home name))
is_object files e _ = false

abbrev pub elements_of : Shape → ℕ
elements_of shape = elements (map axis_from shape.bounds)

abbrev pub object_count : List FileTree → Option Key → Designator → Option ℕ
object_count files key d =
    if is_none d.subscripts then option_map elements_of (option_and_then (shape_of files) key) else Some 1

abbrev pub object_of : List FileTree → Extent → Designator → Counted
object_of files e d =
    let key = key_at files e.file d.name in record {
      token = d.name;
      count = if is_object files e key then object_count files key d else None;
      sort = option_and_then (sort_of files) (option_and_then (datum_of files) key);
    }

abbrev pub object_told : List FileTree → Extent → Designator → List Told
object_told files e d = if_told (not (is_object files e (key_at files e.file d.name))) NotDefinable d.name

-- ---- values

abbrev pub scalar_sort : List FileTree → Datum → Option Sort
scalar_sort files d = if rank_of files d == 0 then sort_of files d else None

-- the type of a constant's name; an array has none
abbrev pub sort_named : List FileTree → ℕ → ℕ → Option Sort
sort_named files file token = option_and_then (scalar_sort files) (option_and_then (datum_of files) (key_at files file token))

abbrev pub value_named : List FileTree → ℕ → ℕ → Option Value
value_named files file token = option_and_then (λ key. (known_of files key).value) (key_at files file token)

abbrev pub count_in : Option Value → Option ℕ
count_in (Some (value.Whole (pos n))) = Some n
count_in _ = None

abbrev pub repeat_count : List FileTree → ℕ → Option Repeat → Option ℕ
repeat_count files file None = Some 1
repeat_count files file (Some (repeat.Whole token (pos n))) = Some n
repeat_count files file (Some (repeat.Whole token (negsuc n))) = None
repeat_count files file (Some (repeat.Named token)) = if is_sort Whole (sort_named files file token) then count_in (value_named files file token) else None

-- a repeat is an integer of at least 0
abbrev pub is_negative : Option Value → Bool
is_negative (Some (value.Whole (negsuc n))) = true
is_negative _ = false

abbrev pub repeat_told : List FileTree → ℕ → Option Repeat → List Told
repeat_told files file (Some (repeat.Named token)) =
    if_told (not (is_sort Whole (sort_named files file token)) || is_negative (value_named files file token)) WrongType token
repeat_told files file _ = []

-- a sign stands right before its number
abbrev pub constant_token : DataConstant → ℕ
constant_token (constant.Whole None token z) = token
constant_token (constant.Whole (Some sign) token z) = token - 1
constant_token (constant.Truth token t) = token
constant_token (constant.Quoted token text) = token
constant_token (constant.Named token) = token

abbrev pub constant_sort : List FileTree → ℕ → DataConstant → Option Sort
constant_sort files file (constant.Whole sign token z) = Some Whole
constant_sort files file (constant.Truth token t) = Some Truth
constant_sort files file (constant.Quoted token text) = Some Text
constant_sort files file (constant.Named token) = sort_named files file token

abbrev pub value_of : List FileTree → ℕ → DataValue → Counted
value_of files file v = record {
  token = constant_token v.constant;
  count = repeat_count files file v.repeat;
  sort = constant_sort files file v.constant;
}

-- an array's name is no value
abbrev pub constant_told : List FileTree → ℕ → DataConstant → List Told
constant_told files file (constant.Named token) = if_told (is_none (sort_named files file token)) WrongType token
constant_told files file _ = []

abbrev pub value_told : List FileTree → ℕ → DataValue → List Told
value_told files file v = repeat_told files file v.repeat ++ constant_told files file v.constant

-- ---- a group

abbrev pub is_known : Counted → Bool
is_known c = not (is_none c.count)

abbrev pub differ : Option Sort → Option Sort → Bool
differ (Some one) (Some other) = not (same_sort one other)
differ _ _ = false

-- a value goes to an element of another type
abbrev pub is_wrong : List Run → Run → Bool
is_wrong objects run = list_any (λ object. meets object run && differ object.sort run.sort) objects

abbrev pub wrong_values : List Run → List Run → List Told
wrong_values objects values = map (λ (run : Run). (WrongType, run.token)) (filter (is_wrong objects) values)

abbrev pub first_of : List Counted → ℕ
first_of [] = 0
first_of (c ∷ rest) = c.token

-- as many values as elements, each of its element's type
abbrev pub counts_told : List Counted → List Counted → List Told
counts_told objects values =
    if list_any (λ c. not (is_known c)) (objects ++ values) then []
    else if total objects == total values then wrong_values (runs_from 0 objects) (runs_from 0 values)
    else (WrongCount, first_of objects) ∷ []

abbrev pub group_told : List FileTree → Extent → DataGroup → List Told
group_told files e g =
    flat_map (object_told files e) g.objects
    ++ (flat_map (value_told files e.file) g.values ++ counts_told (map (object_of files e) g.objects) (map (value_of files e.file) g.values))
