-- The values that entities have at the start of a run: by their declarations and by DATA (Fortran 90, 5.1, 5.2.9). Elements and values are paired
-- as far as both go, by whole runs of them.
use Rattle.std.specs.Prelude.{ℕ, ◌+◌, ◌-◌, ◌*◌, nat_lt, min, max, ℤ, neg_ℤ, if◌then◌else◌, List, [], ◌∷◌, map, length, zip, Option, Some, None}
use Rattle.std.specs.List.{filter_map, flat_map, range_with_len, enumerate_from}
use Rattle.std.specs.Option.{option_map, option_map_or, option_and_then}
use Rattle.ftn_base.specs.declared.entity.Length.TheVariants.{Fixed}
use Rattle.ftn_base.specs.declared.entity.Shape.{Shape}
use Rattle.ftn_base.specs.declared.entity.Ty.{Ty}
use Rattle.ftn_base.specs.declared.entity.Ty.TheVariants as ty
use Rattle.ftn_tree.specs.declared.expr.Expr.{Expr}
use Rattle.ftn_tree.specs.declared.form.Form.TheOpen.{Form-F}
use Rattle.ftn_tree.specs.declared.parts.DataConstant.{DataConstant}
use Rattle.ftn_tree.specs.declared.parts.DataConstant.TheVariants as constant
use Rattle.ftn_tree.specs.declared.parts.DataGroup.{DataGroup}
use Rattle.ftn_tree.specs.declared.parts.DataValue.{DataValue}
use Rattle.ftn_tree.specs.declared.parts.Designator.{Designator}
use Rattle.ftn_tree.specs.declared.parts.EntityDecl.{EntityDecl}
use Rattle.ftn_tree.specs.declared.parts.Sign.{Sign}
use Rattle.ftn_tree.specs.declared.parts.Sign.TheVariants.{Minus}
use Rattle.ftn_tree.specs.declared.table.Extent.{Extent}
use Rattle.ftn_tree.specs.declared.unit.FileTree.{FileTree}
use Rattle.ftn_tree.specs.declared.value.Value.{Value}
use Rattle.ftn_tree.specs.declared.value.Value.TheVariants as value
use Rattle.ftn_tree.specs.Layers.{FormLayer}
use Rattle.ftn_tree.specs.Extents.{layer_at, scope_of, is_body}
use Rattle.ftn_tree.specs.GlobalNames.{Place, place}
use Rattle.ftn_tree.specs.Meanings.{Key}
use Rattle.ftn_tree.specs.Arrays.{axis_from, place_in}
use Rattle.ftn_tree.specs.KeyKinds.{key_at, kind_of}
use Rattle.ftn_tree.specs.Evaluations.{Evaluated, all_values, all_wholes}
use Rattle.ftn_tree.specs.Constants.{known_of, given, with_length}
use Rattle.ftn_tree.specs.Shapes.{shape_of}
use Rattle.ftn_tree.specs.DataTypes.{Run, Counted, runs_from, object_of, value_of, value_named, is_plain_variable, elements_of, end_of}

-- so many elements of an entity, from that storage unit of its own on, have a value at the start; and the name that says so
pub record Given : Type 0 where
  pub key : Key
  pub first : ℕ
  pub count : ℕ
  pub value : Value
  pub at : Place

-- ---- declarations (5.1): an initial value fills an array

abbrev pub if_variable : List FileTree → Key → Option Key
if_variable files key = if is_plain_variable (kind_of files key) then Some key else None

abbrev pub whole_given : List FileTree → Place → Key → Shape → Value → Given
whole_given files at key shape v = record { key = key; first = 0; count = elements_of shape; value = v; at = at }

abbrev pub key_given : List FileTree → Place → Key → Option Given
key_given files at key = option_and_then (λ shape. option_map (whole_given files at key shape) (known_of files key).value) (shape_of files key)

abbrev pub entity_given : List FileTree → ℕ → EntityDecl → Option Given
entity_given files file d =
    option_and_then (λ (e : Expr). option_and_then (key_given files (place file d.name)) (option_and_then (if_variable files) (key_at files file d.name))) d.value

-- ---- DATA (5.2.9)

abbrev pub signed : Option Sign → ℤ → ℤ
signed (Some Minus) z = neg_ℤ z
signed _ z = z

abbrev pub constant_value : List FileTree → ℕ → DataConstant → Option Value
constant_value files file (constant.Whole sign token z) = Some (value.Whole (signed sign z))
constant_value files file (constant.Truth token t) = Some (value.Truth t)
constant_value files file (constant.Quoted token text) = Some (value.Chars text)
constant_value files file (constant.Named token) = value_named files file token

-- the storage units of an element
abbrev pub units_of : Ty → ℕ
units_of (ty.Character (Fixed n)) = n
units_of _ = 1

-- the element with which an object begins, from 0
abbrev pub start_of : List FileTree → ℕ → Shape → Designator → Option ℕ
start_of files file shape d = option_map_or (λ subscripts. element_at (map (given files file) subscripts)) d.subscripts (Some 0) where
  element_at : List Evaluated → Option ℕ
  element_at parts = option_and_then (place_in (map axis_from shape.bounds)) (option_and_then all_wholes (all_values parts))

-- an object of a group: its entity and shape, its first element, its run of elements
pub record Object : Type 0 where
  pub key : Key
  pub shape : Shape
  pub start : ℕ
  pub run : Run

abbrev pub with_start : Key → Run → Shape → ℕ → Object
with_start key run shape start = record { key = key; shape = shape; start = start; run = run }

abbrev pub with_shape : List FileTree → ℕ → Designator → Run → Key → Option Object
with_shape files file d run key = option_and_then (λ shape. option_map (with_start key run shape) (start_of files file shape d)) (shape_of files key)

abbrev pub object_in : List FileTree → ℕ → Designator × Run → Option Object
object_in files file (d, run) = option_and_then (with_shape files file d run) (key_at files file d.name)

-- what a run of one value gives an object: the elements at positions of both
abbrev pub shared : ℕ → Object → Run → Value → List Given
shared file object run v =
    let low = max object.run.from run.from in
    let high = min (end_of object.run) (end_of run) in
    if nat_lt low high
    then record {
      key = object.key;
      first = (object.start + (low - object.run.from)) * units_of object.shape.ty;
      count = high - low;
      value = with_length (Some object.shape.ty) v;
      at = place file object.run.token;
    } ∷ []
    else []

abbrev pub gives : List FileTree → ℕ → Object → DataValue × Run → List Given
gives files file object (v, run) = option_map_or (shared file object run) (constant_value files file v.constant) []

abbrev pub with_runs : {A : Type 0} → (A → Counted) → List A → List (A × Run)
with_runs count parts = zip parts (runs_from 0 (map count parts))

abbrev pub group_givens : List FileTree → Extent → DataGroup → List Given
group_givens files e g =
    flat_map (λ object. flat_map (gives files e.file object) (with_runs (value_of files e.file) g.values))
    (filter_map (object_in files e.file) (with_runs (object_of files e) g.objects))

-- ---- the project, in the order of statements; interface bodies give nothing

abbrev pub form_givens : List FileTree → Extent → Option FormLayer → List Given
form_givens files e (Some (Form-F.Declare written attributes colons entities)) = filter_map (entity_given files e.file) entities
form_givens files e (Some (Form-F.Data groups)) = flat_map (group_givens files e) groups
form_givens files e _ = []

abbrev pub statement_givens : List FileTree → ℕ → ℕ → Option Extent → List Given
statement_givens files file statement None = []
statement_givens files file statement (Some e) = if is_body files e then [] else form_givens files e (layer_at files file statement)

abbrev pub file_givens : List FileTree → ℕ → FileTree → List Given
file_givens files file tree =
    flat_map (λ statement. statement_givens files file statement (scope_of files file statement)) (range_with_len 0 (length tree.statements))

abbrev pub givens_of : List FileTree → List Given
givens_of files = flat_map (λ numbered. file_givens files numbered.0 numbered.1) (enumerate_from 0 files)
