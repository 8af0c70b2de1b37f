-- The values that statements give at the start of a run, by what is gathered and known of a project. It serves the proof alone.
use Rattle.std.specs.Prelude.{◌≡◌, ℕ, ◌+◌, ◌-◌, ◌*◌, ◌≤◌, ◌^◌, nat_lt, min, max, ℤ, Bool, true, false, not, ◌==◌, ◌&&◌, if◌then◌else◌, List, [], ◌∷◌, ◌++◌, map, slice_get, Option, Some, None}
use Rattle.std.specs.List.{filter_map, flat_map, list_all}
use Rattle.std.specs.Option.{is_some, option_map, option_map_or, option_and_then, unwrap_or}
use Rattle.ftn_base.specs.declared.entity.Ty.{Ty}
use Rattle.ftn_tree.specs.declared.expr.Expr.{Expr}
use Rattle.ftn_tree.specs.declared.form.Form.{Form, out-Form}
use Rattle.ftn_tree.specs.declared.form.Form.TheOpen.{Form-F}
use Rattle.ftn_tree.specs.declared.parts.DataConstant.{DataConstant}
use Rattle.ftn_tree.specs.declared.parts.DataConstant.TheVariants as constant
use Rattle.ftn_tree.specs.declared.parts.DataGroup.{DataGroup}
use Rattle.ftn_tree.specs.declared.parts.DataValue.{DataValue}
use Rattle.ftn_tree.specs.declared.parts.Designator.{Designator}
use Rattle.ftn_tree.specs.declared.parts.EntityDecl.{EntityDecl}
use Rattle.ftn_tree.specs.declared.parts.Repeat.{Repeat}
use Rattle.ftn_tree.specs.declared.parts.Repeat.TheVariants as repeat
use Rattle.ftn_tree.specs.declared.table.Entity.{Entity}
use Rattle.ftn_tree.specs.declared.unit.FileTree.{FileTree}
use Rattle.ftn_tree.specs.declared.unit.Statement.{Statement}
use Rattle.ftn_tree.specs.declared.value.Given.{Given}
use Rattle.ftn_tree.specs.declared.value.Value.{Value}
use Rattle.ftn_tree.specs.declared.value.Value.TheVariants as value
use Rattle.ftn_tree.specs.Arrays.{axis_from, elements, place_in}
use Rattle.ftn_tree.specs.Constants.{at_least_none, whole_in, with_length}
use Rattle.ftn_tree.specs.DataTypes.{is_plain_variable}
use Rattle.ftn_tree.specs.EntityValues.{capped}
use Rattle.ftn_tree.specs.Evaluations.{Evaluated}
use Rattle.ftn_tree.specs.Givens.{signed, units_of}
use Rattle.ftn_tree.specs.Layers.{FormLayer}
use Rattle.ftn_tree.specs.Scopes.{span_of}
use Rattle.ftn_tree.specs.Sorts as sorts
use Rattle.const_expr.specs.Namings.{entity_in}
use Rattle.decl_table.specs.steps.Rows.{Row, number_at}
use Rattle.const_expr.specs.declared.naming.Naming.{Naming}
use Rattle.const_value.specs.declared.given_runs.Run.{Run}
use Rattle.const_value.specs.declared.measured.Measured.{Measured}
use Rattle.const_value.specs.declared.name_numbers.Owned.{Owned}
use Rattle.const_value.specs.declared.project.Project.{Project}
use Rattle.const_value.specs.steps.FirstFault.{sight_at}
use Rattle.const_value.specs.steps.Measuring as measuring
use Rattle.const_value.specs.steps.Projects as projects
use Rattle.const_value.specs.steps.Projects.{name_of, rank_of, sort_of, written_at}
use Rattle.const_value.specs.steps.References.{file_of}
use Rattle.const_value.specs.steps.Runs.{limited}
use Rattle.const_value.specs.steps.Shaping.{is_kept}
use Rattle.const_value.specs.steps.Telling.{Sight, given_by}

-- what is known of the name of an entity
abbrev pub known_of : Sight → ℕ → Option Measured
known_of s entity = option_and_then (slice_get s.known) (name_of s.project.links entity)

abbrev pub is_variable_in : Entity → Bool
is_variable_in entity = is_plain_variable entity.kind

abbrev pub is_variable : Project → ℕ → Bool
is_variable p number = option_map_or is_variable_in (projects.entity_in p.bound.now number) false

abbrev pub given_to : Sight → ℕ → ℕ → ℕ → ℕ → Value → Given
given_to s entity token first count v =
    record { entity = record { 0 = entity }; first = first; count = count; value = v; span = span_of s.project.files.now s.file token }

-- ---- declarations

abbrev pub elements_of : List (ℤ × ℤ) → ℕ
elements_of bounds = limited (elements (map axis_from bounds))

-- with what is known in the name's own file
abbrev pub value_of : Sight → ℕ → Option Ty → Option Value
value_of s name known =
    measuring.value_of (given_by (sight_at s.project s.known s.namings (file_of s.project.names.items name))) (sort_of s.project.bound.now s.project.names.items s.project.written.items name) known (written_at s.project.written.items name).value

abbrev pub whole_with : Sight → ℕ → ℕ → ℕ → Option Ty → List (ℤ × ℤ) → Option Given
whole_with s entity token name known bounds = option_map (given_to s entity token 0 (capped (elements_of bounds))) (value_of s name known)

abbrev pub whole_by : Sight → ℕ → ℕ → ℕ → Measured → Option Given
whole_by s entity token name m =
    if is_some m.ty && is_kept s.project name then option_and_then (whole_with s entity token name m.ty) m.bounds else None

abbrev pub name_whole : Sight → ℕ → ℕ → ℕ → Option Given
name_whole s entity token name = option_and_then (whole_by s entity token name) (slice_get s.known name)

abbrev pub entity_whole : Sight → ℕ → ℕ → Option Given
entity_whole s token entity = if is_variable s.project entity then option_and_then (name_whole s entity token) (name_of s.project.links entity) else None

abbrev pub declared_by : Sight → EntityDecl → Option Given
declared_by s d = if is_some d.value then option_and_then (entity_whole s d.name) (entity_in s.row d.name) else None

-- ---- DATA: objects

-- an object that gets values: its entity, type and first element where its shape is known, and its run
pub record Object : Type 0 where
  pub entity : ℕ
  pub token : ℕ
  pub ty : Option Ty
  pub start : Option ℕ
  pub run : Run

abbrev pub is_owned : ℕ → Owned → Bool
is_owned scope o = (o.scope == scope) && not o.said.barred

abbrev pub is_object : Project → ℕ → ℕ → Bool
is_object p scope entity =
    if is_variable p entity then option_map_or (is_owned scope) (option_and_then (slice_get p.names.items) (name_of p.links entity)) false else false

abbrev pub next_whole : Option ℤ → Option (List ℤ) → Option (List ℤ)
next_whole (Some z) (Some zs) = Some (z ∷ zs)
next_whole _ _ = None

abbrev pub wholes_by : (Expr → Evaluated) → List Expr → Option (List ℤ)
wholes_by evaluate [] = Some []
wholes_by evaluate (e ∷ rest) = next_whole (whole_in (evaluate e).value) (wholes_by evaluate rest)

abbrev pub place_by : List (ℤ × ℤ) → List ℤ → Option ℕ
place_by bounds zs = option_map limited (place_in (map axis_from bounds) zs)

abbrev pub start_by : Sight → List (ℤ × ℤ) → Option (List Expr) → Option ℕ
start_by s bounds None = Some 0
start_by s bounds (Some subscripts) = option_and_then (place_by bounds) (wholes_by (given_by s) subscripts)

abbrev pub start_of : Sight → Option (List Expr) → Measured → Option ℕ
start_of s subscripts m = option_and_then (λ bounds. start_by s bounds subscripts) m.bounds

abbrev pub count_by : Measured → ℕ
count_by m = option_map_or (λ bounds. if is_some m.ty then elements_of bounds else 0) m.bounds 0

abbrev pub count_of : Option Measured → Option (List Expr) → ℕ
count_of m (Some subscripts) = 1
count_of m None = option_map_or count_by m 0

abbrev pub object_with : Sight → ℕ → Designator → ℕ → Option Measured → Object
object_with s entity d from m = record {
  entity = entity;
  token = d.name;
  ty = option_and_then (λ (m : Measured). m.ty) m;
  start = option_and_then (start_of s d.subscripts) m;
  run = record { from = from; count = count_of m d.subscripts };
}

abbrev pub object_if : Sight → ℕ → Designator → ℕ → ℕ → Option Object
object_if s scope d from entity = if is_object s.project scope entity then Some (object_with s entity d from (known_of s entity)) else None

abbrev pub object_of : Sight → ℕ → Designator → ℕ → Option Object
object_of s scope d from = option_and_then (object_if s scope d from) (entity_in s.row d.name)

-- ---- DATA: values

abbrev pub name_at : Sight → ℕ → Option ℕ
name_at s token = option_and_then (name_of s.project.links) (entity_in s.row token)

abbrev pub scalar_sort : Project → ℕ → Option sorts.Sort
scalar_sort p name = if is_kept p name && (rank_of p.written.items name == 0) then sort_of p.bound.now p.names.items p.written.items name else None

abbrev pub sort_named : Sight → ℕ → Option sorts.Sort
sort_named s token = option_and_then (scalar_sort s.project) (name_at s token)

abbrev pub value_named : Sight → ℕ → Option Value
value_named s token = option_and_then (λ (m : Measured). m.value) (option_and_then (slice_get s.known) (name_at s token))

abbrev pub whole_count : Option Value → ℕ
whole_count (Some (value.Whole z)) = at_least_none z
whole_count _ = 0

abbrev pub repeat_by : Sight → Option Repeat → ℕ
repeat_by s None = 1
repeat_by s (Some (repeat.Whole token z)) = at_least_none z
repeat_by s (Some (repeat.Named token)) = if sorts.is_sort sorts.Whole (sort_named s token) then whole_count (value_named s token) else 0

abbrev pub constant_by : Sight → DataConstant → Option Value
constant_by s (constant.Whole sign token z) = Some (value.Whole (signed sign z))
constant_by s (constant.Truth token t) = Some (value.Truth t)
constant_by s (constant.Quoted token text) = Some (value.Chars text)
constant_by s (constant.Named token) = value_named s token

-- a constant, so often, from a position of the group on
pub record SupplyAs : Type 0 where
  pub constant : DataConstant
  pub run : Run

abbrev pub end_of : Run → ℕ
end_of run = limited (run.from + run.count)

abbrev pub supplies_from : Sight → ℕ → List DataValue → List SupplyAs
supplies_from s from [] = []
supplies_from s from (v ∷ rest) =
    record { constant = v.constant; run = record { from = from; count = repeat_by s v.repeat } } ∷ supplies_from s (from + repeat_by s v.repeat) rest

-- ---- DATA: what a run of one value gives an object, the elements at positions of both

abbrev pub meeting : Run → Run → Option Run
meeting one other =
    let low = max one.from other.from in
    let high = min (end_of one) (end_of other) in
    if nat_lt low high then Some (record { from = low; count = high - low }) else None

abbrev pub part_given : Sight → Object → Ty → ℕ → Run → Value → Given
part_given s o known start part v =
    given_to s o.entity o.token (capped (limited (limited (start + (part.from - o.run.from)) * units_of known))) (capped part.count) (with_length (Some known) v)

abbrev pub part_by : Sight → Object → DataConstant → Run → Option Given
part_by s o c part =
    option_and_then (λ known. option_and_then (λ start. option_map (part_given s o known start part) (constant_by s c)) o.start) o.ty

abbrev pub shared_by : Sight → Object → SupplyAs → Option Given
shared_by s o supply = option_and_then (part_by s o supply.constant) (meeting o.run supply.run)

abbrev pub object_given : Sight → Object → List SupplyAs → List Given
object_given s o supplies = filter_map (shared_by s o) supplies

abbrev pub next_from : Option Object → ℕ → ℕ
next_from None from = from
next_from (Some o) from = end_of o.run

abbrev pub given_if : Sight → Option Object → List SupplyAs → List Given
given_if s None supplies = []
given_if s (Some o) supplies = object_given s o supplies

abbrev pub objects_given : Sight → ℕ → List SupplyAs → ℕ → List Designator → List Given
objects_given s scope supplies from [] = []
objects_given s scope supplies from (d ∷ rest) =
    given_if s (object_of s scope d from) supplies ++ objects_given s scope supplies (next_from (object_of s scope d from) from) rest

abbrev pub group_given : Sight → ℕ → DataGroup → List Given
group_given s scope g = objects_given s scope (supplies_from s 0 g.values) 0 g.objects

-- ---- statements

abbrev pub form_by : Sight → ℕ → FormLayer → List Given
form_by s scope (Form-F.Declare written attributes colons entities) = filter_map (declared_by s) entities
form_by s scope (Form-F.Data groups) = flat_map (group_given s scope) groups
form_by s scope _ = []

-- interface bodies give nothing
abbrev pub scope_given : Sight → List Bool → ℕ → Form → List Given
scope_given s bodies scope form = if unwrap_or (slice_get bodies scope) false then [] else form_by s scope (out-Form form)

abbrev pub statement_given : Sight → List Row → List Bool → ℕ → Statement → List Given
statement_given s rows bodies at statement = option_map_or (λ scope. scope_given s bodies scope statement.form) (number_at rows s.file at) []

abbrev pub statements_given : Sight → List Row → List Bool → ℕ → List Statement → List Given
statements_given s rows bodies at [] = []
statements_given s rows bodies at (statement ∷ rest) = statement_given s rows bodies at statement ++ statements_given s rows bodies (at + 1) rest

abbrev pub files_given : Project → List Measured → List Naming → List Row → List Bool → ℕ → List FileTree → List Given
files_given p known namings rows bodies file [] = []
files_given p known namings rows bodies file (tree ∷ rest) =
    statements_given (sight_at p known namings file) rows bodies 0 tree.statements ++ files_given p known namings rows bodies (file + 1) rest

-- ---- whether the values of each group have numbers of 64 bits

abbrev pub fits_from : Sight → ℕ → List DataValue → Bool
fits_from s from [] = true
fits_from s from (v ∷ rest) = nat_lt (from + repeat_by s v.repeat) (2 ^ 64) && fits_from s (from + repeat_by s v.repeat) rest

abbrev pub group_fits : Sight → DataGroup → Bool
group_fits s g = fits_from s 0 g.values

abbrev pub form_fits : Sight → FormLayer → Bool
form_fits s (Form-F.Data groups) = list_all (group_fits s) groups
form_fits s _ = true

abbrev pub scope_fits : Sight → List Bool → ℕ → Form → Bool
scope_fits s bodies scope form = if unwrap_or (slice_get bodies scope) false then true else form_fits s (out-Form form)

abbrev pub statement_fits : Sight → List Row → List Bool → ℕ → Statement → Bool
statement_fits s rows bodies at statement = option_map_or (λ scope. scope_fits s bodies scope statement.form) (number_at rows s.file at) true

abbrev pub statements_fit : Sight → List Row → List Bool → ℕ → List Statement → Bool
statements_fit s rows bodies at [] = true
statements_fit s rows bodies at (statement ∷ rest) = statement_fits s rows bodies at statement && statements_fit s rows bodies (at + 1) rest

abbrev pub files_fit : Project → List Measured → List Naming → List Row → List Bool → ℕ → List FileTree → Bool
files_fit p known namings rows bodies file [] = true
files_fit p known namings rows bodies file (tree ∷ rest) =
    statements_fit (sight_at p known namings file) rows bodies 0 tree.statements && files_fit p known namings rows bodies (file + 1) rest

-- ---- runs one after the other

-- each begins where the one before it ends
abbrev pub AreRowed : ℕ → List SupplyAs → Type 0
AreRowed from [] = Unit {0}
AreRowed from (supply ∷ rest) = (supply.run.from ≡ from) × (from + supply.run.count ≤ 2 ^ 64 - 1) × AreRowed (from + supply.run.count) rest
