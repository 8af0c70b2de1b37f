-- What is known of a project without a fault, and the numbers by which its resolved program tells variables and procedures (Fortran 90,
-- 2.2, 2.4, 14.1).
use Rattle.std.specs.Prelude.{ℕ, ℤ, zero, suc, ◌==◌, Bool, true, false, not, ◌&&◌, ◌||◌, if◌then◌else◌, List, [], ◌∷◌, map, length, slice_get, position, filter, Option, Some, None}
use Rattle.std.specs.List.{list_any, range_with_len}
use Rattle.std.specs.Option.{option_map, option_map_or, option_and_then, unwrap_or}
use Rattle.ftn_base.specs.declared.entity.EntityId.{EntityId}
use Rattle.ftn_tree.specs.declared.form.Form.TheOpen.{Form-F}
use Rattle.ftn_tree.specs.declared.table.Bound.{Bound}
use Rattle.ftn_tree.specs.declared.table.Entity.{Entity}
use Rattle.ftn_tree.specs.declared.table.EntityKind.{EntityKind}
use Rattle.ftn_tree.specs.declared.table.EntityKind.TheVariants as entities
use Rattle.ftn_tree.specs.declared.table.Occurrence.{Occurrence}
use Rattle.ftn_tree.specs.declared.table.Scope.{Scope}
use Rattle.ftn_tree.specs.declared.table.ScopeKind.{ScopeKind}
use Rattle.ftn_tree.specs.declared.table.ScopeKind.TheVariants as scopes
use Rattle.ftn_tree.specs.declared.unit.FileTree.{FileTree}
use Rattle.ftn_base.specs.declared.entity.Shape.{Shape}
use Rattle.ftn_tree.specs.declared.value.Value.{Value}
use Rattle.ftn_tree.specs.declared.value.Kind.{Kind}
use Rattle.ftn_tree.specs.declared.value.Values.{Values}
use Rattle.ftn_tree.specs.Extents.{layer_at}
use Rattle.ftn_tree.specs.Kinds.{is_procedure}
use Rattle.ftn_tree.specs.Layers.{FormLayer}
use Rattle.ftn_tree.specs.Scopes.{span_of}
use Rattle.core_prog.specs.declared.site.Site.{Site}

-- the trees; what each occurrence of a name denotes, and the same with the specific procedure in place of a generic name; values; the
-- objects that are laid out, the area of each and its offset there; the sizes of the areas
pub record Known : Type 0 where
  pub files : List FileTree
  pub bound : Bound
  pub meant : List EntityId
  pub values : Values
  pub objects : List EntityId
  pub places : List (ℕ × ℕ)
  pub sizes : List ℕ

abbrev pub number_of : EntityId → ℕ
number_of id = id.0

abbrev pub site : ℕ → ℕ → Site
site file token = record { file = file; token = token }

abbrev pub is_body : ScopeKind → Bool
is_body scopes.Body = true
is_body other = false

abbrev pub is_dummy : EntityKind → Bool
is_dummy entities.Dummy = true
is_dummy other = false

abbrev pub is_function : EntityKind → Bool
is_function entities.Function = true
is_function other = false

abbrev pub is_answer : EntityKind → Bool
is_answer entities.Answer = true
is_answer other = false

abbrev pub is_main : EntityKind → Bool
is_main entities.Program = true
is_main other = false

-- the dummy arguments of an opening, and the result that it names
abbrev pub dummy_tokens : Option FormLayer → List ℕ
dummy_tokens (Some (Form-F.Subroutine name (Some dummies))) = dummies
dummy_tokens (Some (Form-F.Function ty name dummies answer)) = dummies
dummy_tokens other = []

abbrev pub answer_token : Option FormLayer → Option ℕ
answer_token (Some (Form-F.Function ty name dummies answer)) = answer
answer_token other = None

-- those that there are
abbrev pub known_numbers : List (Option ℕ) → List ℕ
known_numbers [] = []
known_numbers (None ∷ rest) = known_numbers rest
known_numbers (Some number ∷ rest) = number ∷ known_numbers rest

module _ (known : Known) where
  abbrev pub entity_at : ℕ → Option Entity
  entity_at number = slice_get known.bound.tables.entities number

  abbrev pub scope_at : ℕ → Option Scope
  scope_at number = slice_get known.bound.tables.scopes number

  abbrev pub kind_at : ℕ → Option Kind
  kind_at number = option_and_then (λ kind. kind) (slice_get known.values.kinds number)

  abbrev pub rank_of : ℕ → ℕ
  rank_of number = option_map_or (λ (kind : Kind). kind.rank) (kind_at number) 0

  abbrev pub shape_at : ℕ → Option Shape
  shape_at number = option_and_then (λ shape. shape) (slice_get known.values.shapes number)

  -- the bounds of an entity, where all of them are constant
  abbrev pub bounds_of : ℕ → List (ℤ × ℤ)
  bounds_of number = option_map_or (λ (shape : Shape). shape.bounds) (shape_at number) []

  -- the value of a named constant, or of each element of one
  abbrev pub constant_value : ℕ → Option Value
  constant_value number = option_and_then (λ v. v) (slice_get known.values.constants number)

  -- ---- names

  abbrev pub begins_there : ℕ → ℕ → Occurrence → Bool
  begins_there file token o = o.span.file == file && o.span.range.start == (span_of known.files file token).range.start

  -- the number of the entity that the list has for the name at a token
  abbrev pub number_at : List EntityId → ℕ → ℕ → Option ℕ
  number_at ids file token =
      option_map number_of (option_and_then (λ n. slice_get ids n) (position (begins_there file token) known.bound.tables.occurrences))

  abbrev pub denoted : ℕ → ℕ → Option ℕ
  denoted file token = number_at known.bound.denotes file token

  abbrev pub meant_by : ℕ → ℕ → Option ℕ
  meant_by file token = number_at known.meant file token

  -- ---- scoping units

  -- a scoping unit and those around it; there are no more than all
  abbrev pub around : ℕ → ℕ → List ℕ
  around zero scope = []
  around (suc n) scope = scope ∷ option_map_or (around n) (option_and_then (λ (s : Scope). s.host) (scope_at scope)) []

  -- 12.5.2.2: the function is its own result there: in the function and inside it
  abbrev pub is_result_in : ℕ → Entity → Bool
  is_result_in scope e = option_map_or (λ own. list_any (λ one. one == own) (around (length known.bound.tables.scopes) scope)) e.opens false

  abbrev pub opening_of : ℕ → Option FormLayer
  opening_of scope = option_and_then (λ (s : Scope). layer_at known.files s.unit.file s.unit.statement) (scope_at scope)

  abbrev pub file_of : ℕ → ℕ
  file_of scope = option_map_or (λ (s : Scope). s.unit.file) (scope_at scope) 0

  abbrev pub in_body : Option ℕ → Bool
  in_body home = option_map_or (λ (s : Scope). is_body s.kind) (option_and_then scope_at home) false

  -- ---- variables and procedures by their numbers

  abbrev pub is_object : ℕ → Bool
  is_object number = list_any (λ (id : EntityId). number_of id == number) known.objects

  abbrev pub is_variable_entity : ℕ → Bool
  is_variable_entity number = is_object number || option_map_or (λ (e : Entity). is_dummy e.kind && not (in_body e.home)) (entity_at number) false

  abbrev pub is_procedure_entity : ℕ → Bool
  is_procedure_entity number = option_map_or (λ (e : Entity). is_procedure e.kind) (entity_at number) false

  abbrev pub all_numbers : List ℕ
  all_numbers = range_with_len 0 (length known.bound.tables.entities)

  -- the entities that are variables, dummy arguments or results, and those that are procedures
  abbrev pub variable_entities : List ℕ
  variable_entities = filter is_variable_entity all_numbers

  abbrev pub procedure_entities : List ℕ
  procedure_entities = filter is_procedure_entity all_numbers

  abbrev pub variable_number : ℕ → Option ℕ
  variable_number number = position (λ one. one == number) variable_entities

  abbrev pub procedure_number : ℕ → Option ℕ
  procedure_number number = position (λ one. one == number) procedure_entities

  -- ---- procedures

  -- the scoping unit that an entity opens, or else none that there is
  abbrev pub scope_opened : ℕ → ℕ
  scope_opened number = unwrap_or (option_and_then (λ (e : Entity). e.opens) (entity_at number)) (length known.bound.tables.scopes)

  -- the dummy arguments of a procedure, as entities
  abbrev pub dummies_in : ℕ → List ℕ
  dummies_in scope = known_numbers (map (denoted (file_of scope)) (dummy_tokens (opening_of scope)))

  -- the result of a function, as an entity: without RESULT the function itself
  abbrev pub result_in : ℕ → Option ℕ
  result_in number =
      option_map_or (λ token. denoted (file_of (scope_opened number)) token) (answer_token (opening_of (scope_opened number)))
      (if option_map_or (λ (e : Entity). is_function e.kind) (entity_at number) false then Some number else None)

  abbrev pub opens_scope : ℕ → ℕ → Bool
  opens_scope scope number = is_procedure_entity number && option_map_or (λ own. own == scope) (option_and_then (λ (e : Entity). e.opens) (entity_at number)) false

  -- the procedure that a scoping unit is, by its number
  abbrev pub procedure_of_scope : ℕ → Option ℕ
  procedure_of_scope scope = position (opens_scope scope) procedure_entities
