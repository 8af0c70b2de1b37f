-- Variables and areas of a resolved program (Fortran 90, 5.1, 5.2.4, 5.2.9, 14.6.3, 14.7.3, 14.7.4): their places are those that were laid out; areas
-- that aren't kept are emptied at the entry of their procedure; values are given by declarations and DATA.
use Rattle.std.specs.Prelude.{ℕ, suc, ℤ, pos, neg_ℤ, ◌+◌, ◌*◌, ◌==◌, nat_lt, Bool, true, false, ◌&&◌, ◌||◌, not, if◌then◌else◌, List, [], ◌∷◌, map, flat_map, fold, zip, length, take, replicate, slice_get, position, sum, Option, Some, None}
use Rattle.std.specs.Ordering.{int_eq}
use Rattle.std.specs.List.{filter, find, list_any, range_with_len, enumerate_from}
use Rattle.std.specs.Option.{option_map_or, option_and_then, unwrap_or}
use Rattle.ftn_base.specs.declared.entity.EntityId.{EntityId}
use Rattle.ftn_base.specs.declared.entity.Ty.TheVariants.{Integer}
use Rattle.ftn_tree.specs.declared.expr.Expr.{Expr}
use Rattle.ftn_tree.specs.declared.form.Form.TheOpen.{Form-F}
use Rattle.ftn_tree.specs.declared.parts.ArrayDecl.{ArrayDecl}
use Rattle.ftn_tree.specs.declared.parts.Attribute.{Attribute}
use Rattle.ftn_tree.specs.declared.parts.AttributeKind.{AttributeKind}
use Rattle.ftn_tree.specs.declared.parts.AttributeKind.TheVariants as attribute
use Rattle.ftn_tree.specs.declared.parts.BoundPair.{BoundPair}
use Rattle.ftn_tree.specs.declared.parts.DataConstant.{DataConstant}
use Rattle.ftn_tree.specs.declared.parts.DataConstant.TheVariants as data_constant
use Rattle.ftn_tree.specs.declared.parts.DataGroup.{DataGroup}
use Rattle.ftn_tree.specs.declared.parts.DataValue.{DataValue}
use Rattle.ftn_tree.specs.declared.parts.Designator.{Designator}
use Rattle.ftn_tree.specs.declared.parts.EntityDecl.{EntityDecl}
use Rattle.ftn_tree.specs.declared.parts.Repeat.{Repeat}
use Rattle.ftn_tree.specs.declared.parts.Repeat.TheVariants as repeat
use Rattle.ftn_tree.specs.declared.parts.Sign.{Sign}
use Rattle.ftn_tree.specs.declared.parts.Sign.TheVariants as sign
use Rattle.ftn_tree.specs.declared.table.Entity.{Entity}
use Rattle.ftn_tree.specs.declared.table.Extent.{Extent}
use Rattle.ftn_tree.specs.declared.table.Scope.{Scope}
use Rattle.ftn_tree.specs.declared.table.ScopeKind.{ScopeKind}
use Rattle.ftn_tree.specs.declared.table.ScopeKind.TheVariants as scopes
use Rattle.ftn_tree.specs.declared.unit.FileTree.{FileTree}
use Rattle.ftn_tree.specs.declared.value.Kind.{Kind}
use Rattle.ftn_tree.specs.declared.value.Value.{Value}
use Rattle.ftn_tree.specs.declared.value.Value.TheVariants as value
use Rattle.ftn_tree.specs.Extents.{scoping, layer_at}
use Rattle.ftn_tree.specs.Layers.{FormLayer}
use Rattle.ftn_tree.specs.Scopes.{own_statements}
use Rattle.ftn_tree.specs.Sayings.{Saying, sayings, saved, initial, member}
use Rattle.ftn_tree.specs.Roles.{says}
use Rattle.ftn_tree.specs.declared.mention.Role.TheVariants as role
use Rattle.core_prog.specs.declared.storage.Area.{Area}
use Rattle.core_prog.specs.declared.storage.Content.{Content}
use Rattle.core_prog.specs.declared.storage.Content.TheVariants.{Nothing, Whole, Truth, Byte}
use Rattle.core_prog.specs.declared.storage.Run as runs
use Rattle.core_prog.specs.declared.storage.Dimension.{Dimension}
use Rattle.core_prog.specs.declared.storage.Limit.{Limit}
use Rattle.core_prog.specs.declared.storage.Limit.TheVariants as limit
use Rattle.core_prog.specs.declared.storage.Home.{Home}
use Rattle.core_prog.specs.declared.storage.Home.TheVariants as home
use Rattle.core_prog.specs.declared.storage.Variable.{Variable}
use Rattle.ftn_tree.specs.Arrays.{axis_from, elements, place_in, at_least_zero}
use Rattle.core_prog.specs.Contents.{stored, contents_of}
use Rattle.core_prog.specs.Holdings.{unit_of}
use Rattle.core_prog.specs.Terms.{Term, paren, variable, designator}
use Rattle.core_prog.specs.Naming.{Known, number_of, entity_at, scope_at, kind_at, rank_of, shape_at, bounds_of, denoted, file_of, scope_opened, dummies_in, variable_number, procedure_of_scope, is_function, is_answer}
use Rattle.core_prog.specs.Naming as known_value
use Rattle.core_prog.specs.ResolvedTerms.{resolved_term}
use Rattle.core_prog.specs.ResolvedActions.{constant_value, constant_whole, enough}

-- ---- what an entity's declaration says

abbrev pub bounds_or : AttributeKind → List BoundPair → List BoundPair
bounds_or (attribute.Dimension pairs) rest = pairs
bounds_or other rest = rest

-- the bounds of the attribute DIMENSION
abbrev pub attribute_bounds : List Attribute → List BoundPair
attribute_bounds [] = []
attribute_bounds (a ∷ rest) = bounds_or a.kind (attribute_bounds rest)

abbrev pub is_parameter : AttributeKind → Bool
is_parameter attribute.Parameter = true
is_parameter other = false

abbrev pub is_constant : List Attribute → Bool
is_constant attributes = list_any (λ (a : Attribute). is_parameter a.kind) attributes

-- a name and its bounds
abbrev pub Bounded : Type 0
Bounded = ℕ × List BoundPair

-- bounds that stand behind the name come before those of the attribute
abbrev pub entity_bounds : List Attribute → EntityDecl → Bounded
entity_bounds attributes e = (e.name, unwrap_or e.bounds (attribute_bounds attributes))

-- the names to which a statement gives bounds, with the bounds
abbrev pub bounds_said : Option FormLayer → List Bounded
bounds_said (Some (Form-F.Declare ty attributes colons entities)) = map (entity_bounds attributes) entities
bounds_said (Some (Form-F.Dimension colons arrays)) = map (λ (a : ArrayDecl). (a.name, a.bounds)) arrays
bounds_said other = []

-- a dummy argument as a bound, in parentheses or not
abbrev pub bound_variable : Term → Option ℕ
bound_variable (paren inner) = bound_variable inner
bound_variable (variable (designator at v subscripts range)) = Some v
bound_variable other = None

abbrev pub is_module : ScopeKind → Bool
is_module scopes.Module = true
is_module other = false

abbrev pub is_plain_save : Option FormLayer → Bool
is_plain_save (Some (Form-F.Save colons [])) = true
is_plain_save other = false

-- ---- rows of contents

abbrev pub same_content : Content → Content → Bool
same_content Nothing Nothing = true
same_content (Whole a) (Whole b) = int_eq a b
same_content (Truth a) (Truth b) = if a then b else not b
same_content (Byte a) (Byte b) = a == b
same_content a b = false

abbrev pub run_of : ℕ → Content → runs.Run
run_of n content = record { count = n; content = content }

abbrev pub joined : Content → List runs.Run → List runs.Run
joined content [] = run_of 1 content ∷ []
joined content (r ∷ rest) = if same_content content r.content then run_of (suc r.count) content ∷ rest else run_of 1 content ∷ r ∷ rest

-- equal neighbours are one run
abbrev pub runs_of : List Content → List runs.Run
runs_of [] = []
runs_of (content ∷ contents) = joined content (runs_of contents)

-- a value for an element of an object, by its place in array order
pub record Giving : Type 0 where
  pub entity : ℕ
  pub element : ℕ
  pub value : Value

module _ (known : Known) where
  -- ---- variables

  -- the statements of a file, as their forms
  abbrev pub layers_in : ℕ → List (Option FormLayer)
  layers_in file = option_map_or (λ (tree : FileTree). map (layer_at known.files file) (range_with_len 0 (length tree.statements))) (slice_get known.files file) []

  -- a name of the entity, with bounds
  abbrev pub is_token_of : ℕ → ℕ → Bounded → Bool
  is_token_of file number one = nat_lt 0 (length one.1) && option_map_or (λ other. other == number) (denoted known file one.0) false

  abbrev pub declared_bounds : ℕ → ℕ → List BoundPair
  declared_bounds file number = option_map_or (λ (one : Bounded). one.1) (find (is_token_of file number) (flat_map bounds_said (layers_in file))) []

  abbrev pub limit_or : Option ℤ → Term → Limit
  limit_or (Some z) term = limit.Number z
  limit_or None term = option_map_or limit.Dummy (bound_variable term) limit.Open

  -- a bound of a dummy array: a constant, or a dummy argument
  abbrev pub limit_in : ℕ → ℕ → Expr → Limit
  limit_in file scope e = limit_or (constant_whole known file scope e) (resolved_term known file scope e)

  abbrev pub dimension_in : ℕ → ℕ → BoundPair → Dimension
  dimension_in file scope pair = record {
    low = option_map_or (limit_in file scope) pair.low (limit.Number (pos 1));
    high = option_map_or (limit_in file scope) pair.high limit.Open;
  }

  abbrev pub number_dimension : ℤ × ℤ → Dimension
  number_dimension pair = record { low = limit.Number pair.0; high = limit.Number pair.1 }

  -- the scoping unit whose own variable or result an entity is
  abbrev pub own_scope : Entity → Option ℕ
  own_scope e = if is_function e.kind then e.opens else e.home

  abbrev pub dimensions_of : ℕ → ℕ → List Dimension
  dimensions_of scope number =
      option_map_or (λ shape. map number_dimension (bounds_of known number)) (shape_at known number) (map (dimension_in (file_of known scope) scope) (declared_bounds (file_of known scope) number))

  abbrev pub object_number : ℕ → Option ℕ
  object_number number = position (λ (id : EntityId). number_of id == number) known.objects

  abbrev pub place_of : ℕ → Option (ℕ × ℕ)
  place_of number = option_and_then (slice_get known.places) (object_number number)

  abbrev pub home_in : Option ℕ → ℕ → Home
  home_in scope number =
      option_map_or (λ (place : ℕ × ℕ). home.Stored place.0 place.1 (option_and_then (procedure_of_scope known) scope)) (place_of number)
      (home.Dummy (unwrap_or (option_and_then (procedure_of_scope known) scope) 0) (option_map_or (λ s. unwrap_or (position (λ one. one == number) (dummies_in known s)) 0) scope 0))

  abbrev pub variable_of : ℕ → Entity → Variable
  variable_of number e = record {
    ty = option_map_or (λ (kind : Kind). kind.ty) (kind_at known number) Integer;
    dimensions = dimensions_of (unwrap_or (own_scope e) 0) number;
    home = home_in (own_scope e) number;
  }

  -- ---- areas that are kept (5.2.4, 14.7.6)

  abbrev pub extent_of : Scope → Option Extent
  extent_of s = find (λ (e : Extent). e.file == s.unit.file && e.opening == s.unit.statement) (scoping known.files)

  -- saved by its name or by its initial value, or in COMMON
  abbrev pub is_keeping : ℕ → ℕ → Saying → Bool
  is_keeping file number s =
      (saved s || initial s || member s || says role.Given s.said) && option_map_or (λ other. other == number) (denoted known file s.said.token) false

  -- SAVE without names, of variables alone
  abbrev pub is_saved_plainly : Extent → Entity → Bool
  is_saved_plainly x e = not (is_function e.kind) && not (is_answer e.kind) && list_any (λ statement. is_plain_save (layer_at known.files x.file statement)) (own_statements known.files x)

  abbrev pub is_kept_in : ℕ → Entity → Scope → Bool
  is_kept_in number e s =
      is_module s.kind || option_map_or (λ (x : Extent). is_saved_plainly x e || list_any (is_keeping x.file number) (sayings known.files x)) (extent_of s) false

  abbrev pub is_kept : ℕ → Bool
  is_kept number = option_map_or (λ (e : Entity). option_map_or (is_kept_in number e) (option_and_then (scope_at known) (own_scope e)) false) (entity_at known number) false

  -- the objects of an area
  abbrev pub members_of : ℕ → List ℕ
  members_of area = filter (λ number. option_map_or (λ (place : ℕ × ℕ). place.0 == area) (place_of number) false) (map number_of known.objects)

  abbrev pub owner_of : ℕ → Option ℕ
  owner_of number = option_and_then (procedure_of_scope known) (option_and_then own_scope (entity_at known number))

  abbrev pub emptier_of : List ℕ → Option ℕ
  emptier_of [] = None
  emptier_of (first ∷ rest) = if list_any is_kept (first ∷ rest) then None else owner_of first

  -- ---- initial values (5.1, 5.2.9)

  abbrev pub count_of : ℕ → ℕ
  count_of number = elements (map axis_from (bounds_of known number))

  abbrev pub to_all : ℕ → Value → List Giving
  to_all number v = map (λ n. record { entity = number; element = n; value = v }) (range_with_len 0 (count_of number))

  abbrev pub given_by : ℕ → EntityDecl → List Giving
  given_by file e =
      option_map_or (λ number. option_map_or (λ expr. option_map_or (to_all number) (constant_value (enough known file 0) (resolved_term known file 0 expr)) []) e.value []) (denoted known file e.name) []

  abbrev pub signed : Option Sign → ℤ → ℤ
  signed (Some sign.Minus) z = neg_ℤ z
  signed other z = z

  abbrev pub constant_there : ℕ → ℕ → Option Value
  constant_there file token = option_and_then (known_value.constant_value known) (denoted known file token)

  abbrev pub data_value : ℕ → DataConstant → Option Value
  data_value file (data_constant.Whole s token z) = Some (value.Whole (signed s z))
  data_value file (data_constant.Truth token holds) = Some (value.Truth holds)
  data_value file (data_constant.Quoted token text) = Some (value.Chars text)
  data_value file (data_constant.Named token) = constant_there file token

  abbrev pub times_in : Option Value → ℕ
  times_in (Some (value.Whole z)) = at_least_zero z
  times_in other = 0

  abbrev pub times : ℕ → Option Repeat → ℕ
  times file None = 1
  times file (Some (repeat.Whole token z)) = at_least_zero z
  times file (Some (repeat.Named token)) = times_in (constant_there file token)

  abbrev pub data_values : ℕ → List DataValue → List (Option Value)
  data_values file vs = flat_map (λ (v : DataValue). replicate (times file v.repeat) (data_value file v.constant)) vs

  abbrev pub wholes_in : ℕ → List Expr → List ℤ
  wholes_in file [] = []
  wholes_in file (e ∷ rest) = unwrap_or (constant_whole known file 0 e) (pos 0) ∷ wholes_in file rest

  -- the elements of an object of DATA, by their places in array order
  abbrev pub elements_at : ℕ → ℕ → Option (List Expr) → List (ℕ × ℕ)
  elements_at file number None = map (λ n. (number, n)) (range_with_len 0 (count_of number))
  elements_at file number (Some subscripts) = (number, unwrap_or (place_in (map axis_from (bounds_of known number)) (wholes_in file subscripts)) 0) ∷ []

  abbrev pub data_elements : ℕ → List Designator → List (ℕ × ℕ)
  data_elements file ds = flat_map (λ (d : Designator). option_map_or (λ number. elements_at file number d.subscripts) (denoted known file d.name) []) ds

  abbrev pub giving_of : (ℕ × ℕ) × Option Value → List Giving
  giving_of (at, found) = option_map_or (λ v. record { entity = at.0; element = at.1; value = v } ∷ []) found []

  -- 5.2.9: objects and values in their order
  abbrev pub given_in_group : ℕ → DataGroup → List Giving
  given_in_group file g = flat_map giving_of (zip (data_elements file g.objects) (data_values file g.values))

  abbrev pub given_at : ℕ → Option FormLayer → List Giving
  given_at file (Some (Form-F.Declare ty attributes colons entities)) = if is_constant attributes then [] else flat_map (given_by file) entities
  given_at file (Some (Form-F.Data groups)) = flat_map (given_in_group file) groups
  given_at file other = []

  -- all initial values of the project
  abbrev pub givings : List Giving
  givings = flat_map (λ file. flat_map (given_at file) (layers_in file)) (range_with_len 0 (length known.files))

  abbrev pub unit_at : ℕ → ℕ
  unit_at number = option_map_or (λ (kind : Kind). unit_of kind.ty) (kind_at known number) 1

  abbrev pub put_in : ℕ → List Content → Giving → List Content
  put_in area cells g =
      option_map_or (λ (place : ℕ × ℕ). if place.0 == area then stored (place.1 + g.element * unit_at g.entity) (contents_of (unit_at g.entity) g.value) cells else cells) (place_of g.entity) cells

  -- what an area holds before the run
  abbrev pub contents_in : ℕ → ℕ → List Content
  contents_in area size = fold (put_in area) (replicate size Nothing) givings

  abbrev pub area_of : ℕ × ℕ → Area
  area_of (number, size) = record {
    start = sum (take number known.sizes);
    size = size;
    initial = runs_of (contents_in number size);
    emptied = emptier_of (members_of number);
  }

  -- areas adjoin in the row of all units
  abbrev pub areas_of : List Area
  areas_of = map area_of (enumerate_from 0 known.sizes)
