-- What statements declare of a name beside its role: its type, its length, its bounds and its value (Fortran 90, 5.1, 5.2.5, 5.2.10, 5.5.2,
-- 12.5.2.2).
use Rattle.std.specs.Prelude.{ℕ, List, [], ◌∷◌, map, slice_get, Option, Some, None}
use Rattle.std.specs.List.{filter, filter_map, flat_map}
use Rattle.std.specs.Option.{option_map_or, option_or, unwrap_or}
use Rattle.std.specs.Str.{bytes_eq}
use Rattle.ftn_tree.specs.declared.expr.Expr.{Expr}
use Rattle.ftn_tree.specs.declared.form.Form.TheOpen.{Form-F}
use Rattle.ftn_tree.specs.declared.parts.ArrayDecl.{ArrayDecl}
use Rattle.ftn_tree.specs.declared.parts.Attribute.{Attribute}
use Rattle.ftn_tree.specs.declared.parts.AttributeKind.{AttributeKind}
use Rattle.ftn_tree.specs.declared.parts.AttributeKind.TheVariants as attr
use Rattle.ftn_tree.specs.declared.parts.BoundPair.{BoundPair}
use Rattle.ftn_tree.specs.declared.parts.CharLength.{CharLength}
use Rattle.ftn_tree.specs.declared.parts.CharLength.TheVariants as star
use Rattle.ftn_tree.specs.declared.parts.CommonGroup.{CommonGroup}
use Rattle.ftn_tree.specs.declared.parts.CommonMember.{CommonMember}
use Rattle.ftn_tree.specs.declared.parts.EntityDecl.{EntityDecl}
use Rattle.ftn_tree.specs.declared.parts.LengthSelector.{LengthSelector}
use Rattle.ftn_tree.specs.declared.parts.LengthSelector.TheVariants as selector
use Rattle.ftn_tree.specs.declared.parts.NamedConstant.{NamedConstant}
use Rattle.ftn_tree.specs.declared.parts.TypeSpec.{TypeSpec}
use Rattle.ftn_tree.specs.declared.parts.TypeSpec.TheVariants as type
use Rattle.ftn_tree.specs.declared.table.Extent.{Extent}
use Rattle.ftn_tree.specs.declared.unit.FileTree.{FileTree}
use Rattle.ftn_tree.specs.Layers.{FormLayer}
use Rattle.ftn_tree.specs.Extents.{layer_at}
use Rattle.ftn_tree.specs.Scopes.{name_at, own_statements}

-- what one statement declares of a name, by the token of the name
pub record Declared : Type 0 where
  pub name : ℕ
  pub ty : Option TypeSpec
  pub length : Option CharLength
  pub bounds : Option (List BoundPair)
  pub value : Option Expr

abbrev pub bounds_in : Attribute → Option (List BoundPair)
bounds_in a = of a.kind where
  of : AttributeKind → Option (List BoundPair)
  of (attr.Dimension pairs) = Some pairs
  of _ = None

-- 5.1.2.4: the bounds that the attribute DIMENSION gives all entities of a statement that have none of their own
abbrev pub shared_bounds : List Attribute → Option (List BoundPair)
shared_bounds attributes = slice_get (filter_map bounds_in attributes) 0

abbrev pub of_entity : TypeSpec → Option (List BoundPair) → EntityDecl → Declared
of_entity ty shared e = record { name = e.name; ty = Some ty; length = e.length; bounds = option_or e.bounds shared; value = e.value }

abbrev pub of_array : ArrayDecl → Declared
of_array a = record { name = a.name; ty = None; length = None; bounds = Some a.bounds; value = None }

abbrev pub of_constant : NamedConstant → Declared
of_constant c = record { name = c.name; ty = None; length = None; bounds = None; value = Some c.value }

abbrev pub of_member : CommonMember → Declared
of_member m = record { name = m.name; ty = None; length = None; bounds = m.bounds; value = None }

abbrev pub of_group : CommonGroup → List Declared
of_group g = map of_member g.members

-- 12.5.2.2: the type before FUNCTION is that of the result
abbrev pub of_prefix : TypeSpec → ℕ → Declared
of_prefix ty name = record { name = name; ty = Some ty; length = None; bounds = None; value = None }

abbrev pub declared_at : Option FormLayer → List Declared
declared_at (Some (Form-F.Declare ty attributes colons entities)) = map (of_entity ty (shared_bounds attributes)) entities
declared_at (Some (Form-F.Function (Some ty) name dummies answer)) = of_prefix ty (unwrap_or answer name) ∷ []
declared_at (Some (Form-F.Dimension colons arrays)) = map of_array arrays
declared_at (Some (Form-F.Parameter constants)) = map of_constant constants
declared_at (Some (Form-F.Common groups)) = flat_map of_group groups
declared_at _ = []

-- all that a scoping unit declares of a name, in the order of statements
abbrev pub declarations_of : List FileTree → Extent → List ℕ → List Declared
declarations_of files e name =
    filter (λ (d : Declared). bytes_eq (name_at files e.file d.name) name) (flat_map (λ statement. declared_at (layer_at files e.file statement)) (own_statements files e))

-- ---- of a name each at most once (14.1.2): the first

abbrev pub if_typed : Declared → Option (TypeSpec × Declared)
if_typed d = option_map_or (λ ty. Some (ty, d)) d.ty None

abbrev pub typing_of : List FileTree → Extent → List ℕ → Option (TypeSpec × Declared)
typing_of files e name = slice_get (filter_map if_typed (declarations_of files e name)) 0

abbrev pub written_bounds : List FileTree → Extent → List ℕ → List BoundPair
written_bounds files e name = unwrap_or (slice_get (filter_map (λ (d : Declared). d.bounds) (declarations_of files e name)) 0) []

abbrev pub written_value : List FileTree → Extent → List ℕ → Option Expr
written_value files e name = slice_get (filter_map (λ (d : Declared). d.value) (declarations_of files e name)) 0

-- ---- the length of a character entity (5.1.1.5): its own, else that of the type

abbrev pub selected : LengthSelector → CharLength
selected (selector.Star length) = length
selected (selector.Paren has_word length) = star.Paren length

abbrev pub type_length : TypeSpec → Option CharLength
type_length (type.Character (Some written)) = Some (selected written)
type_length _ = None

abbrev pub length_of : TypeSpec × Declared → Option CharLength
length_of (ty, d) = option_or d.length (type_length ty)
