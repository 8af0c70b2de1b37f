-- The shapes of entities, and what is told of them (Fortran 90, 2.4.5, 5.1.1.5, 5.1.2.4; that a variable other than a dummy argument has a unit
-- is this project's own).
use Rattle.std.specs.Prelude.{ℕ, ℤ, ◌==◌, Bool, true, false, not, ◌&&◌, ◌||◌, if◌then◌else◌, List, [], ◌∷◌, ◌++◌, map, length, Option, Some, None}
use Rattle.std.specs.List.{flat_map, list_any}
use Rattle.std.specs.Option.{is_none, option_map, option_map_or, option_and_then}
use Rattle.ftn_base.specs.declared.entity.Length.TheVariants.{Fixed, Assumed}
use Rattle.ftn_base.specs.declared.entity.Shape.{Shape}
use Rattle.ftn_base.specs.declared.entity.Ty.{Ty}
use Rattle.ftn_base.specs.declared.entity.Ty.TheVariants as ty
use Rattle.ftn_base.specs.declared.fault.FaultKind.TheVariants.{NotConstant, BadShape}
use Rattle.ftn_tree.specs.declared.expr.Expr.{Expr}
use Rattle.ftn_tree.specs.declared.parts.BoundPair.{BoundPair}
use Rattle.ftn_tree.specs.declared.parts.CharLength.{CharLength}
use Rattle.ftn_tree.specs.declared.parts.CharLength.TheVariants as star
use Rattle.ftn_tree.specs.declared.parts.LengthValue.TheVariants as lengths
use Rattle.ftn_tree.specs.declared.unit.FileTree.{FileTree}
use Rattle.ftn_tree.specs.declared.value.Value.{Value}
use Rattle.ftn_tree.specs.declared.value.Value.TheVariants as value
use Rattle.ftn_tree.specs.Extents.{layer_at}
use Rattle.ftn_tree.specs.Sayings.{Saying, dummy, answer}
use Rattle.ftn_tree.specs.GlobalNames.{place}
use Rattle.ftn_tree.specs.DeclarationFaults.{Finding, found}
use Rattle.ftn_tree.specs.DeclaredEntities.{is_said, is_referenced, has_result_at, has_type, kind_said}
use Rattle.ftn_tree.specs.Meanings.{Key, own}
use Rattle.ftn_tree.specs.Bindings.{is_letter_typed}
use Rattle.ftn_tree.specs.NameFaults.{said_of, begins}
use Rattle.ftn_tree.specs.Trees.{Tree, refer, no_args, no_section, tree_of}
use Rattle.ftn_tree.specs.declared.intrinsic.ValueFault.{ValueFault}
use Rattle.ftn_tree.specs.Sorts.{Whole, is_sort}
use Rattle.ftn_tree.specs.Declarations.{typing_of, written_bounds, length_of}
use Rattle.ftn_tree.specs.KeyKinds.{Datum, datum_of, key_at, kind_of, is_constant, is_dummy, sort_of, rank_of}
use Rattle.ftn_tree.specs.Evaluations.{Evaluated, told_of}
use Rattle.ftn_tree.specs.Circles.{expressions_of}
use Rattle.ftn_tree.specs.Constants.{known_of, declared_type, pairs_of, all_pairs, is_empty_pair, given}

-- ---- shapes

abbrev pub type_of : List FileTree → Datum → Option Ty
type_of files d = declared_type files (known_of files) d

-- 5.1.1.5: the length `*` of a constant is that of its value
abbrev pub with_value : Option Value → Ty → Ty
with_value (Some (value.Chars text)) (ty.Character Assumed) = ty.Character (Fixed (length text))
with_value v known = known

-- the type of an entity, its length with it
abbrev pub full_type : List FileTree → Key → Option Ty
full_type files key = option_map (with_value (known_of files key).value) (option_and_then (type_of files) (datum_of files key))

abbrev pub bounds_of : List FileTree → Key → Option (List (ℤ × ℤ))
bounds_of files key = option_and_then (λ d. all_pairs (pairs_of files (known_of files) d)) (datum_of files key)

abbrev pub shape : Ty → List (ℤ × ℤ) → Shape
shape known bounds = record { ty = known; bounds = bounds }

-- the type and the bounds, where all are constant
abbrev pub shape_of : List FileTree → Key → Option Shape
shape_of files key = option_and_then (λ known. option_map (shape known) (bounds_of files key)) (full_type files key)

-- ---- what is told of an expression that has to be constant

abbrev pub told_breach : ℕ → ValueFault × ℕ → List Finding
told_breach file (breach, token) = option_map_or (λ kind. found kind (place file token) ∷ []) (told_of breach) []

abbrev pub breaches_told : ℕ → Evaluated → List Finding
breaches_told file e = flat_map (told_breach file) e.breaches

abbrev pub strays_told : ℕ → Evaluated → List Finding
strays_told file e = map (λ token. found NotConstant (place file token)) e.strays

abbrev pub all_told : ℕ → Evaluated → List Finding
all_told file e = strays_told file e ++ breaches_told file e

-- ---- bounds (5.1.2.4)

abbrev pub has_strays : Evaluated → Bool
has_strays e = not (length e.strays == 0)

-- a bound that isn't constant
abbrev pub is_loose : List FileTree → ℕ → BoundPair → Bool
is_loose files file pair = is_none pair.high || list_any (λ bound. has_strays (given files file bound)) (expressions_of pair)

-- 5.1.2.4: a bound of a dummy array may be a scalar integer dummy argument
abbrev pub is_dummy_key : List FileTree → Option Key → Bool
is_dummy_key files None = false
is_dummy_key files (Some key) =
    is_dummy (kind_of files key) && option_map_or (λ d. (rank_of files d == 0) && is_sort Whole (sort_of files d)) (datum_of files key) false

abbrev pub is_dummy_bound : List FileTree → ℕ → Tree → Bool
is_dummy_bound files file (refer name no_args no_section) = is_dummy_key files (key_at files file name)
is_dummy_bound files file tree = false

abbrev pub dummy_bound_told : List FileTree → ℕ → Expr → List Finding
dummy_bound_told files file bound = if is_dummy_bound files file (tree_of bound) then [] else all_told file (given files file bound)

abbrev pub bounds_told : List FileTree → Bool → Datum → List Finding
bounds_told files of_dummy d =
    flat_map (λ bound. if of_dummy then dummy_bound_told files d.scope.file bound else breaches_told d.scope.file (given files d.scope.file bound))
    (flat_map expressions_of (written_bounds files d.scope d.name))

-- ---- entities without a shape

abbrev pub is_assumed : Option CharLength → Bool
is_assumed (Some (star.Paren lengths.Assumed)) = true
is_assumed _ = false

-- the length `*` is for dummy arguments and constants
abbrev pub has_star : List FileTree → Datum → Bool
has_star files d = option_map_or (λ typing. is_assumed (length_of typing)) (typing_of files d.scope d.name) false

abbrev pub is_none_long : Option Ty → Bool
is_none_long (Some (ty.Character (Fixed n))) = n == 0
is_none_long _ = false

abbrev pub has_bad_bounds : List FileTree → Datum → Bool
has_bad_bounds files d =
    list_any (is_loose files d.scope.file) (written_bounds files d.scope d.name) || list_any is_empty_pair (pairs_of files (known_of files) d)

-- one that is no dummy argument: bounds that aren't constant, no element, no unit
abbrev pub is_bad : List FileTree → Bool → Datum → Bool
is_bad files of_constant d = has_bad_bounds files d || (not of_constant && is_none_long (type_of files d))

-- ---- one name of a scoping unit

abbrev pub is_datum : List FileTree → Datum → List Saying → Bool
is_datum files d said =
    is_said answer said || is_letter_typed files d.scope d.name
    || option_map_or has_type (kind_said (has_result_at (layer_at files d.scope.file d.scope.opening)) (is_referenced files d.scope d.name) said) false

abbrev pub bad_shape : List FileTree → Datum → List Saying → Bool → List Finding
bad_shape files d said bad = if bad then found BadShape (place d.scope.file (begins said)) ∷ [] else []

abbrev pub datum_told : List FileTree → Bool → Bool → Datum → List Saying → List Finding
datum_told files of_dummy of_constant d said =
    if is_datum files d said
    then bounds_told files of_dummy d ++ bad_shape files d said (not of_dummy && is_bad files of_constant d) else []

abbrev pub shape_findings : List FileTree → Datum → List Finding
shape_findings files d =
    let said = said_of files d.scope d.name in
    let of_dummy = is_said dummy said in
    let of_constant = is_constant (kind_of files (own d.scope d.name)) in
    datum_told files of_dummy of_constant d said ++ bad_shape files d said (has_star files d && not of_dummy && not of_constant)
