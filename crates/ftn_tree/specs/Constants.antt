-- The values of named constants, and the lengths and bounds of entities (Fortran 90, 2.4.3.1.3, 5.1, 5.1.1.5, 5.1.2.4.1, 5.2.10, 7.1.6.1).
use Rattle.std.specs.Prelude.{ℕ, zero, suc, ℤ, pos, negsuc, int_lt, Bool, false, if◌then◌else◌, List, [], ◌∷◌, map, length, Option, Some, None}
use Rattle.std.specs.List.{list_any}
use Rattle.std.specs.Option.{option_map, option_map_or, option_and_then}
use Rattle.ftn_base.specs.declared.entity.Length.{Length}
use Rattle.ftn_base.specs.declared.entity.Length.TheVariants.{Fixed, Assumed}
use Rattle.ftn_base.specs.declared.entity.Letter.{Letter}
use Rattle.ftn_base.specs.declared.entity.Letter.TheVariants as letter
use Rattle.ftn_base.specs.declared.entity.Ty.{Ty}
use Rattle.ftn_base.specs.declared.entity.Ty.TheVariants as ty
use Rattle.ftn_tree.specs.declared.expr.Expr.{Expr}
use Rattle.ftn_tree.specs.declared.parts.BoundPair.{BoundPair}
use Rattle.ftn_tree.specs.declared.parts.CharLength.{CharLength}
use Rattle.ftn_tree.specs.declared.parts.CharLength.TheVariants as star
use Rattle.ftn_tree.specs.declared.parts.LengthValue.{LengthValue}
use Rattle.ftn_tree.specs.declared.parts.LengthValue.TheVariants as lengths
use Rattle.ftn_tree.specs.declared.parts.TypeSpec.{TypeSpec}
use Rattle.ftn_tree.specs.declared.parts.TypeSpec.TheVariants as type
use Rattle.ftn_tree.specs.declared.unit.FileTree.{FileTree}
use Rattle.ftn_tree.specs.declared.value.Value.{Value}
use Rattle.ftn_tree.specs.declared.value.Value.TheVariants as value
use Rattle.ftn_tree.specs.Meanings.{Key, intrinsic_function}
use Rattle.ftn_tree.specs.NameFaults.{letter_of}
use Rattle.ftn_tree.specs.Trees.{tree_of}
use Rattle.ftn_tree.specs.Operations.{fitted}
use Rattle.ftn_tree.specs.declared.intrinsic.Intrinsic as intrinsics
use Rattle.ftn_tree.specs.Intrinsics.{function_named}
use Rattle.ftn_tree.specs.Sorts.{is_sort, sort_of_value}
use Rattle.ftn_tree.specs.Circles.{constants, is_circular}
use Rattle.ftn_tree.specs.Declarations.{Declared, typing_of, written_bounds, written_value, length_of}
use Rattle.ftn_tree.specs.KeyKinds.{Datum, datum_of, key_at, kind_of, is_constant, sort_of, rank_of}
use Rattle.ftn_tree.specs.Evaluations.{Naming, Intrinsic, Constant, Stray, Evaluated, evaluated}

-- what is known of a constant: its value, or that of each element of an array, and its bounds
pub record Known : Type 0 where
  pub value : Option Value
  pub bounds : Option (List (ℤ × ℤ))

-- ---- names in constant expressions

abbrev pub function_if : Option intrinsics.Intrinsic → Naming
function_if None = Stray
function_if (Some function) = Intrinsic function

abbrev pub constant_if : List FileTree → (Key → Known) → Key → Naming
constant_if files known key =
    if is_constant (kind_of files key) then Constant (known key).value (option_map_or (rank_of files) (datum_of files key) 0) (known key).bounds else Stray

abbrev pub naming_of : List FileTree → (Key → Known) → Option Key → Naming
naming_of files known None = Stray
naming_of files known (Some (intrinsic_function name)) = function_if (function_named name)
naming_of files known (Some key) = constant_if files known key

abbrev pub naming_at : List FileTree → (Key → Known) → ℕ → ℕ → Naming
naming_at files known file token = naming_of files known (key_at files file token)

abbrev pub evaluated_in : List FileTree → (Key → Known) → ℕ → Expr → Evaluated
evaluated_in files known file e = evaluated (naming_at files known file) (tree_of e)

-- ---- lengths (5.1.1.5): a negative one is 0, none is 1

abbrev pub at_least_none : ℤ → ℕ
at_least_none (pos n) = n
at_least_none (negsuc n) = 0

abbrev pub length_by : Option Value → Option Length
length_by (Some (value.Whole z)) = Some (Fixed (at_least_none z))
length_by _ = None

abbrev pub length_in : (Expr → Evaluated) → LengthValue → Option Length
length_in evaluate lengths.Assumed = Some Assumed
length_in evaluate (lengths.Given e) = length_by (evaluate e).value

abbrev pub written_length : (Expr → Evaluated) → Option CharLength → Option Length
written_length evaluate None = Some (Fixed 1)
written_length evaluate (Some (star.Whole token z)) = Some (Fixed (at_least_none z))
written_length evaluate (Some (star.Paren inner)) = length_in evaluate inner

abbrev pub written_type : (Expr → Evaluated) → TypeSpec × Declared → Option Ty
written_type evaluate (type.Integer, d) = Some ty.Integer
written_type evaluate (type.Logical, d) = Some ty.Logical
written_type evaluate (type.Character selector, d) = option_map ty.Character (written_length evaluate (length_of (type.Character selector, d)))

abbrev pub letter_type : Letter → Option Ty
letter_type (letter.Known known) = Some known
letter_type _ = None

-- the type with its length as it is declared, where that is known
abbrev pub declared_type : List FileTree → (Key → Known) → Datum → Option Ty
declared_type files known d =
    option_map_or (written_type (evaluated_in files known d.scope.file)) (typing_of files d.scope d.name) (letter_type (letter_of files d.scope d.name))

-- ---- bounds (5.1.2.4.1): a lower bound that isn't written is 1

abbrev pub whole_in : Option Value → Option ℤ
whole_in (Some (value.Whole z)) = Some z
whole_in _ = None

abbrev pub bound_value : (Expr → Evaluated) → Option Expr → Option ℤ
bound_value evaluate None = None
bound_value evaluate (Some e) = whole_in (evaluate e).value

abbrev pub low_value : (Expr → Evaluated) → Option Expr → Option ℤ
low_value evaluate None = Some (pos 1)
low_value evaluate (Some e) = whole_in (evaluate e).value

abbrev pub pair_of : Option ℤ → Option ℤ → Option (ℤ × ℤ)
pair_of (Some low) (Some high) = Some (low, high)
pair_of _ _ = None

abbrev pub bound_pair : (Expr → Evaluated) → BoundPair → Option (ℤ × ℤ)
bound_pair evaluate pair = pair_of (low_value evaluate pair.low) (bound_value evaluate pair.high)

abbrev pub all_pairs : List (Option (ℤ × ℤ)) → Option (List (ℤ × ℤ))
all_pairs [] = Some []
all_pairs (pair ∷ rest) = option_and_then (λ first. option_map (λ pairs. first ∷ pairs) (all_pairs rest)) pair

abbrev pub pairs_of : List FileTree → (Key → Known) → Datum → List (Option (ℤ × ℤ))
pairs_of files known d = map (bound_pair (evaluated_in files known d.scope.file)) (written_bounds files d.scope d.name)

-- ---- values (5.2.10): of the constant's type, a text cut or with blanks to the constant's length

abbrev pub with_length : Option Ty → Value → Value
with_length (Some (ty.Character (Fixed n))) (value.Chars text) = value.Chars (fitted n text)
with_length ty v = v

abbrev pub held : List FileTree → (Key → Known) → Datum → Value → Option Value
held files known d v = if is_sort (sort_of_value v) (sort_of files d) then Some (with_length (declared_type files known d) v) else None

abbrev pub value_from : List FileTree → (Key → Known) → Datum → Option Value
value_from files known d =
    option_and_then (held files known d) (option_and_then (λ e. (evaluated_in files known d.scope.file e).value) (written_value files d.scope d.name))

abbrev pub is_empty_pair : Option (ℤ × ℤ) → Bool
is_empty_pair (Some (low, high)) = int_lt high low
is_empty_pair None = false

-- the bounds, where all are known, and so is the length, and there is an element
abbrev pub bounds_from : List FileTree → (Key → Known) → Datum → Option (List (ℤ × ℤ))
bounds_from files known d =
    if list_any is_empty_pair (pairs_of files known d) then None
    else option_and_then (λ declared. all_pairs (pairs_of files known d)) (declared_type files known d)

-- ---- by chains of at most so many references

abbrev pub not_known : Known
not_known = record { value = None; bounds = None }

abbrev pub known_by : List FileTree → (Key → Known) → Datum → Known
known_by files known d = record { value = value_from files known d; bounds = bounds_from files known d }

-- what leads back to itself isn't known
abbrev pub known_from : List FileTree → (Key → Known) → Key → Known
known_from files known key =
    if is_circular files key then not_known else option_map_or (known_by files known) (datum_of files key) not_known

abbrev pub known_after : List FileTree → ℕ → Key → Known
known_after files zero key = not_known
known_after files (suc rounds) key = known_from files (known_after files rounds) key

-- as many as there are constants are enough: a longer chain leads back to one of its own
abbrev pub known_of : List FileTree → Key → Known
known_of files key = known_after files (suc (length (constants files))) key

-- what a constant expression of a file gives
abbrev pub given : List FileTree → ℕ → Expr → Evaluated
given files file e = evaluated_in files (known_of files) file e
