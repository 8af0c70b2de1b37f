-- Types with their lengths, bounds and values of names, by what expressions give. It serves the proof alone.
use Rattle.std.specs.Prelude.{ℕ, ℤ, if◌then◌else◌, List, map, Option, Some, None}
use Rattle.std.specs.Option.{option_map, option_map_or, option_and_then}
use Rattle.ftn_base.specs.declared.entity.Length.{Length}
use Rattle.ftn_base.specs.declared.entity.Length.TheVariants.{Fixed, Assumed}
use Rattle.ftn_base.specs.declared.entity.Ty.{Ty}
use Rattle.ftn_base.specs.declared.entity.Ty.TheVariants as ty
use Rattle.ftn_tree.specs.declared.expr.Expr.{Expr}
use Rattle.ftn_tree.specs.declared.parts.BoundPair.{BoundPair}
use Rattle.ftn_tree.specs.declared.parts.TypeSpec.{TypeSpec}
use Rattle.ftn_tree.specs.declared.parts.TypeSpec.TheVariants as type
use Rattle.ftn_tree.specs.declared.table.Bound.{Bound}
use Rattle.ftn_tree.specs.declared.value.Value.{Value}
use Rattle.ftn_tree.specs.Constants as spec
use Rattle.ftn_tree.specs.Constants.{at_least_none, bound_pair, bound_value, letter_type, low_value, with_length}
use Rattle.ftn_tree.specs.Evaluations.{Evaluated}
use Rattle.ftn_tree.specs.Sorts as sorts
use Rattle.const_expr.specs.Namings.{evaluated_by}
use Rattle.const_value.specs.declared.name_numbers.Owned.{Owned}
use Rattle.const_value.specs.declared.view.View.{View}
use Rattle.const_value.specs.declared.written.Written.{Written}
use Rattle.const_value.specs.steps.Lengths as lengths
use Rattle.const_value.specs.steps.Lengths.{LengthAs, length_as}
use Rattle.const_value.specs.steps.Projects.{letter_of, written_at}
use Rattle.const_value.specs.steps.Written.{TypedAs}

-- what an expression of the file gives
abbrev pub given : View → Expr → Evaluated
given view e = evaluated_by view.names.row.now view.names.namings.now e

abbrev pub length_by : (Expr → Evaluated) → LengthAs → Option Length
length_by evaluate lengths.Unwritten = Some (Fixed 1)
length_by evaluate (lengths.Whole z) = Some (Fixed (at_least_none z))
length_by evaluate lengths.Star = Some Assumed
length_by evaluate (lengths.Given e) = spec.length_by (evaluate e).value

abbrev pub typed_by : (Expr → Evaluated) → TypedAs → Option Ty
typed_by evaluate t = of t.ty where
  of : TypeSpec → Option Ty
  of type.Integer = Some ty.Integer
  of type.Logical = Some ty.Logical
  of (type.Character selector) = option_map ty.Character (length_by evaluate (length_as t))

-- of a name by its number
abbrev pub declared_type : (Expr → Evaluated) → Bound → List Owned → List Written → ℕ → Option Ty
declared_type evaluate bound names written name =
    option_map_or (typed_by evaluate) (written_at written name).typing (letter_type (letter_of bound names name))

abbrev pub pair_values : (Expr → Evaluated) → BoundPair → Option ℤ × Option ℤ
pair_values evaluate pair = (low_value evaluate pair.low, bound_value evaluate pair.high)

abbrev pub pairs_of : (Expr → Evaluated) → List BoundPair → List (Option (ℤ × ℤ))
pairs_of evaluate all = map (bound_pair evaluate) all

-- the value, where it has the name's type, brought to its length
abbrev pub held : Option sorts.Sort → Option Ty → Value → Option Value
held sort known v = if sorts.is_sort (sorts.sort_of_value v) sort then Some (with_length known v) else None

abbrev pub value_of : (Expr → Evaluated) → Option sorts.Sort → Option Ty → Option Expr → Option Value
value_of evaluate sort known written = option_and_then (held sort known) (option_and_then (λ e. (evaluate e).value) written)
