-- What is known of a name, by what expressions give. It serves the proof alone.
use Rattle.std.specs.Prelude.{ℤ, if◌then◌else◌, List, map, Option, Some, None}
use Rattle.std.specs.List.{list_any}
use Rattle.std.specs.Option.{option_map_or, option_and_then}
use Rattle.ftn_base.specs.declared.entity.Ty.{Ty}
use Rattle.ftn_tree.specs.declared.expr.Expr.{Expr}
use Rattle.ftn_tree.specs.declared.unit.FileTree.{FileTree}
use Rattle.ftn_tree.specs.declared.value.Value.{Value}
use Rattle.ftn_tree.specs.Constants.{Known, all_pairs, bound_pair, is_empty_pair, letter_type, with_length, written_type}
use Rattle.ftn_tree.specs.Declarations.{typing_of, written_bounds, written_value}
use Rattle.ftn_tree.specs.Evaluations.{Evaluated}
use Rattle.ftn_tree.specs.KeyKinds.{Datum, sort_of}
use Rattle.ftn_tree.specs.NameFaults.{letter_of}
use Rattle.ftn_tree.specs.Sorts.{is_sort, sort_of_value}

abbrev pub declared_by : (Expr → Evaluated) → List FileTree → Datum → Option Ty
declared_by evaluate files d = option_map_or (written_type evaluate) (typing_of files d.scope d.name) (letter_type (letter_of files d.scope d.name))

abbrev pub pairs_by : (Expr → Evaluated) → List FileTree → Datum → List (Option (ℤ × ℤ))
pairs_by evaluate files d = map (bound_pair evaluate) (written_bounds files d.scope d.name)

abbrev pub held_by : (Expr → Evaluated) → List FileTree → Datum → Value → Option Value
held_by evaluate files d v = if is_sort (sort_of_value v) (sort_of files d) then Some (with_length (declared_by evaluate files d) v) else None

abbrev pub value_by : (Expr → Evaluated) → List FileTree → Datum → Option Value
value_by evaluate files d = option_and_then (held_by evaluate files d) (option_and_then (λ e. (evaluate e).value) (written_value files d.scope d.name))

abbrev pub bounds_by : (Expr → Evaluated) → List FileTree → Datum → Option (List (ℤ × ℤ))
bounds_by evaluate files d =
    if list_any is_empty_pair (pairs_by evaluate files d) then None
    else option_and_then (λ declared. all_pairs (pairs_by evaluate files d)) (declared_by evaluate files d)

abbrev pub all_by : (Expr → Evaluated) → List FileTree → Datum → Known
all_by evaluate files d = record { value = value_by evaluate files d; bounds = bounds_by evaluate files d }
