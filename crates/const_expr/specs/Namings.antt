-- What names are by tables that are kept.
use Rattle.std.specs.Prelude.{ℕ, List, map, slice_get, Option, Some, None}
use Rattle.std.specs.Option.{option_map, option_and_then}
use Rattle.ftn_tree.specs.declared.expr.Expr.{Expr}
use Rattle.ftn_tree.specs.declared.expr.Part.{Part, fold-Part}
use Rattle.ftn_tree.specs.Trees.{Tree, Section, end_of, section_of, tree_step, part_step, tree_of}
use Rattle.ftn_tree.specs.Evaluations as spec
use Rattle.const_expr.specs.declared.naming.Naming.{Naming}
use Rattle.const_expr.specs.declared.naming.Naming.TheVariants as kept

abbrev pub naming_of : Option Naming → spec.Naming
naming_of None = spec.Stray
naming_of (Some (kept.Function function)) = spec.Intrinsic function
naming_of (Some (kept.Constant value rank bounds)) = spec.Constant value rank bounds
naming_of (Some kept.Stray) = spec.Stray

abbrev pub entity_in : List (Option ℕ) → ℕ → Option ℕ
entity_in row token = option_and_then (λ entity. entity) (slice_get row token)

abbrev pub kept_at : List (Option ℕ) → List Naming → ℕ → Option Naming
kept_at row namings token = option_and_then (slice_get namings) (entity_in row token)

abbrev pub naming_by : List (Option ℕ) → List Naming → ℕ → spec.Naming
naming_by row namings token = naming_of (kept_at row namings token)

-- what an expression gives
abbrev pub evaluated_by : List (Option ℕ) → List Naming → Expr → spec.Evaluated
evaluated_by row namings expr = spec.evaluated (naming_by row namings) (tree_of expr)

abbrev pub given_by : List (Option ℕ) → List Naming → Option (List Expr) → Option (List spec.Evaluated)
given_by row namings args = option_map (map (evaluated_by row namings)) args

abbrev pub end_by : List (Option ℕ) → List Naming → Option Expr → Option spec.Evaluated
end_by row namings end = spec.evaluated_end (naming_by row namings) (end_of (option_map tree_of end))

abbrev pub range_by : List (Option ℕ) → List Naming → Option Part → Option (Option spec.Evaluated × Option spec.Evaluated)
range_by row namings part = spec.evaluated_section (naming_by row namings) (section_of (option_map (fold-Part Tree Section tree_step part_step) part))
