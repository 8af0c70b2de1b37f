-- Types of expressions by what the code keeps of names. It serves the proof alone.
use Rattle.std.specs.Prelude.{ℕ, List, [], map, Option}
use Rattle.std.specs.Option.{is_some, option_map, unwrap_or}
use Rattle.ftn_tree.specs.declared.expr.Expr.{Expr}
use Rattle.ftn_tree.specs.declared.expr.Part.{Part, fold-Part}
use Rattle.ftn_tree.specs.Trees.{Tree, Section, end_of, section_of, tree_step, part_step, tree_of}
use Rattle.ftn_tree.specs.ExpressionTypes as spec
use Rattle.name_types.specs.declared.names.Setting.{Setting}
use Rattle.type_check.specs.steps.Kept.{Sight}
use Rattle.name_types.specs.steps.Senses.{sense_by}
use Rattle.type_check.specs.steps.Sights as sights

abbrev pub typed_by : Setting → Expr → spec.Typed
typed_by s expr = spec.typed (sense_by s) (tree_of expr)

abbrev pub given_by : Setting → Option (List Expr) → Option (List spec.Typed)
given_by s given = option_map (map (typed_by s)) given

abbrev pub end_by : Setting → Option Expr → Option spec.Typed
end_by s end = spec.typed_end (sense_by s) (end_of (option_map tree_of end))

abbrev pub range_by : Setting → Option Part → spec.Range
range_by s part = spec.typed_section (sense_by s) (section_of (option_map (fold-Part Tree Section tree_step part_step) part))

-- the actual arguments of a CALL
abbrev pub arguments_by : Setting → Option (List Expr) → List spec.Typed
arguments_by s given = map (λ arg. spec.argument (typed_by s arg)) (unwrap_or given [])

-- a name with what follows it
abbrev pub referred : Setting → ℕ → Option (List Sight) → sights.Range → Sight
referred s name given range = sights.reference_typed name (sense_by s name (is_some given)) given range
