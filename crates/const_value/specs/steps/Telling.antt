-- What is told of the constant expressions of a statement, by what they give. It serves the proof alone.
use Rattle.std.specs.Prelude.{ℕ, ◌+◌, ◌==◌, ℤ, if◌then◌else◌, List, [], ◌∷◌, ◌++◌, length, slice_get, Option, Some, None}
use Rattle.std.specs.List.{flat_map}
use Rattle.std.specs.Option.{is_none, option_map_or, option_and_then}
use Rattle.ftn_base.specs.declared.fault.FaultKind.TheVariants.{NotConstant}
use Rattle.ftn_tree.specs.declared.expr.Expr.{Expr}
use Rattle.ftn_tree.specs.declared.form.Form.{Form, out-Form}
use Rattle.ftn_tree.specs.declared.form.Form.TheOpen.{Form-F}
use Rattle.ftn_tree.specs.declared.parts.DataGroup.{DataGroup}
use Rattle.ftn_tree.specs.declared.parts.Designator.{Designator}
use Rattle.ftn_tree.specs.declared.unit.Statement.{Statement}
use Rattle.ftn_tree.specs.ConstantFaults.{names_of_value, subscript_told, wants_constant}
use Rattle.ftn_tree.specs.DeclarationFaults.{Finding, found}
use Rattle.ftn_tree.specs.Evaluations.{Evaluated}
use Rattle.ftn_tree.specs.GlobalNames.{place}
use Rattle.ftn_tree.specs.Layers.{FormLayer}
use Rattle.ftn_tree.specs.Shapes.{all_told}
use Rattle.ftn_tree.specs.Wants.{Placed, expressions_of}
use Rattle.const_expr.specs.Namings.{entity_in, evaluated_by, kept_at}
use Rattle.const_expr.specs.declared.naming.Naming.{Naming}
use Rattle.const_expr.specs.declared.naming.Naming.TheVariants as kept
use Rattle.const_value.specs.declared.measured.Measured.{Measured}
use Rattle.const_value.specs.declared.project.Project.{Project}
use Rattle.const_value.specs.declared.view.View.{View}
use Rattle.const_value.specs.steps.Projects.{name_of}

-- what is seen of a file of a project
pub record Sight : Type 0 where
  pub project : Project
  pub known : List Measured
  pub row : List (Option ℕ)
  pub namings : List Naming
  pub file : ℕ

abbrev pub sight_of : View → Sight
sight_of view = record { project = view.project.now; known = view.known.now; row = view.names.row.now; namings = view.names.namings.now; file = view.file }

abbrev pub given_by : Sight → Expr → Evaluated
given_by s e = evaluated_by s.row s.namings e

abbrev pub placed_by : Sight → Placed → List Finding
placed_by s p = if wants_constant p.want then all_told s.file (given_by s p.expr) else []

-- ---- subscripts

-- the bounds, where the type is known and there are so many of them
abbrev pub counted : ℕ → Measured → Option (List (ℤ × ℤ))
counted count m = if is_none m.ty then None else option_and_then (λ pairs. if length pairs == count then Some pairs else None) m.bounds

abbrev pub pairs_by : Sight → ℕ → ℕ → Option (List (ℤ × ℤ))
pairs_by s token count =
    option_and_then (counted count) (option_and_then (slice_get s.known) (option_and_then (name_of s.project.links) (entity_in s.row token)))

abbrev pub pair_at : Option (List (ℤ × ℤ)) → ℕ → Option (ℤ × ℤ)
pair_at pairs k = option_and_then (λ all. slice_get all k) pairs

abbrev pub subscripts_by : Sight → Option (List (ℤ × ℤ)) → ℕ → List Expr → List Finding
subscripts_by s pairs k [] = []
subscripts_by s pairs k (subscript ∷ rest) = subscript_told s.file (given_by s subscript) (pair_at pairs k) ++ subscripts_by s pairs (k + 1) rest

abbrev pub designator_by : Sight → Designator → List Finding
designator_by s d = option_map_or (λ subscripts. subscripts_by s (pairs_by s d.name (length subscripts)) 0 subscripts) d.subscripts []

-- ---- names in the values of DATA

abbrev pub naming_told : ℕ → ℕ → Option Naming → List Finding
naming_told file token (Some (kept.Constant value rank bounds)) = []
naming_told file token _ = found NotConstant (place file token) ∷ []

abbrev pub name_by : Sight → ℕ → List Finding
name_by s token = naming_told s.file token (kept_at s.row s.namings token)

abbrev pub group_by : Sight → DataGroup → List Finding
group_by s g = flat_map (designator_by s) g.objects ++ flat_map (name_by s) (flat_map names_of_value g.values)

abbrev pub designators_by : Sight → Option FormLayer → List Finding
designators_by s (Some (Form-F.Equivalence sets)) = flat_map (flat_map (designator_by s)) sets
designators_by s (Some (Form-F.Data groups)) = flat_map (group_by s) groups
designators_by s _ = []

-- ---- one statement

abbrev pub form_by : Sight → Form → List Finding
form_by s form = flat_map (placed_by s) (expressions_of form) ++ designators_by s (Some (out-Form form))

abbrev pub statement_by : Sight → Statement → List Finding
statement_by s statement = form_by s statement.form

-- ---- by what the code holds

abbrev pub placed_told : View → Placed → List Finding
placed_told view = placed_by (sight_of view)

abbrev pub pairs_of : View → ℕ → ℕ → Option (List (ℤ × ℤ))
pairs_of view = pairs_by (sight_of view)

abbrev pub subscripts_told : View → Option (List (ℤ × ℤ)) → ℕ → List Expr → List Finding
subscripts_told view = subscripts_by (sight_of view)

abbrev pub designator_told : View → Designator → List Finding
designator_told view = designator_by (sight_of view)

abbrev pub name_told : View → ℕ → List Finding
name_told view = name_by (sight_of view)

abbrev pub group_told : View → DataGroup → List Finding
group_told view = group_by (sight_of view)

abbrev pub designators_told : View → Option FormLayer → List Finding
designators_told view = designators_by (sight_of view)

abbrev pub statement_told : View → Statement → List Finding
statement_told view = statement_by (sight_of view)
