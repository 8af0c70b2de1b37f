-- The first of what is told of statements, by what the code keeps of names. It serves the proof alone.
use Rattle.std.specs.Prelude.{ℕ, ◌==◌, Bool, false, not, ◌&&◌, ◌||◌, if◌then◌else◌, List, [], ◌∷◌, map, length, Option, Some, None}
use Rattle.std.specs.Option.{is_some, option_map_or}
use Rattle.ftn_base.specs.declared.fault.FaultKind.TheVariants.{WrongType, WrongCount, NotDefinable}
use Rattle.ftn_tree.specs.declared.expr.Expr.{Expr}
use Rattle.ftn_tree.specs.declared.form.Form.{out-Form}
use Rattle.ftn_tree.specs.declared.form.Form.TheOpen.{Form-F}
use Rattle.ftn_tree.specs.declared.parts.DataGroup.{DataGroup}
use Rattle.ftn_tree.specs.declared.parts.Designator.{Designator}
use Rattle.ftn_tree.specs.declared.parts.DoControl.{DoControl}
use Rattle.ftn_tree.specs.declared.table.Extent.{Extent}
use Rattle.ftn_tree.specs.declared.unit.FileTree.{FileTree}
use Rattle.ftn_tree.specs.declared.want.Want.{Want}
use Rattle.ftn_tree.specs.declared.want.Want.TheVariants as want
use Rattle.ftn_tree.specs.DataTypes as data_types
use Rattle.ftn_tree.specs.DeclarationFaults.{Finding}
use Rattle.ftn_tree.specs.ExpressionTypes as spec
use Rattle.ftn_tree.specs.ExpressionTypes.{Told, same_kind, integer, logical}
use Rattle.ftn_tree.specs.KeyKinds.{kind}
use Rattle.ftn_tree.specs.Layers.{FormLayer}
use Rattle.ftn_tree.specs.Procedures.{Signature, Sense, Procedure, Generic}
use Rattle.ftn_tree.specs.Sorts.{Sort}
use Rattle.ftn_tree.specs.TypeFaults.{is_assignable, is_procedure_sense}
use Rattle.ftn_tree.specs.Wants.{Placed, expressions_at}
use Rattle.name_types.specs.declared.names.Setting.{Setting}
use Rattle.type_check.specs.steps.Findings.{earlier}
use Rattle.type_check.specs.steps.Kept.{Sight, seen}
use Rattle.type_check.specs.steps.Noted.{noted, told_found}
use Rattle.name_types.specs.steps.Senses.{sense_by, called_by, sort_by, rank_by}
use Rattle.type_check.specs.steps.Sights.{sooner_told, told_where, fails, wanted, argument_told, misfits, undefinables, Choice, One, choice, choice_told, undefinables_of_choice}
use Rattle.type_check.specs.steps.Typing.{typed_by, arguments_by}

-- ---- places

abbrev pub is_undefinable : Sight → Bool
is_undefinable t = not t.standing.definable && (t.standing.datum || is_some t.kind)

abbrev pub target_told : Sight → Option Told
target_told t = sooner_told t.told (told_where (is_undefinable t) NotDefinable t.first)

abbrev pub value_told : Option Sort → Sight → Option Told
value_told None t = t.told
value_told (Some sort) t = wanted (kind sort 0) t

abbrev pub want_told : Setting → Want → Sight → Option Told
want_told s want.Target t = target_told t
want_told s want.Input t = target_told t
want_told s want.Assigned t = t.told
want_told s want.Condition t = wanted logical t
want_told s want.Output t = argument_told t
want_told s (want.Argument name) t = argument_told t
want_told s (want.Value name) t = value_told (sort_by s name) t
want_told s _ t = wanted integer t

abbrev pub seen_by : Setting → Expr → Sight
seen_by s expr = seen (typed_by s expr)

abbrev pub placed_told : Setting → Placed → Option Told
placed_told s p = sooner_told (want_told s p.want (seen_by s p.expr)) (seen_by s p.expr).passed

-- ---- actions

abbrev pub assignment_told : Sight → Sight → Option Told
assignment_told target value = told_where (fails (is_assignable target.kind) value) WrongType value.first

abbrev pub subroutine_told : ℕ → Signature → Option Told
subroutine_told name signature = told_where signature.function WrongType name

abbrev pub subroutine_of_choice : ℕ → Choice → Option Told
subroutine_of_choice name (One signature) = subroutine_told name signature
subroutine_of_choice name other = None

abbrev pub procedure_told : ℕ → Signature → List Sight → Option Told
procedure_told name signature actuals =
    if signature.function then Some (WrongType, name) else sooner_told (misfits name signature.formals actuals) (undefinables signature.formals actuals)

abbrev pub chosen_told : ℕ → Choice → List Sight → Option Told
chosen_told name found actuals =
    sooner_told (choice_told name found) (sooner_told (undefinables_of_choice found actuals) (subroutine_of_choice name found))

abbrev pub call_told : ℕ → Sense → List Sight → Option Told
call_told name (Procedure signature) actuals = procedure_told name signature actuals
call_told name (Generic specifics) actuals = chosen_told name (choice specifics actuals) actuals
call_told name _ actuals = Some (WrongType, name)

abbrev pub action_told : Setting → FormLayer → Option Told
action_told s (Form-F.Assign target value) = assignment_told (seen_by s target) (seen_by s value)
action_told s (Form-F.Call name args) = call_told name (called_by s name) (map seen (arguments_by s args))
action_told s _ = None

-- ---- DO, MODULE PROCEDURE, EQUIVALENCE and DATA

abbrev pub variable_told : Sight → Option Told
variable_told t = sooner_told (target_told t) (told_where (fails (same_kind integer) t) WrongType t.first)

abbrev pub control_told : Setting → Option DoControl → Option Told
control_told s None = None
control_told s (Some c) = variable_told (seen (spec.reference_typed c.variable (sense_by s c.variable false) None None))

abbrev pub specific_told : Setting → ℕ → Option Told
specific_told s token = told_where (not (is_procedure_sense (called_by s token))) WrongType token

abbrev pub is_other_count : Option ℕ → List Expr → Bool
is_other_count rank subscripts = option_map_or (λ r. not (length subscripts == r)) rank false

abbrev pub designator_told : Setting → Designator → Option Told
designator_told s d = told_where (option_map_or (is_other_count (rank_by s d.name)) d.subscripts false) WrongCount d.name

-- ---- all of it

-- the first, where one has looked at that too
abbrev pub noted_one : ℕ → Option Finding → Option Told → Option Finding
noted_one file first told = earlier first (told_found file told)

abbrev pub noted_each : {A : Type 0} → ℕ → (A → Option Told) → Option Finding → List A → Option Finding
noted_each file told first [] = first
noted_each file told first (a ∷ rest) = noted_each file told (noted_one file first (told a)) rest

abbrev pub noted_sets : Setting → Option Finding → List (List Designator) → Option Finding
noted_sets s first [] = first
noted_sets s first (set ∷ rest) = noted_sets s (noted_each s.file (designator_told s) first set) rest

abbrev pub noted_group : List FileTree → Extent → Setting → Option Finding → DataGroup → Option Finding
noted_group files e s first g = noted e.file (noted_each s.file (designator_told s) first g.objects) (data_types.group_told files e g)

abbrev pub noted_groups : List FileTree → Extent → Setting → Option Finding → List DataGroup → Option Finding
noted_groups files e s first [] = first
noted_groups files e s first (g ∷ rest) = noted_groups files e s (noted_group files e s first g) rest

abbrev pub noted_whole : List FileTree → Extent → Setting → Option Finding → FormLayer → Option Finding
noted_whole files e s first (Form-F.If condition at inner) = noted_one s.file first (action_told s (out-Form inner))
noted_whole files e s first (Form-F.Do label control) = noted_one s.file first (control_told s control)
noted_whole files e s first (Form-F.ModuleProcedure names) = noted_each s.file (specific_told s) first names
noted_whole files e s first (Form-F.Equivalence sets) = noted_sets s first sets
noted_whole files e s first (Form-F.Data groups) = noted_groups files e s first groups
noted_whole files e s first other = noted_one s.file first (action_told s other)

abbrev pub noted_form : List FileTree → Extent → Setting → Option Finding → FormLayer → Option Finding
noted_form files e s first form = noted_whole files e s (noted_each s.file (placed_told s) first (expressions_at form)) form
