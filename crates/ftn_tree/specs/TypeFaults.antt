-- The faults of types, and the first of them (Fortran 90, 5.1, 7.1.4, 7.5.1, 8.1, 9.4.2, 12.3.2.1, 12.4): in statements, and where procedures are
-- declared.
use Rattle.std.specs.Prelude.{ℕ, ◌==◌, Bool, true, false, not, ◌&&◌, ◌||◌, if◌then◌else◌, List, [], ◌∷◌, ◌++◌, map, length, zip, Option, Some, None}
use Rattle.std.specs.List.{flat_map}
use Rattle.std.specs.Option.{is_some, option_eq, option_map, option_map_or, option_and_then, unwrap_or}
use Rattle.ftn_base.specs.declared.entity.Length.TheVariants.{Fixed}
use Rattle.ftn_base.specs.declared.entity.Ty.{Ty}
use Rattle.ftn_base.specs.declared.entity.Ty.TheVariants as ty
use Rattle.ftn_base.specs.declared.fault.Fault.{Fault}
use Rattle.ftn_base.specs.declared.fault.FaultKind.{FaultKind}
use Rattle.ftn_base.specs.declared.fault.FaultKind.TheVariants.{WrongType, WrongCount, NoSpecific, TwoSpecifics, NotDefinable}
use Rattle.ftn_tree.specs.declared.expr.Expr.{Expr}
use Rattle.ftn_tree.specs.declared.form.Form.{out-Form}
use Rattle.ftn_tree.specs.declared.form.Form.TheOpen.{Form-F}
use Rattle.ftn_tree.specs.declared.parts.Designator.{Designator}
use Rattle.ftn_tree.specs.declared.parts.DoControl.{DoControl}
use Rattle.ftn_tree.specs.declared.table.Extent.{Extent}
use Rattle.ftn_tree.specs.declared.unit.FileTree.{FileTree}
use Rattle.ftn_tree.specs.declared.want.Want.{Want}
use Rattle.ftn_tree.specs.declared.want.Want.TheVariants as want
use Rattle.ftn_tree.specs.Layers.{FormLayer}
use Rattle.ftn_tree.specs.Extents.{scoping, layer_at, is_body}
use Rattle.ftn_tree.specs.Scopes.{name_token, scope_name, own_statements}
use Rattle.ftn_tree.specs.Sayings.{sayings, answer}
use Rattle.ftn_tree.specs.GlobalNames.{place}
use Rattle.ftn_tree.specs.DeclarationFaults.{Finding, found, first_finding, fault_of}
use Rattle.ftn_tree.specs.DeclaredEntities.{is_said, names_after, unit_kind_at}
use Rattle.ftn_tree.specs.Meanings.{Key, unit, own, Meaning, one, declared_in, external_of}
use Rattle.ftn_tree.specs.NameFaults.{said_of, begins}
use Rattle.ftn_tree.specs.Trees.{tree_of}
use Rattle.ftn_tree.specs.Wants.{Placed, expressions_at}
use Rattle.ftn_tree.specs.Sorts.{Sort, same_sort}
use Rattle.ftn_tree.specs.Declarations.{typing_of}
use Rattle.ftn_tree.specs.KeyKinds.{Kind, kind, Datum, datum, datum_of, key_at, is_function, sort_of, rank_of, is_data}
use Rattle.ftn_tree.specs.Procedures.{Signature, Sense, Procedure, Generic, dummies_of, result_of, sense_at, called_sense}
use Rattle.ftn_tree.specs.ExpressionTypes.{Told, Typed, typed, if_told, fails, same_kind, wanted, integer, logical, is_array, argument, argument_told, misfits, undefinables, generic_told, meant, reference_typed}
use Rattle.ftn_tree.specs.Shapes.{type_of}
use Rattle.ftn_tree.specs.DataTypes.{group_told}

abbrev pub typed_in : List FileTree → Extent → Expr → Typed
typed_in files e expr = typed (sense_at files e) (tree_of expr)

-- ---- places (7.5.1, 8.1, 9.4.2, 12.4.1)

-- what gets a value may be defined (14.7.6)
abbrev pub target_told : Typed → List Told
target_told t = t.told ++ if_told (not t.standing.definable && (t.standing.datum || is_some t.kind)) NotDefinable t.first

-- 5.1, 5.2.10: the value of an entity is a scalar of its type
abbrev pub value_told : Option Sort → Typed → List Told
value_told None t = t.told
value_told (Some sort) t = wanted (kind sort 0) t

abbrev pub sort_at : List FileTree → Extent → ℕ → Option Sort
sort_at files e token = option_and_then (sort_of files) (option_and_then (datum_of files) (key_at files e.file token))

abbrev pub want_told : List FileTree → Extent → Want → Typed → List Told
want_told files e want.Target t = target_told t
want_told files e want.Input t = target_told t
want_told files e want.Assigned t = t.told
want_told files e want.Condition t = wanted logical t
want_told files e want.Output t = argument_told t
want_told files e (want.Argument name) t = argument_told t
want_told files e (want.Value name) t = value_told (sort_at files e name) t
want_told files e _ t = wanted integer t

abbrev pub placed_told : List FileTree → Extent → Placed → List Told
placed_told files e p = want_told files e p.want (typed_in files e p.expr) ++ (typed_in files e p.expr).passed

-- ---- statements as wholes

-- 7.5.1: a scalar of the target's type
abbrev pub is_assignable : Option Kind → Kind → Bool
is_assignable None k = not (is_array k)
is_assignable (Some target) k = not (is_array k) && same_sort target.sort k.sort

abbrev pub assignment_told : Typed → Typed → List Told
assignment_told target value = if_told (fails (is_assignable target.kind) value) WrongType value.first

-- 12.4.3: a subroutine
abbrev pub subroutine_told : ℕ → Signature → List Told
subroutine_told name signature = if_told signature.function WrongType name

abbrev pub call_told : ℕ → Sense → List Typed → List Told
call_told name (Procedure signature) actuals =
    if signature.function then (WrongType, name) ∷ [] else misfits name signature.formals actuals ++ undefinables signature.formals actuals
call_told name (Generic specifics) actuals =
    generic_told name specifics actuals
    ++ option_map_or (λ (s : Signature). undefinables s.formals actuals ++ subroutine_told name s) (meant specifics actuals) []
call_told name _ actuals = (WrongType, name) ∷ []

-- 8.1.4.1: a DO variable is an integer scalar
abbrev pub variable_told : Typed → List Told
variable_told t = target_told t ++ if_told (fails (same_kind integer) t) WrongType t.first

abbrev pub control_told : List FileTree → Extent → Option DoControl → List Told
control_told files e None = []
control_told files e (Some c) = variable_told (reference_typed c.variable (sense_at files e c.variable false) None None)

-- 12.3.2.1: MODULE PROCEDURE names procedures
abbrev pub is_procedure_sense : Sense → Bool
is_procedure_sense (Procedure signature) = true
is_procedure_sense _ = false

abbrev pub specific_told : List FileTree → Extent → ℕ → List Told
specific_told files e token = if_told (not (is_procedure_sense (called_sense files (key_at files e.file token)))) WrongType token

-- the rank of a variable, a constant, a dummy argument or a result by its own name
abbrev pub rank_of_own : List FileTree → Extent → Key → Option ℕ
rank_of_own files e (own home name) = if is_data files e (own home name) then Some (rank_of files (datum home name)) else None
rank_of_own files e _ = None

abbrev pub rank_at : List FileTree → Extent → ℕ → Option ℕ
rank_at files e token = option_and_then (rank_of_own files e) (key_at files e.file token)

-- 5.2.9, 5.5.1: as many subscripts as dimensions
abbrev pub designator_told : List FileTree → Extent → Designator → List Told
designator_told files e d =
    if_told (option_map_or (λ subscripts. option_map_or (λ rank. not (length subscripts == rank)) (rank_at files e d.name) false) d.subscripts false) WrongCount d.name

abbrev pub action_told : List FileTree → Extent → FormLayer → List Told
action_told files e (Form-F.Assign target value) = assignment_told (typed_in files e target) (typed_in files e value)
action_told files e (Form-F.Call name args) =
    call_told name (called_sense files (key_at files e.file name)) (map (λ arg. argument (typed_in files e arg)) (unwrap_or args []))
action_told files e _ = []

abbrev pub whole_told : List FileTree → Extent → FormLayer → List Told
whole_told files e (Form-F.If condition at inner) = action_told files e (out-Form inner)
whole_told files e (Form-F.Do label control) = control_told files e control
whole_told files e (Form-F.ModuleProcedure names) = flat_map (specific_told files e) names
whole_told files e (Form-F.Equivalence sets) = flat_map (flat_map (designator_told files e)) sets
whole_told files e (Form-F.Data groups) = flat_map (λ g. flat_map (designator_told files e) g.objects ++ group_told files e g) groups
whole_told files e other = action_told files e other

abbrev pub form_told : List FileTree → Extent → FormLayer → List Told
form_told files e form = flat_map (placed_told files e) (expressions_at form) ++ whole_told files e form

-- ---- declared procedures (12.3.2): they agree with those that the project defines

-- a type with its length, where that is constant, and a rank
pub record Nature : Type 0 where
  pub sort : Option Sort
  pub length : Option ℕ
  pub rank : ℕ

abbrev pub fixed_length : Option Ty → Option ℕ
fixed_length (Some (ty.Character (Fixed n))) = Some n
fixed_length _ = None

abbrev pub nature_of : List FileTree → Datum → Nature
nature_of files d = record { sort = sort_of files d; length = fixed_length (type_of files d); rank = rank_of files d }

abbrev pub same_type : Nature → Nature → Bool
same_type ours theirs = option_eq same_sort ours.sort theirs.sort && option_eq ◌==◌ ours.length theirs.length

abbrev pub same_nature : Nature → Nature → Bool
same_nature ours theirs = same_type ours theirs && (ours.rank == theirs.rank)

-- where a name gets its type, else where it begins
abbrev pub typed_where : List FileTree → Datum → ℕ
typed_where files d = option_map_or (λ typing. typing.1.name) (typing_of files d.scope d.name) (begins (said_of files d.scope d.name))

abbrev pub is_same_type : List FileTree → Datum → Option Datum → Bool
is_same_type files d None = false
is_same_type files d (Some result) = same_type (nature_of files d) (nature_of files result)

-- a procedure that the scoping unit doesn't define and gives a type
abbrev pub outside_told : List FileTree → Datum → Meaning → List Told
outside_told files d (one (unit function)) = if_told (not (is_same_type files d (result_of files function))) WrongType (typed_where files d)
outside_told files d _ = []

abbrev pub type_told : List FileTree → Extent → List ℕ → List Told
type_told files e name =
    if is_some (typing_of files e name) && not (is_said answer (said_of files e name)) then outside_told files (datum e name) (declared_in files e name) else []

-- dummy arguments of an interface body and of the procedure
abbrev pub dummy_told : List FileTree → Datum × Datum → List Told
dummy_told files (ours, theirs) =
    if_told (not (same_nature (nature_of files ours) (nature_of files theirs))) WrongType (begins (said_of files ours.scope ours.name))

abbrev pub dummies_told : List FileTree → ℕ → List Datum → List Datum → List Told
dummies_told files name ours theirs = if length ours == length theirs then flat_map (dummy_told files) (zip ours theirs) else (WrongCount, name) ∷ []

-- both are functions, and their results agree
abbrev pub results_told : List FileTree → Option Datum → Option Datum → List Told
results_told files (Some ours) (Some theirs) = if_told (not (same_nature (nature_of files ours) (nature_of files theirs))) WrongType (typed_where files ours)
results_told files _ _ = []

abbrev pub is_function_here : List FileTree → Extent → Bool
is_function_here files e = is_function (unit_kind_at (layer_at files e.file e.opening))

abbrev pub same_truth : Bool → Bool → Bool
same_truth true other = other
same_truth false other = not other

abbrev pub against : List FileTree → ℕ → Extent → Option Key → List Told
against files name body (Some (unit defined)) =
    if same_truth (is_function_here files body) (is_function_here files defined)
    then dummies_told files name (dummies_of files body) (dummies_of files defined) ++ results_told files (result_of files body) (result_of files defined)
    else (WrongType, name) ∷ []
against files name body _ = []

abbrev pub body_told : List FileTree → Extent → List Told
body_told files e =
    if is_body files e then against files (unwrap_or (name_token files e) 0) e (external_of files (scope_name files e)) else []

-- ---- the project

abbrev pub finding : ℕ → Told → Finding
finding file (what, token) = found what (place file token)

abbrev pub statement_told : List FileTree → Extent → ℕ → List Told
statement_told files e statement = option_map_or (form_told files e) (layer_at files e.file statement) []

abbrev pub scope_told : List FileTree → Extent → List Told
scope_told files e =
    flat_map (statement_told files e) (own_statements files e) ++ (flat_map (type_told files e) (names_after [] (sayings files e)) ++ body_told files e)

abbrev pub type_findings : List FileTree → List Finding
type_findings files = flat_map (λ (e : Extent). map (finding e.file) (scope_told files e)) (scoping files)

-- the order of the kinds at one place
abbrev pub type_rank : FaultKind → ℕ
type_rank WrongType = 0
type_rank WrongCount = 1
type_rank NoSpecific = 2
type_rank TwoSpecifics = 3
type_rank other = 4

-- the first fault of a project's types
abbrev pub type_fault : List FileTree → Option Fault
type_fault files = option_map (fault_of files) (first_finding type_rank (type_findings files))
