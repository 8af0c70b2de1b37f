-- What is told of expressions in their places, and of statements, by the first of it.
use Rattle.std.proofs.Common.{◌≡◌, refl, sym, ◌∙◌, ap, ap₂, false, ℕ, List, [], ◌∷◌, ◌++◌, map, Option, Some, None}
use Rattle.std.specs.Prelude.{not}
use Rattle.std.specs.Option.{option_map_or, unwrap_or}
use Rattle.ftn_base.specs.declared.fault.FaultKind.TheVariants.{WrongType, WrongCount, NotDefinable}
use Rattle.ftn_tree.specs.declared.expr.Expr.{Expr}
use Rattle.ftn_tree.specs.declared.form.Form.TheOpen.{Form-F}
use Rattle.ftn_tree.specs.declared.parts.Designator.{Designator}
use Rattle.ftn_tree.specs.declared.parts.DoControl.{DoControl}
use Rattle.ftn_tree.specs.declared.table.Extent.{Extent}
use Rattle.ftn_tree.specs.declared.unit.FileTree.{FileTree}
use Rattle.ftn_tree.specs.declared.want.Want.{Want}
use Rattle.ftn_tree.specs.declared.want.Want.TheVariants as want
use Rattle.ftn_tree.specs.ExpressionTypes as types
use Rattle.ftn_tree.specs.ExpressionTypes.{Typed, if_told, fails, same_kind, integer, logical}
use Rattle.ftn_tree.specs.KeyKinds.{kind, key_at}
use Rattle.ftn_tree.specs.Layers.{FormLayer}
use Rattle.ftn_tree.specs.Procedures.{Signature, Sense, Data, Itself, Procedure, Generic, Intrinsic, Other, sense_at, called_sense}
use Rattle.ftn_tree.specs.Sorts.{Sort}
use Rattle.ftn_tree.specs.Trees.{tree_of}
use Rattle.ftn_tree.specs.TypeFaults as spec
use Rattle.ftn_tree.specs.TypeFaults.{typed_in, is_assignable, is_procedure_sense}
use Rattle.ftn_tree.specs.Wants.{Placed}
use Rattle.name_types.specs.declared.names.Setting.{Setting}
use Rattle.name_types.specs.steps.Senses.{IsRight, sense_by, called_by, sort_by}
use Rattle.type_check.specs.steps.Kept.{first_told, seen}
use Rattle.type_check.specs.steps.Sights as sights
use Rattle.type_check.specs.steps.Sights.{Choice, Unknown, NoneFits, One, Several, choice, sooner_told, told_where}
use Rattle.type_check.specs.steps.Stated as steps
use Rattle.type_check.specs.steps.Stated.{seen_by}
use Rattle.type_check.specs.steps.Typing.{typed_by, arguments_by}
use Rattle.type_check.proofs.FirstTold.{joined, told_if, chosen_told}
use Rattle.type_check.proofs.SightLaws.{wanted_seen, argument_told_seen, misfits_seen, undefinables_seen}
use Rattle.type_check.proofs.ChoiceLaws.{generic_told_seen, meant_seen}
use Rattle.type_check.proofs.TypedTrees.{typed_alike}

-- ---- places

pub target_first : (t : Typed) → first_told (spec.target_told t) ≡ steps.target_told (seen t)
target_first t =
    joined t.told (if_told (steps.is_undefinable (seen t)) NotDefinable t.first) (first_told t.told) (told_where (steps.is_undefinable (seen t)) NotDefinable t.first) refl
    (told_if (steps.is_undefinable (seen t)) NotDefinable t.first)

value_first : (sort : Option Sort) (t : Typed) → first_told (spec.value_told sort t) ≡ steps.value_told sort (seen t)
value_first None t = refl
value_first (Some sort) t = wanted_seen (kind sort 0) t

-- ---- actions

assignment_first : (target value : Typed) → first_told (spec.assignment_told target value) ≡ steps.assignment_told (seen target) (seen value)
assignment_first target value = told_if (fails (is_assignable target.kind) value) WrongType value.first

procedure_first :
    (name : ℕ) (signature : Signature) (ts : List Typed) → first_told (spec.call_told name (Procedure signature) ts) ≡ steps.procedure_told name signature (map seen ts)
procedure_first name signature ts =
    chosen_told signature.function ((WrongType, name) ∷ []) (types.misfits name signature.formals ts ++ types.undefinables signature.formals ts) (Some (WrongType, name))
    (sooner_told (sights.misfits name signature.formals (map seen ts)) (sights.undefinables signature.formals (map seen ts))) refl
    (joined (types.misfits name signature.formals ts) (types.undefinables signature.formals ts) (sights.misfits name signature.formals (map seen ts))
    (sights.undefinables signature.formals (map seen ts)) (misfits_seen name signature.formals ts) (undefinables_seen signature.formals ts))

-- of the specific procedure that is meant
meant_first :
    (name : ℕ) (ts : List Typed) (found : Choice) →
    first_told (option_map_or (λ (s : Signature). types.undefinables s.formals ts ++ spec.subroutine_told name s) (sights.meant found) [])
    ≡ sooner_told (sights.undefinables_of_choice found (map seen ts)) (steps.subroutine_of_choice name found)
meant_first name ts Unknown = refl
meant_first name ts NoneFits = refl
meant_first name ts (One s) =
    joined (types.undefinables s.formals ts) (spec.subroutine_told name s) (sights.undefinables s.formals (map seen ts)) (steps.subroutine_told name s) (undefinables_seen s.formals ts)
    (told_if s.function WrongType name)
meant_first name ts Several = refl

generic_first :
    (name : ℕ) (specifics : List Signature) (ts : List Typed) →
    first_told (spec.call_told name (Generic specifics) ts) ≡ steps.chosen_told name (choice specifics (map seen ts)) (map seen ts)
generic_first name specifics ts =
    let found = choice specifics (map seen ts) in
    joined (types.generic_told name specifics ts)
    (option_map_or (λ (s : Signature). types.undefinables s.formals ts ++ spec.subroutine_told name s) (types.meant specifics ts) []) (sights.choice_told name found)
    (sooner_told (sights.undefinables_of_choice found (map seen ts)) (steps.subroutine_of_choice name found)) (generic_told_seen name specifics ts)
    (ap (λ m. first_told (option_map_or (λ (s : Signature). types.undefinables s.formals ts ++ spec.subroutine_told name s) m [])) (meant_seen specifics ts)
    ∙ meant_first name ts found)

call_first : (name : ℕ) (sense : Sense) (ts : List Typed) → first_told (spec.call_told name sense ts) ≡ steps.call_told name sense (map seen ts)
call_first name (Data k may) ts = refl
call_first name (Itself signature) ts = refl
call_first name (Procedure signature) ts = procedure_first name signature ts
call_first name (Generic specifics) ts = generic_first name specifics ts
call_first name (Intrinsic function) ts = refl
call_first name Other ts = refl

variable_first : (t : Typed) → first_told (spec.variable_told t) ≡ steps.variable_told (seen t)
variable_first t =
    joined (spec.target_told t) (if_told (fails (same_kind integer) t) WrongType t.first) (steps.target_told (seen t)) (told_where (fails (same_kind integer) t) WrongType t.first)
    (target_first t) (told_if (fails (same_kind integer) t) WrongType t.first)

-- ---- where what is kept is right

module _ (files : List FileTree) (e : Extent) (s : Setting) (right : IsRight files e s) where
  same_typed : (expr : Expr) → typed_by s expr ≡ typed_in files e expr
  same_typed expr = typed_alike (sense_by s) (sense_at files e) right.sense (tree_of expr)

  want_first : (w : Want) (t : Typed) → first_told (spec.want_told files e w t) ≡ steps.want_told s w (seen t)
  want_first want.Target t = target_first t
  want_first want.Input t = target_first t
  want_first want.Assigned t = refl
  want_first want.Condition t = wanted_seen logical t
  want_first want.Output t = argument_told_seen t
  want_first (want.Argument name) t = argument_told_seen t
  want_first (want.Value name) t = ap (λ sort. first_told (spec.value_told sort t)) (sym (right.sort name)) ∙ value_first (sort_by s name) t
  want_first _ t = wanted_seen integer t

  pub placed_first : (p : Placed) → steps.placed_told s p ≡ first_told (spec.placed_told files e p)
  placed_first p =
      sym (joined (spec.want_told files e p.want (typed_by s p.expr)) (typed_by s p.expr).passed (steps.want_told s p.want (seen_by s p.expr)) (first_told (typed_by s p.expr).passed)
      (want_first p.want (typed_by s p.expr)) refl)
      ∙ ap (λ (t : Typed). first_told (spec.want_told files e p.want t ++ t.passed)) (same_typed p.expr)

  arguments_alike : (list : List Expr) → map (λ arg. types.argument (typed_by s arg)) list ≡ map (λ arg. types.argument (typed_in files e arg)) list
  arguments_alike [] = refl
  arguments_alike (first ∷ rest) = ap₂ (λ x xs. types.argument x ∷ xs) (same_typed first) (arguments_alike rest)

  pub action_first : (form : FormLayer) → steps.action_told s form ≡ first_told (spec.action_told files e form)
  action_first (Form-F.Assign target value) =
      sym (assignment_first (typed_by s target) (typed_by s value)) ∙ ap₂ (λ x y. first_told (spec.assignment_told x y)) (same_typed target) (same_typed value)
  action_first (Form-F.Call name args) =
      sym (call_first name (called_by s name) (arguments_by s args))
      ∙ ap₂ (λ x ts. first_told (spec.call_told name x ts)) (right.called name) (arguments_alike (unwrap_or args []))
  action_first _ = refl

  pub control_first : (control : Option DoControl) → steps.control_told s control ≡ first_told (spec.control_told files e control)
  control_first None = refl
  control_first (Some c) =
      sym (variable_first (types.reference_typed c.variable (sense_by s c.variable false) None None))
      ∙ ap (λ x. first_told (spec.variable_told (types.reference_typed c.variable x None None))) (right.sense c.variable false)

  pub specific_first : (token : ℕ) → steps.specific_told s token ≡ first_told (spec.specific_told files e token)
  specific_first token =
      ap (λ x. told_where (not (is_procedure_sense x)) WrongType token) (right.called token)
      ∙ sym (told_if (not (is_procedure_sense (called_sense files (key_at files e.file token)))) WrongType token)

  pub designator_first : (d : Designator) → steps.designator_told s d ≡ first_told (spec.designator_told files e d)
  designator_first d =
      ap (λ rank. told_where (option_map_or (steps.is_other_count rank) d.subscripts false) WrongCount d.name) (right.rank d.name)
      ∙ sym (told_if (option_map_or (steps.is_other_count (spec.rank_at files e d.name)) d.subscripts false) WrongCount d.name)
