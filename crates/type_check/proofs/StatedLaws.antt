-- What is told of a statement, one part after the other, is what the definitions tell of it.
use Rattle.std.proofs.Common.{◌≡◌, refl, sym, ◌∙◌, ap, ℕ, List, [], ◌∷◌, ◌++◌, Option}
use Rattle.std.specs.Prelude.{Result, Ok, Err, OnOk}
use Rattle.std.specs.List.{flat_map}
use Rattle.ftn_tree.specs.declared.form.Form.{out-Form}
use Rattle.ftn_tree.specs.declared.form.Form.TheOpen.{Form-F}
use Rattle.ftn_tree.specs.declared.parts.DataGroup.{DataGroup}
use Rattle.ftn_tree.specs.declared.parts.Designator.{Designator}
use Rattle.ftn_tree.specs.declared.table.Extent.{Extent}
use Rattle.ftn_tree.specs.declared.unit.FileTree.{FileTree}
use Rattle.ftn_tree.specs.DataTypes.{group_told}
use Rattle.ftn_tree.specs.DeclarationFaults.{Finding}
use Rattle.ftn_tree.specs.ExpressionTypes.{Told}
use Rattle.ftn_tree.specs.Layers.{FormLayer}
use Rattle.ftn_tree.specs.TypeFaults as spec
use Rattle.ftn_tree.specs.Wants.{expressions_at}
use Rattle.name_types.specs.declared.names.Setting.{Setting}
use Rattle.name_types.specs.steps.Senses.{IsRight}
use Rattle.type_check.specs.steps.Findings.{earlier}
use Rattle.type_check.specs.steps.Kept.{first_told}
use Rattle.type_check.specs.steps.Noted.{noted, told_found}
use Rattle.type_check.specs.steps.Stated as steps
use Rattle.type_check.specs.steps.Stated.{noted_one, noted_each, noted_sets, noted_group, noted_groups, noted_whole, noted_form}
use Rattle.type_check.proofs.NotedLaws.{noted_first, noted_append}
use Rattle.type_check.proofs.PlacedLaws.{placed_first, action_first, control_first, specific_first, designator_first}

one_noted : (file : ℕ) (first : Option Finding) (one : Option Told) (told : List Told) → one ≡ first_told told → noted_one file first one ≡ noted file first told
one_noted file first one told is = ap (λ o. earlier first (told_found file o)) is ∙ sym (noted_first file first told)

each_noted :
    {A : Type 0} (file : ℕ) (one : A → Option Told) (told : A → List Told) → ((a : A) → one a ≡ first_told (told a)) → (first : Option Finding) (xs : List A) →
    noted_each file one first xs ≡ noted file first (flat_map told xs)
each_noted file one told same first [] = refl
each_noted file one told same first (a ∷ rest) =
    each_noted file one told same (noted_one file first (one a)) rest
    ∙ ap (λ o. noted file o (flat_map told rest)) (one_noted file first (one a) (told a) (same a))
    ∙ sym (noted_append file first (told a) (flat_map told rest))

module _ (files : List FileTree) (e : Extent) (s : Setting) (right : IsRight files e s) where
  -- in the file of what is seen
  one_here : (first : Option Finding) (one : Option Told) (told : List Told) → one ≡ first_told told → noted_one s.file first one ≡ noted e.file first told
  one_here first one told is = ap (λ file. noted_one file first one) right.file ∙ one_noted e.file first one told is

  each_here :
      {A : Type 0} (one : A → Option Told) (told : A → List Told) → ((a : A) → one a ≡ first_told (told a)) → (first : Option Finding) (xs : List A) →
      noted_each s.file one first xs ≡ noted e.file first (flat_map told xs)
  each_here one told same first xs = ap (λ file. noted_each file one first xs) right.file ∙ each_noted e.file one told same first xs

  designators_here : (first : Option Finding) (ds : List Designator) → noted_each s.file (steps.designator_told s) first ds ≡ noted e.file first (flat_map (spec.designator_told files e) ds)
  designators_here first ds = each_here (steps.designator_told s) (spec.designator_told files e) (designator_first files e s right) first ds

  sets_here : (first : Option Finding) (sets : List (List Designator)) → noted_sets s first sets ≡ noted e.file first (flat_map (flat_map (spec.designator_told files e)) sets)
  sets_here first [] = refl
  sets_here first (set ∷ rest) =
      sets_here (noted_each s.file (steps.designator_told s) first set) rest
      ∙ ap (λ o. noted e.file o (flat_map (flat_map (spec.designator_told files e)) rest)) (designators_here first set)
      ∙ sym (noted_append e.file first (flat_map (spec.designator_told files e) set) (flat_map (flat_map (spec.designator_told files e)) rest))

  abbrev told_of_group : DataGroup → List Told
  told_of_group g = flat_map (spec.designator_told files e) g.objects ++ group_told files e g

  group_here : (first : Option Finding) (g : DataGroup) → noted_group files e s first g ≡ noted e.file first (told_of_group g)
  group_here first g =
      ap (λ o. noted e.file o (group_told files e g)) (designators_here first g.objects)
      ∙ sym (noted_append e.file first (flat_map (spec.designator_told files e) g.objects) (group_told files e g))

  groups_here : (first : Option Finding) (groups : List DataGroup) → noted_groups files e s first groups ≡ noted e.file first (flat_map told_of_group groups)
  groups_here first [] = refl
  groups_here first (g ∷ rest) =
      groups_here (noted_group files e s first g) rest ∙ ap (λ o. noted e.file o (flat_map told_of_group rest)) (group_here first g)
      ∙ sym (noted_append e.file first (told_of_group g) (flat_map told_of_group rest))

  action_here : (first : Option Finding) (form : FormLayer) → noted_one s.file first (steps.action_told s form) ≡ noted e.file first (spec.action_told files e form)
  action_here first form = one_here first (steps.action_told s form) (spec.action_told files e form) (action_first files e s right form)

  whole_here : (first : Option Finding) (form : FormLayer) → noted_whole files e s first form ≡ noted e.file first (spec.whole_told files e form)
  whole_here first (Form-F.If condition at inner) = action_here first (out-Form inner)
  whole_here first (Form-F.Do label control) = one_here first (steps.control_told s control) (spec.control_told files e control) (control_first files e s right control)
  whole_here first (Form-F.ModuleProcedure names) = each_here (steps.specific_told s) (spec.specific_told files e) (specific_first files e s right) first names
  whole_here first (Form-F.Equivalence sets) = sets_here first sets
  whole_here first (Form-F.Data groups) = groups_here first groups
  whole_here first other = action_here first other

  -- all that is told of it
  pub form_here : (first : Option Finding) (form : FormLayer) → noted_form files e s first form ≡ noted e.file first (spec.form_told files e form)
  form_here first form =
      whole_here (noted_each s.file (steps.placed_told s) first (expressions_at form)) form
      ∙ ap (λ o. noted e.file o (spec.whole_told files e form))
      (each_here (steps.placed_told s) (spec.placed_told files e) (placed_first files e s right) first (expressions_at form))
      ∙ sym (noted_append e.file first (flat_map (spec.placed_told files e) (expressions_at form)) (spec.whole_told files e form))

  -- of expressions in their places, and then of the whole
  pub stated :
      {E : Type 0} (form : FormLayer) (old placed new : Option Finding) (result : Result Unit E) →
      placed ≡ noted_each s.file (steps.placed_told s) old (expressions_at form) → OnOk result (new ≡ noted_whole files e s placed form) →
      OnOk result (new ≡ noted e.file old (spec.form_told files e form))
  stated form old placed new (Ok done) one whole = whole ∙ ap (λ o. noted_whole files e s o form) one ∙ form_here old form
  stated form old placed new (Err fault) one whole = tt
