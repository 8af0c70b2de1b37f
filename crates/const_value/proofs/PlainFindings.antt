-- Findings of constants and shapes have a kind of their own rank, and no second place.
use Rattle.std.proofs.Common.{◌⊎◌, inl, inr, ℕ, Bool, true, false, not, cond, List, [], ◌∷◌, ◌++◌, map, filter, length, Option, Some, None, refl, subst}
use Rattle.std.specs.List.{enumerate_from, flat_map, list_any}
use Rattle.std.specs.Option.{is_none, option_map_or, option_and_then}
use Rattle.std.specs.Prelude.{◌&&◌}
use Rattle.ftn_base.specs.declared.fault.FaultKind.TheVariants.{BadShape, Circular, Conflicting, NotConstant, Overflow, Zero}
use Rattle.ftn_tree.specs.declared.expr.Expr.{Expr}
use Rattle.ftn_tree.specs.declared.form.Form.TheOpen.{Form-F}
use Rattle.ftn_tree.specs.declared.intrinsic.ValueFault.{ValueFault}
use Rattle.ftn_tree.specs.declared.intrinsic.ValueFault.TheVariants.{TooBig, ByZero, OutOfRange, IllTyped}
use Rattle.ftn_tree.specs.declared.parts.DataGroup.{DataGroup}
use Rattle.ftn_tree.specs.declared.parts.Designator.{Designator}
use Rattle.ftn_tree.specs.declared.table.Extent.{Extent}
use Rattle.ftn_tree.specs.declared.unit.FileTree.{FileTree}
use Rattle.ftn_tree.specs.Cases as cases
use Rattle.ftn_tree.specs.Cases.{Construct, case_findings, construct_findings, constructs_of}
use Rattle.ftn_tree.specs.Circles.{constant_at, constants, expressions_of, leads_back, tokens_for}
use Rattle.ftn_tree.specs.Constants.{given, known_of, naming_at, whole_in}
use Rattle.ftn_tree.specs.ConstantFaults as spec
use Rattle.ftn_tree.specs.DeclarationFaults.{Finding, found}
use Rattle.ftn_tree.specs.Declarations.{written_bounds, written_value}
use Rattle.ftn_tree.specs.DeclaredEntities.{is_said, names_after}
use Rattle.ftn_tree.specs.Evaluations.{Evaluated, evaluated}
use Rattle.ftn_tree.specs.Extents.{layer_at, scoping}
use Rattle.ftn_tree.specs.GlobalNames.{place}
use Rattle.ftn_tree.specs.KeyKinds.{Datum, datum, datum_of, is_constant, key_at, kind_of}
use Rattle.ftn_tree.specs.Layers.{FormLayer}
use Rattle.ftn_tree.specs.Meanings.{own}
use Rattle.ftn_tree.specs.NameFaults.{begins, said_of}
use Rattle.ftn_tree.specs.Sayings as sayings_of
use Rattle.ftn_tree.specs.Sayings.{Saying, sayings}
use Rattle.ftn_tree.specs.Scopes.{own_statements}
use Rattle.ftn_tree.specs.Shapes as shapes
use Rattle.ftn_tree.specs.Trees.{refer, no_args, no_section, tree_of}
use Rattle.ftn_tree.specs.Wants.{Placed, expressions_at}
use Rattle.const_value.proofs.FindingSets.{In, IsPlain, in_either, out_of_flat}

abbrev pub ArePlain : List Finding → Type 0
ArePlain fs = (f : Finding) → In f fs → IsPlain f

none_plain : ArePlain []
none_plain f h = absurd h

both_plain : (xs ys : List Finding) → ArePlain xs → ArePlain ys → ArePlain (xs ++ ys)
both_plain xs ys one other f h = by (in_either f xs ys h) where
  by : In f xs ⊎ In f ys → IsPlain f
  by (inl a) = one f a
  by (inr b) = other f b

flat_plain : {X : Type 0} (g : X → List Finding) → ((x : X) → ArePlain (g x)) → (xs : List X) → ArePlain (flat_map g xs)
flat_plain g each xs f h = let w = out_of_flat g xs f h in each w.of f w.here

one_plain : (g : Finding) → IsPlain g → ArePlain (g ∷ [])
one_plain g is f (inl same) = subst IsPlain same is
one_plain g is f (inr h) = absurd h

if_plain : (b : Bool) (xs : List Finding) → ArePlain xs → ArePlain (cond b xs [])
if_plain true xs all = all
if_plain false xs all = none_plain

maybe_plain : {X : Type 0} (g : X → List Finding) → ((x : X) → ArePlain (g x)) → (o : Option X) → ArePlain (option_map_or g o [])
maybe_plain g each None = none_plain
maybe_plain g each (Some x) = each x

map_plain : {X : Type 0} (g : X → Finding) → ((x : X) → IsPlain (g x)) → (xs : List X) → ArePlain (map g xs)
map_plain g each [] f h = absurd h
map_plain g each (x ∷ xs) f (inl same) = subst IsPlain same (each x)
map_plain g each (x ∷ xs) f (inr h) = map_plain g each xs f h

-- ---- expressions

breach_plain : (file : ℕ) (breach : ValueFault) (token : ℕ) → ArePlain (shapes.told_breach file (breach, token))
breach_plain file TooBig token = one_plain (found Overflow (place file token)) (record { told = refl; alone = refl })
breach_plain file ByZero token = one_plain (found Zero (place file token)) (record { told = refl; alone = refl })
breach_plain file OutOfRange token = one_plain (found NotConstant (place file token)) (record { told = refl; alone = refl })
breach_plain file IllTyped token = none_plain

breaches_plain : (file : ℕ) (e : Evaluated) → ArePlain (shapes.breaches_told file e)
breaches_plain file e = flat_plain (shapes.told_breach file) (λ b. breach_plain file b.0 b.1) e.breaches

told_plain : (file : ℕ) (e : Evaluated) → ArePlain (shapes.all_told file e)
told_plain file e =
    both_plain (shapes.strays_told file e) (shapes.breaches_told file e) (map_plain (λ token. found NotConstant (place file token)) (λ token. record { told = refl; alone = refl }) e.strays) (breaches_plain file e)

-- ---- statements

module _ (files : List FileTree) (file : ℕ) where
  placed_plain : (p : Placed) → ArePlain (spec.placed_told files file p)
  placed_plain p = if_plain (spec.wants_constant p.want) (shapes.all_told file (given files file p.expr)) (told_plain file (given files file p.expr))

  subscript_plain : (e : Evaluated) (pair : _) → ArePlain (spec.subscript_told file e pair)
  subscript_plain e pair =
      both_plain (cond (shapes.has_strays e) (found NotConstant (place file e.first) ∷ []) []) (shapes.breaches_told file e ++ spec.range_told file e pair)
      (if_plain (shapes.has_strays e) (found NotConstant (place file e.first) ∷ []) (one_plain (found NotConstant (place file e.first)) (record { told = refl; alone = refl })))
      (both_plain (shapes.breaches_told file e) (spec.range_told file e pair) (breaches_plain file e)
      (if_plain (option_map_or (λ z. option_map_or (spec.is_outside z) pair false) (whole_in e.value) false) (found BadShape (place file e.first) ∷ [])
      (one_plain (found BadShape (place file e.first)) (record { told = refl; alone = refl }))))

  designator_plain : (d : Designator) → ArePlain (spec.designator_told files file d)
  designator_plain d =
      let shape = option_and_then (shapes.shape_of files) (key_at files file d.name) in
      maybe_plain (spec.subscripts_told files file shape)
      (λ subscripts. flat_plain (λ numbered. spec.subscript_told file (given files file numbered.1) (spec.pair_at shape (length subscripts) numbered.0))
      (λ numbered. subscript_plain (given files file numbered.1) (spec.pair_at shape (length subscripts) numbered.0)) (enumerate_from 0 subscripts))
      d.subscripts

  group_plain : (g : DataGroup) → ArePlain (spec.group_told files file g)
  group_plain g =
      both_plain (flat_map (spec.designator_told files file) g.objects) (flat_map (spec.name_told files file) (flat_map spec.names_of_value g.values))
      (flat_plain (spec.designator_told files file) designator_plain g.objects)
      (flat_plain (spec.name_told files file) (λ token. told_plain file (evaluated (naming_at files (known_of files) file) (refer token no_args no_section))) (flat_map spec.names_of_value g.values))

  layer_plain : (layer : Option FormLayer) → ArePlain (spec.designators_told files file layer)
  layer_plain (Some (Form-F.Equivalence sets)) = flat_plain (flat_map (spec.designator_told files file)) (λ set. flat_plain (spec.designator_told files file) designator_plain set) sets
  layer_plain (Some (Form-F.Data groups)) = flat_plain (spec.group_told files file) group_plain groups
  layer_plain other = none_plain

  statement_plain : (statement : ℕ) → ArePlain (spec.statement_told files file statement)
  statement_plain statement =
      let layer = layer_at files file statement in
      both_plain (flat_map (spec.placed_told files file) (option_map_or expressions_at layer [])) (spec.designators_told files file layer)
      (flat_plain (spec.placed_told files file) placed_plain (option_map_or expressions_at layer [])) (layer_plain layer)

  met_plain : (before : List cases.Span) (lists : List (List cases.Span)) → ArePlain (cases.met file before lists)
  met_plain before [] = none_plain
  met_plain before (here ∷ lists) =
      both_plain (map (λ (s : cases.Span). found Conflicting (place file s.first)) (filter (λ s. list_any (cases.meets s) before) here)) (cases.met file (before ++ here) lists)
      (map_plain (λ (s : cases.Span). found Conflicting (place file s.first)) (λ s. record { told = refl; alone = refl }) (filter (λ s. list_any (cases.meets s) before) here))
      (met_plain (before ++ here) lists)

  construct_plain : (c : Construct) → ArePlain (construct_findings files file c)
  construct_plain c =
      let lists = map (λ head. cases.spans_at files file (layer_at files file head)) c.heads in
      if_plain (cases.is_select_at (layer_at files file c.opening)) (cases.met file [] lists) (met_plain [] lists)

  case_plain : (tree : FileTree) → ArePlain (case_findings files file tree)
  case_plain tree = flat_plain (construct_findings files file) construct_plain (flat_map constructs_of tree.units)

-- ---- names

bad_plain : (files : List FileTree) (d : Datum) (said : List Saying) (bad : Bool) → ArePlain (shapes.bad_shape files d said bad)
bad_plain files d said bad = if_plain bad (found BadShape (place d.scope.file (begins said)) ∷ []) (one_plain (found BadShape (place d.scope.file (begins said))) (record { told = refl; alone = refl }))

bound_plain : (files : List FileTree) (of_dummy : Bool) (d : Datum) (bound : Expr)
    → ArePlain (cond of_dummy (shapes.dummy_bound_told files d.scope.file bound) (shapes.breaches_told d.scope.file (given files d.scope.file bound)))
bound_plain files true d bound = by (shapes.is_dummy_bound files d.scope.file (tree_of bound)) where
  by : (b : Bool) → ArePlain (cond b [] (shapes.all_told d.scope.file (given files d.scope.file bound)))
  by true = none_plain
  by false = told_plain d.scope.file (given files d.scope.file bound)
bound_plain files false d bound = breaches_plain d.scope.file (given files d.scope.file bound)

name_plain : (files : List FileTree) (e : Extent) (name : List ℕ) → ArePlain (spec.name_findings files e name)
name_plain files e name =
    both_plain (shapes.shape_findings files d) (spec.valueless files d)
    (both_plain (shapes.datum_told files dummy constant d said) (shapes.bad_shape files d said (shapes.has_star files d && not dummy && not constant))
    (if_plain (shapes.is_datum files d said) (shapes.bounds_told files dummy d ++ shapes.bad_shape files d said (not dummy && shapes.is_bad files constant d))
    (both_plain (shapes.bounds_told files dummy d) (shapes.bad_shape files d said (not dummy && shapes.is_bad files constant d))
    (flat_plain (λ bound. cond dummy (shapes.dummy_bound_told files e.file bound) (shapes.breaches_told e.file (given files e.file bound))) (λ bound. bound_plain files dummy d bound)
    (flat_map expressions_of (written_bounds files e name)))
    (bad_plain files d said (not dummy && shapes.is_bad files constant d))))
    (bad_plain files d said (shapes.has_star files d && not dummy && not constant)))
    (if_plain (is_constant (kind_of files (own e name)) && is_none (written_value files e name)) (found NotConstant (place e.file (begins said)) ∷ [])
    (one_plain (found NotConstant (place e.file (begins said))) (record { told = refl; alone = refl })))
  where
    d : Datum
    d = datum e name

    said : List Saying
    said = said_of files e name

    dummy : Bool
    dummy = is_said sayings_of.dummy said

    constant : Bool
    constant = is_constant (kind_of files (own e name))

-- ---- the project

circle_plain : (files : List FileTree) (number : ℕ) (d : Datum) → ArePlain (spec.circles files number d)
circle_plain files number d =
    flat_plain (λ token. cond (leads_back files number (constant_at files d.scope.file token)) (found Circular (place d.scope.file token) ∷ []) [])
    (λ token. if_plain (leads_back files number (constant_at files d.scope.file token)) (found Circular (place d.scope.file token) ∷ []) (one_plain (found Circular (place d.scope.file token)) (record { told = refl; alone = refl })))
    (tokens_for files d)

scope_plain : (files : List FileTree) (e : Extent) → ArePlain (spec.scope_findings files e)
scope_plain files e =
    both_plain (flat_map (spec.statement_told files e.file) (own_statements files e)) (flat_map (spec.name_findings files e) (names_after [] (sayings files e)))
    (flat_plain (spec.statement_told files e.file) (statement_plain files e.file) (own_statements files e)) (flat_plain (spec.name_findings files e) (name_plain files e) (names_after [] (sayings files e)))

pub constant_plain : (files : List FileTree) → ArePlain (spec.constant_findings files)
constant_plain files =
    both_plain (spec.circular_findings files) (flat_map (spec.scope_findings files) (scoping files) ++ flat_map (λ numbered. case_findings files numbered.0 numbered.1) (enumerate_from 0 files))
    (flat_plain (λ numbered. option_map_or (spec.circles files numbered.0) (datum_of files numbered.1) []) (λ numbered. maybe_plain (spec.circles files numbered.0) (circle_plain files numbered.0) (datum_of files numbered.1))
    (enumerate_from 0 (constants files)))
    (both_plain (flat_map (spec.scope_findings files) (scoping files)) (flat_map (λ numbered. case_findings files numbered.0 numbered.1) (enumerate_from 0 files))
    (flat_plain (spec.scope_findings files) (scope_plain files) (scoping files))
    (flat_plain (λ numbered. case_findings files numbered.0 numbered.1) (λ numbered. case_plain files numbered.0 numbered.1) (enumerate_from 0 files)))
