-- What is told of statements by what is gathered and known is what the files define.
use Rattle.std.proofs.Common.{◌≡◌, ◌⊎◌, inl, inr, ℕ, ◌+◌, ℤ, Bool, true, false, cond, List, [], ◌∷◌, ◌++◌, length, map, Option, Some, None, option_map, refl, sym, ap, ap₂, ◌∙◌}
use Rattle.std.specs.Prelude.{◌==◌, slice_get, Ok, Err}
use Rattle.std.specs.List.{enumerate_from, filter_map, flat_map}
use Rattle.std.specs.Option.{is_none, option_and_then, option_map_or, unwrap_or}
use Rattle.std.proofs.lemmas.Option.{slice_get-map}
use Rattle.ftn_base.specs.declared.entity.Ty.{Ty}
use Rattle.ftn_tree.specs.declared.expr.Expr.{Expr}
use Rattle.ftn_tree.specs.declared.form.Form.{Form, out-Form}
use Rattle.ftn_tree.specs.declared.form.Form.TheOpen.{Form-F}
use Rattle.ftn_tree.specs.declared.intrinsic.ValueFault.TheVariants.{IllTyped}
use Rattle.ftn_tree.specs.declared.parts.DataGroup.{DataGroup}
use Rattle.ftn_tree.specs.declared.parts.Designator.{Designator}
use Rattle.ftn_tree.specs.declared.table.Entity.{Entity}
use Rattle.ftn_tree.specs.declared.unit.FileTree.{FileTree}
use Rattle.ftn_tree.specs.declared.value.Value.{Value}
use Rattle.ftn_tree.specs.Bindings.{bound_entities}
use Rattle.ftn_tree.specs.ConstantFaults as spec
use Rattle.ftn_tree.specs.ConstantFaults.{names_of_value, subscript_told, wants_constant}
use Rattle.ftn_tree.specs.Constants.{all_pairs, bound_pair, given, known_of, naming_at, pairs_of}
use Rattle.ftn_tree.specs.DeclarationFaults.{Finding}
use Rattle.ftn_tree.specs.Declarations.{Declared}
use Rattle.ftn_tree.specs.Evaluations.{breach_in, reference, then_part}
use Rattle.ftn_tree.specs.KeyKinds.{Datum, datum_of, key_at}
use Rattle.ftn_tree.specs.Layers.{FormLayer}
use Rattle.ftn_tree.specs.Meanings.{Key}
use Rattle.ftn_tree.specs.Shapes.{all_told, shape, shape_of, told_breach, type_of, with_value}
use Rattle.ftn_tree.specs.Trees.{tree_of}
use Rattle.ftn_tree.specs.Wants.{Placed, expressions_of}
use Rattle.const_expr.specs.declared.naming.Naming.{Naming}
use Rattle.const_expr.specs.declared.naming.Naming.TheVariants as kept
use Rattle.const_expr.specs.Namings.{evaluated_by, kept_at, naming_by, naming_of}
use Rattle.const_value.specs.declared.measured.Measured.{Measured}
use Rattle.const_value.specs.declared.project.Project.{Project}
use Rattle.const_value.specs.steps.FirstFault.{sight_at}
use Rattle.const_value.specs.steps.Gathered.{IsGathered, entity_index, name_number}
use Rattle.const_value.specs.steps.Held.{AreHeld, IsAt, IsHeld, IsUnsaid}
use Rattle.const_value.specs.steps.Known.{IsKnown, measured_of}
use Rattle.const_value.specs.steps.Names.{all_data}
use Rattle.const_value.specs.steps.Numbered.{AreEntities}
use Rattle.const_value.specs.steps.Projects.{name_of, row_in}
use Rattle.const_value.specs.steps.Telling.{Sight, counted, designator_by, designators_by, form_by, group_by, name_by, naming_told, pair_at, pairs_by, placed_by, subscripts_by}
use Rattle.const_value.proofs.GivenValues.{alike}

pub flat_alike : {X Y : Type 0} (f g : X → List Y) → ((x : X) → f x ≡ g x) → (xs : List X) → flat_map f xs ≡ flat_map g xs
flat_alike f g same [] = refl
flat_alike {X} {Y} f g same (x ∷ xs) = ap₂ (λ (a b : List Y). a ++ b) (same x) (flat_alike f g same xs)

-- ---- a name in the values of DATA

naming_noted : (file token : ℕ) (o : Option Naming) → naming_told file token o ≡ all_told file (reference token (naming_of o) None None)
naming_noted file token None = refl
naming_noted file token (Some (kept.Function function)) = refl
naming_noted file token (Some kept.Stray) = refl
naming_noted file token (Some (kept.Constant None rank bounds)) = refl
naming_noted file token (Some (kept.Constant (Some v) rank bounds)) = by (rank == 0) where
  by : (t : Bool) → [] ≡ flat_map (told_breach file) (breach_in token (then_part None (cond t (Some (Ok v)) (Some (Err IllTyped)))))
  by true = refl
  by false = refl

-- ---- bounds

counted_is : (t : Option Ty) (b : Option (List (ℤ × ℤ))) (v : Option Value) (count k : ℕ)
    → pair_at (cond (is_none t) None (option_and_then (λ pairs. cond (length pairs == count) (Some pairs) None) b)) k
    ≡ spec.pair_at (option_and_then (λ known. option_map (shape known) b) (option_map (with_value v) t)) count k
counted_is None b v count k = refl
counted_is (Some t) None v count k = refl
counted_is (Some t) (Some pairs) v count k = by (length pairs == count) where
  by : (c : Bool) → pair_at (cond c (Some pairs) None) k ≡ cond c (slice_get pairs k) None
  by true = refl
  by false = refl

no_bounds : (t : Option Ty) (count k : ℕ) → None ≡ spec.pair_at (option_and_then (λ known. option_map (shape known) (Some [])) t) count k
no_bounds None count k = refl
no_bounds (Some t) count k = by (0 == count) where
  by : (c : Bool) → ◌≡◌ {A = Option (ℤ × ℤ)} None (cond c None None)
  by true = refl
  by false = refl

module _ (files : List FileTree) (p : Project) (g : IsGathered files p) (known : List Measured) (namings : List Naming) (is : IsKnown files p known namings) where
  pub given_here : (file : ℕ) (e : Expr) → evaluated_by (row_in p.rows.items file) namings e ≡ given files file e
  given_here file e = alike (naming_by (row_in p.rows.items file) namings) (naming_at files (known_of files) file) (is.tokens file) (tree_of e)

  abbrev here : ℕ → Sight
  here file = sight_at p known namings file

  placed_same : (file : ℕ) (q : Placed) → placed_by (here file) q ≡ spec.placed_told files file q
  placed_same file q = ap (λ x. cond (wants_constant q.want) (all_told file x) []) (given_here file q.expr)

  name_same : (file token : ℕ) → name_by (here file) token ≡ spec.name_told files file token
  name_same file token = naming_noted file token (kept_at (row_in p.rows.items file) namings token) ∙ ap (λ n. all_told file (reference token n None None)) (is.tokens file token)

  subscripts_same : (file : ℕ) (pairs : Option (List (ℤ × ℤ))) (shape' : _) (count : ℕ) → ((k : ℕ) → pair_at pairs k ≡ spec.pair_at shape' count k) → (k : ℕ) (xs : List Expr)
      → subscripts_by (here file) pairs k xs ≡ flat_map (λ numbered. subscript_told file (given files file numbered.1) (spec.pair_at shape' count numbered.0)) (enumerate_from k xs)
  subscripts_same file pairs shape' count same k [] = refl
  subscripts_same file pairs shape' count same k (x ∷ xs) =
      ap₂ (λ (a b : List Finding). a ++ b) (ap₂ (subscript_told file) (given_here file x) (same k)) (subscripts_same file pairs shape' count same (k + 1) xs)

  -- what is known of the n-th name
  pub known_there : (n : ℕ) (d : Datum) → slice_get (all_data files) n ≡ Some d → slice_get known n ≡ Some (measured_of files (known_of files) d)
  known_there n d there =
      ap (λ xs. slice_get xs n) is.names ∙ slice_get-map (measured_of files (known_of files)) (all_data files) n ∙ ap (option_map (measured_of files (known_of files))) there

  -- the number of the name of the n-th entity
  pub name_number_there : (number : ℕ) (entity : Entity) → slice_get (bound_entities files) number ≡ Some entity → name_of p.links number ≡ name_number files entity
  name_number_there number entity there =
      ap (λ xs. option_and_then (λ (o : Option ℕ). o) (slice_get xs number)) g.name_of
      ∙ ap (option_and_then (λ (o : Option ℕ). o)) (slice_get-map (name_number files) (bound_entities files) number ∙ ap (option_map (name_number files)) there)

  module _ (entities : AreEntities files) (held : AreHeld files) where
    pair_same : (file token count k : ℕ) → pair_at (pairs_by (here file) token count) k ≡ spec.pair_at (option_and_then (shape_of files) (key_at files file token)) count k
    pair_same file token count k =
        ap (λ o. pair_at (option_and_then (counted count) (option_and_then (slice_get known) (option_and_then (name_of p.links) o))) k) (g.tokens file token) ∙ by (key_at files file token) refl
      where
        at : Option ℕ → Option (ℤ × ℤ)
        at name = pair_at (option_and_then (counted count) (option_and_then (slice_get known) name)) k

        of_datum : (key : Key) (o : Option Datum) → datum_of files key ≡ o → (number : ℕ) (entity : Entity) → IsAt files file token key number entity → at (name_number files entity) ≡ spec.pair_at (shape_of files key) count k
        of_datum key None none number entity there =
            ap at (held.none file token key number entity there none)
            ∙ ap (λ o. spec.pair_at (option_and_then (λ known. option_map (shape known) (option_and_then (λ d. all_pairs (pairs_of files (known_of files) d)) o)) (option_map (with_value (known_of files key).value) (option_and_then (type_of files) o))) count k) (sym none)
        of_datum key (Some d) some number entity there = either (held.names file token key number entity there d some) where
          back : spec.pair_at (option_and_then (λ known. option_map (shape known) (all_pairs (pairs_of files (known_of files) d))) (option_map (with_value (known_of files key).value) (type_of files d))) count k ≡ spec.pair_at (shape_of files key) count k
          back = ap (λ o. spec.pair_at (option_and_then (λ known. option_map (shape known) (option_and_then (λ d. all_pairs (pairs_of files (known_of files) d)) o)) (option_map (with_value (known_of files key).value) (option_and_then (type_of files) o))) count k) (sym some)

          either : IsHeld files entity d ⊎ IsUnsaid files key entity d → at (name_number files entity) ≡ spec.pair_at (shape_of files key) count k
          either (inl h) =
              ap at h.number_is ∙ ap (λ o. pair_at (option_and_then (counted count) o) k) (known_there h.number d h.there)
              ∙ counted_is (type_of files d) (all_pairs (pairs_of files (known_of files) d)) (known_of files key).value count k ∙ back
          either (inr u) =
              ap at u.number_is ∙ no_bounds (option_map (with_value (known_of files key).value) (type_of files d)) count k
              ∙ ap (λ (all : List Declared). spec.pair_at (option_and_then (λ known. option_map (shape known) (all_pairs (map (bound_pair (given files d.scope.file)) (unwrap_or (slice_get (filter_map (λ (x : Declared). x.bounds) all) 0) [])))) (option_map (with_value (known_of files key).value) (type_of files d))) count k) (sym u.nothing)
              ∙ back

        by : (o : Option Key) → key_at files file token ≡ o → pair_at (option_and_then (counted count) (option_and_then (slice_get known) (option_and_then (name_of p.links) (option_map (entity_index files) o)))) k ≡ spec.pair_at (option_and_then (shape_of files) o) count k
        by None none = refl
        by (Some key) some =
            let (number, at_number, entity) = entities.tokens file token key some in
            ap (λ i. at (name_of p.links i)) (ap (λ o. unwrap_or o 0) at_number) ∙ ap at (name_number_there number entity.entity entity.there)
            ∙ of_datum key (datum_of files key) refl number entity.entity (record { key_is = some; number_is = at_number; there = entity.there })

    designator_same : (file : ℕ) (d : Designator) → designator_by (here file) d ≡ spec.designator_told files file d
    designator_same file d = by d.subscripts where
      by : (o : Option (List Expr)) → option_map_or (λ subscripts. subscripts_by (here file) (pairs_by (here file) d.name (length subscripts)) 0 subscripts) o []
          ≡ option_map_or (spec.subscripts_told files file (option_and_then (shape_of files) (key_at files file d.name))) o []
      by None = refl
      by (Some subscripts) =
          subscripts_same file (pairs_by (here file) d.name (length subscripts)) (option_and_then (shape_of files) (key_at files file d.name)) (length subscripts)
          (pair_same file d.name (length subscripts)) 0 subscripts

    group_same : (file : ℕ) (d : DataGroup) → group_by (here file) d ≡ spec.group_told files file d
    group_same file d =
        ap₂ (λ (a b : List Finding). a ++ b) (flat_alike (designator_by (here file)) (spec.designator_told files file) (designator_same file) d.objects)
        (flat_alike (name_by (here file)) (spec.name_told files file) (name_same file) (flat_map names_of_value d.values))

    designators_same : (file : ℕ) (layer : Option FormLayer) → designators_by (here file) layer ≡ spec.designators_told files file layer
    designators_same file (Some (Form-F.Equivalence sets)) =
        flat_alike (flat_map (designator_by (here file))) (flat_map (spec.designator_told files file)) (flat_alike (designator_by (here file)) (spec.designator_told files file) (designator_same file)) sets
    designators_same file (Some (Form-F.Data groups)) = flat_alike (group_by (here file)) (spec.group_told files file) (group_same file) groups
    designators_same file other = refl

    pub form_same : (file : ℕ) (form : Form)
        → form_by (here file) form ≡ flat_map (spec.placed_told files file) (expressions_of form) ++ spec.designators_told files file (Some (out-Form form))
    form_same file form =
        ap₂ (λ (a b : List Finding). a ++ b) (flat_alike (placed_by (here file)) (spec.placed_told files file) (placed_same file) (expressions_of form)) (designators_same file (Some (out-Form form)))
