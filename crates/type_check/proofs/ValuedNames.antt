-- What names are in constant expressions, by what is known of entities as values, is what is defined, where no constant is defined by itself.
use Rattle.std.proofs.Common.{◌≡◌, refl, sym, ◌∙◌, ap, ap₂, subst, cond, ℕ, zero, suc, ◌+◌, ◌<◌, Bool, true, false, List, [], ◌∷◌, ◌++◌, map, length, Option, Some, None, option_map, arith}
use Rattle.std.specs.Prelude.{ℤ, ◌||◌, ◌&&◌, if◌then◌else◌, not, slice_get}
use Rattle.std.specs.List.{cons_option, enumerate_from, filter_map, flat_map, list_any, range_with_len}
use Rattle.std.specs.Option.{is_some, option_map_or, option_and_then, unwrap_or}
use Rattle.std.proofs.lemmas.Option.{slice_get-map, slice_get_within}
use Rattle.ftn_base.specs.declared.entity.Ty.{Ty}
use Rattle.ftn_base.specs.declared.fault.FaultKind.TheVariants.{Circular}
use Rattle.ftn_tree.specs.declared.intrinsic.Intrinsic.{Intrinsic}
use Rattle.ftn_tree.specs.declared.table.Entity.{Entity}
use Rattle.ftn_tree.specs.declared.table.EntityKind.{EntityKind}
use Rattle.ftn_tree.specs.declared.table.EntityKind.TheVariants as kinds
use Rattle.ftn_tree.specs.declared.unit.FileTree.{FileTree}
use Rattle.ftn_tree.specs.declared.value.Value.{Value}
use Rattle.ftn_tree.specs.declared.value.Values.{Values}
use Rattle.ftn_tree.specs.Bindings.{bound_entities, same_number}
use Rattle.ftn_tree.specs.Cases.{case_findings}
use Rattle.ftn_tree.specs.Circles.{constant_at, constants, is_circular, is_on_circle, leads_back, refers_of, tokens_for}
use Rattle.ftn_tree.specs.ConstantFaults.{circles, circular_findings, constant_fault, scope_findings}
use Rattle.ftn_tree.specs.Constants.{Known, all_pairs, function_if, is_empty_pair, known_of, naming_at, naming_of, pairs_of}
use Rattle.ftn_tree.specs.DeclarationFaults.{Finding, found}
use Rattle.ftn_tree.specs.EntityValues.{constant_by, constant_of_entity, holder, is_named_constant, key_of_entity}
use Rattle.ftn_tree.specs.Evaluations as spec
use Rattle.ftn_tree.specs.Extents.{scoping}
use Rattle.ftn_tree.specs.GlobalNames.{place}
use Rattle.ftn_tree.specs.Intrinsics.{function_named}
use Rattle.ftn_tree.specs.KeyKinds as spec_kinds
use Rattle.ftn_tree.specs.KeyKinds.{Datum, datum_of, is_constant, key_at, kind_of}
use Rattle.ftn_tree.specs.Meanings.{Key, own, same_names}
use Rattle.ftn_tree.specs.NameFaults.{name_fault}
use Rattle.ftn_tree.specs.Projects.{AreTrees}
use Rattle.ftn_tree.specs.Scopes.{scope_number}
use Rattle.ftn_tree.specs.Shapes.{shape, shape_of, type_of, with_value}
use Rattle.decl_table.proofs.OwnStatements.{number_of as number_there}
use Rattle.const_expr.specs.declared.naming.Naming.{Naming}
use Rattle.const_expr.specs.declared.naming.Naming.TheVariants as kept
use Rattle.const_expr.specs.Namings.{naming_by}
use Rattle.const_expr.specs.Namings as namings_of
use Rattle.const_value.specs.declared.project.Project.{Project}
use Rattle.const_value.specs.steps.Gathered.{IsGathered, datum_number, entity_index, key_number}
use Rattle.const_value.specs.steps.Known.{naming_as}
use Rattle.const_value.specs.steps.Knowing.{function_naming}
use Rattle.const_value.specs.steps.Names.{all_data}
use Rattle.const_value.specs.steps.Numbered.{AreEntities, AreNumbered, IsEntity, IsNumbered}
use Rattle.const_value.specs.steps.Projects.{entity_in, name_of, rank_of, row_in}
use Rattle.const_value.proofs.AllKeys.{all_entities, all_numbered}
use Rattle.const_value.proofs.GatheredNames.{rank_there}
use Rattle.const_value.proofs.KeysThere.{denoted_at}
use Rattle.const_value.proofs.NoBodies.{no_bodies}
use Rattle.const_value.proofs.RealKeys.{IsUnit}
use Rattle.const_value.proofs.Rounds.{known_by_all, used_is}
use Rattle.const_value.proofs.TiedNames.{entity_there, name_number_there}
use Rattle.const_value.proofs.VariablesThere.{own_parts, passes, token_kind}
use Rattle.name_types.specs.declared.names.Names.{Names}
use Rattle.name_types.specs.steps.Gathered.{AreNames}
use Rattle.type_check.specs.steps.Constants as steps
use Rattle.type_check.specs.steps.Constants.{bounds_in, naming_by_kind, naming_in, namings_by, rank_by}
use Rattle.type_check.specs.steps.DataBy.{of_entity}
use Rattle.type_check.proofs.FineStatements.{none_found, none_left, none_right, none_there}

-- ---- places in lists

numbered_at : {X : Type 0} (xs : List X) (at i : ℕ) (x : X) → slice_get xs i ≡ Some x → slice_get (enumerate_from at xs) i ≡ Some (at + i, x)
numbered_at [] at i x is = absurd (cc is)
numbered_at (y ∷ xs) at zero x is = let same : y ≡ x = cc is in let none : at ≡ at + 0 = omega arith in ap₂ (λ n v. Some (n, v)) none same
numbered_at (y ∷ xs) at (suc i) x is = let next : at + 1 + i ≡ at + suc i = omega arith in numbered_at xs (at + 1) i x is ∙ ap (λ n. Some (n, x)) next

range_at : (n a i : ℕ) → i < n → slice_get (range_with_len a n) i ≡ Some (a + i)
range_at zero a i less = absurd (omega (arith, less))
range_at (suc n) a zero less = let none : a ≡ a + 0 = omega arith in ap Some none
range_at (suc n) a (suc i) less = let next : a + 1 + i ≡ a + suc i = omega arith in range_at n (a + 1) i (omega (arith, less)) ∙ ap Some next

zero_plus : (n : ℕ) → 0 + n ≡ n
zero_plus n = omega arith

-- ---- no constant leads back to itself

abbrev told_of : (Option ℕ → Bool) → (ℕ → Option ℕ) → (ℕ → Finding) → List ℕ → List Finding
told_of test at told tokens = flat_map (λ token. if test (at token) then told token ∷ [] else []) tokens

none_back : (test : Option ℕ → Bool) (at : ℕ → Option ℕ) (told : ℕ → Finding) (tokens : List ℕ) → told_of test at told tokens ≡ []
    → list_any (λ other. test (Some other)) (filter_map at tokens) ≡ false
none_back test at told [] nothing = refl
none_back test at told (token ∷ tokens) nothing = by (at token) nothing (none_back test at told tokens) where
  some : (other : ℕ) (b : Bool) → test (Some other) ≡ b → cond b (told token ∷ []) [] ++ told_of test at told tokens ≡ []
      → (told_of test at told tokens ≡ [] → list_any (λ other. test (Some other)) (filter_map at tokens) ≡ false)
      → (test (Some other) || list_any (λ other. test (Some other)) (filter_map at tokens)) ≡ false
  some other true is nothing more = absurd (cc nothing)
  some other false is nothing more = ap (λ b. b || list_any (λ other. test (Some other)) (filter_map at tokens)) is ∙ more nothing

  by : (o : Option ℕ) → cond (test o) (told token ∷ []) [] ++ told_of test at told tokens ≡ []
      → (told_of test at told tokens ≡ [] → list_any (λ other. test (Some other)) (filter_map at tokens) ≡ false)
      → list_any (λ other. test (Some other)) (cons_option o (filter_map at tokens)) ≡ false
  by None nothing more = more (none_right (cond (test None) (told token ∷ []) []) (told_of test at told tokens) nothing)
  by (Some other) nothing more = some other (test (Some other)) refl nothing more

not_circular : (files : List FileTree) (numbered : AreNumbered files) → constant_fault files ≡ None → (key : Key) (x : ℕ) (d : Datum) → IsNumbered files key x → datum_of files key ≡ Some d
    → is_circular files key ≡ false
not_circular files numbered fine key x d is at =
    let nothing : circular_findings files ≡ [] =
    none_left (circular_findings files) (flat_map (scope_findings files) (scoping files) ++ flat_map (λ numbered. case_findings files numbered.0 numbered.1) (enumerate_from 0 files)) (none_found files fine) in
    let here : option_map_or (circles files (0 + x)) (datum_of files key) [] ≡ [] =
    none_there (λ (one : ℕ × Key). option_map_or (circles files one.0) (datum_of files one.1) []) (enumerate_from 0 (constants files)) x (0 + x, key) (numbered_at (constants files) 0 x key is.there) nothing in
    let told : circles files x d ≡ [] = sym (ap₂ (λ n o. option_map_or (circles files n) o []) (zero_plus x) at) ∙ here in
    ap (λ o. option_map_or (is_on_circle files) o false) is.number_is
    ∙ ap (list_any (λ other. leads_back files x (Some other))) (used_is files numbered key x is ∙ ap (λ o. option_map_or (refers_of files) o []) at)
    ∙ none_back (leads_back files x) (constant_at files d.scope.file) (λ token. found Circular (place d.scope.file token)) (tokens_for files d) told

-- ---- bounds

pairs_are : (pairs : List (Option (ℤ × ℤ))) (bounds : List (ℤ × ℤ)) → all_pairs pairs ≡ Some bounds → list_any is_empty_pair pairs ≡ list_any (λ pair. is_empty_pair (Some pair)) bounds
pairs_are [] bounds is = let same : [] ≡ bounds = cc is in ap (list_any (λ pair. is_empty_pair (Some pair))) same
pairs_are (None ∷ pairs) bounds is = absurd (cc is)
pairs_are (Some pair ∷ pairs) bounds is = by (all_pairs pairs) refl is (pairs_are pairs) where
  by : (o : Option (List (ℤ × ℤ))) → all_pairs pairs ≡ o → option_map (λ more. pair ∷ more) o ≡ Some bounds
      → ((more : List (ℤ × ℤ)) → all_pairs pairs ≡ Some more → list_any is_empty_pair pairs ≡ list_any (λ pair. is_empty_pair (Some pair)) more)
      → (is_empty_pair (Some pair) || list_any is_empty_pair pairs) ≡ list_any (λ pair. is_empty_pair (Some pair)) bounds
  by None at is rest = absurd (cc is)
  by (Some more) at is rest =
      let same : pair ∷ more ≡ bounds = cc is in ap (λ b. is_empty_pair (Some pair) || b) (rest more at) ∙ ap (list_any (λ pair. is_empty_pair (Some pair))) same

no_bounds : (b : Bool) → ◌≡◌ {A = Option (List (ℤ × ℤ))} None (cond b None None)
no_bounds true = refl
no_bounds false = refl

bounds_are : (pairs : List (Option (ℤ × ℤ))) (v : Option Value) (ty : Option Ty)
    → option_and_then bounds_in (option_and_then (λ known. option_map (shape known) (all_pairs pairs)) (option_map (with_value v) ty))
    ≡ (if list_any is_empty_pair pairs then None else option_and_then (λ declared. all_pairs pairs) ty)
bounds_are pairs v None = no_bounds (list_any is_empty_pair pairs)
bounds_are pairs v (Some ty) = by (all_pairs pairs) refl where
  by : (o : Option (List (ℤ × ℤ))) → all_pairs pairs ≡ o → option_and_then bounds_in (option_map (shape (with_value v ty)) o) ≡ cond (list_any is_empty_pair pairs) None o
  by None at = no_bounds (list_any is_empty_pair pairs)
  by (Some bounds) at = ap (λ b. cond b None (Some bounds)) (sym (pairs_are pairs bounds at))

-- ---- kinds

function_seen : (o : Option Intrinsic) → namings_of.naming_of (Some (function_naming o)) ≡ function_if o
function_seen None = refl
function_seen (Some function) = refl

constant_kind : (k : EntityKind) → is_constant k ≡ true → k ≡ kinds.Constant
constant_kind kinds.Constant is = refl
constant_kind _ is = absurd (cc is)

module _ (files : List FileTree) (are : AreTrees files) (bound : name_fault files ≡ None) (fine : constant_fault files ≡ None) (names : Names) (right : AreNames files names)
    (namings : List Naming) (made : namings ≡ namings_by names.project.now names.values.now) where
  abbrev p : Project
  p = names.project.now

  abbrev v : Values
  v = names.values.now

  abbrev g : IsGathered files p
  g = right.gathered

  abbrev known : Key → Known
  known = known_of files

  entities : AreEntities files
  entities = all_entities files are bound

  numbered : AreNumbered files
  numbered = all_numbered files are bound

  -- ---- what is kept of the entity at a token

  at_number : (i : ℕ) (entity : Entity) → entity_in p.bound.now i ≡ Some entity → slice_get namings i ≡ Some (naming_in p v i entity)
  at_number i entity there =
      ap (λ (all : List Naming). slice_get all i) made
      ∙ slice_get-map (steps.naming_at p v) (range_with_len 0 (length p.bound.now.tables.entities)) i
      ∙ ap (option_map (steps.naming_at p v)) (range_at (length p.bound.now.tables.entities) 0 i (slice_get_within p.bound.now.tables.entities i entity there) ∙ ap Some (zero_plus i))
      ∙ ap (λ o. Some (option_map_or (naming_in p v i) o kept.Stray)) there

  by_row : (file token : ℕ) (key : Key) (i : ℕ) (e : IsEntity files i key) → key_at files file token ≡ Some key → key_number files key ≡ Some i
      → naming_by (row_in p.rows.items file) namings token ≡ namings_of.naming_of (Some (naming_in p v i e.entity))
  by_row file token key i e at number =
      ap (λ o. namings_of.naming_of (option_and_then (slice_get namings) o)) (g.tokens file token ∙ ap (option_map (entity_index files)) at ∙ ap (λ o. Some (unwrap_or o 0)) number)
      ∙ ap namings_of.naming_of (at_number i e.entity (entity_there files p g are numbered entities i key e))

  -- ---- what is no constant

  other : (i : ℕ) (key : Key) (e : IsEntity files i key) (k : EntityKind) → e.entity.kind ≡ k → is_constant k ≡ false
      → namings_of.naming_of (Some (naming_by_kind p v i k e.entity)) ≡ naming_of files known (Some key)
  other i key e k is not = by k is not where
    due : (k : EntityKind) → e.entity.kind ≡ k → naming_as files known k e.entity ≡ naming_of files known (Some key)
    due k is = ap (λ k. naming_as files known k e.entity) (sym is) ∙ e.naming known

    by : (k : EntityKind) → e.entity.kind ≡ k → is_constant k ≡ false → namings_of.naming_of (Some (naming_by_kind p v i k e.entity)) ≡ naming_of files known (Some key)
    by kinds.Constant is not = absurd (cc not)
    by kinds.Intrinsic is not = function_seen (option_and_then function_named e.entity.name) ∙ due kinds.Intrinsic is
    by kinds.Program is not = due kinds.Program is
    by kinds.Module is not = due kinds.Module is
    by kinds.BlockData is not = due kinds.BlockData is
    by kinds.Subroutine is not = due kinds.Subroutine is
    by kinds.Function is not = due kinds.Function is
    by kinds.Variable is not = due kinds.Variable is
    by kinds.Dummy is not = due kinds.Dummy is
    by kinds.Answer is not = due kinds.Answer is
    by kinds.Block is not = due kinds.Block is
    by kinds.Generic is not = due kinds.Generic is
    by kinds.Construct is not = due kinds.Construct is

  -- ---- constants

  module _ (file token : ℕ) (d : Datum) (at : key_at files file token ≡ Some (own d.scope d.name)) (constant : is_constant (kind_of files (own d.scope d.name)) ≡ true)
      (i : ℕ) (number : key_number files (own d.scope d.name) ≡ Some i) (e : IsEntity files i (own d.scope d.name)) where
    abbrev key : Key
    key = own d.scope d.name

    kind : e.entity.kind ≡ kinds.Constant
    kind = token_kind files are bound key file token i e.entity at number e.there ∙ constant_kind (kind_of files key) constant

    home_there : IsUnit files d.scope
    home_there = let found = denoted_at files are bound (no_bodies files are) file token key at in found.real.0

    home_number : scope_number files d.scope ≡ Some (home_there.0)
    home_number = number_there files are home_there.0 d.scope home_there.1

    fields : (e.entity.opens ≡ None) × (e.entity.home ≡ Some (home_there.0)) × (e.entity.name ≡ Some d.name)
    fields =
        own_parts e.entity.opens e.entity.home e.entity.name home_there.0 d.name
        (sym (ap (λ o. not (is_some e.entity.opens) && same_number e.entity.home o && same_names e.entity.name (Some d.name)) home_number) ∙ passes files are bound key file token i e.entity at number e.there)

    held : holder files e.entity ≡ Some key
    held =
        ap (λ k. key_of_entity files k e.entity) kind
        ∙ ap₂ (λ o m. option_map (λ x. own x (unwrap_or m [])) o) (ap (option_and_then (slice_get (scoping files))) fields.1 ∙ home_there.1) fields.2

    listed : {X : Type 0} (f : Entity → Option X) (all : List (Option X)) → all ≡ map f (bound_entities files) → of_entity all (Some i) ≡ f e.entity
    listed f all is =
        ap (λ xs. of_entity xs (Some i)) is ∙ ap (option_and_then (λ found. found)) (slice_get-map f (bound_entities files) i ∙ ap (option_map f) e.there)

    value_is : of_entity v.constants (Some i) ≡ (known key).value
    value_is =
        listed (constant_of_entity files) v.constants (ap (λ v. v.constants) right.values)
        ∙ ap (λ k. cond (is_named_constant k) (option_and_then (constant_by files) (holder files e.entity)) None) kind
        ∙ ap (option_and_then (constant_by files)) held

    shape_is : of_entity v.shapes (Some i) ≡ shape_of files key
    shape_is = listed (λ entity. option_and_then (shape_of files) (holder files entity)) v.shapes (ap (λ v. v.shapes) right.values) ∙ ap (option_and_then (shape_of files)) held

    constant_is : (x n : ℕ) → IsNumbered files key x → slice_get (all_data files) n ≡ Some d → name_of p.links i ≡ Some n
        → namings_of.naming_of (Some (naming_in p v i e.entity)) ≡ naming_of files known (Some key)
    constant_is x n is there name =
        let bounds : option_and_then bounds_in (of_entity v.shapes (Some i)) ≡ (known key).bounds =
        ap (option_and_then bounds_in) shape_is ∙ bounds_are (pairs_of files known d) (known key).value (type_of files d)
        ∙ sym (ap (λ (k : Known). k.bounds) (known_by_all files numbered key x d is (not_circular files numbered fine key x d is refl) refl)) in
        let rank : rank_by p i ≡ spec_kinds.rank_of files d = ap (λ o. option_map_or (rank_of p.written.items) o 0) name ∙ rank_there files p g n d there in
        ap (λ k. namings_of.naming_of (Some (naming_by_kind p v i k e.entity))) kind
        ∙ ap₂ (λ a b. spec.Constant a (rank_by p i) b) value_is bounds
        ∙ ap (λ r. spec.Constant (known key).value r (known key).bounds) rank
        ∙ sym (ap (λ b. cond b (spec.Constant (known key).value (spec_kinds.rank_of files d) (known key).bounds) spec.Stray) constant)

  -- ---- tokens

  own_here : (file token : ℕ) (d : Datum) (x n : ℕ) → key_at files file token ≡ Some (own d.scope d.name) → is_constant (kind_of files (own d.scope d.name)) ≡ true
      → IsNumbered files (own d.scope d.name) x → slice_get (all_data files) n ≡ Some d → datum_number files d ≡ Some n
      → naming_by (row_in p.rows.items file) namings token ≡ naming_of files known (Some (own d.scope d.name))
  own_here file token d x n at constant is there name_is =
      let (i, number, e) = entities.tokens file token (own d.scope d.name) at in
      let name : name_of p.links i ≡ Some n = name_number_there files p g are numbered entities i e.entity e.there ∙ e.name d refl constant ∙ name_is in
      by_row file token (own d.scope d.name) i e at number ∙ constant_is file token d at constant i number e x n is there name

  here : (file token : ℕ) (o : Option Key) → key_at files file token ≡ o → naming_by (row_in p.rows.items file) namings token ≡ naming_of files known o
  here file token None none = ap (λ o. namings_of.naming_of (option_and_then (slice_get namings) o)) (g.tokens file token ∙ ap (option_map (entity_index files)) none)
  here file token (Some key) at = by (is_constant (kind_of files key)) refl where
    by : (b : Bool) → is_constant (kind_of files key) ≡ b → naming_by (row_in p.rows.items file) namings token ≡ naming_of files known (Some key)
    by false not =
        let (i, number, e) = entities.tokens file token key at in
        let kind : e.entity.kind ≡ kind_of files key = token_kind files are bound key file token i e.entity at number e.there in
        by_row file token key i e at number ∙ other i key e e.entity.kind refl (ap is_constant kind ∙ not)
    by true is =
        let (x, n, named) = numbered.constant file token key at is in
        let d = named.datum in
        let constant : is_constant (kind_of files (own d.scope d.name)) ≡ true = ap (λ k. is_constant (kind_of files k)) (sym named.key_is) ∙ is in
        own_here file token d x n (at ∙ ap Some named.key_is) constant (subst (λ k. IsNumbered files k x) named.key_is named.constant) named.there named.name_is
        ∙ ap (λ k. naming_of files known (Some k)) (sym named.key_is)

  pub tokens_right : (file token : ℕ) → naming_by (row_in p.rows.items file) namings token ≡ naming_at files known file token
  tokens_right file token = here file token (key_at files file token) refl
