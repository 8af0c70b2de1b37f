-- What an entity is in constant expressions is what its key is.
use Rattle.std.proofs.Common.{◌≡◌, ℕ, suc, Bool, true, false, cond, List, [], ◌∷◌, ◌++◌, ◌+◌, filter, map, Option, Some, None, slice_get, option_map, refl, sym, ap, ap₂, subst, ◌∙◌, arith}
use Rattle.std.specs.Prelude.{◌&&◌, ◌==◌, not}
use Rattle.std.specs.List.{cons_option, flat_map, position, position_from, AllByRecursion as Each}
use Rattle.std.specs.Option.{is_some, option_and_then, option_map_or, unwrap_or}
use Rattle.std.specs.Str.{bytes_eq}
use Rattle.std.proofs.lemmas.Bool.{and_parts}
use Rattle.std.proofs.lemmas.Bool.Decides.{nat_tests}
use Rattle.std.proofs.lemmas.Iterator.Adapters.{position_from-zero}
use Rattle.ftn_tree.specs.declared.form.Form.TheOpen.{Form-F}
use Rattle.ftn_tree.specs.declared.table.Entity.{Entity}
use Rattle.ftn_tree.specs.declared.table.EntityKind.{EntityKind}
use Rattle.ftn_tree.specs.declared.table.EntityKind.TheVariants as kinds
use Rattle.ftn_tree.specs.declared.table.Extent.{Extent}
use Rattle.ftn_tree.specs.declared.unit.FileTree.{FileTree}
use Rattle.ftn_tree.specs.Bindings.{bound_entities, draft_intrinsic, draft_letter, intrinsic_at, intrinsic_drafts, denotings, is_block, is_entity_of, is_intrinsic_kind, is_letter_typed, letter_drafts, same_number}
use Rattle.ftn_tree.specs.Constants.{Known, function_if, naming_of}
use Rattle.ftn_tree.specs.DeclaredEntities.{Drafted, blank_places, comes_before, draft_blank, draft_block, draft_name, draft_unit, drafted, drafts, drafts_in, first_occurrence, has_result_at, has_type, in_order, is_referenced, is_said, names_after, own_place, put_draft, unit_kind_at}
use Rattle.ftn_tree.specs.Evaluations.{Constant, Stray}
use Rattle.ftn_tree.specs.Extents.{is_body, layer_at, scoping}
use Rattle.ftn_tree.specs.GlobalNames.{Global, Place, blocks, firsts_after, place}
use Rattle.ftn_tree.specs.Intrinsics.{function_named}
use Rattle.ftn_tree.specs.KeyKinds.{Datum, datum, datum_of, is_constant, rank_of}
use Rattle.ftn_tree.specs.Layers.{FormLayer}
use Rattle.ftn_tree.specs.Meanings as spec
use Rattle.ftn_tree.specs.Meanings.{Key, unit, own, block, intrinsic_function, same_names, names_in}
use Rattle.ftn_tree.specs.NameFaults.{said_of}
use Rattle.ftn_tree.specs.Projects.{AreTrees}
use Rattle.ftn_tree.specs.Sayings.{sayings, same_name, typed}
use Rattle.ftn_tree.specs.Scopes.{scope_number}
use Rattle.decl_table.proofs.OwnStatements.{number_of as number_there}
use Rattle.const_value.specs.steps.Known.{constant_naming, naming_as, naming_due, own_datum}
use Rattle.const_value.proofs.KindsSaid.{not_intrinsic, undeclared}
use Rattle.const_value.proofs.Members.{each_append, each_filter, each_flat, each_map, each_of, each_passed, each_weaker}
use Rattle.const_value.proofs.NamedPlaces.{same_bytes}
use Rattle.const_value.proofs.RealKeys.{IsUnit, kind_in, units_there}

-- ---- in their order

put_each : (P : Drafted → Type 0) (d : Drafted) (xs : List Drafted) → P d → Each P xs → Each P (put_draft d xs)
put_each P d [] first all = (first, tt)
put_each P d (x ∷ xs) first all = by (comes_before d x) (put_each P d xs first all.1) where
  by : (b : Bool) → Each P (put_draft d xs) → Each P (cond b (d ∷ x ∷ xs) (x ∷ put_draft d xs))
  by true rest = (first, all)
  by false rest = (all.0, rest)

pub order_each : (P : Drafted → Type 0) (xs : List Drafted) → Each P xs → Each P (in_order xs)
order_each P [] all = tt
order_each P (d ∷ xs) all = put_each P d (in_order xs) all.0 (order_each P xs all.1)

-- ---- kinds of units

unit_stray : (files : List FileTree) (known : Key → Known) (entity : Entity) (layer : Option FormLayer) → naming_as files known (unit_kind_at layer) entity ≡ Stray
unit_stray files known entity (Some (Form-F.Program name)) = refl
unit_stray files known entity (Some (Form-F.Module name)) = refl
unit_stray files known entity (Some (Form-F.BlockData joined name)) = refl
unit_stray files known entity (Some (Form-F.Function ty name dummies result)) = refl
unit_stray files known entity other = refl

pub unit_not_constant : (layer : Option FormLayer) → is_constant (unit_kind_at layer) ≡ false
unit_not_constant (Some (Form-F.Program name)) = refl
unit_not_constant (Some (Form-F.Module name)) = refl
unit_not_constant (Some (Form-F.BlockData joined name)) = refl
unit_not_constant (Some (Form-F.Function ty name dummies result)) = refl
unit_not_constant other = refl

-- ---- blocks and intrinsic functions, whatever they come from

block_fits : (files : List FileTree) (known : Key → Known) (entity : Entity) (k : EntityKind) → is_block k ≡ true → naming_as files known k entity ≡ Stray
block_fits files known entity kinds.Block is = refl
block_fits files known entity other is = absurd (cc is)

intrinsic_fits : (files : List FileTree) (known : Key → Known) (entity : Entity) (name : List ℕ) (k : EntityKind) → is_intrinsic_kind k ≡ true → same_names entity.name (Some name) ≡ true
    → naming_as files known k entity ≡ function_if (function_named name)
intrinsic_fits files known entity name kinds.Intrinsic is named = by entity.name named where
  by : (o : Option (List ℕ)) → same_names o (Some name) ≡ true → function_if (option_and_then function_named o) ≡ function_if (function_named name)
  by None named = absurd (cc named)
  by (Some n) named = ap (λ m. function_if (function_named m)) (same_bytes n name named)
intrinsic_fits files known entity name other is named = absurd (cc is)

and_no : (a b : Bool) → (false && a && b) ≡ true → ⊥
and_no a b is = cc is

module _ (files : List FileTree) (are : AreTrees files) where
  abbrev pub FitsUnit : Entity → Type 0
  FitsUnit entity = (e : Extent) → is_entity_of files (unit e) entity ≡ true → (known : Key → Known) → naming_due files known entity ≡ naming_of files known (Some (unit e))

  abbrev pub FitsOwn : Entity → Type 0
  FitsOwn entity = (e : Extent) (name : List ℕ) → IsUnit files e → is_entity_of files (own e name) entity ≡ true → (known : Key → Known) → naming_due files known entity ≡ naming_of files known (Some (own e name))

  abbrev pub Fits : Drafted → Type 0
  Fits d = FitsUnit d.entity × FitsOwn d.entity

  number_is : (e : Extent) (there : IsUnit files e) → scope_number files e ≡ Some (there.0)
  number_is e there = number_there files are there.0 e there.1

  -- two scoping units of one number
  same_unit : (e x : Extent) → IsUnit files e → IsUnit files x → same_number (scope_number files e) (scope_number files x) ≡ true → e ≡ x
  same_unit e x here other is =
      let numbers : (here.0 == other.0) ≡ true = sym (ap₂ same_number (number_is e here) (number_is x other)) ∙ is in
      let same : here.0 ≡ other.0 = grind (arith, nat_tests) in
      some_same (sym (here.1) ∙ ap (slice_get (scoping files)) same ∙ other.1)
    where
      some_same : Some e ≡ Some x → e ≡ x
      some_same is = cc is

  -- ---- units

  unit_fits : (e : Extent) → IsUnit files e → Fits (draft_unit files e)
  unit_fits e there = (
    λ x is known.
        unit_stray files known (draft_unit files e).entity (layer_at files e.file e.opening)
        ∙ sym (ap (λ b. cond b (Constant (known (unit x)).value (option_map_or (rank_of files) (spec_datum x) 0) (known (unit x)).bounds) Stray) (unit_not_constant (layer_at files x.file x.opening))),
    λ x name member is known. absurd (none x name (number_is e there) is),
  )
    where
      spec_datum : Extent → Option Datum
      spec_datum x = datum_of files (unit x)

      none : (x : Extent) (name : List ℕ) → scope_number files e ≡ Some (there.0) → is_entity_of files (own x name) (draft_unit files e).entity ≡ true → ⊥
      none x name number is =
          let never : (not true && same_number ((draft_unit files e).entity.home) (scope_number files x) && same_names ((draft_unit files e).entity.name) (Some name)) ≡ true =
          sym (ap (λ (o : Option ℕ). not (is_some o) && same_number ((draft_unit files e).entity.home) (scope_number files x) && same_names ((draft_unit files e).entity.name) (Some name)) number) ∙ is in
          cc never

  -- ---- names

  abbrev made : Extent → List ℕ → Place → EntityKind → Bool → Drafted
  made e name at k implicit = drafted files at false (Some name) (scope_number files e) k implicit None

  -- the name of the scoping unit, by another key of it
  named_fits : (e : Extent) → IsUnit files e → (n : List ℕ) (at : Place) (k : EntityKind) (implicit : Bool)
      → ((known : Key → Known) → naming_as files known k (made e n at k implicit).entity ≡ naming_of files known (Some (own e n))) → Fits (made e n at k implicit)
  named_fits e there n at k implicit due = (
    λ x is known. absurd (no_unit is),
    λ x name member is known.
        let parts = and_parts (same_number (scope_number files e) (scope_number files x)) (bytes_eq n name) is in
        let same : e ≡ x = same_unit e x there member parts.0 in
        due known ∙ ap₂ (λ y m. naming_of files known (Some (own y m))) same (same_bytes n name parts.1),
  )
    where
      no_unit : false ≡ true → ⊥
      no_unit is = cc is

  own_is : (e : Extent) → IsUnit files e → (n : List ℕ) (at : Place) (k : EntityKind) (implicit : Bool) → own_datum files (made e n at k implicit).entity ≡ Some (datum e n)
  own_is e there n at k implicit =
      ap (λ o. option_map (λ x. datum x n) (option_and_then (slice_get (scoping files)) o)) (number_is e there) ∙ ap (option_map (λ x. datum x n)) there.1

  kind_fits : (e : Extent) → IsUnit files e → (n : List ℕ) (at : Place) (implicit : Bool) (k : EntityKind) → kind_in files e n ≡ Some k → (known : Key → Known)
      → naming_as files known k (made e n at k implicit).entity ≡ naming_of files known (Some (own e n))
  kind_fits e there n at implicit k kind known =
      by k kind ∙ sym (ap (λ o. cond (is_constant (unwrap_or o kinds.Variable)) (Constant (known (own e n)).value (rank_of files (datum e n)) (known (own e n)).bounds) Stray) kind)
    where
      by : (k' : EntityKind) → kind_in files e n ≡ Some k'
          → naming_as files known k' (made e n at k implicit).entity ≡ cond (is_constant k') (Constant (known (own e n)).value (rank_of files (datum e n)) (known (own e n)).bounds) Stray
      by kinds.Constant is = ap (constant_naming files known) (own_is e there n at k implicit)
      by kinds.Intrinsic is = absurd (not_intrinsic (has_result_at (layer_at files e.file e.opening)) (is_referenced files e n) (said_of files e n) is)
      by other is = refl

  names_fit : (e : Extent) → IsUnit files e → Each Fits (drafts_in files e)
  names_fit e there =
      each_flat Fits (λ n. cons_option (draft_name files e n (filter (same_name n) (sayings files e))) []) (names_after [] (sayings files e))
      (each_of (λ n. Each Fits (cons_option (draft_name files e n (filter (same_name n) (sayings files e))) [])) (λ n. by n (kind_in files e n) refl) (names_after [] (sayings files e)))
    where
      by : (n : List ℕ) (o : Option EntityKind) → kind_in files e n ≡ o
          → Each Fits (cons_option (option_map (λ kind. drafted files (place e.file (own_place kind (first_occurrence files e n) (said_of files e n))) false (Some n) (scope_number files e) kind (has_type kind && not (is_said typed (said_of files e n))) None) o) [])
      by n None is = tt
      by n (Some k) is = (
        named_fits e there n (place e.file (own_place k (first_occurrence files e n) (said_of files e n))) k (has_type k && not (is_said typed (said_of files e n)))
            (kind_fits e there n (place e.file (own_place k (first_occurrence files e n) (said_of files e n))) (has_type k && not (is_said typed (said_of files e n))) k is),
        tt,
      )

  letters_fit : (e : Extent) → IsUnit files e → Each Fits (letter_drafts files e)
  letters_fit e there =
      each_map Fits (draft_letter files e) (filter (is_letter_typed files e) (names_in files e))
      (each_weaker (λ n. Unit {0} × (is_letter_typed files e n ≡ true)) (λ n. Fits (draft_letter files e n)) (λ n is. by n is.1) (filter (is_letter_typed files e) (names_in files e))
      (each_passed (λ n. Unit {0}) (is_letter_typed files e) (names_in files e) (each_of (λ n. Unit {0}) (λ n. tt) (names_in files e))))
    where
      by : (n : List ℕ) → is_letter_typed files e n ≡ true → Fits (draft_letter files e n)
      by n is =
          named_fits e there n (place e.file (first_occurrence files e n)) kinds.Variable true (λ known.
          let none : spec.is_nothing (spec.declared_in files e n) ≡ true = (and_parts (spec.is_nothing (spec.declared_in files e n)) _ is).0 in
          sym (ap (λ b. cond b (Constant (known (own e n)).value (rank_of files (datum e n)) (known (own e n)).bounds) Stray)
          (undeclared files e n (has_result_at (layer_at files e.file e.opening)) (said_of files e n) none)))

  -- ---- what has no home

  homeless : (at : Place) (last : Bool) (name : Option (List ℕ)) (k : EntityKind) → Fits (drafted files at last name None k false None)
  homeless at last name k = (λ x is known. absurd (no is), λ x n member is known. absurd (no is)) where
    no : false ≡ true → ⊥
    no is = cc is

  blanks_fit : (places : List Place) → Each Fits (draft_blank files places)
  blanks_fit [] = tt
  blanks_fit (first ∷ rest) = (homeless first true None kinds.Block, tt)

  drafts_fit : Each Fits (drafts files ++ (flat_map (letter_drafts files) (scoping files) ++ intrinsic_drafts files))
  drafts_fit =
      each_append Fits (drafts files) (flat_map (letter_drafts files) (scoping files) ++ intrinsic_drafts files)
      (each_append Fits (map (draft_unit files) (filter (λ e. not (is_body files e)) (scoping files))) _
      (each_map Fits (draft_unit files) (filter (λ e. not (is_body files e)) (scoping files))
      (each_filter (λ e. Fits (draft_unit files e)) (λ e. not (is_body files e)) (scoping files) (each_weaker (IsUnit files) (λ e. Fits (draft_unit files e)) unit_fits (scoping files) (units_there files []))))
      (each_append Fits (flat_map (drafts_in files) (scoping files)) _
      (each_flat Fits (drafts_in files) (scoping files) (each_weaker (IsUnit files) (λ e. Each Fits (drafts_in files e)) names_fit (scoping files) (units_there files [])))
      (each_append Fits (map (draft_block files) (blocks files)) (draft_blank files (blank_places files))
      (each_map Fits (draft_block files) (blocks files) (each_of (λ (g : Global). Fits (draft_block files g)) (λ g. homeless g.at false g.name kinds.Block) (blocks files)))
      (blanks_fit (blank_places files)))))
      (each_append Fits (flat_map (letter_drafts files) (scoping files)) (intrinsic_drafts files)
      (each_flat Fits (letter_drafts files) (scoping files) (each_weaker (IsUnit files) (λ e. Each Fits (letter_drafts files e)) letters_fit (scoping files) (units_there files [])))
      (each_map Fits (draft_intrinsic files) (firsts_after [] (flat_map intrinsic_at (denotings files)))
      (each_of (λ (g : Global). Fits (draft_intrinsic files g)) (λ g. homeless g.at false g.name kinds.Intrinsic) (firsts_after [] (flat_map intrinsic_at (denotings files))))))

  entities_fit : Each (λ (entity : Entity). FitsUnit entity × FitsOwn entity) (bound_entities files)
  entities_fit =
      each_map (λ (entity : Entity). FitsUnit entity × FitsOwn entity) (λ (d : Drafted). d.entity) (in_order (drafts files ++ (flat_map (letter_drafts files) (scoping files) ++ intrinsic_drafts files)))
      (order_each Fits (drafts files ++ (flat_map (letter_drafts files) (scoping files) ++ intrinsic_drafts files)) drafts_fit)

  -- ---- the first entity of a key

  abbrev pub IsMember : Key → Type 0
  IsMember (own e name) = IsUnit files e
  IsMember (unit e) = Unit {0}
  IsMember (block b) = Unit {0}
  IsMember (intrinsic_function name) = Unit {0}

  fits : (entity : Entity) → FitsUnit entity × FitsOwn entity → (key : Key) → IsMember key → is_entity_of files key entity ≡ true → (known : Key → Known) → naming_due files known entity ≡ naming_of files known (Some key)
  fits entity fit (unit e) member is known = fit.0 e is known
  fits entity fit (own e name) member is known = fit.1 e name member is known
  fits entity fit (block b) member is known = block_fits files known entity entity.kind ((and_parts (is_block entity.kind) (same_names entity.name b) is).0)
  fits entity fit (intrinsic_function name) member is known =
      let parts = and_parts (is_intrinsic_kind entity.kind) (same_names entity.name (Some name)) is in
      intrinsic_fits files known entity name entity.kind parts.0 parts.1

  pub record First (key : Key) (n : ℕ) : Type 0 where
    pub entity : Entity
    pub there : slice_get (bound_entities files) n ≡ Some entity
    pub naming : (known : Key → Known) → naming_due files known entity ≡ naming_of files known (Some key)
    pub passes : is_entity_of files key entity ≡ true

  first_in : (key : Key) → IsMember key → (es : List Entity) → Each (λ (entity : Entity). FitsUnit entity × FitsOwn entity) es → (at n : ℕ) → position_from (is_entity_of files key) at es ≡ Some n
      → (k : ℕ) × (n ≡ at + k) × (entity : Entity) × (slice_get es k ≡ Some entity) × (is_entity_of files key entity ≡ true) × ((known : Key → Known) → naming_due files known entity ≡ naming_of files known (Some key))
  first_in key member [] all at n is = absurd (cc is)
  first_in key member (x ∷ es) all at n is = by (is_entity_of files key x) refl is (first_in key member es all.1 (at + 1) n) where
    by : (b : Bool) → is_entity_of files key x ≡ b → cond b (Some at) (position_from (is_entity_of files key) (at + 1) es) ≡ Some n
        → (position_from (is_entity_of files key) (at + 1) es ≡ Some n
        → (k : ℕ) × (n ≡ at + 1 + k) × (entity : Entity) × (slice_get es k ≡ Some entity) × (is_entity_of files key entity ≡ true) × ((known : Key → Known) → naming_due files known entity ≡ naming_of files known (Some key)))
        → (k : ℕ) × (n ≡ at + k) × (entity : Entity) × (slice_get (x ∷ es) k ≡ Some entity) × (is_entity_of files key entity ≡ true) × ((known : Key → Known) → naming_due files known entity ≡ naming_of files known (Some key))
    by true passes is rest = let same : at ≡ n = cc is in (0, omega (arith, same), x, refl, passes, fits x all.0 key member passes)
    by false fails is rest = let (k, same, entity, there, passes, naming) = rest is in (suc k, omega (arith, same), entity, there, passes, naming)

  pub first_entity : (key : Key) → IsMember key → (n : ℕ) → position (is_entity_of files key) (bound_entities files) ≡ Some n → First key n
  first_entity key member n is =
      let (k, same, entity, there, passes, naming) = first_in key member (bound_entities files) entities_fit 0 n (sym (position_from-zero (is_entity_of files key) (bound_entities files)) ∙ is) in
      let equal : k ≡ n = omega (arith, same) in
      record { entity = entity; there = subst (λ m. slice_get (bound_entities files) m ≡ Some entity) equal there; naming = naming; passes = passes }
