-- The kinds of entities are those of their keys.
use Rattle.std.proofs.Common.{◌≡◌, ℕ, Bool, true, false, cond, List, [], ◌∷◌, ◌++◌, filter, map, Option, Some, None, slice_get, option_map, ◌⊎◌, inl, inr, refl, sym, ap, ap₂, subst, ◌∙◌, arith}
use Rattle.std.specs.Prelude.{◌&&◌, ◌||◌, ◌==◌, not}
use Rattle.std.specs.List.{cons_option, flat_map, AllByRecursion as Each}
use Rattle.std.specs.Option.{is_some, unwrap_or}
use Rattle.std.specs.Str.{bytes_eq}
use Rattle.std.proofs.lemmas.Bool.{and_parts}
use Rattle.std.proofs.lemmas.Bool.Decides.{nat_tests}
use Rattle.ftn_tree.specs.declared.form.Form.TheOpen.{Form-F}
use Rattle.ftn_tree.specs.declared.mention.Role.TheVariants as role
use Rattle.ftn_tree.specs.declared.table.Entity.{Entity}
use Rattle.ftn_tree.specs.declared.table.EntityKind.{EntityKind}
use Rattle.ftn_tree.specs.declared.table.EntityKind.TheVariants as kinds
use Rattle.ftn_tree.specs.declared.table.Extent.{Extent}
use Rattle.ftn_tree.specs.declared.unit.FileTree.{FileTree}
use Rattle.ftn_tree.specs.Bindings.{bound_entities, denotings, draft_intrinsic, draft_letter, intrinsic_at, intrinsic_drafts, is_block, is_entity_of, is_intrinsic_kind, is_letter_typed, letter_drafts, same_number}
use Rattle.ftn_tree.specs.DeclaredEntities.{Drafted, blank_places, draft_blank, draft_block, draft_name, draft_unit, drafted, drafts, drafts_in, first_occurrence, has_result_at, has_type, in_order, is_referenced, is_said, is_typed_alone, kind_said, names_after, own_place, unit_kind_at}
use Rattle.ftn_tree.specs.Extents.{is_body, layer_at, scoping}
use Rattle.ftn_tree.specs.GlobalNames.{Global, Place, blocks, firsts_after, place}
use Rattle.ftn_tree.specs.KeyKinds.{kind_of}
use Rattle.ftn_tree.specs.Layers.{FormLayer}
use Rattle.ftn_tree.specs.Meanings as spec
use Rattle.ftn_tree.specs.Meanings.{Key, unit, own, block, intrinsic_function, names_in, same_names}
use Rattle.ftn_tree.specs.NameFaults.{said_of}
use Rattle.ftn_tree.specs.Projects.{AreTrees}
use Rattle.ftn_tree.specs.Roles.{says}
use Rattle.ftn_tree.specs.Sayings.{Saying, answer, body, declares, dummy, external, inside, outside, parameter, sayings, same_name, typed}
use Rattle.ftn_tree.specs.Scopes.{name_at, name_token, scope_number}
use Rattle.decl_table.proofs.OwnStatements.{number_of as number_there}
use Rattle.const_value.proofs.EntityFits.{order_each}
use Rattle.const_value.proofs.KindsSaid.{said_declares}
use Rattle.const_value.proofs.Members.{each_append, each_filter, each_flat, each_map, each_of, each_passed, each_weaker}
use Rattle.const_value.proofs.NamedPlaces.{same_bytes}
use Rattle.const_value.proofs.RealKeys.{IsUnit, inside_none, kind_in, units_there}

-- ---- a name that nothing declares has no kind

known_not : (found : Option Key) → spec.is_nothing (spec.known found) ≡ false
known_not None = refl
known_not (Some key) = refl

if_not : (b : Bool) (first other : spec.Meaning) → spec.is_nothing first ≡ false → spec.is_nothing other ≡ false → spec.is_nothing (cond b first other) ≡ false
if_not true first other is there = is
if_not false first other is there = there

or_false : (a b : Bool) → a ≡ false → b ≡ false → (a || b) ≡ false
or_false a b is also = ap₂ (λ x y. x || y) is also

module _ (files : List FileTree) (e : Extent) (name : List ℕ) where
  result_not : spec.is_nothing (spec.result_meaning files e name) ≡ false
  result_not =
      if_not (has_result_at (layer_at files e.file e.opening)) (spec.one (own e name)) _ refl
      (if_not (is_body files e) _ (spec.one (unit e)) (known_not (spec.external_of files name)) refl)

  outside_not : (said : List Saying) → spec.is_nothing (spec.outside_meaning files name said) ≡ false
  outside_not said = if_not (is_said external said || is_said body said) _ _ (known_not (spec.external_of files name)) (known_not (spec.intrinsic_of name))

  pub nothing_kind : (has : Bool) (said : List Saying) → spec.is_nothing (spec.declared_meaning files e name said) ≡ true → kind_said has (is_referenced files e name) said ≡ None
  nothing_kind has said none =
      at (is_said dummy said) (is_said answer said) (is_said (λ s. says role.Inner s.said) said) (is_said inside said) (is_said outside said) (is_referenced files e name && is_typed_alone said) (is_said declares said)
      refl refl refl refl refl refl refl
    where
      no_parameter : (p : Bool) → is_said parameter said ≡ p → is_said declares said ≡ false → is_said parameter said ≡ false
      no_parameter false is undeclared = is
      no_parameter true is undeclared = absurd (cc (undeclared, said_declares said is))

      at : (d a i n o f c : Bool) → is_said dummy said ≡ d → is_said answer said ≡ a → is_said (λ s. says role.Inner s.said) said ≡ i → is_said inside said ≡ n → is_said outside said ≡ o
          → (is_referenced files e name && is_typed_alone said) ≡ f → is_said declares said ≡ c → kind_said has (is_referenced files e name) said ≡ None
      at true a i n o f c d_is a_is i_is n_is o_is f_is c_is =
          let told : spec.is_nothing (spec.declared_meaning files e name said) ≡ false = rw d_is refl in absurd (cc (none, told))
      at false true i n o f c d_is a_is i_is n_is o_is f_is c_is =
          let told : spec.is_nothing (spec.declared_meaning files e name said) ≡ false = rw (d_is, a_is) result_not in absurd (cc (none, told))
      at false false true n o f c d_is a_is i_is n_is o_is f_is c_is =
          let told : spec.is_nothing (spec.declared_meaning files e name said) ≡ false = rw (d_is, a_is, i_is) (known_not (option_map unit (spec.inner_of files e name))) in absurd (cc (none, told))
      at false false false true o f c d_is a_is i_is n_is o_is f_is c_is =
          let told : spec.is_nothing (spec.declared_meaning files e name said) ≡ false = rw (d_is, a_is, i_is, n_is) refl in absurd (cc (none, told))
      at false false false false true f c d_is a_is i_is n_is o_is f_is c_is =
          let told : spec.is_nothing (spec.declared_meaning files e name said) ≡ false = rw (d_is, a_is, i_is, n_is, o_is) (outside_not said) in absurd (cc (none, told))
      at false false false false false true c d_is a_is i_is n_is o_is f_is c_is =
          let told : spec.is_nothing (spec.declared_meaning files e name said) ≡ false =
          rw (d_is, a_is, i_is, n_is, o_is, f_is) (known_not (spec.or_else (spec.intrinsic_of name) (option_map unit (spec.unit_of files spec.is_function name)))) in
          absurd (cc (none, told))
      at false false false false false false true d_is a_is i_is n_is o_is f_is c_is =
          let told : spec.is_nothing (spec.declared_meaning files e name said) ≡ false = rw (d_is, a_is, i_is, n_is, o_is, f_is, c_is) refl in absurd (cc (none, told))
      at false false false false false false false d_is a_is i_is n_is o_is f_is c_is =
          let nowhere = inside_none has (is_referenced files e name) said n_is in
          let unnamed : is_said parameter said ≡ false = no_parameter (is_said parameter said) refl c_is in
          rw (d_is, a_is, i_is, nowhere.0, nowhere.1, o_is, f_is, unnamed, c_is) refl

  pub letter_kind : is_letter_typed files e name ≡ true → kind_in files e name ≡ None
  letter_kind is = nothing_kind (has_result_at (layer_at files e.file e.opening)) (said_of files e name) ((and_parts (spec.is_nothing (spec.declared_in files e name)) _ is).0)

-- ---- what drafts are

unit_not_block : (layer : Option FormLayer) → (is_block (unit_kind_at layer) || is_intrinsic_kind (unit_kind_at layer)) ≡ false
unit_not_block (Some (Form-F.Program name)) = refl
unit_not_block (Some (Form-F.Module name)) = refl
unit_not_block (Some (Form-F.BlockData joined name)) = refl
unit_not_block (Some (Form-F.Function ty name dummies result)) = refl
unit_not_block other = refl

no_block_said : (has referenced : Bool) (said : List Saying) (k : EntityKind) → kind_said has referenced said ≡ Some k → (is_block k || is_intrinsic_kind k) ≡ false
no_block_said has referenced said k is = at (is_said dummy said) (is_said answer said) has (is_said (λ s. says role.Inner s.said) said) (is_said (λ s. says role.Generic s.said) said) (is_said (λ s. says role.Label s.said) said)
    (is_said outside said || (referenced && is_typed_alone said)) (is_said parameter said) (is_said declares said) k is where
      some_not : (k other_kind : EntityKind) → (is_block k || is_intrinsic_kind k) ≡ false → Some k ≡ Some other_kind → (is_block other_kind || is_intrinsic_kind other_kind) ≡ false
      some_not k other_kind none same = let equal : k ≡ other_kind = cc same in subst (λ x. (is_block x || is_intrinsic_kind x) ≡ false) equal none

      at : (d a h i g l o p c : Bool) (k : EntityKind)
          → cond d (Some kinds.Dummy) (cond a (cond h (Some kinds.Answer) None) (cond i None (cond g (Some kinds.Generic) (cond l (Some kinds.Construct) (cond o None (cond p (Some kinds.Constant) (cond c (Some kinds.Variable) None)))))))
          ≡ Some k → (is_block k || is_intrinsic_kind k) ≡ false
      at true a h i g l o p c k is = some_not kinds.Dummy k refl is
      at false true true i g l o p c k is = some_not kinds.Answer k refl is
      at false true false i g l o p c k is = absurd (cc is)
      at false false h true g l o p c k is = absurd (cc is)
      at false false h false true l o p c k is = some_not kinds.Generic k refl is
      at false false h false false true o p c k is = some_not kinds.Construct k refl is
      at false false h false false false true p c k is = absurd (cc is)
      at false false h false false false false true c k is = some_not kinds.Constant k refl is
      at false false h false false false false false true k is = some_not kinds.Variable k refl is
      at false false h false false false false false false k is = absurd (cc is)

module _ (files : List FileTree) (are : AreTrees files) where
  number_is : (e : Extent) (there : IsUnit files e) → scope_number files e ≡ Some (there.0)
  number_is e there = number_there files are there.0 e there.1

  same_unit : (e x : Extent) → IsUnit files e → IsUnit files x → same_number (scope_number files e) (scope_number files x) ≡ true → e ≡ x
  same_unit e x here other is =
      let numbers : (here.0 == other.0) ≡ true = sym (ap₂ same_number (number_is e here) (number_is x other)) ∙ is in
      let same : here.0 ≡ other.0 = grind (arith, nat_tests) in
      some_same (sym (here.1) ∙ ap (slice_get (scoping files)) same ∙ other.1)
    where
      some_same : Some e ≡ Some x → e ≡ x
      some_same is = cc is

  -- of a unit, of a name, and without a home
  abbrev pub OfUnit : Entity → Type 0
  OfUnit entity = (e : Extent) → IsUnit files e → is_entity_of files (unit e) entity ≡ true
      → (entity.kind ≡ kind_of files (unit e)) × (entity.name ≡ option_map (name_at files e.file) (name_token files e)) × (entity.opens ≡ scope_number files e)

  abbrev pub OfName : Entity → Type 0
  OfName entity = (e : Extent) (name : List ℕ) → IsUnit files e → is_entity_of files (own e name) entity ≡ true
      → (kind_in files e name ≡ Some entity.kind) ⊎ ((is_letter_typed files e name ≡ true) × (entity.kind ≡ kinds.Variable))

  abbrev pub Homeless : Entity → Type 0
  Homeless entity = (is_block entity.kind || is_intrinsic_kind entity.kind) ≡ true → (entity.opens ≡ None) × (entity.home ≡ None)

  abbrev pub IsOne : Entity → Type 0
  IsOne entity = OfUnit entity × OfName entity × Homeless entity

  abbrev IsDraft : Drafted → Type 0
  IsDraft d = IsOne d.entity

  unit_one : (e : Extent) → IsUnit files e → IsDraft (draft_unit files e)
  unit_one e there = (
    λ x other is.
        let same : e ≡ x = same_unit e x there other is in
        (ap (λ y. unit_kind_at (layer_at files y.file y.opening)) same, ap (λ y. option_map (name_at files y.file) (name_token files y)) same, ap (scope_number files) same),
    λ x name other is. absurd (none x name is),
    λ block_kind. absurd (cc (block_kind, unit_not_block (layer_at files e.file e.opening))),
  )
    where
      none : (x : Extent) (name : List ℕ) → is_entity_of files (own x name) (draft_unit files e).entity ≡ true → ⊥
      none x name is =
          let never : (not true && same_number ((draft_unit files e).entity.home) (scope_number files x) && same_names ((draft_unit files e).entity.name) (Some name)) ≡ true =
          sym (ap (λ (o : Option ℕ). not (is_some o) && same_number ((draft_unit files e).entity.home) (scope_number files x) && same_names ((draft_unit files e).entity.name) (Some name)) (number_is e there)) ∙ is in
          cc never

  named_one : (e : Extent) → IsUnit files e → (n : List ℕ) (at : Place) (k : EntityKind) (implicit : Bool) → (kind_in files e n ≡ Some k) ⊎ ((is_letter_typed files e n ≡ true) × (k ≡ kinds.Variable))
      → (is_block k || is_intrinsic_kind k) ≡ false → IsDraft (drafted files at false (Some n) (scope_number files e) k implicit None)
  named_one e there n at k implicit kind plain = (
    λ x other is. absurd (no is),
    λ x name other is.
        let parts = and_parts (same_number (scope_number files e) (scope_number files x)) (bytes_eq n name) is in
        moved x name (same_unit e x there other parts.0) (same_bytes n name parts.1),
    λ block_kind. absurd (cc (block_kind, plain)),
  )
    where
      no : false ≡ true → ⊥
      no is = cc is

      moved : (x : Extent) (name : List ℕ) → e ≡ x → n ≡ name → (kind_in files x name ≡ Some k) ⊎ ((is_letter_typed files x name ≡ true) × (k ≡ kinds.Variable))
      moved x name units names = elim kind [
        | inl said ↦ inl (ap₂ (kind_in files) (sym units) (sym names) ∙ said)
        | inr letter ↦ inr (ap₂ (is_letter_typed files) (sym units) (sym names) ∙ letter.0, letter.1)
      ]

  names_one : (e : Extent) → IsUnit files e → Each IsDraft (drafts_in files e)
  names_one e there =
      each_flat IsDraft (λ n. cons_option (draft_name files e n (filter (same_name n) (sayings files e))) []) (names_after [] (sayings files e))
      (each_of (λ n. Each IsDraft (cons_option (draft_name files e n (filter (same_name n) (sayings files e))) [])) (λ n. by n (kind_in files e n) refl) (names_after [] (sayings files e)))
    where
      by : (n : List ℕ) (o : Option EntityKind) → kind_in files e n ≡ o
          → Each IsDraft (cons_option (option_map (λ kind. drafted files (place e.file (own_place kind (first_occurrence files e n) (said_of files e n))) false (Some n) (scope_number files e) kind (has_type kind && not (is_said typed (said_of files e n))) None) o) [])
      by n None is = tt
      by n (Some k) is = (
        named_one e there n (place e.file (own_place k (first_occurrence files e n) (said_of files e n))) k (has_type k && not (is_said typed (said_of files e n))) (inl is)
            (no_block_said (has_result_at (layer_at files e.file e.opening)) (is_referenced files e n) (said_of files e n) k is),
        tt,
      )

  letters_one : (e : Extent) → IsUnit files e → Each IsDraft (letter_drafts files e)
  letters_one e there =
      each_map IsDraft (draft_letter files e) (filter (is_letter_typed files e) (names_in files e))
      (each_weaker (λ n. Unit {0} × (is_letter_typed files e n ≡ true)) (λ n. IsDraft (draft_letter files e n))
      (λ n is. named_one e there n (place e.file (first_occurrence files e n)) kinds.Variable true (inr (is.1, refl)) refl) (filter (is_letter_typed files e) (names_in files e))
      (each_passed (λ n. Unit {0}) (is_letter_typed files e) (names_in files e) (each_of (λ n. Unit {0}) (λ n. tt) (names_in files e))))

  homeless : (at : Place) (last : Bool) (name : Option (List ℕ)) (k : EntityKind) → IsDraft (drafted files at last name None k false None)
  homeless at last name k = (λ x other is. absurd (no is), λ x n other is. absurd (no is), λ is. (refl, refl)) where
    no : false ≡ true → ⊥
    no is = cc is

  blanks_one : (places : List Place) → Each IsDraft (draft_blank files places)
  blanks_one [] = tt
  blanks_one (first ∷ rest) = (homeless first true None kinds.Block, tt)

  drafts_one : Each IsDraft (drafts files ++ (flat_map (letter_drafts files) (scoping files) ++ intrinsic_drafts files))
  drafts_one =
      each_append IsDraft (drafts files) (flat_map (letter_drafts files) (scoping files) ++ intrinsic_drafts files)
      (each_append IsDraft (map (draft_unit files) (filter (λ e. not (is_body files e)) (scoping files))) _
      (each_map IsDraft (draft_unit files) (filter (λ e. not (is_body files e)) (scoping files))
      (each_filter (λ e. IsDraft (draft_unit files e)) (λ e. not (is_body files e)) (scoping files) (each_weaker (IsUnit files) (λ e. IsDraft (draft_unit files e)) unit_one (scoping files) (units_there files []))))
      (each_append IsDraft (flat_map (drafts_in files) (scoping files)) _
      (each_flat IsDraft (drafts_in files) (scoping files) (each_weaker (IsUnit files) (λ e. Each IsDraft (drafts_in files e)) names_one (scoping files) (units_there files [])))
      (each_append IsDraft (map (draft_block files) (blocks files)) (draft_blank files (blank_places files))
      (each_map IsDraft (draft_block files) (blocks files) (each_of (λ (g : Global). IsDraft (draft_block files g)) (λ g. homeless g.at false g.name kinds.Block) (blocks files)))
      (blanks_one (blank_places files)))))
      (each_append IsDraft (flat_map (letter_drafts files) (scoping files)) (intrinsic_drafts files)
      (each_flat IsDraft (letter_drafts files) (scoping files) (each_weaker (IsUnit files) (λ e. Each IsDraft (letter_drafts files e)) letters_one (scoping files) (units_there files [])))
      (each_map IsDraft (draft_intrinsic files) (firsts_after [] (flat_map intrinsic_at (denotings files)))
      (each_of (λ (g : Global). IsDraft (draft_intrinsic files g)) (λ g. homeless g.at false g.name kinds.Intrinsic) (firsts_after [] (flat_map intrinsic_at (denotings files))))))

  pub entities_one : Each IsOne (bound_entities files)
  entities_one =
      each_map IsOne (λ (d : Drafted). d.entity) (in_order (drafts files ++ (flat_map (letter_drafts files) (scoping files) ++ intrinsic_drafts files)))
      (order_each IsDraft (drafts files ++ (flat_map (letter_drafts files) (scoping files) ++ intrinsic_drafts files)) drafts_one)

  -- ---- kinds

  abbrev pub IsMemberKey : Key → Type 0
  IsMemberKey (unit e) = IsUnit files e
  IsMemberKey (own e name) = IsUnit files e
  IsMemberKey (block b) = Unit {0}
  IsMemberKey (intrinsic_function name) = Unit {0}

  pub own_kind : (e : Extent) (name : List ℕ) (k : EntityKind) → (kind_in files e name ≡ Some k) ⊎ ((is_letter_typed files e name ≡ true) × (k ≡ kinds.Variable)) → k ≡ kind_of files (own e name)
  own_kind e name k (inl said) = sym (ap (λ o. unwrap_or o kinds.Variable) said)
  own_kind e name k (inr letter) = letter.1 ∙ sym (ap (λ o. unwrap_or o kinds.Variable) (letter_kind files e name letter.0))

  block_kind : (k : EntityKind) → is_block k ≡ true → k ≡ kinds.Block
  block_kind kinds.Block is = refl
  block_kind other is = absurd (cc is)

  intrinsic_kind : (k : EntityKind) → is_intrinsic_kind k ≡ true → k ≡ kinds.Intrinsic
  intrinsic_kind kinds.Intrinsic is = refl
  intrinsic_kind other is = absurd (cc is)

  pub kind_same : (entity : Entity) → IsOne entity → (key : Key) → IsMemberKey key → is_entity_of files key entity ≡ true → entity.kind ≡ kind_of files key
  kind_same entity facts (unit e) member is = (facts.0 e member is).0
  kind_same entity facts (own e name) member is = own_kind e name entity.kind (facts.1 e name member is)
  kind_same entity facts (block b) member is = block_kind entity.kind ((and_parts (is_block entity.kind) (same_names entity.name b) is).0)
  kind_same entity facts (intrinsic_function name) member is = intrinsic_kind entity.kind ((and_parts (is_intrinsic_kind entity.kind) (same_names entity.name (Some name)) is).0)
