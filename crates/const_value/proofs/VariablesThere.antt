-- Variables that names denote have entities that are such, and their names are numbered.
use Rattle.std.proofs.Common.{◌≡◌, ℕ, true, false, cond, List, [], Option, Some, None, slice_get, option_map, inl, inr, refl, sym, ap, ap₂, subst, ◌∙◌, arith}
use Rattle.std.specs.Prelude.{◌&&◌, ◌==◌, not}
use Rattle.std.specs.Option.{is_some, option_and_then, unwrap_or}
use Rattle.std.specs.Str.{bytes_eq}
use Rattle.std.proofs.lemmas.Bool.{and_parts}
use Rattle.std.proofs.lemmas.Bool.Decides.{nat_tests}
use Rattle.ftn_base.specs.declared.entity.Ty.{Ty}
use Rattle.ftn_tree.specs.declared.table.Entity.{Entity}
use Rattle.ftn_tree.specs.declared.table.EntityKind.{EntityKind}
use Rattle.ftn_tree.specs.declared.table.EntityKind.TheVariants as kinds
use Rattle.ftn_tree.specs.declared.table.Extent.{Extent}
use Rattle.ftn_tree.specs.declared.unit.FileTree.{FileTree}
use Rattle.ftn_tree.specs.Bindings.{bound_entities, is_entity_of, same_number}
use Rattle.ftn_tree.specs.Constants.{known_of}
use Rattle.ftn_tree.specs.DataTypes.{is_plain_variable}
use Rattle.ftn_tree.specs.DeclarationFaults.{declaration_fault}
use Rattle.ftn_tree.specs.EntityValues.{holder, key_of_entity}
use Rattle.ftn_tree.specs.Extents.{scoping}
use Rattle.ftn_tree.specs.KeyKinds.{Datum, datum, datum_of, is_constant, key_at, kind_of}
use Rattle.ftn_tree.specs.Meanings.{Key, unit, own, block, intrinsic_function, same_names}
use Rattle.ftn_tree.specs.NameFaults.{name_fault}
use Rattle.ftn_tree.specs.Projects.{AreTrees}
use Rattle.ftn_tree.specs.Scopes.{scope_number}
use Rattle.ftn_tree.specs.StorageObjects.{takes_storage}
use Rattle.ftn_tree.specs.Shapes.{full_type, shape_findings, type_of, with_value}
use Rattle.decl_table.proofs.OwnStatements.{number_of as number_there}
use Rattle.const_value.specs.steps.Gathered.{key_number, name_number}
use Rattle.const_value.specs.steps.Names.{all_data}
use Rattle.const_value.specs.steps.Numbered.{AreVariables}
use Rattle.const_value.proofs.EntityFits.{first_entity}
use Rattle.const_value.proofs.EntityHolders.{HeldCase, entities_held}
use Rattle.const_value.proofs.EntityKinds.{IsMemberKey, IsOne, entities_one, kind_same}
use Rattle.const_value.proofs.KeysThere.{denoted_at, member}
use Rattle.const_value.proofs.Members.{each_at}
use Rattle.const_value.proofs.NamedPlaces.{same_bytes}
use Rattle.const_value.proofs.NoBodies.{no_bodies}
use Rattle.const_value.proofs.RealKeys.{IsRealFor, IsUnit}

-- what the entity of a name has
pub own_parts : (opens home : Option ℕ) (found : Option (List ℕ)) (scope : ℕ) (name : List ℕ) → (not (is_some opens) && same_number home (Some scope) && same_names found (Some name)) ≡ true
    → (opens ≡ None) × (home ≡ Some scope) × (found ≡ Some name)
own_parts (Some s) home found scope name is = absurd (cc is)
own_parts None None found scope name is = absurd (cc is)
own_parts None (Some h) None scope name is = absurd (let parts = and_parts (h == scope) false is in cc (parts.1))
own_parts None (Some h) (Some n) scope name is =
    let parts = and_parts (h == scope) (bytes_eq n name) is in (refl, ap Some (equal h scope parts.0), ap Some (same_bytes n name parts.1))
  where
    equal : (h scope : ℕ) → (h == scope) ≡ true → h ≡ scope
    equal h scope is = grind (arith, nat_tests)

module _ (files : List FileTree) (are : AreTrees files) (bound : name_fault files ≡ None) where
  pub member_key : (name : List ℕ) (key : Key) → IsRealFor files name key → IsMemberKey files are key
  member_key name (unit e) real = real.0
  member_key name (own e n) real = real.0
  member_key name (block b) real = tt
  member_key name (intrinsic_function n) real = tt

  pub passes : (key : Key) (file token number : ℕ) (entity : Entity) → key_at files file token ≡ Some key → key_number files key ≡ Some number → slice_get (bound_entities files) number ≡ Some entity
      → is_entity_of files key entity ≡ true
  passes key file token number entity at is there =
      let d = denoted_at files are bound (no_bodies files are) file token key at in
      let f = first_entity files are key (member files are bound (no_bodies files are) d.denoting.name key d.real) number is in
      subst (λ x. is_entity_of files key x ≡ true) (some_same (sym f.there ∙ there)) f.passes
    where
      some_same : {x y : Entity} → Some x ≡ Some y → x ≡ y
      some_same is = cc is

  pub token_kind : (key : Key) (file token number : ℕ) (entity : Entity) → key_at files file token ≡ Some key → key_number files key ≡ Some number → slice_get (bound_entities files) number ≡ Some entity
      → entity.kind ≡ kind_of files key
  token_kind key file token number entity at is there =
      let d = denoted_at files are bound (no_bodies files are) file token key at in
      kind_same files are entity (each_at (IsOne files are) (bound_entities files) number entity (entities_one files are) there) key (member_key d.denoting.name key d.real) (passes key file token number entity at is there)

  module _ (declared : declaration_fault files ≡ None) (shaped : (n : ℕ) (d : Datum) → slice_get (all_data files) n ≡ Some d → shape_findings files d ≡ []) where
    variable_is : (k : EntityKind) → is_plain_variable k ≡ true → k ≡ kinds.Variable
    variable_is kinds.Variable is = refl
    variable_is other is = absurd (cc is)

    no_value : (o : Option Ty) → option_map (with_value None) o ≡ o
    no_value None = refl
    no_value (Some t) = refl

    own_there : (file token : ℕ) (e : Extent) (name : List ℕ) (number : ℕ) (entity : Entity) → key_at files file token ≡ Some (own e name) → is_plain_variable (kind_of files (own e name)) ≡ true
        → key_number files (own e name) ≡ Some number → slice_get (bound_entities files) number ≡ Some entity
        → (n : ℕ) × (name_number files entity ≡ Some n) × (slice_get (all_data files) n ≡ Some (datum e name)) × (full_type files (own e name) ≡ type_of files (datum e name))
    own_there file token e name number entity at plain is there =
        by (each_at (HeldCase files are declared bound shaped) (bound_entities files) number entity (entities_held files are declared bound shaped) there)
      where
        kind : entity.kind ≡ kinds.Variable
        kind = variable_is entity.kind (ap is_plain_variable (token_kind (own e name) file token number entity at is there) ∙ plain)

        unit_there : IsUnit files e
        unit_there = let d = denoted_at files are bound (no_bodies files are) file token (own e name) at in d.real.0

        holder_is : holder files entity ≡ Some (own e name)
        holder_is =
            let here : scope_number files e ≡ Some (unit_there.0) = number_there files are unit_there.0 e unit_there.1 in
            let fields = own_parts entity.opens entity.home entity.name unit_there.0 name
            (sym (ap (λ o. not (is_some entity.opens) && same_number entity.home o && same_names entity.name (Some name)) here) ∙ passes (own e name) file token number entity at is there) in
            ap (λ k. key_of_entity files k entity) kind
            ∙ ap₂ (λ o m. option_map (λ x. own x (unwrap_or m [])) o) (ap (option_and_then (slice_get (scoping files))) fields.1 ∙ unit_there.1) fields.2

        some_key : {x y : Key} → Some x ≡ Some y → x ≡ y
        some_key is = cc is

        some_datum : {x y : Datum} → Some x ≡ Some y → x ≡ y
        some_datum is = cc is

        by : HeldCase files are declared bound shaped entity
            → (n : ℕ) × (name_number files entity ≡ Some n) × (slice_get (all_data files) n ≡ Some (datum e name)) × (full_type files (own e name) ≡ type_of files (datum e name))
        by (inl none) = absurd (cc (holder_is, none.0))
        by (inr h) =
            let key_is : h.key ≡ own e name = some_key (sym h.holder_is ∙ holder_is) in
            let datum_is : h.datum ≡ datum e name = some_datum (sym h.datum_is ∙ ap (datum_of files) key_is) in
            let plain_datum = h.plain (ap takes_storage kind) in
            let constant : is_constant (kind_of files (own h.datum.scope h.datum.name)) ≡ false = plain_datum.2 in
            let full : option_map (with_value None) (type_of files h.datum) ≡ option_map (with_value (known_of files h.key).value) (type_of files h.datum) =
            sym (ap (λ b. option_map (with_value (cond b ((known_of files (own h.datum.scope h.datum.name)).value) None)) (type_of files h.datum)) constant) ∙ h.full in (
              h.name,
              h.name_is,
              h.there ∙ ap Some datum_is,
              ap₂ (λ k d. option_map (with_value (known_of files k).value) (type_of files d)) (sym key_is) (sym datum_is) ∙ sym full ∙ no_value (type_of files h.datum) ∙ ap (type_of files) datum_is,
            )

    pub are_variables : AreVariables files
    are_variables = record {
      kind = λ file token key number entity at is there. ap is_plain_variable (token_kind key file token number entity at is there);
      own_name = own_there;
    }
