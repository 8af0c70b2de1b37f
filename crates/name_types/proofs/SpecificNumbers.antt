-- Lists of the numbers of scoping units against lists of keys.
use Rattle.std.proofs.Common.{◌≡◌, ℕ, Bool, true, false, not, ◌&&◌, if◌then◌else◌, nat_eq, List, [], ◌∷◌, ◌++◌, map, Option, Some, None, inl, inr, refl, sym, ap, ap₂, ◌∙◌, arith}
use Rattle.std.specs.Prelude.{◌==◌, slice_get}
use Rattle.std.specs.List.{filter, filter_map, flat_map, cons_option}
use Rattle.std.specs.Option.{is_some, option_and_then, option_map, option_to_list, unwrap_or}
use Rattle.std.proofs.lemmas.Bool.{and_parts, cases_eq}
use Rattle.std.proofs.lemmas.Bool.Decides.{nat_tests}
use Rattle.std.proofs.lemmas.List.{map-append}
use Rattle.std.proofs.lemmas.List.Elements.{filter-append, filter_map-append}
use Rattle.ftn_base.specs.Accessible.{once}
use Rattle.ftn_tree.specs.declared.mention.Mention.{Mention}
use Rattle.ftn_tree.specs.declared.mention.Role.TheVariants as role
use Rattle.ftn_tree.specs.declared.table.Entity.{Entity}
use Rattle.ftn_tree.specs.declared.table.Extent.{Extent}
use Rattle.ftn_tree.specs.declared.form.Form.TheOpen.{Form-F}
use Rattle.ftn_tree.specs.declared.unit.FileTree.{FileTree}
use Rattle.ftn_tree.specs.Bindings.{bound_entities, is_entity_of, same_number}
use Rattle.ftn_tree.specs.DeclaredEntities.{unit_kind_at}
use Rattle.ftn_tree.specs.Extents.{scoping, layer_at, same_extent}
use Rattle.ftn_tree.specs.KeyKinds.{key_at, kind_of}
use Rattle.ftn_tree.specs.Kinds.{is_unit}
use Rattle.ftn_tree.specs.Layers.{FormLayer}
use Rattle.ftn_tree.specs.Meanings.{Key, unit, own, block, intrinsic_function, same_key, same_names}
use Rattle.ftn_tree.specs.NameFaults.{name_fault}
use Rattle.ftn_tree.specs.Projects.{AreTrees}
use Rattle.ftn_tree.specs.Roles.{same_role}
use Rattle.ftn_tree.specs.Sayings.{mentions_at}
use Rattle.ftn_tree.specs.Scopes.{scope_number}
use Rattle.decl_table.proofs.OwnStatements.{number_of, told_apart}
use Rattle.const_expr.specs.Namings.{entity_in}
use Rattle.const_value.specs.declared.project.Project.{Project}
use Rattle.const_value.specs.steps.Gathered.{IsGathered, entity_index}
use Rattle.const_value.specs.steps.Projects as projects
use Rattle.const_value.specs.steps.Projects.{row_in}
use Rattle.const_value.proofs.AllKeys.{all_entities}
use Rattle.const_value.proofs.EntityFits.{first_entity}
use Rattle.const_value.proofs.EntityKinds.{IsMemberKey, entities_one, kind_same}
use Rattle.const_value.proofs.KeysThere.{denoted_at, member}
use Rattle.const_value.proofs.Members.{each_at}
use Rattle.const_value.proofs.NoBodies.{no_bodies}
use Rattle.const_value.proofs.RealKeys.{IsRealFor}
use Rattle.name_types.specs.steps.Gathered.{extent_numbered, unit_in}
use Rattle.name_types.specs.steps.Generics.{opened_by, unit_by, specific_by, listed_at}

-- ---- the numbers are those of these units

abbrev pub Are : List FileTree → List ℕ → List Extent → Type 0
Are files xs us = map (extent_numbered files) xs ≡ map (λ (e : Extent). Some e) us

first_is : {A : Type 0} (x y : A) (xs ys : List A) → (x ∷ xs) ≡ (y ∷ ys) → x ≡ y
first_is x y xs ys is = cc is

rest_is : {A : Type 0} (x y : A) (xs ys : List A) → (x ∷ xs) ≡ (y ∷ ys) → xs ≡ ys
rest_is x y xs ys is = cc is

pub are_units : (files : List FileTree) (xs : List ℕ) (us : List Extent) → Are files xs us → filter_map (extent_numbered files) xs ≡ us
are_units files [] [] are = refl
are_units files [] (u ∷ us) are = absurd (cc are)
are_units files (x ∷ xs) [] are = absurd (cc are)
are_units files (x ∷ xs) (u ∷ us) are =
    ap₂ cons_option (first_is (extent_numbered files x) (Some u) (map (extent_numbered files) xs) (map (λ (e : Extent). Some e) us) are)
    (are_units files xs us (rest_is (extent_numbered files x) (Some u) (map (extent_numbered files) xs) (map (λ (e : Extent). Some e) us) are))

pub are_both : (files : List FileTree) (xs ys : List ℕ) (us vs : List Extent) → Are files xs us → Are files ys vs → Are files (xs ++ ys) (us ++ vs)
are_both files xs ys us vs one other =
    map-append (extent_numbered files) xs ys ∙ ap₂ (λ a b. a ++ b) one other ∙ sym (map-append (λ (e : Extent). Some e) us vs)

-- ---- each once

turned : (x y : ℕ) → (y == x) ≡ (x == y)
turned x y = elim (cases_eq x y) [
  | inl same ↦ ap₂ (λ a b. a == b) (sym same) same
  | inr apart ↦ none y x (λ is. apart (sym is)) ∙ sym (none x y apart)
]
  where
    none : (a b : ℕ) → (a ≡ b → ⊥) → (a == b) ≡ false
    none a b apart = grind (arith, nat_tests)

module _ (files : List FileTree) (trees : AreTrees files) where
  are_others : (x : ℕ) (u : Extent) → slice_get (scoping files) x ≡ Some u → (ys : List ℕ) (vs : List Extent) → Are files ys vs
      → Are files (filter (λ y. not (nat_eq y x)) ys) (filter (λ v. not (same_extent v u)) vs)
  are_others x u there [] [] are = refl
  are_others x u there [] (v ∷ vs) are = absurd (cc are)
  are_others x u there (y ∷ ys) [] are = absurd (cc are)
  are_others x u there (y ∷ ys) (v ∷ vs) are =
      by (same_extent v u) (turned x y ∙ told_apart files trees y x v u here there) (are_others x u there ys vs (rest_is (extent_numbered files y) (Some v) (map (extent_numbered files) ys) (map (λ (e : Extent). Some e) vs) are))
    where
      here : slice_get (scoping files) y ≡ Some v
      here = first_is (extent_numbered files y) (Some v) (map (extent_numbered files) ys) (map (λ (e : Extent). Some e) vs) are

      by : (b : Bool) → nat_eq y x ≡ b → Are files (filter (λ y. not (nat_eq y x)) ys) (filter (λ v. not (same_extent v u)) vs)
          → Are files (filter (λ y. not (nat_eq y x)) (y ∷ ys)) (if not b then v ∷ filter (λ v. not (same_extent v u)) vs else filter (λ v. not (same_extent v u)) vs)
      by true is rest = rw is rest
      by false is rest = rw is (ap₂ (λ a as'. a ∷ as') here rest)

  pub are_once : (xs : List ℕ) (us : List Extent) → Are files xs us → Are files (once nat_eq xs) (once same_extent us)
  are_once [] [] are = refl
  are_once [] (u ∷ us) are = absurd (cc are)
  are_once (x ∷ xs) [] are = absurd (cc are)
  are_once (x ∷ xs) (u ∷ us) are =
      let here : slice_get (scoping files) x ≡ Some u = first_is (extent_numbered files x) (Some u) (map (extent_numbered files) xs) (map (λ (e : Extent). Some e) us) are in
      ap₂ (λ a as'. a ∷ as') here
      (are_others x u here (once nat_eq xs) (once same_extent us) (are_once xs us (rest_is (extent_numbered files x) (Some u) (map (extent_numbered files) xs) (map (λ (e : Extent). Some e) us) are)))

-- ---- the units among keys

none_other : (x : Key) → ((v : Extent) → same_key (unit v) x ≡ false) → (ks : List Key) → filter_map unit_in (filter (λ y. not (same_key y x)) ks) ≡ filter_map unit_in ks
none_other x apart [] = refl
none_other x apart (unit v ∷ ks) = rw (apart v) (ap (λ us. v ∷ us) (none_other x apart ks))
none_other x apart (own e name ∷ ks) = by (same_key (own e name) x) (none_other x apart ks) where
  by : (b : Bool) → filter_map unit_in (filter (λ y. not (same_key y x)) ks) ≡ filter_map unit_in ks
      → filter_map unit_in (if not b then own e name ∷ filter (λ y. not (same_key y x)) ks else filter (λ y. not (same_key y x)) ks) ≡ filter_map unit_in ks
  by true rest = rest
  by false rest = rest
none_other x apart (block name ∷ ks) = by (same_key (block name) x) (none_other x apart ks) where
  by : (b : Bool) → filter_map unit_in (filter (λ y. not (same_key y x)) ks) ≡ filter_map unit_in ks
      → filter_map unit_in (if not b then block name ∷ filter (λ y. not (same_key y x)) ks else filter (λ y. not (same_key y x)) ks) ≡ filter_map unit_in ks
  by true rest = rest
  by false rest = rest
none_other x apart (intrinsic_function name ∷ ks) = by (same_key (intrinsic_function name) x) (none_other x apart ks) where
  by : (b : Bool) → filter_map unit_in (filter (λ y. not (same_key y x)) ks) ≡ filter_map unit_in ks
      → filter_map unit_in (if not b then intrinsic_function name ∷ filter (λ y. not (same_key y x)) ks else filter (λ y. not (same_key y x)) ks) ≡ filter_map unit_in ks
  by true rest = rest
  by false rest = rest

units_others : (e : Extent) (ks : List Key) → filter_map unit_in (filter (λ y. not (same_key y (unit e))) ks) ≡ filter (λ v. not (same_extent v e)) (filter_map unit_in ks)
units_others e [] = refl
units_others e (unit v ∷ ks) = by (same_extent v e) (units_others e ks) where
  by : (b : Bool) → filter_map unit_in (filter (λ y. not (same_key y (unit e))) ks) ≡ filter (λ v. not (same_extent v e)) (filter_map unit_in ks)
      → filter_map unit_in (if not b then unit v ∷ filter (λ y. not (same_key y (unit e))) ks else filter (λ y. not (same_key y (unit e))) ks)
      ≡ (if not b then v ∷ filter (λ v. not (same_extent v e)) (filter_map unit_in ks) else filter (λ v. not (same_extent v e)) (filter_map unit_in ks))
  by true rest = rest
  by false rest = ap (λ us. v ∷ us) rest
units_others e (own f name ∷ ks) = units_others e ks
units_others e (block name ∷ ks) = units_others e ks
units_others e (intrinsic_function name ∷ ks) = units_others e ks

pub units_once : (ks : List Key) → filter_map unit_in (once same_key ks) ≡ once same_extent (filter_map unit_in ks)
units_once [] = refl
units_once (unit e ∷ ks) = ap (λ us. e ∷ us) (units_others e (once same_key ks) ∙ ap (filter (λ v. not (same_extent v e))) (units_once ks))
units_once (own e name ∷ ks) = none_other (own e name) (λ v. refl) (once same_key ks) ∙ units_once ks
units_once (block name ∷ ks) = none_other (block name) (λ v. refl) (once same_key ks) ∙ units_once ks
units_once (intrinsic_function name ∷ ks) = none_other (intrinsic_function name) (λ v. refl) (once same_key ks) ∙ units_once ks

pub units_cons : (o : Option Key) (ks : List Key) → filter_map unit_in (cons_option o ks) ≡ filter_map unit_in (option_to_list o) ++ filter_map unit_in ks
units_cons None ks = refl
units_cons (Some (unit e)) ks = refl
units_cons (Some (own e name)) ks = refl
units_cons (Some (block name)) ks = refl
units_cons (Some (intrinsic_function name)) ks = refl

-- ---- what MODULE PROCEDURE names

unit_kind : (layer : Option FormLayer) → is_unit (unit_kind_at layer) ≡ true
unit_kind (Some (Form-F.Program name)) = refl
unit_kind (Some (Form-F.Module name)) = refl
unit_kind (Some (Form-F.BlockData joined name)) = refl
unit_kind (Some (Form-F.Function ty name dummies answer)) = refl
unit_kind other = refl

module _ (files : List FileTree) (trees : AreTrees files) (no_fault : name_fault files ≡ None) (p : Project) (g : IsGathered files p) where
  member_key : (name : List ℕ) (key : Key) → IsRealFor files name key → IsMemberKey files trees key
  member_key name (unit e) real = real.0
  member_key name (own e n) real = real.0
  member_key name (block b) real = tt
  member_key name (intrinsic_function n) real = tt

  same_opens : (opens : Option ℕ) (n : ℕ) → same_number opens (Some n) ≡ true → opens ≡ Some n
  same_opens None n is = absurd (cc is)
  same_opens (Some k) n is = ap Some (equal k n is) where
    equal : (k n : ℕ) → (k == n) ≡ true → k ≡ n
    equal k n is = grind (arith, nat_tests)

  no_opens : (opens : Option ℕ) → not (is_some opens) ≡ true → opens ≡ None
  no_opens None is = refl
  no_opens (Some k) is = absurd (cc is)

  none_if : (b : Bool) → option_to_list (if b then None else None) ≡ option_to_list {X = ℕ} None
  none_if true = refl
  none_if false = refl

  -- the scoping unit that an entity opens is that of its key
  entity_units : (name : List ℕ) (key : Key) (entity : Entity) → IsRealFor files name key → is_entity_of files key entity ≡ true → entity.kind ≡ kind_of files key
      → Are files (option_to_list (opened_by entity)) (filter_map unit_in (option_to_list (Some key)))
  entity_units name (unit e) entity real passes kind =
      let (j, there) = real.0 in
      let opens : entity.opens ≡ Some j = same_opens entity.opens j (ap (same_number entity.opens) (sym (number_of files trees j e there)) ∙ passes) in
      rw (kind, unit_kind (layer_at files e.file e.opening), opens) (ap (λ o. o ∷ []) there)
  entity_units name (own e n) entity real passes kind =
      let opens : entity.opens ≡ None = no_opens entity.opens ((and_parts (not (is_some entity.opens)) _ ((and_parts (not (is_some entity.opens) && same_number entity.home (scope_number files e)) (same_names entity.name (Some n)) passes).0)).0) in
      ap (λ o. map (extent_numbered files) (option_to_list (if is_unit entity.kind then o else None))) opens ∙ ap (map (extent_numbered files)) (none_if (is_unit entity.kind))
  entity_units name (block b) entity real passes kind = rw kind refl
  entity_units name (intrinsic_function n) entity real passes kind = rw kind refl

  token_units : (file token : ℕ) → Are files (option_to_list (unit_by p file token)) (filter_map unit_in (option_to_list (key_at files file token)))
  token_units file token = by (key_at files file token) refl where
    entity_at : (o : Option ℕ) → entity_in (row_in p.rows.items file) token ≡ o → unit_by p file token ≡ option_and_then opened_by (option_and_then (projects.entity_in p.bound.now) o)
    entity_at o is = ap (λ n. option_and_then opened_by (option_and_then (projects.entity_in p.bound.now) n)) is

    by : (o : Option Key) → key_at files file token ≡ o → Are files (option_to_list (unit_by p file token)) (filter_map unit_in (option_to_list o))
    by None is =
        ap (λ n. map (extent_numbered files) (option_to_list n)) (entity_at None (g.tokens file token ∙ ap (option_map (entity_index files)) is))
    by (Some key) is =
        let d = denoted_at files trees no_fault (no_bodies files trees) file token key is in
        let (n, at, its) = (all_entities files trees no_fault).tokens file token key is in
        let f = first_entity files trees key (member files trees no_fault (no_bodies files trees) d.denoting.name key d.real) n at in
        let index : entity_index files key ≡ n = ap (λ o. unwrap_or o 0) at in
        let there : projects.entity_in p.bound.now n ≡ Some f.entity = ap (λ b. projects.entity_in b n) g.tables ∙ f.there in
        let found : unit_by p file token ≡ opened_by f.entity =
        entity_at (Some n) (g.tokens file token ∙ ap (option_map (entity_index files)) is ∙ ap Some index) ∙ ap (option_and_then opened_by) there in
        ap (λ o. map (extent_numbered files) (option_to_list o)) found
        ∙ entity_units d.denoting.name key f.entity d.real f.passes
        (kind_same files trees f.entity (each_at _ (bound_entities files) n f.entity (entities_one files trees) f.there) key (member_key d.denoting.name key d.real) f.passes)

  module _ (file : ℕ) where
    abbrev pub keys_of : List Mention → List Key
    keys_of ms = filter_map (λ (m : Mention). key_at files file m.token) (filter (λ (m : Mention). same_role m.role role.Specific) ms)

    mentions_units : (ms : List Mention) → Are files (flat_map (specific_by p file) ms) (filter_map unit_in (keys_of ms))
    mentions_units [] = refl
    mentions_units (m ∷ ms) = by (same_role m.role role.Specific) (mentions_units ms) where
      by : (b : Bool) → Are files (flat_map (specific_by p file) ms) (filter_map unit_in (keys_of ms))
          → Are files ((if b then option_to_list (unit_by p file m.token) else []) ++ flat_map (specific_by p file) ms)
          (filter_map unit_in (filter_map (λ (m : Mention). key_at files file m.token) (if b then m ∷ filter (λ (m : Mention). same_role m.role role.Specific) ms else filter (λ (m : Mention). same_role m.role role.Specific) ms)))
      by true rest =
          are_both files (option_to_list (unit_by p file m.token)) (flat_map (specific_by p file) ms) (filter_map unit_in (option_to_list (key_at files file m.token))) (filter_map unit_in (keys_of ms))
          (token_units file m.token) rest
          ∙ ap (map (λ (e : Extent). Some e)) (sym (units_cons (key_at files file m.token) (keys_of ms)))
      by false rest = rest

    keys_both : (ms ns : List Mention) → filter_map unit_in (keys_of (ms ++ ns)) ≡ filter_map unit_in (keys_of ms) ++ filter_map unit_in (keys_of ns)
    keys_both ms ns =
        ap (λ l. filter_map unit_in (filter_map (λ (m : Mention). key_at files file m.token) l)) (filter-append (λ (m : Mention). same_role m.role role.Specific) ms ns)
        ∙ ap (filter_map unit_in)
        (filter_map-append (λ (m : Mention). key_at files file m.token) (filter (λ (m : Mention). same_role m.role role.Specific) ms) (filter (λ (m : Mention). same_role m.role role.Specific) ns))
        ∙ filter_map-append unit_in (keys_of ms) (keys_of ns)

    pub statements_units : (ss : List ℕ) → Are files (flat_map (listed_at files p file) ss) (filter_map unit_in (keys_of (flat_map (mentions_at files file) ss)))
    statements_units [] = refl
    statements_units (s ∷ ss) =
        are_both files (listed_at files p file s) (flat_map (listed_at files p file) ss) (filter_map unit_in (keys_of (mentions_at files file s))) (filter_map unit_in (keys_of (flat_map (mentions_at files file) ss)))
        (mentions_units (mentions_at files file s)) (statements_units ss)
        ∙ ap (map (λ (e : Extent). Some e)) (sym (keys_both (mentions_at files file s) (flat_map (mentions_at files file) ss)))
