-- What is kept of entities tells what names denote.
use Rattle.std.proofs.Common.{◌≡◌, ℕ, zero, suc, true, false, List, [], ◌∷◌, length, Option, Some, None, slice_get, option_map, refl, sym, ap, ap₂, subst, ◌∙◌, arith}
use Rattle.std.specs.Prelude.{◌&&◌, ◌||◌, not, codes}
use Rattle.std.specs.Option.{is_some, option_and_then, option_map_or, option_or, unwrap_or}
use Rattle.std.proofs.lemmas.Bool.{and_parts}
use Rattle.ftn_tree.specs.declared.table.Entity.{Entity}
use Rattle.ftn_tree.specs.declared.table.EntityKind.{EntityKind}
use Rattle.ftn_tree.specs.declared.table.EntityKind.TheVariants as kinds
use Rattle.ftn_tree.specs.declared.table.Extent.{Extent}
use Rattle.ftn_tree.specs.declared.unit.FileTree.{FileTree}
use Rattle.ftn_tree.specs.Bindings.{bound_entities, is_block, is_entity_of, is_intrinsic_kind, same_number}
use Rattle.ftn_tree.specs.DeclaredEntities.{has_result_at}
use Rattle.ftn_tree.specs.Extents.{layer_at, scoping}
use Rattle.ftn_tree.specs.KeyKinds as spec
use Rattle.ftn_tree.specs.KeyKinds.{Datum, datum, datum_of, is_constant, is_dummy, is_in, key_at, kind_of, may_be_defined}
use Rattle.ftn_tree.specs.Meanings.{Key, unit, own, block, intrinsic_function, same_names}
use Rattle.ftn_tree.specs.NameFaults.{name_fault, said_of}
use Rattle.ftn_tree.specs.Projects.{AreTrees}
use Rattle.ftn_tree.specs.Scopes.{name_at, name_token, scope_name}
use Rattle.decl_table.proofs.OwnStatements.{number_of as number_there}
use Rattle.const_value.specs.steps.Gathered.{key_number}
use Rattle.const_value.specs.steps.Projects.{sort_seen}
use Rattle.const_value.proofs.EntityKinds.{IsOne, entities_one}
use Rattle.const_value.proofs.KeysThere.{Denoted, are_entities, denoted_at}
use Rattle.const_value.proofs.Members.{each_at, or_left, or_right}
use Rattle.const_value.proofs.NamedPlaces.{same_bytes}
use Rattle.const_value.proofs.NoBodies.{no_bodies}
use Rattle.const_value.proofs.RealKeys.{IsRealFor, IsUnit}
use Rattle.const_value.proofs.VariablesThere.{own_parts, passes, token_kind}
use Rattle.name_types.specs.declared.declared.Declared.{Declared}
use Rattle.name_types.specs.declared.names.Naming.{Naming}
use Rattle.name_types.specs.declared.names.Names.{Names}
use Rattle.name_types.specs.declared.names.What.{What}
use Rattle.name_types.specs.declared.names.What.TheVariants as what
use Rattle.name_types.specs.steps.Declaring as declaring
use Rattle.name_types.specs.steps.Declaring.{AreDeclared}
use Rattle.name_types.specs.steps.Gathered.{Data, Function, Subroutine, HasNaming, IsNaming, due, own_due, unit_due, what_seen}
use Rattle.name_types.specs.steps.Namings as steps
use Rattle.name_types.specs.steps.Namings.{AreKept, IsKept, IsOwn, IsWhat}
use Rattle.name_types.proofs.DeclaringLaws.{given_is, rank_is, sort_is}

-- ---- lists

some_at : {X Y : Type 0} (xs : List X) (ys : List Y) (n : ℕ) (x : X) → length ys ≡ length xs → slice_get xs n ≡ Some x → (y : Y) × (slice_get ys n ≡ Some y)
some_at [] ys n x long is = absurd (cc is)
some_at (z ∷ xs) [] n x long is = absurd (omega (arith, long))
some_at (z ∷ xs) (y ∷ ys) zero x long is = (y, refl)
some_at (z ∷ xs) (y ∷ ys) (suc n) x long is = some_at xs ys n x (omega (arith, long)) is

name_or : (o : Option ℕ) (f : ℕ → List ℕ) (z : List ℕ) → unwrap_or (option_map f o) z ≡ option_map_or f o z
name_or None f z = refl
name_or (Some token) f z = refl

named : (o : Option (List ℕ)) (n : List ℕ) → same_names o (Some n) ≡ true → o ≡ Some n
named None n is = absurd (cc is)
named (Some m) n is = ap Some (same_bytes m n is)

module _ (files : List FileTree) (trees : AreTrees files) (fine : name_fault files ≡ None) (d : Declared) (are : AreDeclared files d) where
  -- ---- what is declared in a scoping unit

  module _ (entity : Entity) (naming : Naming) (kept : IsKept files d entity naming) (scope : ℕ) (e : Extent) (there : slice_get (scoping files) scope ≡ Some e) (name : List ℕ)
      (scope_is : steps.scope_of entity ≡ Some scope) (name_is : steps.name_of entity ≡ name) where
    sort_there : option_map sort_seen naming.sort ≡ spec.sort_of files (datum e name)
    sort_there =
        kept.sort ∙ ap₂ (λ o n. option_and_then (λ scope. declaring.sort_by d scope n) o) scope_is name_is ∙ sort_is files trees fine d are scope e there name

    rank_there : naming.rank ≡ spec.rank_of files (datum e name)
    rank_there =
        kept.rank ∙ ap₂ (λ o n. option_map_or (λ scope. declaring.rank_by d scope n) o 0) scope_is name_is ∙ rank_is files trees fine d are scope e there name

  -- ---- what it is

  unit_case : (scope : ℕ) (e : Extent) → slice_get (scoping files) scope ≡ Some e → (k : EntityKind) → steps.unit_what files k scope ≡ unit_due files k e
  unit_case scope e there kinds.Function =
      ap (λ (o : Option Extent). Function o (option_map_or (λ (e : Extent). has_result_at (layer_at files e.file e.opening)) o false)) there
  unit_case scope e there kinds.Subroutine = ap Subroutine there
  unit_case scope e there other = refl

  own_case : (scope : ℕ) (e : Extent) → slice_get (scoping files) scope ≡ Some e → (name : List ℕ) (k : EntityKind) → kind_of files (own e name) ≡ k → (made : What) → IsOwn files d k scope name made
      → what_seen files made ≡ own_due files k e name
  own_case scope e there name k kind made is = by k kind is where
    data_case : (k : EntityKind) → kind_of files (own e name) ≡ k → steps.may_be_defined d k scope name ≡ (not (is_constant k) && not (is_dummy k && is_in (said_of files e name)))
        → made ≡ what.Data (steps.may_be_defined d k scope name) → what_seen files made ≡ Data (may_be_defined files (own e name))
    data_case k kind same is =
        ap (what_seen files) is ∙ ap Data (same ∙ sym (ap (λ k. not (is_constant k) && not (is_dummy k && is_in (said_of files e name))) kind))

    by : (k : EntityKind) → kind_of files (own e name) ≡ k → IsOwn files d k scope name made → what_seen files made ≡ own_due files k e name
    by kinds.Generic kind is = is e there
    by kinds.Construct kind is = ap (what_seen files) is
    by kinds.Dummy kind is = data_case kinds.Dummy kind (ap not (given_is files trees fine d are scope e there name)) is
    by kinds.Constant kind is = data_case kinds.Constant kind refl is
    by kinds.Program kind is = data_case kinds.Program kind refl is
    by kinds.Module kind is = data_case kinds.Module kind refl is
    by kinds.BlockData kind is = data_case kinds.BlockData kind refl is
    by kinds.Subroutine kind is = data_case kinds.Subroutine kind refl is
    by kinds.Function kind is = data_case kinds.Function kind refl is
    by kinds.Variable kind is = data_case kinds.Variable kind refl is
    by kinds.Answer kind is = data_case kinds.Answer kind refl is
    by kinds.Block kind is = data_case kinds.Block kind refl is
    by kinds.Intrinsic kind is = data_case kinds.Intrinsic kind refl is

  what_parts : (entity : Entity) (made : What) (k : EntityKind) (n : List ℕ) (opens home : Option ℕ) → entity.kind ≡ k → steps.name_of entity ≡ n → entity.opens ≡ opens → entity.home ≡ home
      → IsWhat files d entity.kind (steps.name_of entity) entity entity.opens entity.home made → IsWhat files d k n entity opens home made
  what_parts entity made k n opens home kind name opens_is home_is is =
      subst (λ h. IsWhat files d k n entity opens h made) home_is
      (subst (λ o. IsWhat files d k n entity o entity.home made) opens_is
      (subst (λ m. IsWhat files d k m entity entity.opens entity.home made) name
      (subst (λ x. IsWhat files d x (steps.name_of entity) entity entity.opens entity.home made) kind is)))

  -- ---- what a name denotes

  right : (file token : ℕ) (key : Key) (number : ℕ) (entity : Entity) (naming : Naming) → key_at files file token ≡ Some key → key_number files key ≡ Some number → slice_get (bound_entities files) number ≡ Some entity
      → IsKept files d entity naming → IsNaming files key naming
  right file token key number entity naming key_is number_is there kept =
      by key (token_kind files trees fine key file token number entity key_is number_is there) (passes files trees fine key file token number entity key_is number_is there) denoted.denoting.name denoted.real
    where
      denoted : Denoted files trees fine (no_bodies files trees) key
      denoted = denoted_at files trees fine (no_bodies files trees) file token key key_is

      facts : IsOne files trees entity
      facts = each_at (IsOne files trees) (bound_entities files) number entity (entities_one files trees) there

      homeless : (is_block entity.kind || is_intrinsic_kind entity.kind) ≡ true → (entity.opens ≡ None) × (entity.home ≡ None)
      homeless = facts.2

      loose : (key : Key) → datum_of files key ≡ None → (entity.opens ≡ None) × (entity.home ≡ None) → what_seen files naming.what ≡ due files key → IsNaming files key naming
      loose key none parts what_is = record {
        sort = kept.sort ∙ ap (option_and_then (λ scope. declaring.sort_by d scope (steps.name_of entity))) (ap₂ option_or parts.0 parts.1) ∙ sym (ap (option_and_then (spec.sort_of files)) none);
        rank = kept.rank ∙ ap (λ o. option_map_or (λ scope. declaring.rank_by d scope (steps.name_of entity)) o 0) (ap₂ option_or parts.0 parts.1) ∙ sym (ap (λ o. option_map_or (spec.rank_of files) o 0) none);
        what = what_is;
      }

      of_unit : (e : Extent) → IsUnit files e → entity.kind ≡ kind_of files (unit e) → is_entity_of files (unit e) entity ≡ true → IsNaming files (unit e) naming
      of_unit e here kind is =
          let parts = facts.0 e here is in
          let opens : entity.opens ≡ Some (here.0) = parts.2 ∙ number_there files trees here.0 e here.1 in
          let name : steps.name_of entity ≡ scope_name files e = ap (λ o. unwrap_or o (codes "%blockdata")) parts.1 ∙ name_or (name_token files e) (name_at files e.file) (codes "%blockdata") in
          let scope : steps.scope_of entity ≡ Some (here.0) = ap (λ o. option_or o entity.home) opens in
          record {
            sort = sort_there entity naming kept here.0 e here.1 (scope_name files e) scope name;
            rank = rank_there entity naming kept here.0 e here.1 (scope_name files e) scope name;
            what = what_parts entity naming.what (kind_of files (unit e)) (scope_name files e) (Some (here.0)) entity.home kind name opens refl kept.what ∙ unit_case here.0 e here.1 (kind_of files (unit e));
          }

      of_own : (e : Extent) → IsUnit files e → (n : List ℕ) → entity.kind ≡ kind_of files (own e n) → is_entity_of files (own e n) entity ≡ true → IsNaming files (own e n) naming
      of_own e here n kind is =
          let number = number_there files trees here.0 e here.1 in
          let parts = own_parts entity.opens entity.home entity.name here.0 n (sym (ap (λ o. not (is_some entity.opens) && same_number entity.home o && same_names entity.name (Some n)) number) ∙ is) in
          let name : steps.name_of entity ≡ n = ap (λ o. unwrap_or o (codes "%blockdata")) parts.2 in
          let scope : steps.scope_of entity ≡ Some (here.0) = ap₂ option_or parts.0 parts.1 in
          record {
            sort = sort_there entity naming kept here.0 e here.1 n scope name;
            rank = rank_there entity naming kept here.0 e here.1 n scope name;
            what =
                own_case here.0 e here.1 n (kind_of files (own e n)) refl naming.what
                (what_parts entity naming.what (kind_of files (own e n)) n None (Some (here.0)) kind name parts.0 parts.1 kept.what);
          }

      by : (key : Key) → entity.kind ≡ kind_of files key → is_entity_of files key entity ≡ true → (name : List ℕ) → IsRealFor files name key → IsNaming files key naming
      by (unit e) kind is name real = of_unit e real.0 kind is
      by (own e n) kind is name real = of_own e real.0 n kind is
      by (block b) kind is name real =
          let parts = homeless (or_left (is_block entity.kind) (is_intrinsic_kind entity.kind) (ap is_block kind)) in
          loose (block b) refl parts
          (ap (what_seen files) (what_parts entity naming.what entity.kind (steps.name_of entity) None None refl refl parts.0 parts.1 kept.what ∙ ap (λ k. steps.loose_by k (steps.name_of entity)) kind))
      by (intrinsic_function n) kind is name real =
          let parts = homeless (or_right (is_block entity.kind) (is_intrinsic_kind entity.kind) (ap is_intrinsic_kind kind)) in
          let name_is : steps.name_of entity ≡ n = ap (λ o. unwrap_or o (codes "%blockdata")) (named entity.name n ((and_parts (is_intrinsic_kind entity.kind) (same_names entity.name (Some n)) is).1)) in
          loose (intrinsic_function n) refl parts
          (ap (what_seen files) (what_parts entity naming.what entity.kind (steps.name_of entity) None None refl refl parts.0 parts.1 kept.what ∙ ap₂ steps.loose_by kind name_is))

  pub namings_are : (names : Names) → AreKept files d (bound_entities files) names.namings.items → (file token : ℕ) (key : Key) → key_at files file token ≡ Some key → HasNaming files names key
  namings_are names kept file token key key_is =
      let (number, number_is, entity) = (are_entities files trees fine (no_bodies files trees)).tokens file token key key_is in
      let (naming, at) = some_at (bound_entities files) names.namings.items number entity.entity kept.long entity.there in
      record {
        naming = naming;
        at = ap (λ o. slice_get names.namings.items (unwrap_or o 0)) number_is ∙ at;
        right = right file token key number entity.entity naming key_is number_is entity.there (kept.each number entity.entity naming entity.there at);
      }
