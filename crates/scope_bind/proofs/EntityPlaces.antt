-- Where entities begin, by their provisional numbers.
use Rattle.std.proofs.Common.{◌≡◌, ℕ, ◌+◌, ◌-◌, ◌<◌, ◌≤◌, List, length, Option, Some, None, refl, sym, ap, ap₂, ◌∙◌, arith}
use Rattle.std.specs.Prelude.{slice_get}
use Rattle.std.specs.Option.{option_map_or, option_and_then}
use Rattle.ftn_base.specs.declared.entity.EntityId.{EntityId}
use Rattle.ftn_tree.specs.declared.table.Extent.{Extent}
use Rattle.ftn_tree.specs.declared.unit.FileTree.{FileTree}
use Rattle.ftn_tree.specs.Extents.{scoping, layer_at}
use Rattle.ftn_tree.specs.GlobalNames.{Place, place}
use Rattle.ftn_tree.specs.Meanings.{Key, unit, own, block, intrinsic_function}
use Rattle.ftn_tree.specs.NameFaults.{key_place, begins, said_of}
use Rattle.ftn_tree.specs.Projects.{AreTrees}
use Rattle.ftn_tree.specs.Scopes.{opening_name, first_token_at, scope_number}
use Rattle.decl_table.proofs.OwnStatements.{number_of, same_fields}
use Rattle.scope_bind.specs.steps.Globals.{unit_at}
use Rattle.scope_bind.specs.steps.NameFaults.{begin_place, IsMember}
use Rattle.scope_bind.specs.steps.Numbering.{IsNumbered, own_occurrence, number, number_of as number_for, units_count, names_count}
use Rattle.scope_bind.proofs.KeyNumbers.{Place as PlaceOf, start, placed, own_less, name_less}
use Rattle.scope_bind.proofs.Units.{number_less, number_same, unit_is}

module _ (files : List FileTree) (are : AreTrees files) where
  at_number : (e : Extent) (n : ℕ) → scope_number files e ≡ Some n → key_place files (unit (unit_at files n)) ≡ key_place files (unit e)
  at_number e n is =
      let (file, opening) = same_fields e (unit_at files n) (number_same files e n is) in
      sym (ap₂ (λ (f o : ℕ). place f (option_map_or (λ token. token) (option_and_then opening_name (layer_at files f o)) (first_token_at files f o))) file opening)

  member_at : (e : Extent) (name : List ℕ) (scope : ℕ) → IsMember files (own e name) → scope_number files e ≡ Some scope → unit_at files scope ≡ e
  member_at e name scope (j, there) is =
      let same : Some scope ≡ Some j = sym is ∙ number_of files are j e there in
      ap (unit_at files) (cc same) ∙ unit_is files j e there

  -- its number is that of a scoping unit
  pub of_unit : (entity : EntityId) (result : Place) → entity.0 < units_count files → result ≡ key_place files (unit (unit_at files entity.0)) → (key : Key) → IsNumbered files key
      → entity ≡ number files key → result ≡ key_place files key
  of_unit entity result less made key numbered is =
      let (i, here, starts) = placed files key numbered in by entity.0 less made key i here (ap (λ (e : EntityId). e.0) is ∙ starts)
    where
      by : (n : ℕ) → n < units_count files → result ≡ key_place files (unit (unit_at files n)) → (key : Key) (i : ℕ) → PlaceOf files key i → n ≡ start files key + i → result ≡ key_place files key
      by n less made (unit e) i here starts = let same : n ≡ i = omega (arith, starts) in made ∙ ap (λ k. key_place files (unit (unit_at files k))) same ∙ at_number e i here
      by n less made (own e name) i here starts = let equal : n ≡ units_count files + i = starts in absurd (omega (arith, less, equal))
      by n less made (block b) i here starts = let equal : n ≡ units_count files + names_count files + i = starts in absurd (omega (arith, less, equal))
      by n less made (intrinsic_function name) i here starts = let equal : n ≡ units_count files + names_count files + names_count files + i = starts in absurd (omega (arith, less, equal))

  -- that of a name in its scoping unit
  pub of_name : (entity : EntityId) (result : Place) → units_count files ≤ entity.0 → entity.0 - units_count files < names_count files
      → ((scope : ℕ) (name : List ℕ) → scope < length (scoping files) → own_occurrence files scope name ≡ Some (entity.0 - units_count files) → result ≡ begin_place files scope name)
      → (key : Key) → IsNumbered files key → IsMember files key → entity ≡ number files key → result ≡ key_place files key
  of_name entity result more less made key numbered member is =
      let (i, here, starts) = placed files key numbered in by entity.0 more less made key member i here (ap (λ (e : EntityId). e.0) is ∙ starts)
    where
      by : (n : ℕ) → units_count files ≤ n → n - units_count files < names_count files
          → ((scope : ℕ) (name : List ℕ) → scope < length (scoping files) → own_occurrence files scope name ≡ Some (n - units_count files) → result ≡ begin_place files scope name)
          → (key : Key) → IsMember files key → (i : ℕ) → PlaceOf files key i → n ≡ start files key + i → result ≡ key_place files key
      by n more less made (unit e) member i here starts =
          let low : i < units_count files = number_less files e i here in
          let equal : n ≡ 0 + i = starts in absurd (omega (arith, low, equal, more))
      by n more less made (own e name) member i (scope, here, occurs) starts =
          let equal : n ≡ units_count files + i = starts in
          let same : i ≡ n - units_count files = omega (arith, equal) in
          made scope name (number_less files e scope here) (occurs ∙ ap Some same)
          ∙ ap (λ (u : Extent). place u.file (begins (said_of files u name))) (member_at e name scope member here)
      by n more less made (block None) member i here starts = absurd here
      by n more less made (block (Some name)) member i here starts = let equal : n ≡ units_count files + names_count files + i = starts in absurd (omega (arith, less, equal))
      by n more less made (intrinsic_function name) member i here starts =
          let equal : n ≡ units_count files + names_count files + names_count files + i = starts in absurd (omega (arith, less, equal))
