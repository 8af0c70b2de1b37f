-- The final numbers of what names denote and of what USE makes accessible.
use Rattle.std.proofs.Common.{◌≡◌, ℕ, ◌+◌, List, [], ◌∷◌, map, Option, Some, None, refl, sym, ap, ap₂, ◌∙◌, arith}
use Rattle.std.specs.Prelude.{slice_get}
use Rattle.std.specs.List.{position, AllByRecursion as Each}
use Rattle.std.specs.Option.{option_map_or, unwrap_or}
use Rattle.ftn_base.specs.Exports.{Pair, PairOf}
use Rattle.ftn_base.specs.declared.entity.EntityId.{EntityId}
use Rattle.ftn_tree.specs.declared.table.Extent.{Extent}
use Rattle.ftn_tree.specs.declared.unit.FileTree.{FileTree}
use Rattle.ftn_tree.specs.Bindings.{Denoting, bound_entities, denotings, entity_number, is_entity_of, meaning_number, numbered_pair}
use Rattle.ftn_tree.specs.Extents.{scoping}
use Rattle.ftn_tree.specs.Meanings as spec
use Rattle.ftn_tree.specs.Meanings.{Key}
use Rattle.scope_bind.specs.declared.occurrences.Denoted.{Denoted}
use Rattle.scope_bind.specs.steps.Binding.{final_of, final_pair}
use Rattle.scope_bind.specs.steps.Entities.{AreNumbers}
use Rattle.scope_bind.specs.steps.Meaning.{numbered, used_everywhere, all_numbered}
use Rattle.scope_bind.specs.steps.NameFaults.{IsNumberedMeaning}
use Rattle.scope_bind.specs.steps.Numbering.{IsNumbered, number_of, with_number}
use Rattle.scope_bind.specs.steps.Occurrences.{all_denoted, denoted}
use Rattle.scope_bind.proofs.DenotedKeys.{denotings_numbered}
use Rattle.scope_bind.proofs.Natural.{KnownPairs}
use Rattle.scope_bind.proofs.OwnKeys.{accessible_numbered}

module _ (files : List FileTree) (numbers : List ℕ) (are : AreNumbers files 0 (bound_entities files) numbers) where
  entity : ℕ → EntityId
  entity n = record { 0 = n }

  final_key : (key : Key) → IsNumbered files key → unwrap_or (slice_get numbers (number_of files key)) 0 ≡ unwrap_or (position (is_entity_of files key) (bound_entities files)) 0
  final_key key is = ap (λ o. unwrap_or o 0) (are key is) ∙ by (position (is_entity_of files key) (bound_entities files)) where
    by : (o : Option ℕ) → option_map_or (λ index. index + 0) o 0 ≡ unwrap_or o 0
    by None = refl
    by (Some i) = omega arith

  final_meaning : (m : spec.Meaning) → IsNumberedMeaning files m → final_of numbers (numbered files m) ≡ meaning_number files m
  unfolding entity
  final_meaning spec.nothing is = refl
  final_meaning (spec.one key) is = ap entity (final_key key is)
  final_meaning (spec.several first second rest) is = refl
  final_meaning spec.unknown is = refl

  each_denoted : (ds : List Denoting) → Each (λ (d : Denoting). IsNumberedMeaning files d.meaning) ds
      → map (λ (o : Denoted). final_of numbers o.meaning) (map (denoted files) ds) ≡ map (λ (d : Denoting). meaning_number files d.meaning) ds
  each_denoted [] each = refl
  each_denoted (d ∷ ds) each = ap₂ (λ (x : EntityId) xs. x ∷ xs) (final_meaning d.meaning each.0) (each_denoted ds each.1)

  pub final_denoted : (all : List Denoted) → all ≡ all_denoted files → map (λ (o : Denoted). final_of numbers o.meaning) all ≡ map (λ (d : Denoting). meaning_number files d.meaning) (denotings files)
  final_denoted all is = ap (map (λ (o : Denoted). final_of numbers o.meaning)) is ∙ each_denoted (denotings files) (denotings_numbered files)

  final_pairs : (pairs : List (PairOf Key)) → KnownPairs (IsNumbered files) pairs → map (final_pair numbers) (all_numbered files pairs) ≡ map (numbered_pair files) pairs
  unfolding entity
  final_pairs [] each = refl
  final_pairs (pair ∷ pairs) each = ap₂ (λ (x : Pair) xs. x ∷ xs) (ap (λ n. (pair.0, entity n)) (final_key pair.1 each.0)) (final_pairs pairs each.1)

  each_accessible : (es : List Extent) → map (map (final_pair numbers)) (map (λ e. all_numbered files (spec.accessible_in files e)) es) ≡ map (λ e. map (numbered_pair files) (spec.accessible_in files e)) es
  each_accessible [] = refl
  each_accessible (e ∷ es) = ap₂ (λ (x : List Pair) xs. x ∷ xs) (final_pairs (spec.accessible_in files e) (accessible_numbered files e)) (each_accessible es)

  pub final_accessible : (used : List (List Pair)) → used ≡ used_everywhere files → map (map (final_pair numbers)) used ≡ map (λ e. map (numbered_pair files) (spec.accessible_in files e)) (scoping files)
  final_accessible used is = ap (map (map (final_pair numbers))) is ∙ each_accessible (scoping files)
