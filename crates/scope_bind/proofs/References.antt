-- Faults of references, one occurrence after the other.
use Rattle.std.proofs.Common.{◌≡◌, ℕ, ◌+◌, ◌<◌, ◌≤◌, List, length, get_or, map, take, Option, Some, None, refl, sym, ap, ap₂, ◌∙◌, subst}
use Rattle.std.specs.Prelude.{slice_get}
use Rattle.std.specs.List.{flat_map}
use Rattle.std.specs.Option.{option_map}
use Rattle.std.proofs.lemmas.List.{length-map, take_all}
use Rattle.std.proofs.lemmas.Option.{slice_get-get_or, slice_get-map}
use Rattle.ftn_base.specs.declared.entity.EntityId.{EntityId}
use Rattle.ftn_base.specs.declared.fault.FaultKind.TheVariants.{Ambiguous, Unknown}
use Rattle.ftn_tree.specs.declared.unit.FileTree.{FileTree}
use Rattle.ftn_tree.specs.Bindings.{Denoting, denotings}
use Rattle.ftn_tree.specs.DeclarationFaults.{Finding, found, found_with, first_finding}
use Rattle.ftn_tree.specs.GlobalNames.{Place, place}
use Rattle.ftn_tree.specs.Meanings as spec
use Rattle.ftn_tree.specs.NameFaults.{key_place, name_rank, reference_findings}
use Rattle.scope_bind.specs.declared.finding.Kinds.TheVariants as kinds
use Rattle.scope_bind.specs.declared.meaning.Meaning.TheVariants as made
use Rattle.scope_bind.specs.declared.occurrences.Denoted.{Denoted}
use Rattle.scope_bind.specs.steps.Findings.{earlier}
use Rattle.scope_bind.specs.steps.Meaning.{numbered}
use Rattle.scope_bind.specs.steps.NameFaults.{IsMember, IsNumberedMeaning}
use Rattle.scope_bind.specs.steps.Numbering.{IsNumbered, number}
use Rattle.scope_bind.specs.steps.Occurrences.{all_denoted, denoted}
use Rattle.scope_bind.proofs.DenotedKeys.{denotings_numbered}
use Rattle.scope_bind.proofs.FindingTurns.{more_found}
use Rattle.scope_bind.proofs.Members.{each_at}

module _ (files : List FileTree) where
  pub reference_more : (all : List Denoted) → all ≡ all_denoted files → (i : ℕ) (one : Denoted) → i < length all → one ≡ get_or all i one → (first next result : Option Finding)
      → first ≡ first_finding name_rank (flat_map (reference_findings files) (take i (denotings files)))
      → ((d : Denoting) → IsNumberedMeaning files d.meaning → one ≡ denoted files d → next ≡ first_finding name_rank (reference_findings files d)) → result ≡ earlier kinds.Names first next
      → result ≡ first_finding name_rank (flat_map (reference_findings files) (take (i + 1) (denotings files)))
  reference_more all is i one less at first next result before found made = by (slice_get (denotings files) i) refl
      (sym (slice_get-get_or all i one less ∙ ap Some (sym at)) ∙ ap (λ l. slice_get l i) is ∙ slice_get-map (denoted files) (denotings files) i)
    where
      by : (o : Option Denoting) → slice_get (denotings files) i ≡ o → Some one ≡ option_map (denoted files) o → result ≡ first_finding name_rank (flat_map (reference_findings files) (take (i + 1) (denotings files)))
      by None there same = absurd (cc same)
      by (Some d) there same =
          more_found kinds.Names (reference_findings files) (denotings files) i d there first next result before
          (found d (each_at (λ (d : Denoting). IsNumberedMeaning files d.meaning) (denotings files) i d (denotings_numbered files) there) (cc same)) made
