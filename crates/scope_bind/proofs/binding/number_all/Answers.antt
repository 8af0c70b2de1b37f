use Rattle.std.proofs.Common.{◌≡◌, ◌∙◌, ℕ, List, ap, map}
use Rattle.ftn_tree.specs.Bindings.{bound_entities}
use Rattle.scope_bind.specs.declared.occurrences.Denoted.{Denoted}
use Rattle.scope_bind.specs.steps.Binding.{final_of, final_pair}
use Rattle.scope_bind.proofs.FinalNumbers.{final_denoted, final_accessible}
use Rattle.scope_bind.proofs.binding.number_all.Goals as goal

pub returns : goal.returns
returns c =
    let files = c.args.known.now.files.now in
    let numbers = c.in_ok-numbers.numbers.items in
    record {
      entities = c.entities.view_is ∙ c.in_ok-entities.ensures;
      denotes = c.in_ok-denoted_numbers.ensures ∙ ap (λ (ns : List ℕ). map (λ (d : Denoted). final_of ns d.meaning) c.args.denoted.now) c.deref.ensures.value
          ∙ final_denoted files numbers c.in_ok-numbers.ensures c.args.denoted.now c.requires.denoted;
      accessible = c.in_ok-accessible.ensures ∙ ap (λ (ns : List ℕ). map (map (final_pair ns)) c.args.used.now) c.deref-2.ensures.value
          ∙ final_accessible files numbers c.in_ok-numbers.ensures c.args.used.now c.requires.used;
    }
