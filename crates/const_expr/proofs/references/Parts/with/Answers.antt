use Rattle.std.proofs.Common.{sym, ◌∙◌, ap, ap₂, [], ◌∷◌}
use Rattle.const_expr.specs.declared.evaluated.Evaluated.{Evaluated}
use Rattle.const_expr.specs.FirstTold.{joined}
use Rattle.const_expr.specs.steps.Parts.{values_with}
use Rattle.const_expr.proofs.Firsts.{told_of_one, told_of_parts}
use Rattle.const_expr.proofs.PartLists.{all_values_more}
use Rattle.const_expr.proofs.references.Parts.with.Goals as goal

pub returns : goal.returns
returns c = λ es e known same. record {
  values = c.in_ok-values.ensures ∙ ap₂ values_with known.values (ap (λ (x : Evaluated). x.value) same) ∙ sym (all_values_more es e);
  told = c.joined-told.ensures ∙ ap₂ joined known.told (ap (λ (x : Evaluated). x.told) same ∙ sym (told_of_one e)) ∙ told_of_parts es (e ∷ []);
}
