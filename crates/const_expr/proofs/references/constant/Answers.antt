use Rattle.std.proofs.Common.{◌≡◌, sym, ◌∙◌, ap, ap₂, subst, IfOk, None}
use Rattle.std.specs.Option.{option_and_then}
use Rattle.ftn_tree.specs.Evaluations as spec
use Rattle.const_expr.specs.Seen.{seen}
use Rattle.const_expr.specs.steps.Parts.{told_in_parts, looked_up}
use Rattle.const_expr.specs.FirstTold.{joined}
use Rattle.const_expr.proofs.Elements.{element_is}
use Rattle.const_expr.proofs.Firsts.{told_of_parts}
use Rattle.const_expr.proofs.PartLists.{all_parts}
use Rattle.const_expr.proofs.references.constant.Goals as goal

pub returns-in-Some : goal.returns-in-Some
returns-in-Some c = λ es r known same.
    let told =
    c.joined-told.ensures ∙ ap₂ joined (c.told_of_parts.ensures es known) (c.told_of_range.ensures r same)
    ∙ told_of_parts (spec.parts_of es None) (spec.ends_of r) ∙ ap told_in_parts (all_parts es r) in
    subst (λ w. IfOk c.named.result (λ done. done ≡ seen (spec.operation c.args.name (spec.parts_of es r) (spec.then_part r (option_and_then (spec.element_of c.args.rank c.args.bounds.now es) w))))) (sym c.in-Some.is)
    (subst (λ d. IfOk c.named.result (λ done. done ≡ seen (spec.operation c.args.name (spec.parts_of es r) (spec.then_part r d))))
    (ap (λ f. looked_up f c.in-Some.value) c.element.ensures ∙ element_is c.in-Some.value c.args.rank c.args.bounds.now es c.args.args known)
    (c.named.ensures (spec.parts_of es r) r told same))

pub returns : goal.returns
returns c = λ es r known same.
    let told =
    c.joined-told.ensures ∙ ap₂ joined (c.told_of_parts.ensures es known) (c.told_of_range.ensures r same)
    ∙ told_of_parts (spec.parts_of es None) (spec.ends_of r) ∙ ap told_in_parts (all_parts es r) in
    c.without_value.ensures (spec.parts_of es r) told
    ∙ ap (λ w. seen (spec.operation c.args.name (spec.parts_of es r) (spec.then_part r (option_and_then (spec.element_of c.args.rank c.args.bounds.now es) w)))) (sym c.in-None.is)
