use Rattle.std.proofs.Common.{◌≡◌, ◌++◌, sym, ◌∙◌, ap, ap₂, subst, IfOk, Some}
use Rattle.std.specs.Option.{option_map}
use Rattle.ftn_tree.specs.Evaluations as spec
use Rattle.ftn_tree.specs.Intrinsics.{intrinsic_value}
use Rattle.const_expr.specs.Seen.{seen}
use Rattle.const_expr.specs.FirstTold.{joined}
use Rattle.const_expr.proofs.Firsts.{told_of_parts}
use Rattle.const_expr.proofs.PartLists.{no_call, a_call}
use Rattle.const_expr.proofs.references.call.Goals as goal

pub returns-in-Some : goal.returns-in-Some
returns-in-Some c = λ es r known same.
    let told = c.joined-told.ensures ∙ ap₂ joined known.told (c.told_of_range.ensures r same) ∙ told_of_parts es (spec.ends_of r) in
    c.without_value.ensures (es ++ spec.ends_of r) told
    ∙ sym (ap (λ d. seen (spec.operation c.args.name (es ++ spec.ends_of r) d)) (no_call c.args.function es r c.in-Some.field-0 (sym c.in-Some.is ∙ same)))

pub returns-in-Some-values : goal.returns-in-Some-values
returns-in-Some-values c = λ es r known same.
    let told = c.joined-told.ensures ∙ ap₂ joined known.told (c.told_of_range.ensures r same) ∙ told_of_parts es (spec.ends_of r) in
    subst (λ d. IfOk c.operation.result (λ done. done ≡ seen (spec.operation c.args.name (es ++ spec.ends_of r) d)))
    (sym (a_call c.args.function es r (Some c.deref.result.now) (sym c.in-None.is ∙ same) (ap Some c.deref.ensures.value ∙ sym (ap (option_map (λ vs. vs.items)) c.in-Some-values.is) ∙ known.values)))
    (c.operation.ensures (es ++ spec.ends_of r) (intrinsic_value c.args.function c.deref.result.now) told c.intrinsic.ensures)
