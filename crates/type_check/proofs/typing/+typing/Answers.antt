use Rattle.std.proofs.Common.{◌≡◌, ◌∙◌, ap, subst, IfOk}
use Rattle.type_check.specs.steps.Kept.{seen, typed_seen}
use Rattle.type_check.specs.steps.Ranges.{given_seen, range_kept}
use Rattle.type_check.specs.steps.Typing.{typed_by}
use Rattle.type_check.proofs.TypedTrees.{unary_made, binary_made, refer_made}
use Rattle.type_check.proofs.typing.+typing.Goals as goal

pub typed-returns-in_ok-arg-in-Unary : goal.typed-returns-in_ok-arg-in-Unary
typed-returns-in_ok-arg-in-Unary t c =
    let s = c.args.setting.now in
    unary_made s c.in-Unary.op c.in-Unary.operator c.in-Unary.arg c.args.expr.now (typed_seen c.in_ok-arg-in-Unary.arg) (typed_seen c.unary_typed.result)
    (c.in_ok-arg-in-Unary.ensures ∙ ap (λ x. seen (typed_by s x)) c.get-in-Unary.ensures) c.unary_typed.ensures c.in-Unary.is

pub typed-returns-in_ok-right-in-Binary : goal.typed-returns-in_ok-right-in-Binary
typed-returns-in_ok-right-in-Binary t c =
    let s = c.args.setting.now in
    binary_made s c.in-Binary.op c.in-Binary.operator c.in-Binary.left c.in-Binary.right c.args.expr.now (typed_seen c.in_ok-left-in-Binary.left)
    (typed_seen c.in_ok-right-in-Binary.right) (typed_seen c.binary_typed.result)
    (c.in_ok-left-in-Binary.ensures ∙ ap (λ x. seen (typed_by s x)) c.get-in-Binary.ensures)
    (c.in_ok-right-in-Binary.ensures ∙ ap (λ x. seen (typed_by s x)) c.get-in-Binary-2.ensures) c.binary_typed.ensures c.in-Binary.is

pub typed-returns-in_ok-range-in-Refer : goal.typed-returns-in_ok-range-in-Refer
typed-returns-in_ok-range-in-Refer t c =
    subst (λ y. IfOk c.refer.result (λ made. typed_seen made ≡ y))
    (refer_made c.args.setting.now c.in-Refer.name c.in-Refer.args c.in-Refer.part c.args.expr.now (given_seen c.in_ok-given-in-Refer.given)
    (range_kept c.in_ok-range-in-Refer.range) c.in_ok-given-in-Refer.ensures c.in_ok-range-in-Refer.ensures c.in-Refer.is)
    c.refer.ensures
