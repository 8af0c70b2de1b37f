use Rattle.std.proofs.Common.{◌≡◌, ◌∙◌, ap, subst, IfOk}
use Rattle.const_expr.specs.Namings.{evaluated_by, given_by, range_by}
use Rattle.const_expr.specs.Seen.{seen}
use Rattle.const_expr.proofs.ReferenceTrees.{binary_is, refer_is}
use Rattle.const_expr.proofs.evaluating.+evaluating.Goals as goal

pub evaluate-returns-in_ok-right-in-Binary : goal.evaluate-returns-in_ok-right-in-Binary
evaluate-returns-in_ok-right-in-Binary t c =
    let row = c.args.setting.now.row.now in
    let namings = c.args.setting.now.namings.now in
    subst (λ x. IfOk c.binary_operation.result (λ made. made ≡ seen x))
    (binary_is row namings c.in-Binary.op c.in-Binary.operator c.in-Binary.left c.in-Binary.right c.args.expr.now c.in-Binary.is)
    (c.binary_operation.ensures (evaluated_by row namings c.in-Binary.left) (evaluated_by row namings c.in-Binary.right)
    (c.in_ok-left-in-Binary.ensures ∙ ap (λ x. seen (evaluated_by row namings x)) c.get-in-Binary.ensures)
    (c.in_ok-right-in-Binary.ensures ∙ ap (λ x. seen (evaluated_by row namings x)) c.get-in-Binary-2.ensures))

-- the name of this goal is a guess
pub evaluate-returns-in_ok-range-in-Refer : goal.evaluate-returns-in_ok-range-in-Refer
evaluate-returns-in_ok-range-in-Refer t c =
    let row = c.args.setting.now.row.now in
    let namings = c.args.setting.now.namings.now in
    subst (λ x. IfOk c.refer.result (λ made. made ≡ seen x))
    (refer_is row namings c.in-Refer.name c.in-Refer.args c.in-Refer.part c.args.expr.now c.in-Refer.is)
    (c.refer.ensures (given_by row namings c.in-Refer.args) (range_by row namings c.in-Refer.part) c.in_ok-given-in-Refer.ensures c.in_ok-range-in-Refer.ensures)
