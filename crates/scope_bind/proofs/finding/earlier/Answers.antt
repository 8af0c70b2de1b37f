use Rattle.std.proofs.Common.{Some, cond, sym, ap, ap₂, ◌∙◌}
use Rattle.scope_bind.specs.steps.Findings.{earlier}
use Rattle.scope_bind.proofs.FindingOrder.{joined_is_first}
use Rattle.scope_bind.proofs.finding.earlier.Goals as goal

pub returns-then-is_before-clause-joined : goal.returns-then-is_before-clause-joined
returns-then-is_before-clause-joined c = λ xs ys.
    joined_is_first c.args.kinds c.args.first c.args.second _ xs ys
    (sym (ap₂ (earlier c.args.kinds) c.in-Some.is c.in-Some-second.is ∙ ap (λ b. cond b (Some c.in-Some-second.other) (Some c.in-Some.one)) (sym c.is_before.ensures ∙ c.if-is_before.true)))

pub returns-else-is_before-clause-joined : goal.returns-else-is_before-clause-joined
returns-else-is_before-clause-joined c = λ xs ys.
    joined_is_first c.args.kinds c.args.first c.args.second _ xs ys
    (sym (ap₂ (earlier c.args.kinds) c.in-Some.is c.in-Some-second.is ∙ ap (λ b. cond b (Some c.in-Some-second.other) (Some c.in-Some.one)) (sym c.is_before.ensures ∙ c.if-is_before.false)))
