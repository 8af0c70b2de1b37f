use Rattle.std.proofs.Common.{◌≡◌, IfOk, subst}
use Rattle.rename_ref.specs.declared.judgement.Judgement.{Judgement}
use Rattle.rename_ref.proofs.Judged.{token_judged}
use Rattle.rename_ref.proofs.judgement.judge.Goals as goal

pub returns-in-Some : goal.returns-in-Some
returns-in-Some c =
    let judged = token_judged c.args.order.now c.args.name.now c.args.text.now c.bytes.result.now c.bytes-in-Some.result.now c.args.tokens.now c.in-Some.token.now
    c.in-Some.ensures c.bytes.ensures c.bytes-in-Some.ensures in
    subst (λ judgement. IfOk c.judge_new.result (λ (other : Judgement). other ≡ judgement)) judged c.judge_new.ensures
