use Rattle.std.proofs.Common.{◌≡◌, true, ◌||◌, Some, None, IfOk, subst, ap, sym, ◌∙◌}
use Rattle.ftn_base.specs.Keywords.{is_keyword, is_intrinsic}
use Rattle.ftn_base.specs.Limits.{name_limit}
use Rattle.ftn_base.specs.Names.{is_name}
use Rattle.ftn_base.specs.declared.name.Edition.TheVariants.{F90}
use Rattle.rename_ref.specs.declared.judgement.Judgement.{Judgement}
use Rattle.rename_ref.proofs.Judged.{keyword_refused, free_judged}
use Rattle.rename_ref.proofs.judgement.judge_new.Goals as goal

pub returns-then-is_reserved : goal.returns-then-is_reserved
returns-then-is_reserved c =
    let named : is_name (name_limit F90) c.args.new.now ≡ true = (cc) in
    keyword_refused c.args.old.now c.args.new.now c.args.text.now c.deref.result.now c.args.tokens.now named
    (c.deref.ensures.value ∙ c.in_ok-value.ensures) (sym c.is_reserved.ensures ∙ c.if-is_reserved.true)

pub returns-in-None : goal.returns-in-None
returns-in-None c =
    let named : is_name (name_limit F90) c.args.new.now ≡ true = (cc) in
    let same = c.deref-2.ensures.value ∙ sym c.deref.ensures.value in
    let judged = free_judged c.args.old.now c.args.new.now c.args.text.now c.deref-2.result.now c.args.tokens.now None named
    (c.deref-2.ensures.value ∙ c.in_ok-value.ensures)
    (ap (λ word. is_keyword word || is_intrinsic word) same ∙ sym c.is_reserved.ensures ∙ c.if-is_reserved.false)
    c.in-None.ensures in
    subst (λ judgement. IfOk c.judge_lines.result (λ (other : Judgement). other ≡ judgement)) judged c.judge_lines.ensures

pub returns : goal.returns
returns c =
    let named : is_name (name_limit F90) c.args.new.now ≡ true = (cc) in
    let same = c.deref-2.ensures.value ∙ sym c.deref.ensures.value in
    c.refused.ensures
    ∙ free_judged c.args.old.now c.args.new.now c.args.text.now c.deref-2.result.now c.args.tokens.now (Some c.in-Some.token.now) named
    (c.deref-2.ensures.value ∙ c.in_ok-value.ensures)
    (ap (λ word. is_keyword word || is_intrinsic word) same ∙ sym c.is_reserved.ensures ∙ c.if-is_reserved.false)
    c.in-Some.ensures
