use Rattle.std.proofs.Common.{◌≡◌, length, map, Some, None, ap, ◌∙◌}
use Rattle.free_scan.specs.Lines.{lines}
use Rattle.rename_ref.specs.declared.judgement.Judgement.TheVariants.{Accept}
use Rattle.rename_ref.specs.Conditions.{renamed_text}
use Rattle.rename_ref.specs.Edits.{applied}
use Rattle.rename_ref.proofs.Judged.{line_judged}
use Rattle.rename_ref.proofs.TokenRanges.{denoting_fit}
use Rattle.rename_ref.proofs.judgement.judge_lines.Goals as goal

pub apply-requires : goal.apply-requires
apply-requires c =
    denoting_fit c.args.text.now c.args.tokens.now c.args.old.now c.args.new.now c.deref.result.now c.requires
    (c.deref.ensures.value ∙ c.in_ok-edits.ensures)

pub returns-in-None : goal.returns-in-None
returns-in-None c =
    let made : c.in_ok-made.made.items ≡ renamed_text c.args.old.now c.args.new.now c.args.tokens.now c.args.text.now
    = c.in_ok-made.ensures ∙ ap (applied c.args.text.now) (c.deref.ensures.value ∙ c.in_ok-edits.ensures) in
    let told : c.deref-3.result.now ≡ map length (lines c.in_ok-made.made.items)
    = c.deref-3.ensures.value ∙ c.in_ok-lengths.ensures ∙ ap (λ text. map length (lines text)) c.deref-2.ensures.value in
    ap Accept c.from_vec.ensures
    ∙ line_judged c.in_ok-made.made.items c.deref-3.result.now c.args.old.now c.args.new.now c.args.text.now c.args.tokens.now None made told c.in-None.ensures

pub returns : goal.returns
returns c =
    let made : c.in_ok-made.made.items ≡ renamed_text c.args.old.now c.args.new.now c.args.tokens.now c.args.text.now
    = c.in_ok-made.ensures ∙ ap (applied c.args.text.now) (c.deref.ensures.value ∙ c.in_ok-edits.ensures) in
    let told : c.deref-3.result.now ≡ map length (lines c.in_ok-made.made.items)
    = c.deref-3.ensures.value ∙ c.in_ok-lengths.ensures ∙ ap (λ text. map length (lines text)) c.deref-2.ensures.value in
    c.refused.ensures
    ∙ line_judged c.in_ok-made.made.items c.deref-3.result.now c.args.old.now c.args.new.now c.args.text.now c.args.tokens.now (Some c.in-Some.token.now) made told c.in-Some.ensures
