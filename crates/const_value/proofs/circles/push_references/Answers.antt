use Rattle.std.proofs.Common.{◌≡◌, ◌∙◌, ◌++◌, [], ℕ, Option, ap}
use Rattle.std.specs.List.{cons_option}
use Rattle.std.specs.Option.{option_map}
use Rattle.ftn_tree.specs.declared.mention.Mention.{Mention}
use Rattle.const_value.specs.steps.References.{constant_at, token_at}
use Rattle.const_value.proofs.CircleTurns.{some_more}
use Rattle.const_value.proofs.circles.push_references.Goals as goal

pub loop-mention-preserved : goal.loop-mention-preserved
loop-mention-preserved c =
    let p = c.args.project.now in
    let file = c.args.file in
    let mentions = c.args.mentions.now in
    let i = c.loop-mention.mention-index in
    let m = c.mention-item.result in
    let to : c.constant_at.result ≡ constant_at p file m.token = c.constant_at.ensures in
    record {
      used = some_more (λ (m : Mention). constant_at p file m.token) mentions i m c.args.used.now.items c.loop-mention.used.items c.push_named.new.used.items c.loop-mention-test.true c.mention-item.is
          c.loop-mention.invariant.used (c.in_ok-push_named.ensures.used ∙ ap (λ (o : Option ℕ). c.loop-mention.used.items ++ cons_option o []) to);
      tokens = some_more (λ (m : Mention). token_at p file m.token) mentions i m c.args.tokens.now.items c.loop-mention.tokens.items c.push_named.new.tokens.items c.loop-mention-test.true c.mention-item.is
          c.loop-mention.invariant.tokens (c.in_ok-push_named.ensures.tokens ∙ ap (λ (o : Option ℕ). c.loop-mention.tokens.items ++ cons_option (option_map (λ (name : ℕ). m.token) o) []) to);
    }
