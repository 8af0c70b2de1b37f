use Rattle.std.proofs.Common.{ap, sym, ◌∙◌, arith, drop}
use Rattle.decl_table.proofs.HeardNames.{at_start}
use Rattle.scope_bind.specs.steps.Items.{source_of}
use Rattle.scope_bind.proofs.ItemSources.{opened_at, source_next}
use Rattle.scope_bind.proofs.items.sources_of.Goals as goal

pub loop-at-preserved : goal.loop-at-preserved
loop-at-preserved c =
    let all = c.args.items.now in (
      omega (arith, c.loop-at.invariant.0),
      λ token.
          source_next _ (drop c.loop-at.at all) token _ _ (c.in_ok-put.ensures token) (c.loop-at.invariant.1 token)
          ∙ ap (source_of token) (sym (opened_at all c.loop-at.at _ c.loop-at-test.true c.loop-at.invariant.0)),
    )

pub returns : goal.returns
returns c = λ token.
    c.loop-at.invariant.1 token ∙ ap (λ k. source_of token (drop k c.args.items.now)) (at_start c.loop-at.at c.loop-at-test.false)
