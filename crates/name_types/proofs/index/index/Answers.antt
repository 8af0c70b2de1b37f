use Rattle.std.proofs.Common.{◌∙◌, ap, sym, arith, drop}
use Rattle.std.specs.List.{position_from}
use Rattle.name_types.specs.steps.Index.{is_at}
use Rattle.decl_table.proofs.HeardNames.{opened_before, at_start}
use Rattle.name_types.proofs.Positions.{from_next, from_start}
use Rattle.name_types.proofs.index.index.Goals as goal

pub loop-at-preserved : goal.loop-at-preserved
loop-at-preserved c =
    let all = c.args.all.now in (
      omega (arith, c.loop-at.invariant.0),
      λ u name.
          from_next (is_at u name) c.index-all-at.result (drop c.loop-at.at all) c.loop-at.at _ _ c.loop-at-test.true (c.in_ok-put_candidate.ensures u name) (c.loop-at.invariant.1 u name)
          ∙ ap (position_from (is_at u name) _) (sym (opened_before all c.loop-at.at c.index-all-at.result c.loop-at-test.true c.loop-at.invariant.0 c.index-all-at.is)),
    )

pub returns : goal.returns
returns c = λ u name.
    c.loop-at.invariant.1 u name ∙ from_start (is_at u name) c.args.all.now c.loop-at.at (at_start c.loop-at.at c.loop-at-test.false)
