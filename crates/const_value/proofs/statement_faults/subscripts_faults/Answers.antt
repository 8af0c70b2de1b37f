use Rattle.std.proofs.Common.{◌+◌, ◌∙◌, length, ap, sym}
use Rattle.std.proofs.lemmas.List.{drop_all}
use Rattle.const_value.specs.steps.Findings.{gathered}
use Rattle.const_value.specs.steps.Telling.{pairs_of, subscripts_told}
use Rattle.const_value.specs.steps.Told.{first_seen}
use Rattle.const_value.proofs.StatementTurns.{subscript_turn}
use Rattle.const_value.proofs.statement_faults.subscripts_faults.Goals as goal

pub loop-subscript-preserved : goal.loop-subscript-preserved
loop-subscript-preserved c =
    let view = c.args.view.now in
    let pairs = pairs_of view c.args.token (length c.args.subscripts.now) in
    record {
      at = ap (λ n. n + 1) c.loop-subscript.invariant.at;
      told =
          c.loop-subscript.invariant.told
          ∙ subscript_turn view pairs c.args.subscripts.now c.loop-subscript.at c.loop-subscript.subscript-index c.subscript-item.result c.pair_at-pair.result (first_seen c.loop-subscript.faults)
          (first_seen c.subscript_faults.new.faults) c.loop-subscript-test.true c.subscript-item.is c.pair_at-pair.ensures c.in_ok-subscript_faults.ensures;
    }

pub returns : goal.returns
returns c =
    let view = c.args.view.now in
    let pairs = pairs_of view c.args.token (length c.args.subscripts.now) in
    sym (c.loop-subscript.invariant.told
    ∙ ap (λ xs. gathered (first_seen c.loop-subscript.faults) (subscripts_told view pairs c.loop-subscript.at xs)) (drop_all c.loop-subscript.subscript-index c.args.subscripts.now c.loop-subscript-test.false))
