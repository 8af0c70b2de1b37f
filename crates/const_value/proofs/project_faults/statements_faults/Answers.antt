use Rattle.std.proofs.Common.{◌+◌, ◌∙◌, ap, sym}
use Rattle.std.proofs.lemmas.List.{drop_all}
use Rattle.const_value.specs.steps.Findings.{gathered}
use Rattle.const_value.specs.steps.FirstFault.{statements_by}
use Rattle.const_value.specs.steps.Telling.{sight_of}
use Rattle.const_value.specs.steps.Told.{first_seen}
use Rattle.const_value.proofs.FaultTurns.{statement_turn}
use Rattle.const_value.proofs.project_faults.statements_faults.Goals as goal

pub loop-statement-preserved : goal.loop-statement-preserved
loop-statement-preserved c =
    let s = sight_of c.args.view.now in
    record {
      at = ap (λ n. n + 1) c.loop-statement.invariant.at;
      told =
          c.loop-statement.invariant.told
          ∙ statement_turn s c.args.rows.now c.args.statements.now c.loop-statement.at c.loop-statement.statement-index c.statement-item.result c.is_within-within.result
          (first_seen c.loop-statement.faults) (first_seen c.faults_if.new.faults) c.loop-statement-test.true c.statement-item.is c.is_within-within.ensures c.in_ok-faults_if.ensures;
    }

pub returns : goal.returns
returns c =
    let s = sight_of c.args.view.now in
    sym (c.loop-statement.invariant.told
    ∙ ap (λ xs. gathered (first_seen c.loop-statement.faults) (statements_by s c.args.rows.now c.loop-statement.at xs))
    (drop_all c.loop-statement.statement-index c.args.statements.now c.loop-statement-test.false))
