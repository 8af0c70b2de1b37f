use Rattle.std.proofs.Common.{◌++◌}
use Rattle.const_value.specs.steps.Giving.{statements_fit, statements_given}
use Rattle.const_value.specs.steps.Telling.{sight_of}
use Rattle.const_value.proofs.GivenTurns.{statements_fit_more, statements_more}
use Rattle.const_value.proofs.given_files.push_statements.Goals as goal

pub loop-statement-preserved : goal.loop-statement-preserved
loop-statement-preserved c =
    let s = sight_of c.args.view.now in
    record {
      given = statements_more s c.args.rows.now c.args.bodies.now c.args.statements.now c.loop-statement.statement-index c.loop-statement.at c.in_ok-at.at c.statement-item.result
          (c.args.found.now.items ++ statements_given s c.args.rows.now c.args.bodies.now 0 c.args.statements.now) c.loop-statement.found.items c.push_statement.new.found.items c.loop-statement-test.true c.statement-item.is
          c.in_ok-push_statement.ensures.given c.in_ok-at.ensures c.loop-statement.invariant.given;
      fits = statements_fit_more s c.args.rows.now c.args.bodies.now c.args.statements.now c.loop-statement.statement-index c.loop-statement.at c.in_ok-at.at c.statement-item.result
          (statements_fit s c.args.rows.now c.args.bodies.now 0 c.args.statements.now) c.loop-statement-test.true c.statement-item.is c.in_ok-push_statement.ensures.fits c.in_ok-at.ensures c.loop-statement.invariant.fits;
    }
