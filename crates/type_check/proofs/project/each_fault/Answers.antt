use Rattle.std.proofs.Common.{get_or}
use Rattle.ftn_tree.specs.ConstantFaults as constants
use Rattle.ftn_tree.specs.TypeFaults.{statement_told}
use Rattle.type_check.specs.steps.Noted.{first_seen}
use Rattle.type_check.proofs.FineStatements.{any_default, designators_fine, none_here}
use Rattle.type_check.proofs.NotedLaws.{turn}
use Rattle.type_check.proofs.project.each_fault.Goals as goal

pub statement_if-requires-clause-fine : goal.statement_if-requires-clause-fine
statement_if-requires-clause-fine c =
    let statement = get_or c.args.statements.now c.loop-statement.statement-index 0 in
    designators_fine c.args.files.now c.args.unit.file statement
    (none_here (constants.statement_told c.args.files.now c.args.unit.file) c.args.statements.now c.loop-statement.statement-index statement c.loop-statement-test.true (any_default c.args.statements.now c.loop-statement.statement-index 0 statement c.loop-statement-test.true) c.requires.fine)

pub loop-statement-preserved : goal.loop-statement-preserved
loop-statement-preserved c =
    let statement = get_or c.args.statements.now c.loop-statement.statement-index 0 in
    turn c.args.unit.file (statement_told c.args.files.now c.args.unit) c.args.statements.now c.loop-statement.statement-index statement
    (first_seen c.args.faults.now) (first_seen c.loop-statement.faults) (first_seen c.statement_if.new.faults) c.loop-statement-test.true (any_default c.args.statements.now c.loop-statement.statement-index 0 statement c.loop-statement-test.true) c.loop-statement.invariant
    c.in_ok-statement_if.ensures
