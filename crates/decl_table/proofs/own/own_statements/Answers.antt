use Rattle.std.proofs.Common.{◌+◌}
use Rattle.decl_table.specs.steps.Rows.{number_at}
use Rattle.decl_table.specs.steps.Following.{is_number, own_by}
use Rattle.decl_table.proofs.OwnStatements.{own_next, own_done}
use Rattle.decl_table.proofs.own.own_statements.Goals as goal

pub loop-at-preserved : goal.loop-at-preserved
loop-at-preserved c =
    own_next (λ statement. is_number c.args.number (number_at c.args.rows.now c.args.unit.file statement)) (own_by c.args.number c.args.unit c.args.rows.now)
    c.loop-at.own.items c.push_own.new.own.items c.loop-at.at (c.args.unit.ending + 1) c.loop-at-test.true c.loop-at.invariant c.in_ok-push_own.ensures

pub returns : goal.returns
returns c =
    own_done (λ statement. is_number c.args.number (number_at c.args.rows.now c.args.unit.file statement)) (own_by c.args.number c.args.unit c.args.rows.now)
    c.loop-at.own.items c.loop-at.at (c.args.unit.ending + 1) c.loop-at-test.false c.loop-at.invariant
