use Rattle.const_value.specs.steps.Told.{first_seen}
use Rattle.const_value.proofs.StatementTurns.{placed_noted}
use Rattle.const_value.proofs.statement_faults.placed_fault.Goals as goal

pub returns : goal.returns
returns c =
    placed_noted c.args.view.now c.args.placed.now c.placed.inside.want c.placed.inside.expr.now c.in_ok-told.told c.wants_constant.result (first_seen c.args.faults.now)
    (first_seen c.note_told.new.self) c.placed.view_is c.wants_constant.ensures c.if-not-wants_constant.false c.in_ok-told.ensures c.note_told.ensures
