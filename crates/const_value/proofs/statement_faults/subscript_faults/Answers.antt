use Rattle.const_value.specs.steps.Measuring.{given}
use Rattle.const_value.specs.steps.Told.{first_seen}
use Rattle.const_value.proofs.StatementTurns.{subscript_noted}
use Rattle.const_value.proofs.statement_faults.subscript_faults.Goals as goal

pub returns : goal.returns
returns c =
    subscript_noted c.args.view.now.file (given c.args.view.now c.args.subscript.now) c.args.pair c.in_ok-made.made (first_seen c.args.faults.now) (first_seen c.note_if.new.self)
    (first_seen c.note_breach.new.self) (first_seen c.note_if-2.new.self) c.is_some-stray.result c.is_outside-outside.result c.in_ok-made.ensures c.is_some-stray.ensures c.note_if.ensures
    c.note_breach.ensures c.is_outside-outside.ensures c.note_if-2.ensures
