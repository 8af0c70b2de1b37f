use Rattle.std.proofs.Common.{◌∙◌, ap}
use Rattle.std.specs.Option.{is_some}
use Rattle.const_expr.specs.declared.told.Told.{Told}
use Rattle.const_value.specs.steps.Measuring.{given}
use Rattle.const_value.proofs.StatementTurns.{some_strays}
use Rattle.const_value.proofs.shape_faults.bound_faults.Goals as goal

pub returns-clause-told : goal.returns-clause-told
returns-clause-told c = c.note_bound.ensures c.in_ok-told.ensures

pub returns-clause-loose : goal.returns-clause-loose
returns-clause-loose c = c.is_some.ensures ∙ ap (λ (t : Told). is_some t.stray) c.in_ok-told.ensures ∙ some_strays (given c.args.view.now c.args.bound.now).strays
