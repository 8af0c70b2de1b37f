use Rattle.std.proofs.Common.{◌∙◌, ap, subst, Err}
use Rattle.value_ops.specs.Answers.{Makes}
use Rattle.const_expr.specs.FirstTold.{joined}
use Rattle.const_expr.proofs.FaultyOperations.{faulty}
use Rattle.const_expr.proofs.operating.failed.Goals as goal

pub returns-in-Fault : goal.returns-in-Fault
returns-in-Fault c = λ parts due same makes.
    faulty c.args.first parts c.in-Fault.fault due c.args.told c.joined.result same (subst (λ f. Makes due (Err f)) c.in-Fault.is makes)
    (c.joined.ensures ∙ ap (joined c.args.told) c.breach.ensures)
