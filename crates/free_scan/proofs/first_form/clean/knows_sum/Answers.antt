use Rattle.std.proofs.Common.{sym}
use Rattle.free_scan.proofs.CleanLaws.{sum_known}
use Rattle.free_scan.proofs.first_form.clean.knows_sum.Goals as goal

pub returns-then-knows_operand : goal.returns-then-knows_operand
returns-then-knows_operand c = sum_known c.args.variables.now c.args.sum.now _ _ (sym c.if-knows_operand.ensures) c.as_slice.ensures c.knows_terms.ensures
