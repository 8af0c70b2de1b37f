use Rattle.free_scan.proofs.CleanLaws.{print_known}
use Rattle.free_scan.proofs.first_form.clean.knows_statement.Goals as goal

pub returns-in-Print : goal.returns-in-Print
returns-in-Print c = print_known c.args.variables.now c.args.statement.now c.in-Print.items _ _ c.in-Print.is c.as_slice.ensures c.knows_sums.ensures
