use Rattle.free_scan.proofs.Loops.{short_row}
use Rattle.free_scan.proofs.first_form.statements.read_statement.Goals as goal

pub returns-in_default : goal.returns-in_default
returns-in_default c = short_row c.args.row.now c.in_default.len_below
