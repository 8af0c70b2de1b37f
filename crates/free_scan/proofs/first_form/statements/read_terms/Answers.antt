use Rattle.free_scan.proofs.Loops.{odd_row}
use Rattle.free_scan.proofs.first_form.statements.read_terms.Goals as goal

pub returns-in-len1-up : goal.returns-in-len1-up
returns-in-len1-up c = odd_row _ c.loop-rest.terms c.loop-rest.rest.now c.in_default.len_below c.in-len1-up.len_at_least c.loop-rest.invariant
