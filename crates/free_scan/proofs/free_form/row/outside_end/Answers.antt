use Rattle.free_scan.proofs.CalmLaws.{calm_end}
use Rattle.free_scan.proofs.free_form.row.outside_end.Goals as goal

pub returns : goal.returns
returns c = calm_end c.args.bytes.now c.calm_len.result c.walked_end.result c.calm_len.ensures.count (rw c.after.ensures at c.walked_end.ensures)
