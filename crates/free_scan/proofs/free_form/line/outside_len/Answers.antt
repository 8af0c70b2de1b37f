use Rattle.free_scan.proofs.CalmLaws.{calm_sum}
use Rattle.free_scan.proofs.free_form.line.outside_len.Goals as goal

pub returns-clause-count : goal.returns-clause-count
returns-clause-count c = calm_sum c.args.bytes.now c.calm_len-calm.result c.walked_len.result c.calm_len-calm.ensures.count (rw c.after.ensures at c.walked_len.ensures.count)
