use Rattle.std.proofs.Common.{◌≤◌, length, sym, arith}
use Rattle.free_scan.proofs.PieceLaws.{len_within}
use Rattle.free_scan.proofs.free_form.pieces.constant_at.Goals as goal

pub overflow_add-result : goal.overflow_add-result
overflow_add-result c =
    let within : c.in-Some.size ≤ length c.args.rest.now = len_within c.args.quote c.args.rest.now c.in-Some.size (sym c.in-Some.ensures) in
    omega arith
