use Rattle.std.proofs.Common.{arith, sym, ◌≤◌, ◌-◌, length, take, drop}
use Rattle.free_scan.proofs.ScanSteps.{at_start, stops_at, step_at, within_text}
use Rattle.free_scan.proofs.first_form.token.scan.Goals as goal

pub pieces-init : goal.pieces-init
pieces-init c = record { goes = rw c.new-found.ensures.items (at_start c.args.text.now); within = omega arith; line = omega arith }

pub returns-in_default : goal.returns-in_default
returns-in_default c = stops_at c.args.text.now c.pieces.found.items c.pieces.at c.pieces.line c.pieces-test.true (sym c.in_default.ensures.piece) c.pieces.invariant.goes

pub pieces-preserved : goal.pieces-preserved
pieces-preserved c =
    let size : (1 ≤ c.in-Some.size) × (c.in-Some.size ≤ length (take (length c.args.text.now - c.pieces.at) (drop c.pieces.at c.args.text.now))) = c.in-Some.ensures.size in
    let least : 1 ≤ c.in-Some.size = size.0 in
    record {
      goes = step_at c.args.text.now c.pieces.found.items c.keep.new.found.items c.pieces.at c.pieces.line c.line_after-line.result c.in-Some.kind c.in-Some.size c.pieces-test.true (sym c.in-Some.ensures.piece) c.in_ok-keep.ensures c.line_after-line.ensures.line c.pieces.invariant.goes;
      within = within_text c.args.text.now c.pieces.at c.in-Some.size c.pieces-test.true size.1;
      line = omega (arith, least, c.line_after-line.ensures.next);
    }
