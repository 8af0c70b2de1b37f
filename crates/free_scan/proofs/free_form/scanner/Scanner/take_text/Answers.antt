use Rattle.std.proofs.Common.{get_or, arith, ◌∙◌}
use Rattle.free_scan.proofs.ScanLaws.{within_more, within_taken, taken_step, wrong_step, open_step, cut_step}
use Rattle.free_scan.proofs.free_form.scanner.Scanner.take_text.Goals as goal

pub take-requires-clause-few : goal.take-requires-clause-few
take-requires-clause-few c = within_more c.loop-byte.next 2147483647 c.loop-byte.self (omega (arith, c.loop-byte.invariant.next, c.loop-byte-test.true, c.requires.few)) c.loop-byte.invariant.within

pub loop-byte-preserved : goal.loop-byte-preserved
loop-byte-preserved c = record {
  next = omega (arith, c.loop-byte.invariant.next);
  within = rw c.in_ok-take.ensures (within_taken c.loop-byte.next (get_or c.args.bytes.now c.loop-byte.byte-index 0) c.loop-byte.self c.loop-byte.open (record { at = c.loop-byte.next; line = c.args.line }) c.loop-byte.invariant.within);
  state = rw (c.in_ok-take.ensures, c.quote_after-open.ensures) (c.loop-byte.invariant.state ∙ taken_step c.loop-byte.self c.loop-byte.open c.args.line c.loop-byte.next c.loop-byte.byte-index c.args.bytes.now c.loop-byte-test.true);
  code = rw (c.note_if.ensures, c.is_wrong.ensures, c.quote_after-open.ensures) (c.loop-byte.invariant.code ∙ wrong_step c.loop-byte.code c.loop-byte.open c.loop-byte.next c.loop-byte.byte-index c.args.bytes.now c.loop-byte-test.true);
  quote = rw c.quote_after-open.ensures (c.loop-byte.invariant.quote ∙ open_step c.loop-byte.open c.loop-byte.byte-index c.args.bytes.now c.loop-byte-test.true);
  cut = rw (c.ends_statement-is_cut.ensures, c.quote_after-open.ensures) (c.loop-byte.invariant.cut ∙ cut_step c.loop-byte.is_cut c.loop-byte.open c.args.line c.loop-byte.next c.loop-byte.byte-index c.args.bytes.now c.loop-byte-test.true);
}
