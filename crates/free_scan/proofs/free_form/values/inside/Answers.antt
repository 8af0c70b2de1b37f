use Rattle.std.proofs.Common.{◌≡◌, ◌+◌, true, sym, drop, arith}
use Rattle.ftn_tree.specs.Lines.{begins_with}
use Rattle.ftn_tree.specs.Reading as reading
use Rattle.free_scan.proofs.ConstantLaws.{inside_on, inside_twice, next_within}
use Rattle.free_scan.proofs.free_form.values.inside.Goals as goal

pub bytes-preserved-then-byte-quote : goal.bytes-preserved-then-byte-quote
bytes-preserved-then-byte-quote c =
    let whole = reading.inside c.args.quote c.args.rest.now in
    record {
      goes = rw c.in_ok-push.ensures.items (inside_on whole c.bytes.made.items c.args.quote c.args.rest.now c.bytes.at c.bytes-test.true c.if-byte-quote.true c.bytes.invariant.goes);
      within = omega arith;
    }

pub bytes-preserved : goal.bytes-preserved
bytes-preserved c =
    let whole = reading.inside c.args.quote c.args.rest.now in
    let next : begins_with c.args.quote (drop (c.bytes.at + 1) c.args.rest.now) ≡ true = sym (rw c.after.ensures at c.if-begins_with.ensures) in
    record {
      goes = rw c.in_ok-push-2.ensures.items (inside_twice whole c.bytes.made.items c.args.quote c.args.rest.now c.bytes.at c.bytes-test.true c.if-byte-quote.false next c.bytes.invariant.goes);
      within = next_within c.args.quote c.args.rest.now c.bytes.at next;
    }
