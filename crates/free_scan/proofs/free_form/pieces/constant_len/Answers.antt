use Rattle.std.proofs.Common.{◌≡◌, ◌+◌, true, sym, drop, arith}
use Rattle.ftn_tree.specs.Lines.{begins_with}
use Rattle.ftn_tree.specs.Pieces as pieces
use Rattle.free_scan.proofs.ConstantLaws.{len_on, len_twice, next_within}
use Rattle.free_scan.proofs.free_form.pieces.constant_len.Goals as goal

pub bytes-preserved-then-rest-at : goal.bytes-preserved-then-rest-at
bytes-preserved-then-rest-at c =
    let whole = pieces.constant_len c.args.quote c.args.rest.now in
    record {
      goes = len_on whole c.args.quote c.args.rest.now c.bytes.at c.bytes-test.true c.if-rest-at.true c.bytes.invariant.goes;
      within = omega arith;
    }

pub bytes-preserved : goal.bytes-preserved
bytes-preserved c =
    let whole = pieces.constant_len c.args.quote c.args.rest.now in
    let next : begins_with c.args.quote (drop (c.bytes.at + 1) c.args.rest.now) ≡ true = sym (rw c.after.ensures at c.if-begins_with.ensures) in
    record {
      goes = len_twice whole c.args.quote c.args.rest.now c.bytes.at c.bytes-test.true c.if-rest-at.false next c.bytes.invariant.goes;
      within = next_within c.args.quote c.args.rest.now c.bytes.at next;
    }
