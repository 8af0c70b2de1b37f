use Rattle.std.proofs.Common.{◌≡◌, ◌+◌, ◌++◌, ◌≤◌, length, drop, get_or}
use Rattle.ftn_tree.specs.Breaks.{piece_breaches}
use Rattle.ftn_tree.specs.Pieces.{front}
use Rattle.ftn_tree.specs.Reading.{over_run, token_of}
use Rattle.free_scan.specs.steps.Firsts.{least}
use Rattle.free_scan.proofs.RunSteps.{items_on, firsts_on, ends_within}
use Rattle.free_scan.proofs.free_form.run.read_run.Goals as goal

pub pieces-preserved : goal.pieces-preserved
pieces-preserved c =
    let bytes = c.args.bytes.now in
    let spots = c.args.spots.now in
    let piece = c.front-kind.result in
    let is : piece ≡ front (get_or bytes c.pieces.at 0) (drop (c.pieces.at + 1) bytes) = rw c.after.ensures at c.front-kind.ensures.piece in
    let most : piece.1 ≤ length (drop (c.pieces.at + 1) bytes) + 1 = rw c.after.ensures at c.front-kind.ensures.size.1 in
    record {
      items = items_on token_of (c.args.items.now ++ over_run token_of bytes spots) c.pieces.items c.keep_token.new.items bytes spots c.pieces.at piece c.pieces-test.true is c.in_ok-keep_token.ensures c.pieces.invariant.items;
      firsts = firsts_on (piece_breaches c.args.edition) (least c.args.firsts.now (over_run (piece_breaches c.args.edition) bytes spots)) c.pieces.firsts c.note_breaches.new.firsts bytes spots c.pieces.at piece c.pieces-test.true is c.note_breaches.ensures c.pieces.invariant.firsts;
      within = ends_within bytes c.pieces.at piece.1 c.pieces-test.true most;
    }
