use Rattle.free_scan.proofs.PieceLaws.{sized}
use Rattle.free_scan.proofs.free_form.pieces.front.Goals as goal

pub returns-clause-size : goal.returns-clause-size
returns-clause-size c = sized c.args.first c.args.rest.now c.piece_at.result c.piece_at.ensures
