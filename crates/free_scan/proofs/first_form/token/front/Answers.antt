use Rattle.free_scan.proofs.PiecesLaws.{first_sized}
use Rattle.free_scan.proofs.first_form.token.front.Goals as goal

pub returns-in-len1-up-clause-size : goal.returns-in-len1-up-clause-size
returns-in-len1-up-clause-size c = first_sized c.args.text.now c.piece_at.result c.in-len1-up.len_at_least c.piece_at.ensures
