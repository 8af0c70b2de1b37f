use Rattle.free_scan.proofs.PiecesLaws.{pieces_sound, pieces_complete, front_size, pieces_join}
use Rattle.free_scan.proofs.first_form.token.pieces_are_unique.Goals as goal

pub returns : goal.returns
returns c = record {
  once = λ text ps. (pieces_sound text ps, pieces_complete text ps);
  sized = front_size;
  joined = pieces_join;
}
