use Rattle.free_scan.proofs.PieceLaws.{pieces_sound, pieces_complete, front_size, pieces_join}
use Rattle.free_scan.proofs.free_form.pieces.one_row_of_pieces.Goals as goal

pub returns : goal.returns
returns c = record {
  once = λ text row. (pieces_sound text row, pieces_complete text row);
  sized = front_size;
  joined = pieces_join;
}
