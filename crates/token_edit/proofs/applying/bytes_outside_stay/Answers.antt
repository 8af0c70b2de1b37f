use Rattle.token_edit.proofs.Outside.{outside_stay}
use Rattle.token_edit.proofs.applying.bytes_outside_stay.Goals as goal

pub returns : goal.returns
returns c = outside_stay
