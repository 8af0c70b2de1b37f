use Rattle.list_io.proofs.Written.{items_are_read_back}
use Rattle.list_io.proofs.reading.items_are_read_back.Goals as goal

pub returns : goal.returns
returns c = items_are_read_back
