use Rattle.plan_file.proofs.Rows.{no_proper_front}
use Rattle.plan_file.proofs.reading.plan_texts_stay_apart.Goals as goal

pub returns : goal.returns
returns c = no_proper_front
