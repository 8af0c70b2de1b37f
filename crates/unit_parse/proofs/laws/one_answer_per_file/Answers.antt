use Rattle.unit_parse.proofs.OneText.{one_answer}
use Rattle.unit_parse.proofs.laws.one_answer_per_file.Goals as goal

pub returns : goal.returns
returns c = one_answer
