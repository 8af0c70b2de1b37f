use Rattle.unit_parse.proofs.OneText.{one_text_answer}
use Rattle.unit_parse.proofs.laws.one_answer_per_text.Goals as goal

pub returns : goal.returns
returns c = one_text_answer
