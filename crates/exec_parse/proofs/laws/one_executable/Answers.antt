use Rattle.exec_parse.proofs.OneForm.{one_form}
use Rattle.exec_parse.proofs.laws.one_executable.Goals as goal

pub returns : goal.returns
returns c = one_form
