use Rattle.spec_parse.proofs.OneForm.{one_form}
use Rattle.spec_parse.proofs.laws.one_specification.Goals as goal

pub returns : goal.returns
returns c = one_form
