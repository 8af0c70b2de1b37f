use Rattle.spec_parse.proofs.Judging.{fitting}
use Rattle.spec_parse.proofs.specifications.fitting_specification.Goals as goal

pub returns : goal.returns
returns c = fitting c.args.cursor.now.at c.args.cursor.now.rest c.read_statement.result c.read_statement.new.cursor c.requires c.read_statement.ensures
