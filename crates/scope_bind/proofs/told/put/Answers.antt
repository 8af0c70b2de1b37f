use Rattle.decl_table.proofs.KnownNames.{or_put}
use Rattle.scope_bind.proofs.told.put.Goals as goal

pub returns : goal.returns
returns c = λ other. or_put c.args.names.now.entries c.insert.new.self.entries c.args.name c.args.told _ other c.in_ok-insert.ensures.entries
