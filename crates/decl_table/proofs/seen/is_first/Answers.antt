use Rattle.decl_table.proofs.SeenNames.{put_key}
use Rattle.decl_table.proofs.seen.is_first.Goals as goal

pub returns-clause-put : goal.returns-clause-put
returns-clause-put c = λ other. put_key c.args.seen.now.keys c.insert.new.self.keys c.args.name other c.in_ok-insert.ensures.keys
