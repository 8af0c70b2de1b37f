use Rattle.decl_table.proofs.GlobalPairs.{put_first}
use Rattle.decl_table.proofs.globals.put.Goals as goal

pub returns : goal.returns
returns c = λ other. put_first c.args.named.now.entries c.insert.new.self.entries c.args.name c.args.at other c.in_ok-insert.ensures.entries c.requires
