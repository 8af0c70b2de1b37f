use Rattle.ftn_tool.proofs.Sized.{one_plan}
use Rattle.ftn_tool.proofs.carry.one_file.Goals as goal

pub returns-clause-valid : goal.returns-clause-valid
returns-clause-valid c = rw (c.in_ok-push.ensures.ok, c.new-files.ensures) (one_plan c.args.name c.args.text c.bytes.ensures.valid c.requires.source c.requires.small)
