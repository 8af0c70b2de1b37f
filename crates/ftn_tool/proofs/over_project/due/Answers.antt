use Rattle.ftn_tool.proofs.Sized.{gives_fit}
use Rattle.ftn_tool.proofs.Sizes.{all_small}
use Rattle.ftn_tool.proofs.over_project.due.Goals as goal

pub verdict_line-requires : goal.verdict_line-requires
verdict_line-requires c = all_small c.args.files.now c.requires.limit

pub returns-clause-fit : goal.returns-clause-fit
returns-clause-fit c = gives_fit c.args.command.now c.args.files.now c.in_ok-verdict.verdict c.requires.sources c.in_ok-verdict.ensures
