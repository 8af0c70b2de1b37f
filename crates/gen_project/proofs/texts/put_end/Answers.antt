use Rattle.gen_project.proofs.Lines.{end_is}
use Rattle.gen_project.proofs.texts.put_end.Goals as goal

pub returns : goal.returns
returns c = rw (c.in_ok-extend_from_slice.ensures.items, c.in_ok-put-2.ensures, c.in_ok-put.ensures) (end_is c.args.out.now.items c.args.number.now)
