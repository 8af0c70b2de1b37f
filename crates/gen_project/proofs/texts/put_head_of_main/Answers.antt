use Rattle.gen_project.proofs.Lines.{uses_are}
use Rattle.gen_project.proofs.texts.put_head_of_main.Goals as goal

pub returns : goal.returns
returns c = rw (c.in_ok-extend_from_slice-2.ensures.items, c.in_ok-put_uses.ensures, c.in_ok-extend_from_slice.ensures.items) (uses_are c.args.out.now.items c.args.count)
