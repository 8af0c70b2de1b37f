use Rattle.gen_project.proofs.Lines.{calls_are}
use Rattle.gen_project.proofs.texts.put_body_of_main.Goals as goal

pub returns : goal.returns
returns c = rw (c.in_ok-extend_from_slice-2.ensures.items, c.in_ok-put_calls.ensures, c.in_ok-extend_from_slice.ensures.items) (calls_are c.args.out.now.items c.args.count)
