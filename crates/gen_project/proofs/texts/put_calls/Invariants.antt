use Rattle.std.proofs.Common.{◌≡◌, ◌++◌}
use Rattle.gen_project.specs.Files.{line_each, call_line}
use Rattle.gen_project.proofs.texts.put_calls.Given as goal

abbrev pub invariant-loop-i : goal.invariant-loop-i
invariant-loop-i l = l.out.items ≡ l.initial.out.items ++ line_each call_line l.i
