use Rattle.std.proofs.Common.{◌≡◌, ◌++◌}
use Rattle.gen_project.specs.Files.{line_each, use_line}
use Rattle.gen_project.proofs.texts.put_uses.Given as goal

abbrev pub invariant-loop-i : goal.invariant-loop-i
invariant-loop-i l = l.out.items ≡ l.initial.out.items ++ line_each use_line l.i
