use Rattle.std.proofs.Common.{◌≡◌, map}
use Rattle.std.specs.List.{range_with_len}
use Rattle.gen_project.specs.Files.{module_file}
use Rattle.gen_project.proofs.project.make.Given as goal

abbrev pub invariant-loop-i : goal.invariant-loop-i
invariant-loop-i l = l.files.items ≡ map (module_file l.seed) (range_with_len 0 l.i)
