use Rattle.std.proofs.Common.{◌≡◌, ◌++◌, length, take}
use Rattle.std.specs.List.{flat_map}
use Rattle.plan_file.specs.Plans.{title, count_field, entry}
use Rattle.plan_file.proofs.writing.write_plan.Given as goal

abbrev pub invariant-loop-file : goal.invariant-loop-file
invariant-loop-file l = l.out.items ≡ title ++ count_field (length l.files) ++ flat_map entry (take l.file-index l.files)
