use Rattle.std.proofs.Common.{◌≡◌, ◌++◌, take}
use Rattle.decl_table.specs.steps.Blocks.{names_of}
use Rattle.decl_table.proofs.block_names.push_names.Given as goal

abbrev pub invariant-loop-unit : goal.invariant-loop-unit
invariant-loop-unit l = l.found.items ≡ l.initial.found.items ++ names_of l.files (take l.unit-index l.units)
