use Rattle.std.proofs.Common.{◌≡◌, ◌++◌, take}
use Rattle.decl_table.specs.steps.Blocks.{slashes}
use Rattle.decl_table.proofs.block_names.push_slashes.Given as goal

abbrev pub invariant-loop-mention : goal.invariant-loop-mention
invariant-loop-mention l = l.found.items ≡ l.initial.found.items ++ slashes l.file (take l.mention-index l.mentions)
