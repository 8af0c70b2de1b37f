use Rattle.std.proofs.Common.{◌≡◌, map, take}
use Rattle.ftn_tree.specs.Sayings.{saying}
use Rattle.decl_table.proofs.sayings.sayings.Given as goal

abbrev pub invariant-loop-mention : goal.invariant-loop-mention
invariant-loop-mention l = l.said.items ≡ map (saying l.files l.file) (take l.mention-index l.mentions)
