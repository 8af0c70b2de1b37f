use Rattle.std.proofs.Common.{take}
use Rattle.storage_layout.specs.steps.Numbered.{AreBlocksOf}
use Rattle.storage_layout.proofs.laying.blocks_of.Given as goal

abbrev pub invariant-loop-number : goal.invariant-loop-number
invariant-loop-number l = AreBlocksOf l.things.objects (take l.number l.things.names.items) l.found.class.items l.found.size.items l.block.items
