use Rattle.std.proofs.Common.{◌≡◌, map, take}
use Rattle.ftn_tree.specs.Meanings.{only_item}
use Rattle.scope_bind.proofs.uses.only_items.Given as goal

abbrev pub invariant-loop-one : goal.invariant-loop-one
invariant-loop-one l = l.items ≡ map (only_item l.known.files.now l.file) (take l.one-index l.listed)
