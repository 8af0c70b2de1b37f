use Rattle.std.proofs.Common.{◌≡◌, map, take}
use Rattle.ftn_tree.specs.Meanings.{rename_item}
use Rattle.scope_bind.proofs.uses.rename_items.Given as goal

abbrev pub invariant-loop-one : goal.invariant-loop-one
invariant-loop-one l = l.items ≡ map (rename_item l.known.files.now l.file) (take l.one-index l.renames)
