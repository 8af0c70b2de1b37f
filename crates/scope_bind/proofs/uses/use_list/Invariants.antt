use Rattle.std.proofs.Common.{◌≡◌, take}
use Rattle.std.specs.List.{flat_map}
use Rattle.ftn_tree.specs.Extents.{layer_at}
use Rattle.ftn_tree.specs.Meanings.{use_at}
use Rattle.scope_bind.proofs.uses.use_list.Given as goal

abbrev pub invariant-loop-statement : goal.invariant-loop-statement
invariant-loop-statement l =
    l.lists.items ≡ flat_map (λ statement. use_at l.known.files.now l.unit.file (layer_at l.known.files.now l.unit.file statement)) (take l.statement-index l.statement-items)
