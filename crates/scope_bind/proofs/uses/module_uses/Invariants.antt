use Rattle.std.proofs.Common.{◌≡◌, map, take}
use Rattle.ftn_tree.specs.Meanings.{module_numbered}
use Rattle.module_graph.specs.Uses.{used_lists}
use Rattle.scope_bind.specs.steps.Uses.{used_in}
use Rattle.scope_bind.proofs.uses.module_uses.Given as goal

abbrev pub invariant-loop-scope : goal.invariant-loop-scope
invariant-loop-scope l = used_lists l.uses.items ≡ map (used_in l.known.files.now) (take l.scope-index (module_numbered l.known.files.now))
