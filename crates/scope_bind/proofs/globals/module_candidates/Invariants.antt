use Rattle.std.proofs.Common.{◌≡◌, map, take}
use Rattle.ftn_tree.specs.Meanings.{module_numbered}
use Rattle.scope_bind.specs.steps.Globals.{module_candidate}
use Rattle.scope_bind.proofs.globals.module_candidates.Given as goal

abbrev pub invariant-loop-number : goal.invariant-loop-number
invariant-loop-number l = l.made.items ≡ map (module_candidate l.files) (take l.number-index (module_numbered l.files))
