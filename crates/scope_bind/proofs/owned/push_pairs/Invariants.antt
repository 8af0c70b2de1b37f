use Rattle.std.proofs.Common.{◌≡◌, ◌++◌, map, take}
use Rattle.scope_bind.specs.steps.Globals.{unit_at}
use Rattle.scope_bind.specs.steps.Owned.{pair_of}
use Rattle.scope_bind.proofs.owned.push_pairs.Given as goal

abbrev pub invariant-loop-one : goal.invariant-loop-one
invariant-loop-one l = l.pairs.items ≡ l.initial.pairs.items ++ map (pair_of l.known.files.now (unit_at l.known.files.now l.scope).file) (take l.one-index l.placed)
