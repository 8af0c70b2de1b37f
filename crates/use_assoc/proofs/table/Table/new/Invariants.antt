use Rattle.std.proofs.Common.{◌≡◌, ℕ, List, ◌++◌, drop}
use Rattle.ftn_base.specs.Accessible.{entities_of}
use Rattle.use_assoc.specs.steps.Table.{found_in}
use Rattle.use_assoc.proofs.table.Table.new.Given as goal

abbrev pub invariant-loop-pair : goal.invariant-loop-pair
invariant-loop-pair l = (name : List ℕ) → entities_of l.pairs name ≡ found_in l.table.by_name name ++ entities_of (drop l.pair-index l.pairs) name
