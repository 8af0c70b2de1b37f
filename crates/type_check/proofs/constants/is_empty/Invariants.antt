use Rattle.std.proofs.Common.{◌≡◌, false, Some, take}
use Rattle.std.specs.List.{list_any}
use Rattle.ftn_tree.specs.Constants.{is_empty_pair}
use Rattle.type_check.proofs.constants.is_empty.Given as goal

abbrev pub invariant-loop-pair : goal.invariant-loop-pair
invariant-loop-pair l = list_any (λ pair. is_empty_pair (Some pair)) (take l.pair-index l.pairs) ≡ false
