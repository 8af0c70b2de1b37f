use Rattle.std.proofs.Common.{◌≡◌, ◌<◌, ℕ, nat_eq, take}
use Rattle.indexmap.specs.IndexMap.{get}
use Rattle.storage_layout.specs.steps.EndTable.{end_in}
use Rattle.storage_layout.specs.steps.Ends.{IsUneven, first_of}
use Rattle.storage_layout.proofs.common_size.odd_list.Given as goal

abbrev pub invariant-loop-number : goal.invariant-loop-number
invariant-loop-number l = record {
  firsts : (block : ℕ) → get nat_eq l.firsts block ≡ first_of block (take l.number l.blocks);
  none : (earlier : ℕ) → earlier < l.number → IsUneven l.blocks (end_in l.ends.ends) earlier → ⊥;
}
