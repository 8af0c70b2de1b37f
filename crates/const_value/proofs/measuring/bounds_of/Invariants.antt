use Rattle.std.proofs.Common.{◌≡◌, ◌||◌, drop}
use Rattle.std.specs.List.{list_any}
use Rattle.ftn_tree.specs.Constants.{all_pairs, is_empty_pair}
use Rattle.const_value.specs.steps.Measuring.{given, pairs_of}
use Rattle.const_value.proofs.PairTurns.{all_after}
use Rattle.const_value.proofs.measuring.bounds_of.Given as goal

abbrev pub invariant-loop-pair : goal.invariant-loop-pair
invariant-loop-pair l = record {
  bounds : all_pairs (pairs_of (given l.view) l.pairs) ≡ all_after l.known (pairs_of (given l.view) (drop l.pair-index l.pairs));
  empty : list_any is_empty_pair (pairs_of (given l.view) l.pairs) ≡ (l.empty || list_any is_empty_pair (pairs_of (given l.view) (drop l.pair-index l.pairs)));
}
