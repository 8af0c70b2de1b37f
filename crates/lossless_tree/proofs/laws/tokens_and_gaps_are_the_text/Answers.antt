use Rattle.lossless_tree.proofs.Rising.{tokens_rise}
use Rattle.lossless_tree.proofs.Holding.{apart}
use Rattle.lossless_tree.proofs.Turns.{counted, joined, none_empty}
use Rattle.lossless_tree.proofs.laws.tokens_and_gaps_are_the_text.Goals as goal

pub returns : goal.returns
returns c = record {
  rising = tokens_rise;
  counted = counted;
  joined = joined;
  some = none_empty;
  apart = apart;
}
