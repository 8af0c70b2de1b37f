use Rattle.std.proofs.Common.{rules, of_calls, nat_le, sym}
use Rattle.std.proofs.lemmas.Fn.{always_returns_same}
use Rattle.lossless_tree.proofs.LineStarts.{prefix_from_point}
use Rattle.lossless_tree.proofs.text.count_up_to.Goals as goal

pub returns : goal.returns
returns c =
    let point = c.partition_point.ensures.partitioned (λ start. nat_le start c.args.at) (always_returns_same _ _ _ (λ a r f k. search (rules, of_calls))) c.requires in
    sym (prefix_from_point (λ start. nat_le start c.args.at) c.args.starts.now c.partition_point.result 0 c.partition_point.ensures.bound point)
