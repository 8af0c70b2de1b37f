use Rattle.std.proofs.Common.{rules, of_calls, sym}
use Rattle.std.proofs.lemmas.Fn.{always_returns_same}
use Rattle.lossless_tree.specs.steps.Edges.{has_ended}
use Rattle.lossless_tree.proofs.Holding.{point_is}
use Rattle.lossless_tree.proofs.text.ended.Goals as goal

pub returns : goal.returns
returns c =
    let point = c.partition_point.ensures.partitioned (has_ended c.args.at) (always_returns_same _ _ _ (λ a r f k. search (rules, of_calls))) c.requires in
    sym (point_is (has_ended c.args.at) c.args.tokens.now c.partition_point.result c.partition_point.ensures.bound point)
