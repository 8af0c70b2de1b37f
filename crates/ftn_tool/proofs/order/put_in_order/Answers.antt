use Rattle.std.specs.Prelude.{nat_eq}
use Rattle.std.specs.Cmp.Lexicographic.{pointwise}
use Rattle.std.proofs.lemmas.List.Filters.{dedup_is}
use Rattle.ftn_tool.proofs.Rising.{dropped_had, dropped_keep, dropped_rise}
use Rattle.ftn_tool.proofs.order.put_in_order.Goals as goal

pub returns-clause-in_order : goal.returns-clause-in_order
returns-clause-in_order c =
    dropped_rise c.args.names.now.items c.sort_unstable.new.self.items c.dedup.new.self.items
    (dedup_is (pointwise nat_eq) c.sort_unstable.new.self.items c.dedup.new.self.items c.dedup.ensures.filtered) c.sort_unstable.ensures.sorted

pub returns-clause-kept : goal.returns-clause-kept
returns-clause-kept c =
    dropped_keep c.args.names.now.items c.sort_unstable.new.self.items c.dedup.new.self.items
    (dedup_is (pointwise nat_eq) c.sort_unstable.new.self.items c.dedup.new.self.items c.dedup.ensures.filtered) c.sort_unstable.ensures.permutation

pub returns-clause-no_more : goal.returns-clause-no_more
returns-clause-no_more c =
    dropped_had c.args.names.now.items c.sort_unstable.new.self.items c.dedup.new.self.items
    (dedup_is (pointwise nat_eq) c.sort_unstable.new.self.items c.dedup.new.self.items c.dedup.ensures.filtered) c.sort_unstable.ensures.permutation
