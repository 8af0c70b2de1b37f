use Rattle.std.specs.Prelude.{nat_le}
use Rattle.std.proofs.Common.{rules}
use Rattle.std.proofs.lemmas.List.Sorted.{IsPartitionedBy-leb, IsPartitionPoint-from_clause}
use Rattle.const_value.specs.declared.intervals.Reach.{Reach}
use Rattle.const_value.proofs.Reaches.{points_none, points_some, sorted_rises}
use Rattle.const_value.proofs.intervals.meets_one.Goals as goal

pub returns-then-count-gt0 : goal.returns-then-count-gt0
returns-then-count-gt0 c = λ ends rising same.
    let sorted = c.args.sorted.now in
    let high = c.args.span.now.high in
    points_some c.args.span.now sorted ends c.partition_point-count.result rising same c.partition_point-count.ensures.bound
    (IsPartitionPoint-from_clause (λ (r : Reach). nat_le r.low high) sorted c.partition_point-count.result c.partition_point-count.ensures.partitioned
    (IsPartitionedBy-leb (λ (r : Reach). r.low) sorted high (sorted_rises sorted ends rising same)) (λ a r f k. search rules))
    (record { low = 0; high = 0 }) c.if-count-gt0.true

pub returns-else-count-gt0 : goal.returns-else-count-gt0
returns-else-count-gt0 c = λ ends rising same.
    let sorted = c.args.sorted.now in
    let high = c.args.span.now.high in
    points_none c.args.span.now sorted ends c.partition_point-count.result rising same c.partition_point-count.ensures.bound
    (IsPartitionPoint-from_clause (λ (r : Reach). nat_le r.low high) sorted c.partition_point-count.result c.partition_point-count.ensures.partitioned
    (IsPartitionedBy-leb (λ (r : Reach). r.low) sorted high (sorted_rises sorted ends rising same)) (λ a r f k. search rules))
    (record { low = 0; high = 0 }) c.if-count-gt0.false
