use Rattle.std.proofs.Common.{None, fold, map}
use Rattle.ftn_tree.specs.ScopeLetters.{put_given, given_range}
use Rattle.decl_table.proofs.Entries.{fold_next}
use Rattle.decl_table.proofs.letters.after_ranges.Goals as goal

pub loop-range-preserved : goal.loop-range-preserved
loop-range-preserved c =
    fold_next put_given (given_range c.args.files.now c.args.file c.args.written.now) c.args.ranges.now c.loop-range.range-index (record { first = 0; last = None })
    (fold put_given c.args.map (map (given_range c.args.files.now c.args.file c.args.written.now) c.args.ranges.now)) c.loop-range.map c.after_range-map.result
    c.loop-range-test.true c.loop-range.invariant c.after_range-map.ensures
