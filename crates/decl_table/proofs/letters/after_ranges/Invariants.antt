use Rattle.std.proofs.Common.{◌≡◌, map, drop, fold}
use Rattle.ftn_tree.specs.ScopeLetters.{put_given, given_range}
use Rattle.decl_table.proofs.letters.after_ranges.Given as goal

abbrev pub invariant-loop-range : goal.invariant-loop-range
invariant-loop-range l =
    fold put_given l.initial.map (map (given_range l.files l.file l.written) l.ranges)
    ≡ fold put_given l.map (map (given_range l.files l.file l.written) (drop l.range-index l.ranges))
