use Rattle.std.proofs.Common.{◌≡◌, ◌+◌, ◌≤◌, length, reverse}
use Rattle.ftn_tree.specs.Regions as regions
use Rattle.unit_parse.specs.Taking as spec
use Rattle.unit_parse.proofs.frames.depth.Given as goal

-- those that were counted, and those among what is left, are all
abbrev pub invariant-loop-frame : goal.invariant-loop-frame
invariant-loop-frame l =
    (regions.depth (spec.path_of (reverse l.fn.frames)) ≡ l.count + regions.depth (spec.path_of (reverse l.rest)))
    × (l.count + length l.rest ≤ length l.fn.frames)

abbrev pub decreases-loop-frame : goal.decreases-loop-frame
decreases-loop-frame l = length l.rest
