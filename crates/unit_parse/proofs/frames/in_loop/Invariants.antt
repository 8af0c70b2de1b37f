use Rattle.std.proofs.Common.{◌≡◌, length, reverse}
use Rattle.ftn_tree.specs.Regions as regions
use Rattle.ftn_tree.specs.NestFaults as faults
use Rattle.unit_parse.specs.Taking as spec
use Rattle.unit_parse.proofs.frames.in_loop.Given as goal

-- what is left of the frames decides as all of them do
abbrev pub invariant-loop-frame : goal.invariant-loop-frame
invariant-loop-frame l = regions.in_loop (faults.same_name l.tokens) l.name (spec.path_of (reverse l.fn.frames)) ≡ regions.in_loop (faults.same_name l.tokens) l.name (spec.path_of (reverse l.rest))

abbrev pub decreases-loop-frame : goal.decreases-loop-frame
decreases-loop-frame l = length l.rest
