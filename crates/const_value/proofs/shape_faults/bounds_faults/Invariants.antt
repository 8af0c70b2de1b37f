use Rattle.std.proofs.Common.{◌≡◌, take}
use Rattle.std.specs.List.{flat_map, list_any}
use Rattle.ftn_tree.specs.Circles.{expressions_of}
use Rattle.const_value.specs.steps.Findings.{gathered}
use Rattle.const_value.specs.steps.Measuring.{given}
use Rattle.const_value.specs.steps.Shaping.{bound_told, is_loose}
use Rattle.const_value.specs.steps.Told.{first_seen}
use Rattle.const_value.proofs.shape_faults.bounds_faults.Given as goal

abbrev pub invariant-loop-pair : goal.invariant-loop-pair
invariant-loop-pair l = record {
  told : first_seen l.faults ≡ gathered (first_seen l.initial.faults)
      (flat_map (bound_told l.view.project.now l.view.file (given l.view) l.of_dummy) (flat_map expressions_of (take l.pair-index l.pairs)));
  loose : l.loose ≡ list_any (is_loose (given l.view)) (take l.pair-index l.pairs);
}
