use Rattle.std.proofs.Common.{map, take}
use Rattle.ftn_tree.specs.declared.unit.Arm.{out-Arm}
use Rattle.ftn_tree.specs.Extents.{layer_at}
use Rattle.const_value.specs.steps.Cases.{ListsAreKept, spans_at}
use Rattle.const_value.specs.steps.Measuring.{given}
use Rattle.const_value.proofs.case_faults.lists_of.Given as goal

abbrev pub invariant-loop-arm : goal.invariant-loop-arm
invariant-loop-arm l = ListsAreKept (map (λ arm. spans_at (given l.view) (layer_at l.view.project.now.files.now l.view.file (out-Arm arm).head)) (take l.arm-index l.arms)) (map (λ list. list.items) l.lists.items)
