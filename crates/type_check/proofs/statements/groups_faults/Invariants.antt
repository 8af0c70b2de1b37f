use Rattle.std.proofs.Common.{◌≡◌, List, [], drop}
use Rattle.std.specs.List.{flat_map}
use Rattle.ftn_tree.specs.declared.table.Extent.{Extent}
use Rattle.ftn_tree.specs.declared.unit.FileTree.{FileTree}
use Rattle.ftn_tree.specs.ConstantFaults as constants
use Rattle.type_check.specs.steps.DataRight.{IsDataRight}
use Rattle.type_check.specs.steps.Noted.{first_seen}
use Rattle.type_check.specs.steps.Stated.{noted_groups}
use Rattle.type_check.proofs.statements.groups_faults.Given as goal

abbrev pub invariant-loop-group : goal.invariant-loop-group
invariant-loop-group l =
    (files : List FileTree) (e : Extent) → IsDataRight files e l.setting → flat_map (constants.group_told files e.file) l.groups ≡ []
    → noted_groups files e l.setting (first_seen l.initial.faults) l.groups ≡ noted_groups files e l.setting (first_seen l.faults) (drop l.group-index l.groups)
