use Rattle.std.proofs.Common.{◌≡◌, map, take}
use Rattle.std.specs.List.{flat_map}
use Rattle.ftn_tree.specs.declared.table.Extent.{Extent}
use Rattle.ftn_tree.specs.Extents.{scoping}
use Rattle.ftn_tree.specs.TypeFaults.{finding, scope_told}
use Rattle.type_check.specs.steps.Findings.{gathered}
use Rattle.type_check.specs.steps.Noted.{first_seen}
use Rattle.type_check.proofs.project.all_faults.Given as goal

abbrev pub invariant-loop-at : goal.invariant-loop-at
invariant-loop-at l =
    first_seen l.faults
    ≡ gathered (first_seen l.initial.faults) (flat_map (λ (e : Extent). map (finding e.file) (scope_told l.known.files.now e)) (take l.at (scoping l.known.files.now)))
