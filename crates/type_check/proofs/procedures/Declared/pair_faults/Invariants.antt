use Rattle.std.proofs.Common.{◌≡◌, List, take, zip}
use Rattle.std.specs.List.{flat_map}
use Rattle.ftn_tree.specs.declared.unit.FileTree.{FileTree}
use Rattle.ftn_tree.specs.KeyKinds.{Datum}
use Rattle.ftn_tree.specs.TypeFaults.{dummy_told}
use Rattle.type_check.specs.steps.Declared.{AreDeclared, AreData}
use Rattle.type_check.specs.steps.Noted.{first_seen, noted}
use Rattle.type_check.proofs.procedures.Declared.pair_faults.Given as goal

abbrev pub invariant-loop-at : goal.invariant-loop-at
invariant-loop-at l =
    (files : List FileTree) (ds others : List Datum) → AreDeclared files l.self → AreData files l.ours ds → AreData files l.theirs others
    → first_seen l.faults ≡ noted l.file (first_seen l.initial.faults) (flat_map (dummy_told files) (take l.at (zip ds others)))
