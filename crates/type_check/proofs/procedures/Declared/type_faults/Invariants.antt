use Rattle.std.proofs.Common.{◌≡◌, ℕ, List, take}
use Rattle.std.specs.Borrow.{Bor}
use Rattle.std.specs.List.{flat_map}
use Rattle.ftn_tree.specs.TypeFaults.{type_told}
use Rattle.type_check.specs.steps.Noted.{first_seen, noted}
use Rattle.type_check.proofs.procedures.Declared.type_faults.Given as goal

abbrev pub invariant-loop-name : goal.invariant-loop-name
invariant-loop-name l =
    first_seen l.faults ≡ noted l.e.file (first_seen l.initial.faults) (flat_map (λ (name : Bor (List ℕ)). type_told l.files l.e name.now) (take l.name-index l.name-items))
