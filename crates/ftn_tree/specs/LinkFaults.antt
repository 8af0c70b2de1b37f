-- The first fault of a project whose files are read, in the order of stages (this project's own): of declarations, names, constants and types;
-- of storage; of the main program. Each stage is asked where those before it have no fault.
use Rattle.std.specs.Prelude.{◌≡◌, List, Some, None}
use Rattle.ftn_base.specs.declared.fault.Fault.{Fault}
use Rattle.ftn_tree.specs.declared.unit.FileTree.{FileTree}
use Rattle.ftn_tree.specs.DeclarationFaults.{Finding, fault_of}
use Rattle.ftn_tree.specs.StageFaults.{stage_fault}
use Rattle.ftn_tree.specs.StorageStage.{IsStorageFinding, IsStored}
use Rattle.ftn_tree.specs.MainFaults.{main_fault}

pub data IsLinkFault (files : List FileTree) : Fault → Type 0 where
  of_stage : (fault : Fault) → stage_fault files ≡ Some fault → IsLinkFault files fault
  of_storage : stage_fault files ≡ None → (finding : Finding) → IsStorageFinding files finding → IsLinkFault files (fault_of files finding)
  of_mains : stage_fault files ≡ None → IsStored files → (fault : Fault) → main_fault files ≡ Some fault → IsLinkFault files fault

-- the project has no fault
pub record IsFaultless (files : List FileTree) : Type 0 where
  pub stages : stage_fault files ≡ None
  pub storage : IsStored files
  pub main : main_fault files ≡ None
