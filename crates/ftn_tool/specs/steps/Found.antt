-- What is found in files one after another. This serves the proof of the code.
use Rattle.std.specs.Prelude.{ℕ, List, Some, None}
use Rattle.ftn_base.specs.Files.{File}
use Rattle.ftn_base.specs.declared.fault.Fault.{Fault}
use Rattle.ftn_base.specs.declared.fault.FaultKind.{FaultKind}
use Rattle.ftn_base.specs.declared.name.Edition.{Edition}
use Rattle.ftn_base.specs.declared.place.Range.{Range}
use Rattle.ftn_tree.specs.FileFaults.{IsTextFault, IsTreeOf}
use Rattle.ftn_tree.specs.declared.table.TableFault.{TableFault}
use Rattle.ftn_tree.specs.declared.table.TableFault.TheVariants as table_fault
use Rattle.ftn_tree.specs.declared.unit.FileTree.{FileTree}
use Rattle.unit_parse.specs.declared.fault.ParseFault.{ParseFault}
use Rattle.unit_parse.specs.declared.fault.ParseFault.TheVariants as parse_fault
use Rattle.ftn_tool.specs.BuiltFaults.{IsProjectFault, IsUnreadFault}

-- the text has no tree, and this fault first
abbrev pub IsUnread : Edition → List ℕ → ParseFault → Type 0
IsUnread edition text (parse_fault.At kind range) = IsTextFault edition text kind range × ((tree : FileTree) → IsTreeOf edition text tree → ⊥)
IsUnread edition text parse_fault.NoMemory = Unit {0}

abbrev pub fault_in : ℕ → FaultKind → Range → Fault
fault_in file kind range = record { kind = kind; span = Some (record { file = file; range = range }); other = None }

-- why the file of that number isn't read
abbrev pub told_in : ℕ → ParseFault → TableFault
told_in file (parse_fault.At kind range) = table_fault.Project (fault_in file kind range)
told_in file parse_fault.NoMemory = table_fault.NoMemory

abbrev pub IsToldUnread : Edition → List File → TableFault → Type 0
IsToldUnread edition files (table_fault.Project fault) = IsUnreadFault edition files fault
IsToldUnread edition files table_fault.NoMemory = Unit {0}

abbrev pub IsTold : Edition → List File → TableFault → Type 0
IsTold edition files (table_fault.Project fault) = IsProjectFault edition files fault
IsTold edition files table_fault.NoMemory = Unit {0}
