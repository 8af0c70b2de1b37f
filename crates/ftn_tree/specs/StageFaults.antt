-- The first fault of a project whose files are read, in the order of stages (this project's own): of its declarations; of modules and names; of
-- constants and shapes; of types. Each stage is asked where those before it have no fault.
use Rattle.std.specs.Prelude.{List, Option}
use Rattle.std.specs.Option.{option_or}
use Rattle.ftn_base.specs.declared.fault.Fault.{Fault}
use Rattle.ftn_tree.specs.declared.unit.FileTree.{FileTree}
use Rattle.ftn_tree.specs.DeclarationFaults.{declaration_fault}
use Rattle.ftn_tree.specs.NameFaults.{name_fault}
use Rattle.ftn_tree.specs.ConstantFaults.{constant_fault}
use Rattle.ftn_tree.specs.TypeFaults.{type_fault}

abbrev pub stage_fault : List FileTree → Option Fault
stage_fault files = option_or (declaration_fault files) (option_or (name_fault files) (option_or (constant_fault files) (type_fault files)))
