-- What is kept of a project without earlier faults, and of its names seen from a scoping unit. It serves the proof alone.
use Rattle.std.specs.Prelude.{◌≡◌, List, None}
use Rattle.ftn_tree.specs.declared.table.Extent.{Extent}
use Rattle.ftn_tree.specs.declared.unit.FileTree.{FileTree}
use Rattle.ftn_tree.specs.ConstantFaults.{constant_fault}
use Rattle.ftn_tree.specs.DeclarationFaults.{declaration_fault}
use Rattle.ftn_tree.specs.NameFaults.{name_fault}
use Rattle.ftn_tree.specs.Projects.{AreTrees}
use Rattle.decl_table.specs.steps.Located.{IsScoping}
use Rattle.name_types.specs.declared.names.Setting.{Setting}
use Rattle.type_check.specs.declared.project.Known.{Known}
use Rattle.type_check.specs.steps.DataRight.{IsDataRight}
use Rattle.type_check.specs.steps.Declared.{AreDeclared}
use Rattle.name_types.specs.steps.Gathered.{AreNames}
use Rattle.name_types.specs.steps.Senses.{IsRight}

-- for expressions and for DATA
pub record IsSettled (files : List FileTree) (e : Extent) (s : Setting) : Type 0 where
  pub right : IsRight files e s
  pub of_data : IsDataRight files e s

pub record IsKnown (known : Known) : Type 0 where
  pub trees : AreTrees known.files.now
  pub declared : declaration_fault known.files.now ≡ None
  pub faultless : name_fault known.files.now ≡ None
  pub constants : constant_fault known.files.now ≡ None
  pub scoping : IsScoping known.files.now known.scoping.now
  pub names : AreNames known.files.now known.names.now
  pub procedures : AreDeclared known.files.now known.declared.now
