-- The first fault of a project, as far as its stages are built (this project's own): its files are read one by one, and then one looks at their
-- declarations, then at its modules and names, and then at its constants and shapes. A stage that isn't built finds no fault.
use Rattle.std.specs.Prelude.{◌≡◌, ◌⊎◌, ℕ, List, [], ◌∷◌, length, Option, Some, None}
use Rattle.std.specs.List.{sum_by}
use Rattle.std.specs.Option.{option_or}
use Rattle.ftn_base.specs.Files.{File}
use Rattle.ftn_base.specs.declared.fault.Fault.{Fault}
use Rattle.ftn_base.specs.declared.name.Edition.{Edition}
use Rattle.ftn_base.specs.declared.place.Range.{Range}
use Rattle.ftn_tree.specs.ConstantFaults.{constant_fault}
use Rattle.ftn_tree.specs.DeclarationFaults.{declaration_fault}
use Rattle.ftn_tree.specs.FileFaults.{IsTreeOf}
use Rattle.ftn_tree.specs.NameFaults.{name_fault}
use Rattle.ftn_tree.specs.ProjectFaults.{IsFirstFault}
use Rattle.ftn_tree.specs.declared.unit.FileTree.{FileTree}

-- the trees of these files, in their order
abbrev pub AreTreesOf : Edition → List File → List FileTree → Type 0
AreTreesOf edition [] [] = Unit {0}
AreTreesOf edition [] (tree ∷ trees) = ⊥
AreTreesOf edition (file ∷ files) [] = ⊥
AreTreesOf edition (file ∷ files) (tree ∷ trees) = IsTreeOf edition file.1 tree × AreTreesOf edition files trees

-- the first fault of the stages that come after the reading of files, as far as they are built
abbrev pub built_fault : List FileTree → Option Fault
built_fault trees = option_or (declaration_fault trees) (option_or (name_fault trees) (constant_fault trees))

abbrev pub AreSoundTrees : Edition → List File → List FileTree → Type 0
AreSoundTrees edition files trees = AreTreesOf edition files trees × (built_fault trees ≡ None)

-- all files are read, and no stage that is built finds a fault
abbrev pub IsSound : Edition → List File → Type 0
IsSound edition files = (trees : List FileTree) × AreSoundTrees edition files trees

-- the first of the files that isn't read has this fault first; files are numbered from 0
pub record IsUnreadFault (edition : Edition) (files : List File) (fault : Fault) : Type 0 where
  pub name : List ℕ
  pub text : List ℕ
  pub bytes : Range
  pub first : IsFirstFault edition files name text fault.kind bytes
  pub span : fault.span ≡ Some (record { file = length first.before; range = bytes })
  pub alone : fault.other ≡ None

-- this is the first fault of the project
abbrev pub IsProjectFault : Edition → List File → Fault → Type 0
IsProjectFault edition files fault =
    IsUnreadFault edition files fault ⊎ ((trees : List FileTree) × AreTreesOf edition files trees × (built_fault trees ≡ Some fault))

-- how many program units there are in these files
abbrev pub units_of : List FileTree → ℕ
units_of trees = sum_by (λ tree. length tree.units) trees
