-- The first fault of a project, as far as its files are read one by one. The order of the files is this project's own.
use Rattle.std.specs.Prelude.{◌≡◌, ℕ, List, ◌∷◌, ◌++◌}
use Rattle.std.specs.List.{All}
use Rattle.ftn_base.specs.Files.{File}
use Rattle.ftn_base.specs.declared.fault.FaultKind.{FaultKind}
use Rattle.ftn_base.specs.declared.name.Edition.{Edition}
use Rattle.ftn_base.specs.declared.place.Range.{Range}
use Rattle.ftn_tree.specs.FileFaults.{IsTextFault, IsTreeOf}
use Rattle.ftn_tree.specs.declared.unit.FileTree.{FileTree}

-- the file is read: its text breaks no rule, and its statements make program units
abbrev pub HasTree : Edition → File → Type 0
HasTree edition file = (tree : FileTree) × IsTreeOf edition file.1 tree

-- The first of these files that isn't read is that one, and its text has that fault first, at those bytes.
pub record IsFirstFault (edition : Edition) (files : List File) (name text : List ℕ) (kind : FaultKind) (bytes : Range) : Type 0 where
  pub before : List File
  pub after : List File
  pub whole : files ≡ before ++ (name, text) ∷ after
  pub read : All (HasTree edition) before
  pub unread : HasTree edition (name, text) → ⊥
  pub fault : IsTextFault edition text kind bytes
