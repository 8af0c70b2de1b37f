-- What is given of a project: the trees of its files (this project's own).
use Rattle.std.specs.Prelude.{ℕ, ◌≤◌, ◌<◌, ◌^◌, List, length}
use Rattle.std.specs.List.{All, sum_by}
use Rattle.ftn_base.specs.Limits.{most_files, most_file_bytes}
use Rattle.ftn_base.specs.declared.name.Edition.{Edition}
use Rattle.ftn_tree.specs.declared.unit.FileTree.{FileTree}
use Rattle.ftn_tree.specs.FileFaults.{IsTreeOf}

-- the tree of some text without faults
abbrev pub IsSomeTree : FileTree → Type 0
IsSomeTree tree = (edition : Edition) × (text : List ℕ) × (length text ≤ most_file_bytes) × IsTreeOf edition text tree

-- a project of files that have trees, within the limits: each statement and each token takes a byte of its texts
pub record AreTrees (files : List FileTree) : Type 0 where
  pub few : length files ≤ most_files
  pub trees : All IsSomeTree files
  pub small : sum_by (λ tree. length tree.statements) files < 2 ^ 28
  pub short : sum_by (λ tree. length tree.tokens.items) files < 2 ^ 28
