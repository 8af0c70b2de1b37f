-- How many names 32 bits can number (this project's own).
use Rattle.std.specs.Prelude.{ℕ, ◌+◌, ◌*◌, ◌<◌, ◌^◌, List, length}
use Rattle.ftn_tree.specs.declared.unit.FileTree.{FileTree}
use Rattle.ftn_tree.specs.Extents.{scoping}
use Rattle.ftn_tree.specs.DeclaredEntities.{occurrences_of}
use Rattle.ftn_tree.specs.Bindings.{bound_entities}

-- its scoping units and occurrences of names, and its entities, can be numbered
pub record IsSmall (files : List FileTree) : Type 0 where
  pub names : length (scoping files) + 3 * length (occurrences_of files) < 2 ^ 32
  pub entities : length (bound_entities files) < 2 ^ 32
