-- Where a project has no fault of its modules and names, all its keys have entities, and all its constants have numbers.
use Rattle.std.proofs.Common.{◌≡◌, List, None}
use Rattle.ftn_tree.specs.declared.unit.FileTree.{FileTree}
use Rattle.ftn_tree.specs.NameFaults.{name_fault}
use Rattle.ftn_tree.specs.Projects.{AreTrees}
use Rattle.const_value.specs.steps.Numbered.{AreEntities, AreNumbered}
use Rattle.const_value.proofs.KeysThere.{are_entities, are_numbered}
use Rattle.const_value.proofs.NoBodies.{no_bodies}

pub all_entities : (files : List FileTree) → AreTrees files → name_fault files ≡ None → AreEntities files
all_entities files are no_fault = are_entities files are no_fault (no_bodies files are)

pub all_numbered : (files : List FileTree) → AreTrees files → name_fault files ≡ None → AreNumbered files
all_numbered files are no_fault = are_numbered files are no_fault (no_bodies files are)
