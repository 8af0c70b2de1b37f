-- The trees of a project within the limits have few enough names and entities.
use Rattle.std.proofs.Common.{◌≡◌, ◌+◌, ◌*◌, ◌<◌, ◌^◌, List, length, arith}
use Rattle.ftn_tree.specs.declared.unit.FileTree.{FileTree}
use Rattle.ftn_tree.specs.DeclaredEntities.{occurrences_of}
use Rattle.ftn_tree.specs.Extents.{scoping}
use Rattle.ftn_tree.specs.Projects.{AreTrees}
use Rattle.scope_bind.specs.steps.Small.{IsSmall}
use Rattle.scope_bind.proofs.EntitiesFew.{units_small, entities_small}
use Rattle.scope_bind.proofs.NamesFew.{names_at, names_few, occurrences_count}
use Rattle.scope_bind.proofs.StatementTotals.{whole}

pub trees_small : (files : List FileTree) → AreTrees files → IsSmall files
trees_small files are = record { names = names; entities = entities_small files are } where
  names : length (scoping files) + 3 * length (occurrences_of files) < 2 ^ 32
  names =
      let units : length (scoping files) < 2 ^ 28 = units_small files are in
      let count : length (occurrences_of files) ≡ whole files (names_at files) = occurrences_count files in
      let few : whole files (names_at files) < 2 ^ 28 = names_few files are in
      omega (arith, units, count, few)
