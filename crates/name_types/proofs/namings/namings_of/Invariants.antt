use Rattle.std.proofs.Common.{◌≡◌, ℕ, length, slice_get, Some}
use Rattle.ftn_tree.specs.declared.table.Entity.{Entity}
use Rattle.name_types.specs.declared.names.Naming.{Naming}
use Rattle.name_types.specs.steps.Namings.{IsKept}
use Rattle.name_types.proofs.namings.namings_of.Given as goal

abbrev pub invariant-loop-entity : goal.invariant-loop-entity
invariant-loop-entity l = record {
  long : length l.namings.items ≡ l.entity-index;
  each : (n : ℕ) (entity : Entity) (naming : Naming) → slice_get l.entity-items n ≡ Some entity → slice_get l.namings.items n ≡ Some naming → IsKept l.files l.declared entity naming;
}
