use Rattle.std.proofs.Common.{◌≡◌, ◌<◌, ℕ, length, Some}
use Rattle.std.specs.Prelude.{slice_get}
use Rattle.ftn_tree.specs.declared.table.Extent.{Extent}
use Rattle.ftn_tree.specs.Extents.{scoping}
use Rattle.scope_bind.specs.declared.names.Names.{Names}
use Rattle.scope_bind.specs.steps.Known.{AreNames}
use Rattle.scope_bind.proofs.known.all_names.Given as goal

abbrev pub invariant-loop-unit : goal.invariant-loop-unit
invariant-loop-unit l = record {
  at : l.at ≡ l.unit-index;
  count : length l.made.items ≡ l.unit-index;
  each : (at : ℕ) (e : Extent) (n : Names) → slice_get (scoping l.files) at ≡ Some e → slice_get l.made.items at ≡ Some n → AreNames l.files e n;
}
