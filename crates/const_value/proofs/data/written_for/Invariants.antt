use Rattle.std.proofs.Common.{◌≡◌, ◌++◌, map, take, drop}
use Rattle.std.specs.List.{flat_map}
use Rattle.ftn_tree.specs.Extents.{scoping}
use Rattle.ftn_tree.specs.KeyKinds.{Datum}
use Rattle.const_value.specs.steps.Names.{data_in}
use Rattle.const_value.specs.steps.Written.{nothing, written_of, written_seen}
use Rattle.const_value.proofs.data.written_for.Given as goal

abbrev pub invariant-loop-unit : goal.invariant-loop-unit
invariant-loop-unit l = record {
  at : l.number ≡ l.unit-index;
  written : map written_seen l.written.items
      ≡ map (written_of l.files) (flat_map (data_in l.files) (take l.unit-index (scoping l.files)))
      ++ map (λ (d : Datum). nothing) (flat_map (data_in l.files) (drop l.unit-index (scoping l.files)));
}
