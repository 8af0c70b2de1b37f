use Rattle.std.proofs.Common.{◌≡◌, ◌++◌, map, drop}
use Rattle.name_types.specs.steps.Kinds.{signature_seen}
use Rattle.name_types.specs.steps.Signatures.{signatures_from}
use Rattle.name_types.proofs.signatures.signatures_of.Given as goal

abbrev pub invariant-loop-unit : goal.invariant-loop-unit
invariant-loop-unit l = record {
  at : l.scope ≡ l.unit-index;
  made : map signature_seen l.made.items ++ signatures_from l.files l.declared l.scope (drop l.unit-index l.units) ≡ signatures_from l.files l.declared 0 l.units;
}
