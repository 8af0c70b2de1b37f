use Rattle.std.proofs.Common.{map, take}
use Rattle.type_check.specs.steps.Declared.{AreData}
use Rattle.type_check.proofs.OpenedData.{datum_at}
use Rattle.type_check.proofs.procedures.Declared.dummies_of.Given as goal

abbrev pub invariant-loop-token : goal.invariant-loop-token
invariant-loop-token l = AreData l.files l.made.items (map (datum_at l.files l.e) (take l.token-index l.token-items))
