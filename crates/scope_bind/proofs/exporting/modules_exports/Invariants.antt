use Rattle.scope_bind.proofs.ModuleTurns.{IsExported}
use Rattle.scope_bind.proofs.exporting.modules_exports.Given as goal

abbrev pub invariant-loop-number : goal.invariant-loop-number
invariant-loop-number l = IsExported l.known.files.now l.order l.number-index l.exported.items
