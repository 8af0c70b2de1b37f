use Rattle.std.proofs.Common.{◌≡◌, drop}
use Rattle.rename_ref.specs.Meaning.{run, run_on}
use Rattle.rename_ref.proofs.first_meaning.run.Given as goal

abbrev pub invariant-loop-statement : goal.invariant-loop-statement
invariant-loop-statement l = run l.program l.steps ≡ run_on l.output.items (drop l.statement-index l.statement-items) l.memory l.left
