use Rattle.std.proofs.Common.{◌≡◌, drop}
use Rattle.const_value.specs.steps.Findings.{gathered}
use Rattle.const_value.specs.steps.FirstFault.{statements_by}
use Rattle.const_value.specs.steps.Telling.{sight_of}
use Rattle.const_value.specs.steps.Told.{first_seen}
use Rattle.const_value.proofs.project_faults.statements_faults.Given as goal

abbrev pub invariant-loop-statement : goal.invariant-loop-statement
invariant-loop-statement l = record {
  at : l.at ≡ l.statement-index;
  told : gathered (first_seen l.initial.faults) (statements_by (sight_of l.view) l.rows 0 l.statements)
      ≡ gathered (first_seen l.faults) (statements_by (sight_of l.view) l.rows l.at (drop l.statement-index l.statements));
}
