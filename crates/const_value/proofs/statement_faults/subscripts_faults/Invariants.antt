use Rattle.std.proofs.Common.{◌≡◌, drop, length}
use Rattle.const_value.specs.steps.Findings.{gathered}
use Rattle.const_value.specs.steps.Telling.{pairs_of, subscripts_told}
use Rattle.const_value.specs.steps.Told.{first_seen}
use Rattle.const_value.proofs.statement_faults.subscripts_faults.Given as goal

abbrev pub invariant-loop-subscript : goal.invariant-loop-subscript
invariant-loop-subscript l = record {
  at : l.at ≡ l.subscript-index;
  told : gathered (first_seen l.initial.faults) (subscripts_told l.view (pairs_of l.view l.token (length l.subscripts)) 0 l.subscripts)
      ≡ gathered (first_seen l.faults) (subscripts_told l.view (pairs_of l.view l.token (length l.subscripts)) l.at (drop l.subscript-index l.subscripts));
}
