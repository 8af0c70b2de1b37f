use Rattle.std.proofs.Common.{◌≡◌, drop}
use Rattle.const_value.specs.steps.Findings.{gathered}
use Rattle.const_value.specs.steps.FirstFault.{files_told}
use Rattle.const_value.specs.steps.Told.{first_seen}
use Rattle.const_value.proofs.project_faults.files_faults.Given as goal

abbrev pub invariant-loop-tree : goal.invariant-loop-tree
invariant-loop-tree l = record {
  at : l.file ≡ l.tree-index;
  told : gathered (first_seen l.initial.faults) (files_told l.project l.all.known.items l.all.namings.items l.rows 0 l.project.files.now)
      ≡ gathered (first_seen l.faults) (files_told l.project l.all.known.items l.all.namings.items l.rows l.file (drop l.tree-index l.project.files.now));
}
