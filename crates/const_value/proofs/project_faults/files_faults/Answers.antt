use Rattle.std.proofs.Common.{◌+◌, ◌∙◌, ap, sym}
use Rattle.std.proofs.lemmas.List.{drop_all}
use Rattle.const_value.specs.steps.Findings.{gathered}
use Rattle.const_value.specs.steps.FirstFault.{files_told}
use Rattle.const_value.specs.steps.Told.{first_seen}
use Rattle.const_value.proofs.FaultTurns.{file_turn}
use Rattle.const_value.proofs.project_faults.files_faults.Goals as goal

pub loop-tree-preserved : goal.loop-tree-preserved
loop-tree-preserved c =
    let p = c.args.project.now in
    record {
      at = ap (λ n. n + 1) c.loop-tree.invariant.at;
      told =
          c.loop-tree.invariant.told
          ∙ file_turn p c.args.all.now.known.items c.args.all.now.namings.items c.args.rows.now p.files.now c.loop-tree.file c.loop-tree.tree-index c.tree-item.result (first_seen c.loop-tree.faults)
          (first_seen c.file_faults.new.faults) c.loop-tree-test.true c.tree-item.is c.in_ok-file_faults.ensures;
    }

pub returns : goal.returns
returns c =
    let p = c.args.project.now in
    sym (c.loop-tree.invariant.told
    ∙ ap (λ xs. gathered (first_seen c.loop-tree.faults) (files_told p c.args.all.now.known.items c.args.all.now.namings.items c.args.rows.now c.loop-tree.file xs))
    (drop_all c.loop-tree.tree-index p.files.now c.loop-tree-test.false))
