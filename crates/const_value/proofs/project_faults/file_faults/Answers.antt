use Rattle.std.proofs.Common.{◌∙◌, sym, ap, ap₂}
use Rattle.std.specs.List.{flat_map}
use Rattle.const_value.specs.steps.Findings.{gathered}
use Rattle.const_value.specs.steps.FirstFault.{statements_by, tree_by, unit_told}
use Rattle.const_value.specs.steps.Telling.{sight_of}
use Rattle.const_value.specs.steps.Told.{first_seen}
use Rattle.const_value.proofs.FaultTurns.{sight_is}
use Rattle.const_value.proofs.FirstFindings.{gathered_both}
use Rattle.const_value.proofs.project_faults.file_faults.Goals as goal

pub returns : goal.returns
returns c =
    let view = c.of-view.result in
    let old = first_seen c.args.faults.now in
    let tree = c.args.tree.now in
    c.in_ok-units_faults.ensures
    ∙ ap₂ (λ o us. gathered o (flat_map (unit_told view) us)) (c.in_ok-statements_faults.ensures ∙ ap (λ ss. gathered old (statements_by (sight_of view) c.args.rows.now 0 ss)) c.as_slice.ensures) c.as_slice-2.ensures
    ∙ sym (gathered_both old (statements_by (sight_of view) c.args.rows.now 0 tree.statements) (flat_map (unit_told view) tree.units))
    ∙ ap (λ s. gathered old (tree_by s c.args.rows.now tree))
    (sight_is view c.args.project.now c.args.all.now.known.items c.args.all.now.namings.items c.args.file c.of-view.ensures.project (c.of-view.ensures.known ∙ c.deref.ensures.value) c.of-view.ensures.row
    (c.of-view.ensures.namings ∙ c.deref-2.ensures.value) c.of-view.ensures.file)
