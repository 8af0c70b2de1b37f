use Rattle.std.proofs.Common.{◌∙◌, Some, sym, ap}
use Rattle.std.specs.List.{flat_map}
use Rattle.ftn_tree.specs.declared.form.Form.{out-Form}
use Rattle.ftn_tree.specs.Wants.{expressions_of}
use Rattle.const_value.specs.steps.Findings.{gathered}
use Rattle.const_value.specs.steps.FirstFault.{if_within}
use Rattle.const_value.specs.steps.Telling.{designators_told, placed_told, statement_told}
use Rattle.const_value.specs.steps.Told.{first_seen}
use Rattle.const_value.proofs.FirstFindings.{gathered_both}
use Rattle.const_value.proofs.project_faults.faults_if.Goals as goal

pub returns-in_ok-statement_faults : goal.returns-in_ok-statement_faults
returns-in_ok-statement_faults c =
    let view = c.args.view.now in
    let form = c.args.statement.now.form in
    let old = first_seen c.args.faults.now in
    c.in_ok-statement_faults.ensures ∙ sym (gathered_both old (flat_map (placed_told view) (expressions_of form)) (designators_told view (Some (out-Form form))))
    ∙ ap (λ w. gathered old (if_within w (statement_told view c.args.statement.now))) (sym c.if-within.true)
