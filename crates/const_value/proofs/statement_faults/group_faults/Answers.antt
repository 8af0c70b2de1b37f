use Rattle.std.proofs.Common.{◌∙◌, ap, ap₂, sym}
use Rattle.std.specs.List.{flat_map}
use Rattle.ftn_tree.specs.ConstantFaults.{names_of_value}
use Rattle.const_value.specs.steps.Findings.{gathered}
use Rattle.const_value.specs.steps.Telling.{designator_told, name_told}
use Rattle.const_value.specs.steps.Told.{first_seen}
use Rattle.const_value.proofs.FirstFindings.{gathered_both}
use Rattle.const_value.proofs.statement_faults.group_faults.Goals as goal

pub returns : goal.returns
returns c =
    let objects = designator_told c.args.view.now in
    let names = name_told c.args.view.now in
    let old = first_seen c.args.faults.now in
    c.values_faults.ensures
    ∙ ap₂ (λ o vs. gathered o (flat_map names (flat_map names_of_value vs))) (c.in_ok-designators_faults.ensures ∙ ap (λ ds. gathered old (flat_map objects ds)) c.as_slice.ensures) c.as_slice-2.ensures
    ∙ sym (gathered_both old (flat_map objects c.args.group.now.objects) (flat_map names (flat_map names_of_value c.args.group.now.values)))
