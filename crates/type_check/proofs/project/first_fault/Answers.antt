use Rattle.std.proofs.Common.{option_map, sym, ap, ◌∙◌}
use Rattle.ftn_tree.specs.DeclarationFaults.{fault_of}
use Rattle.ftn_tree.specs.TypeFaults.{type_findings}
use Rattle.type_check.specs.steps.Findings.{gathered}
use Rattle.type_check.proofs.FirstFindings.{first_gathered}
use Rattle.type_check.proofs.project.first_fault.Goals as goal

pub returns : goal.returns
returns c =
    let files = c.args.known.now.files.now in
    c.fault_from.ensures
    ∙ ap (option_map (fault_of files))
    (c.in_ok-all_faults.ensures ∙ ap (λ o. gathered o (type_findings files)) c.none-faults.ensures ∙ sym (first_gathered (type_findings files)))
