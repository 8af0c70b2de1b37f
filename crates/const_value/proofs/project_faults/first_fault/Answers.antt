use Rattle.std.proofs.Common.{◌∙◌, ◌++◌, None, option_map, sym, ap}
use Rattle.ftn_tree.specs.DeclarationFaults.{fault_of}
use Rattle.ftn_tree.specs.Extents.{scoping}
use Rattle.decl_table.specs.steps.Rows.{rows_of}
use Rattle.const_value.specs.steps.Told.{first_seen}
use Rattle.const_value.specs.steps.Findings.{gathered}
use Rattle.const_value.specs.steps.FirstFault.{files_told, names_told}
use Rattle.const_value.specs.steps.References.{circular_findings}
use Rattle.const_value.proofs.FirstFindings.{gathered_both}
use Rattle.const_value.proofs.project_faults.first_fault.Goals as goal

pub returns : goal.returns
returns c =
    let p = c.args.project.now in
    let known = c.args.all.now.known.items in
    let namings = c.args.all.now.namings.items in
    let circles = circular_findings c.args.circles.now p in
    let names = names_told p known namings in
    let rows = rows_of p.files.now (scoping p.files.now) in
    let files = files_told p known namings rows 0 p.files.now in
    c.fault_from.ensures
    ∙ ap (option_map (fault_of p.files.now))
    (c.in_ok-files_faults.ensures ∙ ap (λ r. gathered (first_seen c.names_faults.new.faults) (files_told p known namings r 0 p.files.now)) (c.deref.ensures.value ∙ c.in_ok-scoping.ensures.rows)
    ∙ ap (λ o. gathered o files) (c.in_ok-names_faults.ensures ∙ ap (λ o. gathered o names) (c.push_faults.ensures ∙ ap (λ o. gathered o circles) c.none-faults.ensures))
    ∙ sym (gathered_both None circles (names ++ files) ∙ gathered_both (gathered None circles) names files))
