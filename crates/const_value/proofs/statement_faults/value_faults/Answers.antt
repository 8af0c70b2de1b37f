use Rattle.std.proofs.Common.{◌∙◌, ap, []}
use Rattle.std.specs.List.{cons_option, flat_map}
use Rattle.std.specs.Option.{option_and_then}
use Rattle.ftn_tree.specs.ConstantFaults.{constant_name, repeat_name}
use Rattle.const_value.specs.steps.Findings.{gathered}
use Rattle.const_value.specs.steps.Telling.{name_told}
use Rattle.const_value.specs.steps.Told.{first_seen}
use Rattle.const_value.proofs.StatementTurns.{both_noted}
use Rattle.const_value.proofs.statement_faults.value_faults.Goals as goal

pub returns : goal.returns
returns c =
    let told = name_told c.args.view.now in
    both_noted told (option_and_then repeat_name c.args.value.now.repeat) (constant_name c.args.value.now.constant) (first_seen c.args.faults.now) (first_seen c.name_fault_if.new.faults)
    (first_seen c.name_fault_if-2.new.faults)
    (c.name_fault_if.ensures ∙ ap (λ t. gathered (first_seen c.args.faults.now) (flat_map told (cons_option t []))) c.repeat_name.ensures)
    (c.name_fault_if-2.ensures ∙ ap (λ t. gathered (first_seen c.name_fault_if.new.faults) (flat_map told (cons_option t []))) c.constant_name.ensures)
