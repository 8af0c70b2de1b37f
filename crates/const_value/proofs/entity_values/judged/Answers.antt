use Rattle.std.proofs.Common.{◌∙◌, sym}
use Rattle.const_value.proofs.Judging as judging
use Rattle.const_value.proofs.entity_values.judged.Goals as goal

pub of-requires-clause-known : goal.of-requires-clause-known
of-requires-clause-known c = judging.uses_known c.args.files.now c.requires.trees c.requires.names c.args.project.now c.requires.gathered

pub measure_all-requires-clause-whole : goal.measure_all-requires-clause-whole
measure_all-requires-clause-whole c = judging.whole c.args.files.now c.requires.trees c.requires.names c.args.project.now c.requires.gathered c.in_ok-circles.circles c.in_ok-circles.ensures

pub measure_all-requires-clause-uses : goal.measure_all-requires-clause-uses
measure_all-requires-clause-uses c = judging.uses_count c.args.files.now c.requires.trees c.requires.names c.args.project.now c.requires.gathered c.in_ok-circles.circles c.in_ok-circles.ensures

pub measure_all-requires-clause-order : goal.measure_all-requires-clause-order
measure_all-requires-clause-order c = judging.order_within c.args.files.now c.requires.trees c.requires.names c.args.project.now c.requires.gathered c.in_ok-circles.circles c.in_ok-circles.ensures

pub first_fault-requires-clause-whole : goal.first_fault-requires-clause-whole
first_fault-requires-clause-whole c = judging.whole c.args.files.now c.requires.trees c.requires.names c.args.project.now c.requires.gathered c.in_ok-circles.circles c.in_ok-circles.ensures

pub first_fault-requires-clause-names : goal.first_fault-requires-clause-names
first_fault-requires-clause-names c = sym (judging.uses_count c.args.files.now c.requires.trees c.requires.names c.args.project.now c.requires.gathered c.in_ok-circles.circles c.in_ok-circles.ensures)

pub first_fault-requires-clause-known : goal.first_fault-requires-clause-known
first_fault-requires-clause-known c =
    judging.known_count c.args.files.now c.requires.trees c.requires.names c.args.project.now c.requires.gathered c.in_ok-circles.circles c.in_ok-circles.ensures
    c.in_ok-known.known c.in_ok-known.ensures

pub returns-in-Some-clause-fault : goal.returns-in-Some-clause-fault
returns-in-Some-clause-fault c f same =
    sym
    (judging.fault_here c.args.files.now c.requires.trees c.requires.names c.args.project.now c.requires.gathered c.in_ok-circles.circles c.in_ok-circles.ensures
    c.in_ok-known.known c.in_ok-known.ensures c.in_ok-fault.field-0 c.in_ok-fault.ensures)
    ∙ c.in-Some.is ∙ cc same

pub returns-clause-known : goal.returns-clause-known
returns-clause-known c =
    judging.known_is c.args.files.now c.requires.trees c.requires.names c.args.project.now c.requires.gathered c.in_ok-circles.circles c.in_ok-circles.ensures
    c.in_ok-known.known c.in_ok-known.ensures

pub returns-clause-sound : goal.returns-clause-sound
returns-clause-sound c ok =
    sym
    (judging.fault_here c.args.files.now c.requires.trees c.requires.names c.args.project.now c.requires.gathered c.in_ok-circles.circles c.in_ok-circles.ensures
    c.in_ok-known.known c.in_ok-known.ensures c.in_ok-fault.field-0 c.in_ok-fault.ensures)
    ∙ c.in-None.is
