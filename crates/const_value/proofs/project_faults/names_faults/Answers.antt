use Rattle.std.proofs.Common.{◌∙◌, ap₂}
use Rattle.const_value.specs.steps.Findings.{gathered}
use Rattle.const_value.specs.steps.Shaping.{name_told}
use Rattle.const_value.specs.steps.Told.{first_seen}
use Rattle.const_value.proofs.FaultTurns.{number_turn}
use Rattle.const_value.proofs.project_faults.names_faults.Goals as goal

pub loop-name-preserved : goal.loop-name-preserved
loop-name-preserved c =
    let p = c.args.project.now in
    let before = first_seen c.loop-name.faults in
    number_turn (name_told p c.args.all.now.known.items c.args.all.now.namings.items) c.loop-name.name (first_seen c.args.faults.now) before (first_seen c.name_faults.new.faults) c.loop-name.invariant
    (c.in_ok-name_faults.ensures
    ∙ ap₂ (λ known namings. gathered before (name_told p known namings c.loop-name.name)) c.deref.ensures.value c.deref-in-loop-name.ensures.value)
