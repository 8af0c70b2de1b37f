use Rattle.std.proofs.Common.{◌∙◌, ℕ, List, ap}
use Rattle.const_value.specs.declared.name_numbers.Owned.{Owned}
use Rattle.const_value.specs.steps.Findings.{gathered}
use Rattle.const_value.specs.steps.References.{circles_of, file_of}
use Rattle.const_value.specs.steps.Told.{first_seen}
use Rattle.const_value.proofs.CircleTurns.{name_turn}
use Rattle.const_value.proofs.circles.Circles.push_faults.Goals as goal

pub loop-name-preserved : goal.loop-name-preserved
loop-name-preserved c =
    let self = c.args.self.now in
    let names = c.args.project.now.names.items in
    name_turn (λ name. circles_of self name (file_of names name)) c.loop-name.name (first_seen c.args.faults.now) (first_seen c.loop-name.faults) (first_seen c.push_of.new.faults) c.loop-name.invariant
    (c.push_of.ensures
    ∙ ap (λ (f : ℕ). gathered (first_seen c.loop-name.faults) (circles_of self c.loop-name.name f)) (c.file_of.ensures ∙ ap (λ (ns : List Owned). file_of ns c.loop-name.name) c.as_slice-names.ensures.value))
