use Rattle.std.proofs.Common.{◌≡◌, ◌∙◌, ℕ, ap}
use Rattle.const_value.specs.steps.Projects.{row_in}
use Rattle.const_value.specs.steps.References.{file_of}
use Rattle.const_value.proofs.CircleTurns.{file_at}
use Rattle.const_value.proofs.KnowingTurns.{measured_made}
use Rattle.const_value.proofs.knowledge.measured_at.Goals as goal

pub returns : goal.returns
returns c =
    let p = c.args.project.now in
    let n = c.args.name in
    let view = c.of-view.result in
    let row : view.names.row.now ≡ row_in p.rows.items (file_of p.names.items n) =
    c.of-view.ensures.row ∙ ap (λ (f : ℕ). row_in p.rows.items f) (file_at p.names.items n c.index.result.now c.requires.name c.index.ensures) in
    measured_made p view c.args.namings.now n c.args.valued c.in_ok-made.made c.of-view.ensures.project row c.of-view.ensures.namings c.in_ok-made.ensures.ty c.in_ok-made.ensures.bounds c.in_ok-made.ensures.empty
    c.in_ok-made.ensures.value
