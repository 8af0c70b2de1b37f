use Rattle.std.proofs.Common.{◌≡◌, ◌∙◌, ℕ, ap}
use Rattle.const_value.specs.steps.Projects.{row_in}
use Rattle.const_value.specs.steps.References.{file_of}
use Rattle.const_value.proofs.CircleTurns.{file_at}
use Rattle.const_value.proofs.GivenTurns.{whole_value}
use Rattle.const_value.proofs.givens.own_value.Goals as goal

pub returns : goal.returns
returns c =
    let view = c.args.view.now in
    let p = view.project.now in
    let n = c.args.name in
    let own = c.of-own.result in
    let row : own.names.row.now ≡ row_in p.rows.items (file_of p.names.items n) =
    c.of-own.ensures.row ∙ ap (λ (f : ℕ). row_in p.rows.items f) (file_at p.names.items n c.index.result.now c.requires.names c.index.ensures) in
    whole_value view own p view.names.namings.now n c.args.ty c.in_ok-value.value c.of-own.ensures.project row c.of-own.ensures.namings c.in_ok-value.ensures
