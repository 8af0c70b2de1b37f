use Rattle.std.proofs.Common.{◌∙◌, Some, sym, ap}
use Rattle.std.specs.Option.{option_map_or}
use Rattle.std.proofs.lemmas.Option.{slice_get-get_or}
use Rattle.const_value.specs.steps.Told.{first_seen}
use Rattle.const_value.specs.steps.Written.{nothing, written_seen}
use Rattle.const_value.proofs.ShapeTurns.{name_noted}
use Rattle.const_value.proofs.shape_faults.name_faults.Goals as goal

pub returns : goal.returns
returns c =
    let p = c.args.project.now in
    let o = c.index-owned.result.now in
    let w = c.index-written.result.now in
    let m = c.index-known-name.result in
    let view = c.of-view.result in
    name_noted p c.args.known.now c.args.namings.now c.args.name o (written_seen w) m c.kind_of-kind.result view.project.now view.file view.names.row.now view.names.namings.now (first_seen c.args.faults.now)
    (first_seen c.owned_faults.new.faults)
    (slice_get-get_or p.names.items c.args.name o c.requires.names ∙ ap Some (sym c.index-owned.ensures))
    (slice_get-get_or c.args.known.now c.args.name m c.requires.known ∙ ap Some (sym c.index-known-name.is))
    (ap (λ x. option_map_or written_seen x nothing) (slice_get-get_or p.written.items c.args.name w c.requires.written ∙ ap Some (sym c.index-written.ensures)))
    c.kind_of-kind.ensures c.of-view.ensures.project c.of-view.ensures.file c.of-view.ensures.row c.of-view.ensures.namings c.in_ok-owned_faults.ensures
