use Rattle.std.proofs.Common.{◌∙◌, sym, ap}
use Rattle.std.specs.Option.{option_and_then}
use Rattle.const_value.specs.steps.Giving.{place_by, start_by, wholes_by}
use Rattle.const_value.specs.steps.Measuring.{given}
use Rattle.const_value.specs.steps.Telling.{sight_of}
use Rattle.const_value.proofs.givens.start_by.Goals as goal

pub returns-in_ok-wholes-in-Some : goal.returns-in_ok-wholes-in-Some
returns-in_ok-wholes-in-Some c =
    let view = c.args.view.now in
    let bounds = c.args.bounds.now in
    c.place_of.ensures
    ∙ ap (option_and_then (place_by bounds)) (c.in_ok-wholes-in-Some.ensures ∙ ap (wholes_by (given view)) c.as_slice.ensures)
    ∙ sym (ap (start_by (sight_of view) bounds) c.in-Some.is)
