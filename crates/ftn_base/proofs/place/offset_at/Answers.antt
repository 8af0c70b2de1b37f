use Rattle.std.proofs.Common.{◌<◌, length, drop, arith, length-drop, sym, ◌∙◌}
use Rattle.ftn_base.specs.Places.{is_place}
use Rattle.ftn_base.proofs.PlaceLemmas.{found_here}
use Rattle.ftn_base.proofs.place.offset_at.Goals as goal

pub returns-then-is_place : goal.returns-then-is_place
returns-then-is_place c =
    let some : 0 < length (drop c.loop-at.at c.args.text.now) = omega (arith, length-drop c.loop-at.at c.args.text.now) in
    sym (c.loop-at.invariant.first ∙ found_here (is_place c.args.line c.args.column) c.loop-at.place c.loop-at.at (drop c.loop-at.at c.args.text.now) some (sym c.is_place.ensures ∙ c.if-is_place.true))
