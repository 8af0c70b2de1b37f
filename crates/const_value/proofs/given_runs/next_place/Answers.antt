use Rattle.std.proofs.Common.{◌≡◌, false, sym, ap, ◌∙◌, ◌+◌, w32, rules, arith}
use Rattle.std.proofs.Math.Facts.{to_z-of_z}
use Rattle.std.specs.Prelude.{int_lt}
use Rattle.std.proofs.lemmas.Int.{ints}
use Rattle.const_value.specs.steps.Runs.{limited}
use Rattle.const_value.proofs.Limits.{placed}
use Rattle.const_value.proofs.given_runs.next_place.Goals as goal

pub returns : goal.returns
returns c = λ n same.
    let low = c.args.pair.0 in
    let high = c.args.pair.1 in
    let below : int_lt c.args.subscript low ≡ false = grind (arith, ints) in
    let above : int_lt high c.args.subscript ≡ false = grind (arith, ints) in
    let far = rw (to_z-of_z {w = w32} {z = c.args.subscript} (search rules), to_z-of_z {w = w32} {z = c.args.pair.0} (search rules)) at c.distance.ensures in
    placed low high c.args.subscript n c.in_ok-place.place c.extent_of.result c.saturating_mul-below.result c.saturating_add.result (sym c.in_ok-place.was ∙ same) below above c.extent_of.ensures
    c.saturating_mul-below.ensures (c.saturating_add.ensures ∙ ap (λ d. limited (d + c.saturating_mul-below.result)) far)
