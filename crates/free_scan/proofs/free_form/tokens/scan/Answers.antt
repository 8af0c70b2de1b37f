use Rattle.std.proofs.Common.{◌≤◌, length, sym, ◌∙◌, arith}
use Rattle.free_scan.proofs.PlacesLaws.{first_by}
use Rattle.free_scan.proofs.free_form.tokens.scan.Goals as goal

pub returns-in-Some-clause-at_least : goal.returns-in-Some-clause-at_least
returns-in-Some-clause-at_least g c =
    let within : c.in-Some.at ≤ length c.args.text.now
    = first_by c.args.edition c.args.text.now c.in_ok-tokens.firsts (c.in-Some.at, c.in-Some.kind) (sym c.found.ensures ∙ c.in-Some.is) c.in_ok-tokens.ensures.firsts in
    omega (arith, c.in_ok-tokens.ensures.ticks)
