use Rattle.std.proofs.Common.{rules, ◌<◌, ℕ, List, length, get_or, subst}
use Rattle.ftn_base.specs.declared.place.Range.{Range}
use Rattle.unit_parse.specs.steps.Progress as spec
use Rattle.unit_parse.proofs.NextStatement.{none, read_next, stops_here}
use Rattle.unit_parse.proofs.statements.read_all.Goals as goal

pub returns-in_err-add : goal.returns-in_err-add
returns-in_err-add c =
    let low = subst (λ (l : List Range). c.loop-at.at-index < length l) c.as_slice-at-items.ensures c.loop-at-test.true in
    let stops = subst (λ (l : List Range). spec.Stops c.args.tokens.now (get_or l c.loop-at.at-index none) c.loop-at.reading c.in_err-add.field-0.0) c.as_slice-at-items.ensures c.in_err-add.ensures in
    let found : spec.StopsAt c.args.tokens.now c.in_err-add.field-0.0 = stops_here c.args.tokens.now c.loop-at.at-index low c.loop-at.reading c.in_err-add.field-0.0 c.loop-at.invariant stops in
    search rules

pub loop-at-preserved : goal.loop-at-preserved
loop-at-preserved c =
    let low = subst (λ (l : List Range). c.loop-at.at-index < length l) c.as_slice-at-items.ensures c.loop-at-test.true in
    let goes = subst (λ (l : List Range). spec.Goes c.args.tokens.now (get_or l c.loop-at.at-index none) c.loop-at.reading c.add.new.self) c.as_slice-at-items.ensures c.in_ok-add.ensures in
    read_next c.args.tokens.now c.loop-at.at-index low c.loop-at.reading c.add.new.self c.loop-at.invariant goes
