use Rattle.std.proofs.Common.{◌+◌, ◌∙◌, ℕ, get_or, ap}
use Rattle.std.proofs.lemmas.List.{get_or_default}
use Rattle.const_value.specs.steps.Told.{first_seen}
use Rattle.const_value.proofs.CircleTurns.{circle_turn}
use Rattle.const_value.proofs.circles.Circles.push_of.Goals as goal

pub loop-used-preserved : goal.loop-used-preserved
loop-used-preserved c =
    let items = c.deref-used-items.result.now in
    let i = c.loop-used.used-index in
    let used = get_or items i 0 in
    record {
      at = ap (λ (k : ℕ). k + 1) c.loop-used.invariant.at;
      rest = c.loop-used.invariant.rest
          ∙ circle_turn c.args.self.now c.args.name c.args.file c.as_slice-tokens.result.now items c.loop-used.at i used (first_seen c.loop-used.faults) (first_seen c.push_one.new.faults) c.token_at.result
          c.loop-used-test.true (get_or_default items i 0 used c.loop-used-test.true) c.token_at.ensures c.push_one.ensures;
    }
