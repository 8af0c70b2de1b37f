use Rattle.implicit_type.proofs.MapLemmas.{inner_more, inner_done}
use Rattle.implicit_type.proofs.letter_map.LetterMap.inner.Goals as goal
use Rattle.std.proofs.Common.{length-set, ◌∙◌}

pub loop-number-preserved : goal.loop-number-preserved
loop-number-preserved c = record {
  made = inner_more c.self.inside.entries c.loop-number.entries c.loop-number.number c.loop-number-test.true c.loop-number.invariant.long c.loop-number.invariant.made;
  long = length-set _ _ _ ∙ c.loop-number.invariant.long;
}

pub returns : goal.returns
returns c =
    rw (← c.self.view_is)
    (inner_done c.self.inside.entries c.loop-number.entries c.loop-number.number c.loop-number-test.false c.loop-number.auto.number-end c.loop-number.invariant.long c.loop-number.invariant.made)
