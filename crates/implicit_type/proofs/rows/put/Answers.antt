use Rattle.implicit_type.proofs.MapLemmas.{put_one}
use Rattle.implicit_type.proofs.rows.put.Goals as goal
use Rattle.std.proofs.Common.{◌≤◌, arith, length-set, ◌∙◌}

pub loop-letter-preserved : goal.loop-letter-preserved
loop-letter-preserved c = record {
  same =
      let low : 97 ≤ c.loop-letter.letter = omega arith in
      let ordered : c.loop-letter.letter ≤ c.args.to = omega arith in
      rw c.number_of.ensures (c.loop-letter.invariant.same ∙ put_one c.loop-letter.letter c.args.to c.args.entry c.loop-letter.entries low ordered c.requires.last c.loop-letter.invariant.long);
  long = length-set _ _ _ ∙ c.loop-letter.invariant.long;
}
