use Rattle.std.proofs.Common.{◌+◌, sym, ◌∙◌}
use Rattle.ftn_base.specs.ImplicitLetters.{first_given, is_given}
use Rattle.implicit_type.proofs.MapLemmas.{found_next}
use Rattle.implicit_type.proofs.rows.any_given.Goals as goal

pub loop-letter-preserved : goal.loop-letter-preserved
loop-letter-preserved c =
    found_next (is_given c.args.entries.now) (first_given c.args.from c.args.to c.args.entries.now) c.loop-letter.letter (c.args.to + 1) c.loop-letter-test.true
    (sym c.is_given.ensures ∙ c.if-is_given.false) c.loop-letter.invariant
