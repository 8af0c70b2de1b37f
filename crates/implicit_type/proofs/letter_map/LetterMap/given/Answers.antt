use Rattle.std.proofs.Common.{length-set, ◌∙◌, arith, true, if◌then◌else◌}
use Rattle.ftn_base.specs.ImplicitLetters.{entry_of}
use Rattle.ftn_base.specs.Letters.{is_within}
use Rattle.implicit_type.proofs.MapLemmas.{made_more, made_done}
use Rattle.implicit_type.proofs.letter_map.LetterMap.given.Goals as goal

pub loop-number-preserved : goal.loop-number-preserved
loop-number-preserved c = record {
  made = made_more (λ letter. if is_within c.args.from c.args.to letter then (c.args.letter, true) else entry_of letter c.self.inside.entries)
      c.loop-number.entries c.loop-number.number c.entry_given.result (omega (arith, c.loop-number.invariant.long)) c.entry_given.ensures c.loop-number.invariant.made;
  long = length-set _ _ _ ∙ c.loop-number.invariant.long;
}

pub returns : goal.returns
returns c =
    rw (← c.self.view_is)
    (made_done (λ letter. if is_within c.args.from c.args.to letter then (c.args.letter, true) else entry_of letter c.self.inside.entries)
    c.loop-number.entries c.loop-number.number c.loop-number-test.false c.loop-number.auto.number-end c.loop-number.invariant.long c.loop-number.invariant.made)
