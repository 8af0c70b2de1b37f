use Rattle.std.proofs.Common.{◌≡◌, ◌<◌, length, slice_get, sym, ◌∙◌, arith, below_more}
use Rattle.std.proofs.lemmas.Bool.{false≢true}
use Rattle.common_match.proofs.Same.{all_same, differs_at, same_at}
use Rattle.common_match.proofs.lists.alike_front.Goals as goal

pub returns-then-not-is_alike-clause-differs : goal.returns-then-not-is_alike-clause-differs
returns-then-not-is_alike-clause-differs c = λ within_a within_b.
    differs_at c.args.a.now c.args.b.now c.loop-at.at c.index-a-at.result c.index-b-at.result within_a within_b c.index-a-at.is c.index-b-at.is
    (λ e. false≢true (sym c.if-not-is_alike.true ∙ c.is_alike.ensures.1 e))

pub returns-clause-whole : goal.returns-clause-whole
returns-clause-whole c = λ whole_a whole_b.
    let at_end_a : length c.args.a.now ≡ c.loop-at.at = omega arith in
    let at_end_b : length c.args.b.now ≡ c.loop-at.at = omega arith in
    all_same c.args.a.now c.args.b.now c.loop-at.at c.loop-at.invariant at_end_a at_end_b

pub loop-at-preserved : goal.loop-at-preserved
loop-at-preserved c =
    let within_a : c.loop-at.at < length c.args.a.now = omega arith in
    let within_b : c.loop-at.at < length c.args.b.now = omega arith in
    below_more (λ before. slice_get c.args.a.now before ≡ slice_get c.args.b.now before) c.loop-at.at c.loop-at.invariant
    (same_at c.args.a.now c.args.b.now c.loop-at.at c.index-a-at.result c.index-b-at.result within_a within_b c.index-a-at.is c.index-b-at.is (c.is_alike.ensures.0 c.if-not-is_alike.false))
