use Rattle.std.proofs.Common.{map, sym, ◌∙◌}
use Rattle.free_scan.specs.steps.Reading as spec
use Rattle.free_scan.specs.Spelling.{lexeme_of}
use Rattle.free_scan.proofs.Loops.{sums_begin, read_more}
use Rattle.free_scan.proofs.first_form.statements.read_sums.Goals as goal

pub loop-part-init : goal.loop-part-init
loop-part-init c = rw c.deref-part-items.ensures.value (sums_begin c.new-sums.result (λ part. map lexeme_of part.now) _ _ c.new-sums.ensures c.in_ok-parts.ensures)

pub loop-part-preserved : goal.loop-part-preserved
loop-part-preserved c =
    let more = read_more spec.read_sum (λ part. map lexeme_of part.now) _ c.loop-part.sums c.deref-part-items.result.now c.loop-part.part-index c.part-item.result c.in-Some.sum c.loop-part-test.true c.part-item.is (sym c.in_ok-sum.ensures ∙ c.in-Some.is) c.loop-part.invariant in
    rw c.in_ok-push.ensures.ok more
