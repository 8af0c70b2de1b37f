use Rattle.std.proofs.Common.{ap, sym, cond, bytes_eq, ◌∙◌, arith, drop}
use Rattle.decl_table.specs.steps.Noted.{noted_of, noted_in}
use Rattle.decl_table.proofs.HeardNames.{opened_before, at_start}
use Rattle.decl_table.proofs.NotedNames.{noted_next}
use Rattle.decl_table.proofs.noted.note.Goals as goal

pub loop-at-preserved : goal.loop-at-preserved
loop-at-preserved c =
    let files = c.args.files.now in
    let key = c.name_at-name.result.now in
    let all = c.args.own.now in (
      omega (arith, c.loop-at.invariant.0),
      λ name.
          noted_next files c.args.file c.index-own-at.result (drop c.loop-at.at all) name (noted_in c.put.new.names name) c.noted_of-later.result (noted_in c.loop-at.names name) key
          c.name_at-name.ensures
          (c.in_ok-put.ensures name ∙ ap (λ h. cond (bytes_eq key name) h (noted_in c.loop-at.names name)) c.after.ensures)
          (c.noted_of-later.ensures ∙ c.loop-at.invariant.1 key) (c.loop-at.invariant.1 name)
          ∙ ap (λ rest. noted_of files c.args.file name rest) (sym (opened_before all c.loop-at.at c.index-own-at.result c.loop-at-test.true c.loop-at.invariant.0 c.index-own-at.is)),
    )

pub returns : goal.returns
returns c = λ name.
    c.loop-at.invariant.1 name ∙ ap (λ k. noted_of c.args.files.now c.args.file name (drop k c.args.own.now)) (at_start c.loop-at.at c.loop-at-test.false)
