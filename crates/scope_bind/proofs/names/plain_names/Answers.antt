use Rattle.std.proofs.Common.{ap, sym, ◌∙◌, ◌||◌, arith, drop}
use Rattle.std.specs.List.{list_any}
use Rattle.decl_table.proofs.HeardNames.{opened_before, at_start}
use Rattle.scope_bind.specs.steps.Known.{is_plain_of}
use Rattle.scope_bind.proofs.names.plain_names.Goals as goal

pub loop-at-preserved : goal.loop-at-preserved
loop-at-preserved c =
    let all = c.args.own.now in
    let files = c.args.files.now in (
      omega (arith, c.loop-at.invariant.0),
      λ name.
          c.in_ok-put_plain.ensures name ∙ ap (λ b. is_plain_of files c.args.file name c.index-own-at.result || b) (c.loop-at.invariant.1 name)
          ∙ ap (list_any (is_plain_of files c.args.file name)) (sym (opened_before all c.loop-at.at c.index-own-at.result c.loop-at-test.true c.loop-at.invariant.0 c.index-own-at.is)),
    )

pub returns : goal.returns
returns c = λ name.
    c.loop-at.invariant.1 name ∙ ap (λ k. list_any (is_plain_of c.args.files.now c.args.file name) (drop k c.args.own.now)) (at_start c.loop-at.at c.loop-at-test.false)
