use Rattle.std.proofs.Common.{ap, sym, cond, bytes_eq, ◌∙◌, arith, drop}
use Rattle.std.specs.List.{filter}
use Rattle.ftn_tree.specs.Sayings.{Saying, same_name}
use Rattle.decl_table.proofs.HeardNames.{opened_before, at_start}
use Rattle.scope_bind.specs.steps.Told.{told_of, told_in}
use Rattle.scope_bind.proofs.ToldNames.{told_next}
use Rattle.scope_bind.proofs.told.tell.Goals as goal

pub loop-at-preserved : goal.loop-at-preserved
loop-at-preserved c =
    let key = c.s.inside.name.now in
    let all = c.args.said.now in
    let here = ap (λ (s : Saying). s.name) c.s.view_is in (
      omega (arith, c.loop-at.invariant.0),
      λ name.
          told_next c.index-said-at.result (drop c.loop-at.at all) name (told_in c.put.new.names name) c.told_of-later.result (told_in c.loop-at.names name) key here
          (c.in_ok-put.ensures name ∙ ap (λ h. cond (bytes_eq key name) h (told_in c.loop-at.names name)) c.after.ensures)
          (c.told_of-later.ensures ∙ c.loop-at.invariant.1 key) (c.loop-at.invariant.1 name)
          ∙ ap (λ rest. told_of (filter (same_name name) rest)) (sym (opened_before all c.loop-at.at c.index-said-at.result c.loop-at-test.true c.loop-at.invariant.0 c.index-said-at.is)),
    )

pub returns : goal.returns
returns c = λ name.
    c.loop-at.invariant.1 name ∙ ap (λ k. told_of (filter (same_name name) (drop k c.args.said.now))) (at_start c.loop-at.at c.loop-at-test.false)
