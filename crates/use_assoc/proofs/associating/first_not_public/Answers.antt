use Rattle.std.proofs.Common.{◌+◌, sym, ap, ◌∙◌}
use Rattle.ftn_base.specs.Accessible.{bad_item, entities_of}
use Rattle.use_assoc.specs.steps.Table.{found_in}
use Rattle.use_assoc.proofs.Modules.{first_found, first_passed}
use Rattle.use_assoc.proofs.associating.first_not_public.Goals as goal

pub returns-in-Some : goal.returns-in-Some
returns-in-Some c =
    first_found c.args.exports.now c.args.lists.now c.loop-list.list-index c.loop-list.at c.list-item.result (found_in c.table.result.now.by_name) _ c.loop-list-test.true
    c.list-item.is (c.table.ensures ∙ ap entities_of c.exports_at-of_module.ensures) c.loop-list.invariant.1 c.in-Some.item
    (sym (c.bad_item.ensures.first ∙ ap (bad_item (found_in c.table.result.now.by_name)) c.as_slice.ensures) ∙ c.in-Some.is)

pub loop-list-preserved : goal.loop-list-preserved
loop-list-preserved c = (
  ap (λ n. n + 1) c.loop-list.invariant.0,
  first_passed c.args.exports.now c.args.lists.now c.loop-list.list-index c.loop-list.at c.list-item.result (found_in c.table.result.now.by_name) _ c.loop-list-test.true
      c.list-item.is (c.table.ensures ∙ ap entities_of c.exports_at-of_module.ensures) c.loop-list.invariant.1
      (sym (c.bad_item.ensures.first ∙ ap (bad_item (found_in c.table.result.now.by_name)) c.as_slice.ensures) ∙ c.in_default.is),
)
