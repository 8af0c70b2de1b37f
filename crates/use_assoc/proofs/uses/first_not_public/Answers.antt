use Rattle.std.proofs.Common.{◌+◌, map, sym, ap, ◌∙◌}
use Rattle.ftn_base.specs.Accessible.{bad_item}
use Rattle.use_assoc.specs.steps.Table.{found_in}
use Rattle.use_assoc.proofs.Modules.{first_found, first_passed}
use Rattle.use_assoc.proofs.uses.first_not_public.Goals as goal

pub returns-in-Some-clause-first : goal.returns-in-Some-clause-first
returns-in-Some-clause-first c =
    first_found (map (λ pairs. pairs.items) c.args.exports.now) c.args.lists.now c.loop-list.list-index c.loop-list.at c.list-item.result (found_in c.of.result.now.by_name) _ c.loop-list-test.true
    c.list-item.is (c.of.ensures _ c.in_ok-prepare.ensures.tables) c.loop-list.invariant.first c.in-Some.item
    (sym (c.bad_item.ensures.first ∙ ap (bad_item (found_in c.of.result.now.by_name)) c.as_slice.ensures) ∙ c.in-Some.is)

pub loop-list-preserved : goal.loop-list-preserved
loop-list-preserved c = record {
  count = ap (λ n. n + 1) c.loop-list.invariant.count;
  first =
      first_passed (map (λ pairs. pairs.items) c.args.exports.now) c.args.lists.now c.loop-list.list-index c.loop-list.at c.list-item.result (found_in c.of.result.now.by_name) _ c.loop-list-test.true
      c.list-item.is (c.of.ensures _ c.in_ok-prepare.ensures.tables) c.loop-list.invariant.first
      (sym (c.bad_item.ensures.first ∙ ap (bad_item (found_in c.of.result.now.by_name)) c.as_slice.ensures) ∙ c.in_default.is);
  tables = c.in_ok-prepare.ensures.tables;
}
