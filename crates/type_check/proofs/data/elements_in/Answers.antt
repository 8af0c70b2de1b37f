use Rattle.std.proofs.Common.{◌∙◌, ◌+◌, ◌-◌, ◌^◌, ◌≤◌, min, map, option_map, ap, sym, subst, arith}
use Rattle.std.proofs.lemmas.List.{drop_all}
use Rattle.type_check.specs.steps.DataBy.{counted_object, limited, total_of}
use Rattle.type_check.proofs.DataTotals.{limited_end, limited_turn, total_from}
use Rattle.type_check.proofs.data.elements_in.Goals as goal

pub loop-object-preserved : goal.loop-object-preserved
loop-object-preserved c =
    let f = counted_object c.args.setting.now in
    let small : min (c.loop-object.total + c.in-Some.count) (2 ^ 128 - 1) ≤ 2 ^ 128 - 1 = omega arith in
    record {
      total =
          c.loop-object.invariant.total
          ∙ limited_turn f c.args.objects.now c.loop-object.object-index c.object-item.result c.loop-object-test.true c.object-item.is c.in-Some.count c.loop-object.total c.saturating_add-total.result
          (sym c.in-Some.is ∙ c.object_of.ensures.count) c.saturating_add-total.ensures;
      within = subst (λ k. k ≤ 2 ^ 128 - 1) (sym c.saturating_add-total.ensures) small;
    }

pub returns : goal.returns
returns c =
    let f = counted_object c.args.setting.now in
    let all = c.args.objects.now in
    limited_end c.loop-object.total (total_of (map f all)) c.loop-object.invariant.within
    (c.loop-object.invariant.total ∙ ap (λ xs. option_map limited (total_from c.loop-object.total (map f xs))) (drop_all c.loop-object.object-index all c.loop-object-test.false))
