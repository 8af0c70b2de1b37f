use Rattle.std.proofs.Common.{◌+◌, ◌<◌, ◌≤◌, ◌&&◌, ◌||◌, max, min, nat_lt, map, drop, sym, ap, subst, ◌∙◌}
use Rattle.ftn_tree.specs.DataTypes.{differ, is_wrong, runs_from}
use Rattle.type_check.specs.steps.DataBy.{counted_object}
use Rattle.type_check.specs.steps.DataRuns.{run_seen}
use Rattle.type_check.proofs.DataWalks.{drop_next, last_wrong, next_position, turn_walked, turn_wrong}
use Rattle.type_check.proofs.data_runs.is_wrong.Goals as goal

pub returns-then-next-end-clause-wrong : goal.returns-then-next-end-clause-wrong
returns-then-next-end-clause-wrong c =
    let f = counted_object c.args.setting.now in
    let objects = map f c.args.objects.now in
    let at = c.objects.walk.at in
    let from = c.objects.walk.from in
    let d = c.index-objects-walk.result in
    let run = run_seen c.args.run.now in
    let next = c.saturating_add-next.result in
    let next_is = drop_next f c.args.objects.now at d c.objects-test.true c.index-objects-walk.is in
    let sum = next_position from (f d).count c.object_of-object.result.count c.unwrap_or.result next c.object_of-object.ensures.count c.unwrap_or.ensures c.saturating_add-next.ensures in
    let less : run.from + run.count < next = subst (λ k. run.from + k < next) c.from.ensures c.if-next-end.true in
    c.is_wrong_too-wrong.ensures ∙ ap (λ t. c.objects.wrong || (nat_lt (max from run.from) (min next (run.from + run.count)) && differ t run.sort)) c.object_of-object.ensures.sort
    ∙ last_wrong objects at from (f d) next_is run next c.requires.fits sum (is_wrong (runs_from 0 objects) run) c.objects.wrong less c.objects.invariant.wrong

pub objects-preserved : goal.objects-preserved
objects-preserved c =
    let f = counted_object c.args.setting.now in
    let objects = map f c.args.objects.now in
    let at = c.objects.walk.at in
    let from = c.objects.walk.from in
    let d = c.index-objects-walk.result in
    let run = run_seen c.args.run.now in
    let next = c.saturating_add-next.result in
    let next_is = drop_next f c.args.objects.now at d c.objects-test.true c.index-objects-walk.is in
    let sum = next_position from (f d).count c.object_of-object.result.count c.unwrap_or.result next c.object_of-object.ensures.count c.unwrap_or.ensures c.saturating_add-next.ensures in
    let within : next ≤ run.from + run.count = subst (λ k. next ≤ run.from + k) c.from.ensures c.if-next-end.false in
    let here = c.is_wrong_too-wrong.ensures ∙ ap (λ t. c.objects.wrong || (nat_lt (max from run.from) (min next (run.from + run.count)) && differ t run.sort)) c.object_of-object.ensures.sort in
    record {
      wrong =
          turn_wrong objects at from (f d) next_is run next c.requires.fits sum (is_wrong (runs_from 0 objects) run) c.objects.wrong within c.objects.invariant.wrong
          ∙ ap (λ b. b || is_wrong (runs_from next (drop (at + 1) objects)) run) (sym here);
      walked = turn_walked objects at from (f d) next_is run next c.requires.fits sum within c.objects.invariant.walked;
    }
