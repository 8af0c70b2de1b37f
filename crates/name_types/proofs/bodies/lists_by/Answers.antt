use Rattle.std.proofs.Common.{◌≡◌, ◌∙◌, length, drop, refl, ap, arith}
use Rattle.std.proofs.lemmas.List.{length-map, take_at}
use Rattle.const_value.specs.steps.Lists.{lists_of}
use Rattle.name_types.proofs.BodyLists.{one_so_far, placed_long}
use Rattle.name_types.proofs.bodies.lists_by.Goals as goal

pub loop-one-preserved : goal.loop-one-preserved
loop-one-preserved c =
    let before = c.loop-one.lists.items in
    let after = c.push_placed.new.lists in
    let put = rw c.deref_mut.ensures.value at c.in_ok-push_placed.ensures in
    let long : length (lists_of after) ≡ length (lists_of before) = ap length put ∙ placed_long (lists_of before) _ in
    let old_size : length (lists_of before) ≡ length before = length-map before (λ v. v.items) in
    let new_size : length (lists_of after) ≡ length after = length-map after (λ v. v.items) in
    let same = c.deref_mut.ensures.len in
    let count : length after ≡ c.loop-one.lists.len = omega arith in
    rw (take_at after (drop (length after) before) c.loop-one.lists.len count)
    (one_so_far c.args.count (lists_of before) (lists_of after) c.args.placed.now c.loop-one.one-index _ _ c.loop-one-test.true refl put c.loop-one.invariant)
