use Rattle.std.proofs.Common.{◌≡◌, ◌<◌, ◌^◌, ◌++◌, length, sym, ap, ◌∙◌, arith}
use Rattle.ftn_tree.specs.Calls.{scope_calls}
use Rattle.ftn_tree.specs.Extents.{scoping}
use Rattle.decl_table.proofs.Arounds.{units_few}
use Rattle.decl_table.proofs.Entries.{flat_more}
use Rattle.type_check.proofs.calls.calls_of.Goals as goal

pub overflow_cast-number : goal.overflow_cast-number
overflow_cast-number c =
    let few : length (scoping c.args.files.now) < 2 ^ 32 = units_few c.args.files.now c.requires.trees in
    let same : length c.args.scoping.now.units.items ≡ length (scoping c.args.files.now) = ap length c.requires.scoping.units in
    omega (arith, few, same, c.loop-at-test.true, c.len-at-end.ensures)

pub loop-at-preserved : goal.loop-at-preserved
loop-at-preserved c =
    let calls = scope_calls c.args.files.now in
    c.in_ok-push_unit.ensures ∙ ap (λ xs. xs ++ calls c.unit_at.result.0) c.loop-at.invariant
    ∙ sym (flat_more calls (scoping c.args.files.now) c.loop-at.at c.unit_at.result.0 c.unit_at.ensures.unit)
