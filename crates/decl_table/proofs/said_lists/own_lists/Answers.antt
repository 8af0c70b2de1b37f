use Rattle.std.proofs.Common.{length, ap, ◌∙◌, arith}
use Rattle.decl_table.proofs.Arounds.{units_few}
use Rattle.decl_table.proofs.said_lists.own_lists.Goals as goal

pub overflow_add-number : goal.overflow_add-number
overflow_add-number c =
    let few = units_few c.args.files.now c.requires.trees in
    let long = ap length (c.deref-unit-items.ensures.value ∙ c.requires.known.units) in
    let same = c.loop-unit.invariant.0 in omega (arith, few, long, same, c.loop-unit-test.true)
