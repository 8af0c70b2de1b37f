use Rattle.std.proofs.Common.{◌≡◌, ◌<◌, ◌^◌, length, ap, arith}
use Rattle.ftn_tree.specs.Extents.{scoping}
use Rattle.decl_table.proofs.Arounds.{units_few}
use Rattle.decl_table.proofs.scopes.scope_table.Goals as goal

pub overflow_cast-at : goal.overflow_cast-at
overflow_cast-at c =
    let few : length (scoping c.args.files.now) < 2 ^ 32 = units_few c.args.files.now c.requires.trees in
    let same : length c.args.scoping.now.units.items ≡ length (scoping c.args.files.now) = ap length c.requires.known.units in
    omega (arith, few, same, c.loop-at-test.true, c.len-at-end.ensures)
