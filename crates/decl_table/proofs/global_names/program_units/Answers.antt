use Rattle.std.proofs.Common.{◌≡◌, ◌<◌, ◌^◌, length, ap, arith}
use Rattle.ftn_tree.specs.Extents.{scoping}
use Rattle.decl_table.proofs.Arounds.{units_few}
use Rattle.decl_table.proofs.GlobalLists.{outer_more}
use Rattle.decl_table.proofs.global_names.program_units.Goals as goal

pub overflow_cast-number : goal.overflow_cast-number
overflow_cast-number c =
    let few : length (scoping c.args.files.now) < 2 ^ 32 = units_few c.args.files.now c.requires.trees in
    let same : length c.args.scoping.now.units.items ≡ length (scoping c.args.files.now) = ap length c.requires.known.units in
    omega (arith, few, same, c.loop-at-test.true, c.len-at-end.ensures)

pub loop-at-preserved : goal.loop-at-preserved
loop-at-preserved c =
    outer_more c.args.files.now c.requires.trees c.loop-at.units.items c.push_outer.new.units.items c.loop-at.at c.unit_at-host.result.0 c.unit_at-host.result.2
    c.unit_at-host.ensures.unit c.unit_at-host.ensures.host c.loop-at.invariant c.in_ok-push_outer.ensures
