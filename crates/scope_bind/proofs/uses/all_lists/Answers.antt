use Rattle.std.proofs.Common.{◌≡◌, ◌<◌, ◌^◌, length, map, ap, arith, ◌∙◌}
use Rattle.std.proofs.lemmas.List.{take_all}
use Rattle.ftn_tree.specs.Extents.{scoping}
use Rattle.ftn_tree.specs.Meanings.{use_lists}
use Rattle.decl_table.proofs.Arounds.{units_few}
use Rattle.decl_table.proofs.Turns.{one_more_is}
use Rattle.scope_bind.specs.steps.Globals.{unit_at}
use Rattle.scope_bind.proofs.Units.{unit_there}
use Rattle.scope_bind.proofs.uses.all_lists.Goals as goal

pub overflow_cast-at : goal.overflow_cast-at
overflow_cast-at c =
    let files = c.args.known.now.files.now in
    let few : length (scoping files) < 2 ^ 32 = units_few files c.requires.known.trees in
    let same : length c.args.known.now.scoping.now.units.items ≡ length (scoping files) = ap length c.requires.known.scoping.units in
    omega (arith, few, same, c.loop-at-test.true, c.len-at-end.ensures)

pub use_list-requires : goal.use_list-requires
use_list-requires c = record {
  known = c.requires.known;
  within =
      let same : length c.args.known.now.scoping.now.units.items ≡ length (scoping c.args.known.now.files.now) = ap length c.requires.known.scoping.units in
      omega (arith, same, c.loop-at-test.true, c.len-at-end.ensures);
}

pub loop-at-preserved : goal.loop-at-preserved
loop-at-preserved c =
    let files = c.args.known.now.files.now in
    let same : length c.args.known.now.scoping.now.units.items ≡ length (scoping files) = ap length c.requires.known.scoping.units in
    let less : c.loop-at.at < length (scoping files) = omega (arith, same, c.loop-at-test.true, c.len-at-end.ensures) in
    one_more_is (λ list. list.items) (use_lists files) (scoping files) c.loop-at.at (unit_at files c.loop-at.at) (unit_there files c.loop-at.at less)
    c.loop-at.made.items c.push.new.self.items c.in_ok-use_list.field-0 c.loop-at.invariant c.in_ok-push.ensures.items c.in_ok-use_list.ensures

pub returns : goal.returns
returns c =
    let files = c.args.known.now.files.now in
    let same : length c.args.known.now.scoping.now.units.items ≡ length (scoping files) = ap length c.requires.known.scoping.units in
    c.loop-at.invariant ∙ ap (map (use_lists files)) (take_all c.loop-at.at (scoping files) (omega (arith, same, c.loop-at-test.false, c.len-at-end.ensures)))
