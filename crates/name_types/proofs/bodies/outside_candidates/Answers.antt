use Rattle.std.proofs.Common.{◌≡◌, ◌<◌, ◌^◌, length, map, ap, arith, ◌∙◌}
use Rattle.std.proofs.lemmas.List.{take_all}
use Rattle.ftn_tree.specs.Extents.{scoping}
use Rattle.decl_table.proofs.Arounds.{units_few}
use Rattle.name_types.specs.steps.Generics.{outside_candidate}
use Rattle.name_types.proofs.UnitTurns.{unit_pushed}
use Rattle.name_types.proofs.bodies.outside_candidates.Goals as goal

pub overflow_cast-at : goal.overflow_cast-at
overflow_cast-at c =
    let few : length (scoping c.args.files.now) < 2 ^ 32 = units_few c.args.files.now c.requires.trees in
    let same : length c.args.scoping.now.units.items ≡ length (scoping c.args.files.now) = ap length c.requires.known.units in
    omega (arith, few, same, c.loop-at-test.true, c.len-at-end.ensures)

pub outside_candidate-requires : goal.outside_candidate-requires
outside_candidate-requires c = record {
  trees = c.requires.trees;
  known = c.requires.known;
  within =
      let same : length c.args.scoping.now.units.items ≡ length (scoping c.args.files.now) = ap length c.requires.known.units in
      omega (arith, same, c.loop-at-test.true, c.len-at-end.ensures);
}

pub loop-at-preserved : goal.loop-at-preserved
loop-at-preserved c =
    let same : length c.args.scoping.now.units.items ≡ length (scoping c.args.files.now) = ap length c.requires.known.units in
    unit_pushed (outside_candidate c.args.files.now) c.args.files.now c.loop-at.at (omega (arith, same, c.loop-at-test.true, c.len-at-end.ensures)) c.loop-at.made.items c.push.new.self.items
    c.outside_candidate.result c.loop-at.invariant c.in_ok-push.ensures.items c.outside_candidate.ensures

pub returns : goal.returns
returns c =
    let files = c.args.files.now in
    let same : length c.args.scoping.now.units.items ≡ length (scoping files) = ap length c.requires.known.units in
    c.loop-at.invariant ∙ ap (map (outside_candidate c.args.files.now)) (take_all c.loop-at.at (scoping files) (omega (arith, same, c.loop-at-test.false, c.len-at-end.ensures)))
