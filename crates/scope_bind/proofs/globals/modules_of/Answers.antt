use Rattle.std.proofs.Common.{◌≡◌, ◌<◌, ◌^◌, length, map, ap, arith, ◌∙◌}
use Rattle.std.specs.List.{filter}
use Rattle.std.proofs.lemmas.List.{take_all}
use Rattle.ftn_tree.specs.Extents.{scoping}
use Rattle.ftn_tree.specs.GlobalNames.{has_no_host}
use Rattle.ftn_tree.specs.Meanings.{is_module}
use Rattle.ftn_tree.specs.Scopes.{scope_kind, scope_number}
use Rattle.decl_table.proofs.Arounds.{units_few}
use Rattle.scope_bind.proofs.ModuleUnits.{modules_more}
use Rattle.scope_bind.proofs.globals.modules_of.Goals as goal

pub overflow_cast-at : goal.overflow_cast-at
overflow_cast-at c =
    let few : length (scoping c.args.files.now) < 2 ^ 32 = units_few c.args.files.now c.requires.trees in
    let same : length c.args.scoping.now.units.items ≡ length (scoping c.args.files.now) = ap length c.requires.known.units in
    omega (arith, few, same, c.loop-at-test.true, c.len-at-end.ensures)

pub push_module-requires : goal.push_module-requires
push_module-requires c = record {
  trees = c.requires.trees;
  known = c.requires.known;
  within =
      let same : length c.args.scoping.now.units.items ≡ length (scoping c.args.files.now) = ap length c.requires.known.units in
      omega (arith, same, c.loop-at-test.true, c.len-at-end.ensures);
}

pub loop-at-preserved : goal.loop-at-preserved
loop-at-preserved c =
    let same : length c.args.scoping.now.units.items ≡ length (scoping c.args.files.now) = ap length c.requires.known.units in
    modules_more c.args.files.now c.requires.trees c.loop-at.at (omega (arith, same, c.loop-at-test.true, c.len-at-end.ensures)) c.loop-at.modules.items c.push_module.new.modules.items
    c.loop-at.invariant c.in_ok-push_module.ensures

pub returns : goal.returns
returns c =
    let files = c.args.files.now in
    let same : length c.args.scoping.now.units.items ≡ length (scoping files) = ap length c.requires.known.units in
    c.loop-at.invariant
    ∙ ap (λ es. map (scope_number files) (filter (λ e. is_module (scope_kind files e)) (filter (has_no_host files) es)))
    (take_all c.loop-at.at (scoping files) (omega (arith, same, c.loop-at-test.false, c.len-at-end.ensures)))
