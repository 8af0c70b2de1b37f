use Rattle.std.proofs.Common.{◌+◌, ◌∙◌}
use Rattle.std.specs.List.{flat_map}
use Rattle.ftn_tree.specs.Scopes.{all_statements}
use Rattle.decl_table.proofs.Said.{flat_next, flat_done}
use Rattle.scope_bind.specs.steps.Uses.{used_at}
use Rattle.scope_bind.proofs.UsedModules.{used_is}
use Rattle.scope_bind.proofs.uses.used_in.Goals as goal

pub loop-at-preserved : goal.loop-at-preserved
loop-at-preserved c =
    let f = used_at c.args.known.now.files.now c.args.unit.file in
    flat_next f (flat_map f (all_statements c.args.unit)) c.loop-at.used.items c.push_used.new.used.items c.loop-at.at (c.args.unit.ending + 1) c.loop-at-test.true c.loop-at.invariant
    c.in_ok-push_used.ensures

pub returns : goal.returns
returns c =
    let f = used_at c.args.known.now.files.now c.args.unit.file in
    flat_done f (flat_map f (all_statements c.args.unit)) c.loop-at.used.items c.loop-at.at (c.args.unit.ending + 1) c.loop-at-test.false c.loop-at.invariant
    ∙ used_is c.args.known.now.files.now c.args.unit
