use Rattle.std.proofs.Common.{◌+◌, ◌++◌, [], ◌∙◌, refl, ap}
use Rattle.std.specs.List.{flat_map}
use Rattle.ftn_tree.specs.DeclarationFaults.{first_finding}
use Rattle.ftn_tree.specs.NameFaults.{use_rank}
use Rattle.ftn_tree.specs.Scopes.{all_statements}
use Rattle.decl_table.proofs.Said.{flat_done, flat_next}
use Rattle.scope_bind.specs.steps.UseFaults.{use_at}
use Rattle.scope_bind.proofs.UseTurns.{statements_told}
use Rattle.scope_bind.proofs.use_faults.first_in_unit.Goals as goal

pub loop-at-init : goal.loop-at-init
loop-at-init c = record { done = []; first = refl; whole = refl }

pub loop-at-preserved : goal.loop-at-preserved
loop-at-preserved c =
    let at = c.loop-at.at in
    let f = use_at c.args.known.now.files.now c.args.unit c.args.marks.now in
    let so_far = c.loop-at.invariant in
    record {
      done = so_far.done ++ f at;
      first = c.earlier-first.ensures.joined so_far.done (f at) so_far.first c.use_finding-next.ensures;
      whole = flat_next f (flat_map f (all_statements c.args.unit)) so_far.done (so_far.done ++ f at) at (c.args.unit.ending + 1) c.loop-at-test.true so_far.whole refl;
    }

pub returns : goal.returns
returns c =
    let f = use_at c.args.known.now.files.now c.args.unit c.args.marks.now in
    let so_far = c.loop-at.invariant in
    so_far.first ∙ ap (first_finding use_rank)
    (flat_done f (flat_map f (all_statements c.args.unit)) so_far.done c.loop-at.at (c.args.unit.ending + 1) c.loop-at-test.false so_far.whole
    ∙ statements_told c.args.known.now.files.now c.args.unit c.args.marks.now)
