use Rattle.std.proofs.Common.{◌≡◌, ◌<◌, ◌^◌, length, take, sym, ap, ◌∙◌, arith}
use Rattle.std.specs.List.{flat_map}
use Rattle.ftn_tree.specs.DeclarationFaults.{first_finding, declaration_rank, scope_findings}
use Rattle.ftn_tree.specs.Extents.{scoping}
use Rattle.decl_table.proofs.Arounds.{units_few}
use Rattle.decl_table.proofs.Entries.{flat_more}
use Rattle.decl_table.proofs.scope_faults.scopes_fault.Goals as goal

pub overflow_cast-number : goal.overflow_cast-number
overflow_cast-number c =
    let few : length (scoping c.args.files.now) < 2 ^ 32 = units_few c.args.files.now c.requires.trees in
    let same : length c.args.scoping.now.units.items ≡ length (scoping c.args.files.now) = ap length c.requires.known.units in
    omega (arith, few, same, c.loop-at-test.true, c.len-at-end.ensures)

pub loop-at-preserved : goal.loop-at-preserved
loop-at-preserved c =
    c.earlier-found.ensures.joined (flat_map (scope_findings c.args.files.now) (take c.loop-at.at (scoping c.args.files.now))) (scope_findings c.args.files.now c.unit_at-body.result.0)
    c.loop-at.invariant c.in_ok-next.ensures
    ∙ ap (first_finding declaration_rank) (sym (flat_more (scope_findings c.args.files.now) (scoping c.args.files.now) c.loop-at.at c.unit_at-body.result.0 c.unit_at-body.ensures.unit))
