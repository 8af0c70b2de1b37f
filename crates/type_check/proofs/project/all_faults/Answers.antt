use Rattle.std.proofs.Common.{◌≡◌, ◌<◌, ◌^◌, length, map, take, sym, ap, ◌∙◌, arith}
use Rattle.std.specs.List.{flat_map}
use Rattle.ftn_tree.specs.declared.table.Extent.{Extent}
use Rattle.ftn_tree.specs.Extents.{scoping}
use Rattle.ftn_tree.specs.TypeFaults.{finding, scope_told}
use Rattle.decl_table.proofs.Arounds.{units_few}
use Rattle.decl_table.proofs.Entries.{flat_more}
use Rattle.type_check.specs.steps.Findings.{gathered}
use Rattle.type_check.specs.steps.Noted.{first_seen}
use Rattle.type_check.proofs.FirstFindings.{gathered_both}
use Rattle.type_check.proofs.project.all_faults.Goals as goal

pub overflow_cast-number : goal.overflow_cast-number
overflow_cast-number c =
    let few : length (scoping c.args.known.now.files.now) < 2 ^ 32 = units_few c.args.known.now.files.now c.requires.known.trees in
    let same : length c.args.known.now.scoping.now.units.items ≡ length (scoping c.args.known.now.files.now) = ap length c.requires.known.scoping.units in
    omega (arith, few, same, c.loop-at-test.true, c.len-at-end.ensures)

pub loop-at-preserved : goal.loop-at-preserved
loop-at-preserved c =
    let files = c.args.known.now.files.now in
    let told = λ (e : Extent). map (finding e.file) (scope_told files e) in
    let before = flat_map told (take c.loop-at.at (scoping files)) in
    c.in_ok-unit_faults.ensures
    ∙ ap (λ o. gathered o (told c.unit_at-is_body.result.0)) c.loop-at.invariant
    ∙ sym (gathered_both (first_seen c.args.faults.now) before (told c.unit_at-is_body.result.0))
    ∙ ap (gathered (first_seen c.args.faults.now)) (sym (flat_more told (scoping files) c.loop-at.at c.unit_at-is_body.result.0 c.unit_at-is_body.ensures.unit))
