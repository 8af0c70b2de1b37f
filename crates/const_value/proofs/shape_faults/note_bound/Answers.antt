use Rattle.std.proofs.Common.{◌∙◌, sym, ap, ap₂, cond, []}
use Rattle.ftn_tree.specs.Shapes.{all_told, breaches_told}
use Rattle.const_value.specs.steps.Findings.{earlier, gathered}
use Rattle.const_value.specs.steps.Measuring.{given}
use Rattle.const_value.specs.steps.Shaping.{is_dummy_bound}
use Rattle.const_value.specs.steps.Told.{breach_found, first_seen, stray_found}
use Rattle.const_value.proofs.ToldFirst.{all_noted, breaches_noted}
use Rattle.const_value.proofs.shape_faults.note_bound.Goals as goal

pub returns-then-not-is_dummy_bound : goal.returns-then-not-is_dummy_bound
returns-then-not-is_dummy_bound c = λ told.
    let file = c.args.view.now.file in
    let e = given c.args.view.now c.args.bound.now in
    let old = first_seen c.args.faults.now in
    c.note_told.ensures ∙ ap (λ t. earlier (earlier old (stray_found file t)) (breach_found file t)) told ∙ all_noted old file e
    ∙ ap₂ (λ d b. gathered old (cond d (cond b [] (all_told file e)) (breaches_told file e))) (sym c.if-of_dummy.true) (sym c.if-not-is_dummy_bound.true ∙ c.is_dummy_bound.ensures)

pub returns-else-of_dummy : goal.returns-else-of_dummy
returns-else-of_dummy c = λ told.
    let view = c.args.view.now in
    let file = view.file in
    let e = given view c.args.bound.now in
    let old = first_seen c.args.faults.now in
    c.note_breach.ensures ∙ ap (λ t. earlier old (breach_found file t)) told ∙ breaches_noted old file e
    ∙ ap (λ d. gathered old (cond d (cond (is_dummy_bound view.project.now file c.args.bound.now) [] (all_told file e)) (breaches_told file e))) (sym c.if-of_dummy.false)
