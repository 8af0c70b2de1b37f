use Rattle.std.proofs.Common.{◌∙◌, ◌++◌, sym, ap, ap₂, not}
use Rattle.std.specs.Prelude.{◌&&◌}
use Rattle.std.specs.Option.{is_none}
use Rattle.ftn_base.specs.declared.fault.FaultKind.TheVariants.{BadShape, NotConstant}
use Rattle.ftn_tree.specs.DeclarationFaults.{found}
use Rattle.ftn_tree.specs.GlobalNames.{place}
use Rattle.const_value.specs.steps.Findings.{gathered, told_if}
use Rattle.const_value.specs.steps.Measuring.{given}
use Rattle.const_value.specs.steps.Said.{begins}
use Rattle.const_value.specs.steps.Shaping.{has_star, is_constant_some, is_dummy_some, star_told, typed_told, valueless}
use Rattle.const_value.specs.steps.Told.{first_seen}
use Rattle.const_value.specs.steps.Written.{written_seen}
use Rattle.const_value.proofs.FirstFindings.{gathered_both}
use Rattle.const_value.proofs.ShapeTurns.{none_copied}
use Rattle.const_value.proofs.shape_faults.owned_faults.Goals as goal

pub returns : goal.returns
returns c =
    let view = c.args.view.now in
    let file = view.file in
    let old = first_seen c.args.faults.now in
    let w = written_seen c.args.written.now in
    let dummy = is_dummy_some c.args.kind in
    let constant = is_constant_some c.args.kind in
    let token = begins c.args.owned.now.said in
    let typed = typed_told view.project.now file (given view) c.args.owned.now w c.args.measured.now c.args.kind in
    let star = has_star w && not dummy && not constant in
    let missing = constant && is_none w.value in
    c.note_if-2.ensures
    ∙ ap₂ (λ o t. gathered o (told_if t (found NotConstant (place file c.begins-begins.result))))
    (c.note_if.ensures
    ∙ ap₂ (λ o t. gathered o (told_if t (found BadShape (place file c.begins-begins.result)))) c.in_ok-typed_faults.ensures
    (c.both-star.ensures
    ∙ ap₂ (λ a b. a && not b) (c.both.ensures ∙ ap₂ (λ a b. a && not b) c.has_star.ensures c.is_dummy_some.ensures) c.is_constant_some-of_constant.ensures))
    (c.both-valueless.ensures ∙ ap₂ (λ a b. a && b) c.is_constant_some-of_constant.ensures (none_copied c.args.written.now.value c.is_none.result c.is_none.ensures))
    ∙ ap (λ b. gathered (gathered (gathered old typed) (told_if star (found BadShape (place file b)))) (told_if missing (found NotConstant (place file b)))) c.begins-begins.ensures
    ∙ ap (λ o. gathered o (valueless file w constant token)) (sym (gathered_both old typed (star_told file w dummy constant token)))
    ∙ sym (gathered_both old (typed ++ star_told file w dummy constant token) (valueless file w constant token))
