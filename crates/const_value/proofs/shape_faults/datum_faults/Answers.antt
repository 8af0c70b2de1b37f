use Rattle.std.proofs.Common.{◌∙◌, sym, ap, ap₂, not}
use Rattle.std.specs.Prelude.{◌&&◌, ◌||◌}
use Rattle.std.specs.List.{flat_map, list_any}
use Rattle.ftn_base.specs.declared.fault.FaultKind.TheVariants.{BadShape}
use Rattle.ftn_tree.specs.Circles.{expressions_of}
use Rattle.ftn_tree.specs.DeclarationFaults.{found}
use Rattle.ftn_tree.specs.GlobalNames.{place}
use Rattle.ftn_tree.specs.Shapes.{is_none_long}
use Rattle.const_value.specs.steps.Findings.{gathered, told_if}
use Rattle.const_value.specs.steps.Measuring.{given}
use Rattle.const_value.specs.steps.Shaping.{bound_told, is_bad, is_constant_some, is_dummy_some, is_loose}
use Rattle.const_value.specs.steps.Told.{first_seen}
use Rattle.const_value.specs.steps.Written.{pairs, written_seen}
use Rattle.const_value.proofs.FirstFindings.{gathered_both}
use Rattle.const_value.proofs.shape_faults.datum_faults.Goals as goal

pub returns : goal.returns
returns c =
    let view = c.args.view.now in
    let p = view.project.now in
    let old = first_seen c.args.faults.now in
    let m = c.args.measured.now in
    let bounds = pairs (written_seen c.args.written.now) in
    let dummy = is_dummy_some c.args.kind in
    let constant = is_constant_some c.args.kind in
    let finding = found BadShape (place view.file c.args.token) in
    c.note_if.ensures
    ∙ ap₂ (λ o t. gathered o (told_if t finding))
    (c.in_ok-loose.ensures.told ∙ ap₂ (λ d ps. gathered old (flat_map (bound_told p view.file (given view) d) (flat_map expressions_of ps))) c.is_dummy_some-of_dummy.ensures c.pairs.ensures)
    (c.both-bad.ensures
    ∙ ap₂ (λ d b. not d && b) c.is_dummy_some-of_dummy.ensures
    (c.is_bad.ensures
    ∙ ap₂ (λ l k. (l || m.empty) || (not k && is_none_long m.ty)) (c.in_ok-loose.ensures.loose ∙ ap (list_any (is_loose (given view))) c.pairs.ensures) c.is_constant_some.ensures))
    ∙ sym (gathered_both old (flat_map (bound_told p view.file (given view) dummy) (flat_map expressions_of bounds)) (told_if (not dummy && is_bad (given view) bounds m constant) finding))
