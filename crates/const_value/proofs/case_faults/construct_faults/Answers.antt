use Rattle.std.proofs.Common.{map, ◌∙◌, sym, ap, subst, []}
use Rattle.ftn_tree.specs.Extents.{layer_at}
use Rattle.const_value.specs.steps.Cases.{ListsAreKept, spans_at}
use Rattle.const_value.specs.steps.Intervals.{least, met}
use Rattle.const_value.specs.steps.Measuring.{given}
use Rattle.const_value.specs.steps.Told.{first_seen}
use Rattle.const_value.proofs.Constructs.{construct, head_of}
use Rattle.const_value.proofs.KeptSpans.{construct_noted, heads_mapped}
use Rattle.const_value.proofs.case_faults.construct_faults.Goals as goal

pub returns : goal.returns
returns c =
    let view = c.args.view.now in
    let files = view.project.now.files.now in
    let kept = map (λ list. list.items) c.in_ok-lists.lists.items in
    construct_noted (given view) files view.file (construct c.args.opening (map head_of c.args.arms.now)) kept c.in_ok-token.token (first_seen c.args.faults.now) (first_seen c.note_meeting.new.faults)
    (sym c.if-not-is_select.false ∙ c.is_select.ensures)
    (subst (λ lists. ListsAreKept lists kept) (heads_mapped (λ head. spans_at (given view) (layer_at files view.file head)) head_of c.args.arms.now) c.in_ok-lists.ensures)
    (c.in_ok-token.ensures ∙ ap (λ lists. least (met [] (map (λ list. list.items) lists))) c.deref.ensures.value)
    c.note_meeting.ensures
