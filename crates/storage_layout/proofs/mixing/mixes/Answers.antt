use Rattle.std.proofs.Common.{◌<◌, ℕ, Bool, List, All, Decides, length, get_or, subst, sym}
use Rattle.std.proofs.lemmas.Result.{IfOk-weaker}
use Rattle.storage_layout.specs.declared.span.Span.{Span}
use Rattle.storage_layout.specs.steps.Mixing.{AreMet, HasCrossing}
use Rattle.storage_layout.proofs.SpanLists.{classes_known}
use Rattle.storage_layout.proofs.Meeting.{met_from, crossing_from}
use Rattle.storage_layout.proofs.mixing.mixes.Goals as goal

pub has_crossing-requires : goal.has_crossing-requires
has_crossing-requires c =
    subst (λ (list : List Span). All (λ (s : Span). s.class < c.len.result) list) (sym c.deref.ensures.value)
    (classes_known c.args.objects.now c.args.found.now.class.items c.args.found.now.offset.items c.args.group.now (length c.args.objects.now) c.len.result c.in_ok-spans.spans.items c.in_ok-spans.ensures.spans
    (λ v lt. subst (λ (n : ℕ). get_or c.args.found.now.class.items v 0 < n) (sym c.len.ensures) (c.requires.known v lt)))

pub returns : goal.returns
returns c =
    let spans : List Span = c.in_ok-spans.spans.items in
    IfOk-weaker c.has_crossing.result (λ (b : Bool). Decides b (HasCrossing c.deref.result.now))
    (λ (b : Bool). Decides b (AreMet c.args.objects.now c.args.found.now.class.items c.args.found.now.offset.items c.args.group.now))
    (λ b d. (
      (λ e. met_from c.args.objects.now c.args.found.now.class.items c.args.found.now.offset.items c.args.group.now spans c.in_ok-spans.ensures.spans c.in_ok-spans.ensures.rising c.requires.filled
          (subst HasCrossing c.deref.ensures.value (d.0 e))),
      (λ met. d.1 (subst HasCrossing (sym c.deref.ensures.value)
          (crossing_from c.args.objects.now c.args.found.now.class.items c.args.found.now.offset.items c.args.group.now spans c.in_ok-spans.ensures.spans c.in_ok-spans.ensures.rising c.requires.filled met))),
    )) c.has_crossing.ensures
