use Rattle.std.proofs.Common.{◌≡◌, ◌+◌, ◌∙◌, length, slice_get, ap, sym, arith}
use Rattle.std.proofs.lemmas.List.{length_push}
use Rattle.name_types.specs.steps.Namings.{IsKept}
use Rattle.name_types.proofs.KeptMore.{each_next}
use Rattle.name_types.proofs.namings.namings_of.Goals as goal

pub loop-entity-init : goal.loop-entity-init
loop-entity-init c = record {
  long = ap length c.new-namings.ensures.items;
  each = λ n entity naming one other. absurd (cc (sym (ap (λ xs. slice_get xs n) c.new-namings.ensures.items) ∙ other));
}

pub loop-entity-preserved : goal.loop-entity-preserved
loop-entity-preserved c = record {
  long = ap length c.in_ok-push.ensures.items ∙ length_push c.loop-entity.namings.items c.in_ok-naming_of.field-0 ∙ ap (λ n. n + 1) c.loop-entity.invariant.long;
  each =
      each_next (IsKept c.args.files.now c.args.declared.now) c.as_slice-entity-items.result.now c.loop-entity.namings.items c.push.new.self.items c.loop-entity.entity-index c.entity-item.result
      c.in_ok-naming_of.field-0 c.in_ok-push.ensures.items c.loop-entity.invariant.long c.loop-entity-test.true c.entity-item.is c.in_ok-naming_of.ensures c.loop-entity.invariant.each;
}

pub returns : goal.returns
returns c =
    let last = c.loop-entity.auto.entity-index-end in
    let over = c.loop-entity-test.false in
    let whole : c.loop-entity.entity-index ≡ length c.as_slice-entity-items.result.now = omega (arith, last, over) in
    record {
      long = c.loop-entity.invariant.long ∙ whole ∙ ap length c.as_slice-entity-items.ensures;
      each = λ n entity naming there. c.loop-entity.invariant.each n entity naming (ap (λ xs. slice_get xs n) c.as_slice-entity-items.ensures ∙ there);
    }
