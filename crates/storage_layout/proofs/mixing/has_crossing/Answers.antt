use Rattle.std.proofs.Common.{◌<◌, List, length, take, get_or, slice_set, refl, sym, subst, below_more, ◌∙◌, arith}
use Rattle.std.proofs.lemmas.List.{take_more, length-set}
use Rattle.std.proofs.lemmas.Option.{slice_get-get_or, slice_get_read}
use Rattle.ftn_base.specs.declared.entity.Sort.TheVariants.{Numeric}
use Rattle.storage_layout.specs.declared.span.Span.{Span}
use Rattle.storage_layout.specs.steps.Mixing.{IsKept}
use Rattle.storage_layout.proofs.Crossing.{kept_more, not_crossed, crossing_within}
use Rattle.storage_layout.proofs.mixing.has_crossing.Goals as goal

-- what a read past the end would give
abbrev none : Span
none = record { class = 0; sort = Numeric; group = 0; start = 0; end = 0 }

pub loop-span-preserved : goal.loop-span-preserved
loop-span-preserved c =
    let i = c.loop-span.span-index in
    let spans = c.args.spans.now in
    let span : Span = get_or spans i none in
    let reaches = c.loop-span.reaches.items in
    let here = slice_get-get_or spans i none c.loop-span-test.true in
    let inside : span.class < length reaches = omega (arith, c.requires i none c.loop-span-test.true, c.loop-span.invariant.counted) in
    let was = slice_get_read reaches (length reaches) span.class c.index-before.result.now refl inside c.index-before.ensures in
    record {
      counted = length-set reaches span.class c.with.result ∙ c.loop-span.invariant.counted;
      kept = subst (λ (list : List Span). IsKept (slice_set reaches span.class c.with.result) list) (sym (take_more spans i none c.loop-span-test.true))
          (kept_more reaches (take i spans) span c.index-before.result.now c.with.result c.loop-span.invariant.kept inside was c.with.ensures);
      none = below_more _ _ c.loop-span.invariant.none (not_crossed reaches spans i span c.index-before.result.now here c.loop-span.invariant.kept inside was (omega (arith, c.against.ensures, c.from.ensures, c.if-from-against.false)));
    }

pub returns : goal.returns
returns c = (λ e. absurd (cc e), λ found. absurd (crossing_within c.args.spans.now (λ number lt. c.loop-span.invariant.none number (omega (arith, lt, c.loop-span-test.false))) found))
