-- What is kept of each class tells how far the spans before reach.
use Rattle.std.proofs.Common.{◌≡◌, ◌≢◌, ℕ, ◌<◌, ◌≤◌, max, List, [], ◌∷◌, ◌++◌, Bool, true, false, Option, Some, cond, nat_eq, length, set, take, slice_get, refl, sym, ◌∙◌, subst, ap, arith}
use Rattle.std.proofs.lemmas.Bool.Decides.{nat_tests}
use Rattle.std.proofs.lemmas.List.{length-set, get_or-set_other, get_or-set_same}
use Rattle.std.proofs.lemmas.Option.{slice_get_within, slice_get-get_or, same_Some}
use Rattle.ftn_base.specs.declared.entity.Sort.{Sort}
use Rattle.storage_layout.specs.declared.span.Span.{Span}
use Rattle.storage_layout.specs.declared.reaches.Reaches.{Reaches}
use Rattle.storage_layout.specs.steps.Reaching.{against_of, is_other, further}
use Rattle.storage_layout.specs.steps.Mixing.{reach_over, against_at, IsKept, IsCrossed, HasCrossing}

-- ---- one span more

further_swapped : (one other : Sort) (g h e f : ℕ) (asked : Sort) (beside before : ℕ)
    → further one g e asked beside (further other h f asked beside before) ≡ further other h f asked beside (further one g e asked beside before)
further_swapped one other g h e f asked beside before = by_case (is_other one asked) (is_other other asked) (nat_eq g beside) (nat_eq h beside)
  where
    by_case : (a b c d : Bool) → cond a (cond c (cond b (cond d before (max before f)) before) (max (cond b (cond d before (max before f)) before) e)) (cond b (cond d before (max before f)) before)
        ≡ cond b (cond d (cond a (cond c before (max before e)) before) (max (cond a (cond c before (max before e)) before) f)) (cond a (cond c before (max before e)) before)
    by_case false b c d = refl
    by_case true false c d = refl
    by_case true true true true = refl
    by_case true true true false = refl
    by_case true true false true = refl
    by_case true true false false = omega arith

abbrev with_span : Span → ℕ → Sort → ℕ → ℕ → ℕ
with_span span class sort group before = cond (nat_eq span.class class) (further span.sort span.group span.end sort group before) before

swapped : (one other : Span) (class : ℕ) (sort : Sort) (group before : ℕ) → with_span one class sort group (with_span other class sort group before) ≡ with_span other class sort group (with_span one class sort group before)
swapped one other class sort group before = by_case (nat_eq one.class class) (nat_eq other.class class)
  where
    by_case : (a b : Bool) → cond a (further one.sort one.group one.end sort group (cond b (further other.sort other.group other.end sort group before) before)) (cond b (further other.sort other.group other.end sort group before) before)
        ≡ cond b (further other.sort other.group other.end sort group (cond a (further one.sort one.group one.end sort group before) before)) (cond a (further one.sort one.group one.end sort group before) before)
    by_case false b = refl
    by_case true false = refl
    by_case true true = further_swapped one.sort other.sort one.group other.group one.end other.end sort group before

pub reach_push : (spans : List Span) (span : Span) (class : ℕ) (sort : Sort) (group : ℕ) → reach_over (spans ++ span ∷ []) class sort group ≡ with_span span class sort group (reach_over spans class sort group)
reach_push [] span class sort group = refl
reach_push (first ∷ spans) span class sort group =
    ap (with_span first class sort group) (reach_push spans span class sort group) ∙ swapped first span class sort group (reach_over spans class sort group)

-- ---- one class's reaches changed

set_same : (reaches : List Reaches) (class : ℕ) (new : Reaches) → class < length reaches → slice_get (set reaches class new) class ≡ Some new
set_same reaches class new lt =
    let inside : class < length (set reaches class new) = simp length-set lt in
    slice_get-get_or (set reaches class new) class new inside ∙ ap Some (get_or-set_same reaches class new new lt)

set_other : (reaches : List Reaches) (class other : ℕ) (new : Reaches) → other ≢ class → other < length reaches → slice_get (set reaches class new) other ≡ slice_get reaches other
set_other reaches class other new apart lt =
    let inside : other < length (set reaches class new) = simp length-set lt in
    slice_get-get_or (set reaches class new) other new inside ∙ ap Some (get_or-set_other reaches class other new new apart) ∙ sym (slice_get-get_or reaches other new lt)

module _ (reaches : List Reaches) (spans : List Span) (span : Span) (old new : Reaches) (kept : IsKept reaches spans) (there : span.class < length reaches) (was : slice_get reaches span.class ≡ Some old)
    (more : (asked : Sort) (beside : ℕ) → against_of new asked beside ≡ further span.sort span.group span.end asked beside (against_of old asked beside)) where
  kept_same : (sort : Sort) (group : ℕ) → against_at (slice_get (set reaches span.class new) span.class) sort group ≡ further span.sort span.group span.end sort group (reach_over spans span.class sort group)
  kept_same sort group =
      ap (λ (r : Option Reaches). against_at r sort group) (set_same reaches span.class new there) ∙ more sort group
      ∙ ap (further span.sort span.group span.end sort group) (ap (λ (r : Option Reaches). against_at r sort group) (sym was) ∙ kept span.class sort group there)

  pub kept_more : IsKept (set reaches span.class new) (spans ++ span ∷ [])
  kept_more class sort group lt = by_case (nat_eq span.class class) refl ∙ sym (reach_push spans span class sort group)
    where
      inside : class < length reaches
      inside = simp length-set at lt

      by_case : (b : Bool) → nat_eq span.class class ≡ b
          → against_at (slice_get (set reaches span.class new) class) sort group ≡ with_span span class sort group (reach_over spans class sort group)
      by_case true e =
          let same : span.class ≡ class = grind (arith, nat_tests) in
          subst (λ (k : ℕ). against_at (slice_get (set reaches span.class new) k) sort group ≡ further span.sort span.group span.end sort group (reach_over spans k sort group)) same (kept_same sort group)
          ∙ ap (λ (b : Bool). cond b (further span.sort span.group span.end sort group (reach_over spans class sort group)) (reach_over spans class sort group)) (sym e)
      by_case false e =
          let apart : class ≢ span.class = grind (arith, nat_tests) in
          ap (λ (r : Option Reaches). against_at r sort group) (set_other reaches span.class class new apart inside) ∙ kept class sort group inside
          ∙ ap (λ (b : Bool). cond b (further span.sort span.group span.end sort group (reach_over spans class sort group)) (reach_over spans class sort group)) (sym e)

-- ---- the span at hand

module _ (reaches : List Reaches) (spans : List Span) (number : ℕ) (span : Span) (before : Reaches) (here : slice_get spans number ≡ Some span) (kept : IsKept reaches (take number spans))
    (there : span.class < length reaches) (was : slice_get reaches span.class ≡ Some before) where
  told : against_of before span.sort span.group ≡ reach_over (take number spans) span.class span.sort span.group
  told = ap (λ (r : Option Reaches). against_at r span.sort span.group) (sym was) ∙ kept span.class span.sort span.group there

  pub not_crossed : against_of before span.sort span.group ≤ span.start → IsCrossed spans number → ⊥
  not_crossed past crossed =
      let same : crossed.span ≡ span = same_Some crossed.span span (sym crossed.there ∙ here) in
      let less : span.start < reach_over (take number spans) span.class span.sort span.group = subst (λ (s : Span). s.start < reach_over (take number spans) s.class s.sort s.group) same crossed.before in
      let e = told in
      omega (arith, less, e, past)

  pub crossed : span.start < against_of before span.sort span.group → HasCrossing spans
  crossed less = (number, record { span = span; there = here; before = subst (λ (n : ℕ). span.start < n) told less })

pub crossing_within : (spans : List Span) → ((number : ℕ) → number < length spans → IsCrossed spans number → ⊥) → HasCrossing spans → ⊥
crossing_within spans none found = none found.0 (slice_get_within spans found.0 found.1.span found.1.there) found.1
