-- Lists of spans of objects.
use Rattle.std.proofs.Common.{◌≡◌, ℕ, ◌+◌, ◌<◌, List, [], ◌∷◌, ◌++◌, ◌⊎◌, inl, inr, Contains, All, get_or, sym, subst, arith}
use Rattle.std.proofs.lemmas.List.Elements.{All-push, All-weaker, Contains-push, Contains-append_left}
use Rattle.std.proofs.lemmas.List.Sorted.{All-permutation, Contains-permutation}
use Rattle.std.specs.List.Sorted.{IsPermutation}
use Rattle.ftn_base.specs.declared.storage.Object.{Object}
use Rattle.storage_layout.specs.declared.span.Span.{Span}
use Rattle.storage_layout.specs.steps.Spans.{IsSpanOf, AreSpans}
use Rattle.storage_layout.proofs.Numbers.{lt_split}

pub ends_there : (end start units offset : ℕ) → start ≡ offset → end ≡ start + units → end ≡ offset + units
ends_there end start units offset same e = omega (arith, same, e)

lt_next : (v count : ℕ) → v < count → v < count + 1
lt_next v count lt = omega (arith, lt)

module _ (objects : List Object) (class offset group : List ℕ) where
  -- with the span of one object more
  pub spans_more : (count : ℕ) (spans : List Span) (span : Span) → AreSpans objects class offset group count spans → IsSpanOf objects class offset group count span → AreSpans objects class offset group (count + 1) (spans ++ span ∷ [])
  spans_more count spans span are is = record {
    known = All-push (λ (s : Span). (v : ℕ) × (v < count + 1) × IsSpanOf objects class offset group v s) spans span
        (All-weaker (λ (s : Span). (v : ℕ) × (v < count) × IsSpanOf objects class offset group v s) (λ (s : Span). (v : ℕ) × (v < count + 1) × IsSpanOf objects class offset group v s)
        (λ s found. (found.0, lt_next found.0 count found.1, found.2)) spans are.known) (count, (omega arith), is);
    all = λ v lt. by_case v (lt_split v count lt);
  }
    where
      by_case : (v : ℕ) → (v < count) ⊎ (v ≡ count) → (s : Span) × Contains (spans ++ span ∷ []) s × IsSpanOf objects class offset group v s
      by_case v (inl less) = let found = are.all v less in (found.0, Contains-append_left spans (span ∷ []) found.0 found.1, found.2)
      by_case v (inr same) = (span, Contains-push spans span, subst (λ (k : ℕ). IsSpanOf objects class offset group k span) (sym same) is)

  -- in another order
  pub spans_moved : (count : ℕ) (spans moved : List Span) → IsPermutation spans moved → AreSpans objects class offset group count spans → AreSpans objects class offset group count moved
  spans_moved count spans moved way are = record {
    known = All-permutation (λ (s : Span). (v : ℕ) × (v < count) × IsSpanOf objects class offset group v s) spans moved way are.known;
    all = λ v lt. (let found = are.all v lt in (found.0, Contains-permutation spans moved found.0 way found.1, found.2));
  }

  pub classes_known : (count classes : ℕ) (spans : List Span) → AreSpans objects class offset group count spans → ((v : ℕ) → v < count → get_or class v 0 < classes) → All (λ (s : Span). s.class < classes) spans
  classes_known count classes spans are known =
      All-weaker (λ (s : Span). (v : ℕ) × (v < count) × IsSpanOf objects class offset group v s) (λ (s : Span). s.class < classes)
      (λ s found. subst (λ (k : ℕ). k < classes) (sym found.2.class_is) (known found.0 found.1)) spans are.known
