-- Objects as spans of units of their classes, for the proofs of the code.
use Rattle.std.specs.Prelude.{ℕ, ◌+◌, ◌<◌, ◌≡◌, List, slice_index, slice_get, Some, All, Contains}
use Rattle.ftn_base.specs.declared.storage.Object.{Object}
use Rattle.storage_layout.specs.declared.span.Span.{Span}

-- the span is that of the object
pub record IsSpanOf (objects : List Object) (class offset group : List ℕ) (v : ℕ) (span : Span) : Type 0 where
  pub object : Object
  pub there : slice_get objects v ≡ Some object
  pub class_is : span.class ≡ slice_index class v
  pub sort_is : span.sort ≡ object.sort
  pub group_is : span.group ≡ slice_index group v
  pub start_is : span.start ≡ slice_index offset v
  pub end_is : span.end ≡ slice_index offset v + object.units

-- each span is that of one of the first objects, and each of these has its span
pub record AreSpans (objects : List Object) (class offset group : List ℕ) (count : ℕ) (spans : List Span) : Type 0 where
  pub known : All (λ span. (v : ℕ) × (v < count) × IsSpanOf objects class offset group v span) spans
  pub all : (v : ℕ) → v < count → (span : Span) × Contains spans span × IsSpanOf objects class offset group v span
