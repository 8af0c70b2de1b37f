-- Units of numeric and of character objects that have one class and one place in it, for the proofs of the code.
use Rattle.std.specs.Prelude.{ℕ, ◌+◌, ◌<◌, ◌≡◌, ◌≢◌, nat_eq, List, [], ◌∷◌, take, length, slice_index, slice_get, Option, Some, None, if◌then◌else◌}
use Rattle.ftn_base.specs.declared.entity.Sort.{Sort}
use Rattle.ftn_base.specs.declared.storage.Object.{Object}
use Rattle.ftn_base.specs.StorageFaults.{IsPair}
use Rattle.storage_layout.specs.declared.span.Span.{Span}
use Rattle.storage_layout.specs.declared.reaches.Reaches.{Reaches}
use Rattle.storage_layout.specs.steps.Reaching.{against_of, further}

-- a unit of a numeric object and a unit of a character object of another group have one class and one place in it
pub record AreMet (objects : List Object) (class offset group : List ℕ) : Type 0 where
  pub v : ℕ
  pub i : ℕ
  pub w : ℕ
  pub j : ℕ
  pub pair : IsPair objects v i w j
  pub one_class : slice_index class v ≡ slice_index class w
  pub place : slice_index offset v + i ≡ slice_index offset w + j
  pub apart : slice_index group v ≢ slice_index group w

-- how far the spans of its class, but of the other sort and of other groups, reach
abbrev pub reach_over : List Span → ℕ → Sort → ℕ → ℕ
reach_over [] class sort group = 0
reach_over (span ∷ spans) class sort group =
    if nat_eq span.class class then further span.sort span.group span.end sort group (reach_over spans class sort group) else reach_over spans class sort group

abbrev pub against_at : Option Reaches → Sort → ℕ → ℕ
against_at None sort group = 0
against_at (Some reaches) sort group = against_of reaches sort group

-- what is kept of each class tells how far the spans reach
abbrev pub IsKept : List Reaches → List Span → Type 0
IsKept reaches spans = (class : ℕ) (sort : Sort) (group : ℕ) → class < length reaches → against_at (slice_get reaches class) sort group ≡ reach_over spans class sort group

-- a span begins before those before it, of its class, but of the other sort and of other groups, end
pub record IsCrossed (spans : List Span) (number : ℕ) : Type 0 where
  pub span : Span
  pub there : slice_get spans number ≡ Some span
  pub before : span.start < reach_over (take number spans) span.class span.sort span.group

abbrev pub HasCrossing : List Span → Type 0
HasCrossing spans = (number : ℕ) × IsCrossed spans number
