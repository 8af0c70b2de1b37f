-- Ranges of CASE values, by what expressions give. It serves the proof alone.
use Rattle.std.specs.Prelude.{ℕ, ◌-◌, ℤ, pos, ◌+ℤ◌, ◌≡◌, FitsSigned, if◌then◌else◌, List, [], map, Option, Some, None}
use Rattle.std.specs.Int.{w32}
use Rattle.std.specs.List.{flat_map, AllZip}
use Rattle.ftn_tree.specs.declared.expr.Expr.{Expr}
use Rattle.ftn_tree.specs.declared.form.Form.TheOpen.{Form-F}
use Rattle.ftn_tree.specs.declared.parts.CaseRange.{CaseRange}
use Rattle.ftn_tree.specs.declared.parts.CaseRange.TheVariants as range
use Rattle.ftn_tree.specs.declared.unit.FileTree.{FileTree}
use Rattle.ftn_tree.specs.Arrays.{at_least_zero}
use Rattle.ftn_tree.specs.Cases as spec
use Rattle.ftn_tree.specs.Cases.{Construct, from_low, is_select_at, span_if, to_high}
use Rattle.ftn_tree.specs.Constants.{whole_in}
use Rattle.ftn_tree.specs.DeclarationFaults.{Finding}
use Rattle.ftn_tree.specs.Evaluations.{Evaluated}
use Rattle.ftn_tree.specs.Expressions.{first_token}
use Rattle.ftn_tree.specs.Extents.{layer_at}
use Rattle.ftn_tree.specs.Layers.{FormLayer}
use Rattle.const_value.specs.declared.intervals.Span.{Span}

-- ---- ranges as they are kept

-- how far a number is from the least integer
abbrev pub lifted : ℤ → ℕ
lifted z = at_least_zero (z +ℤ pos 2147483648)

-- a lower end that isn't written is the least integer
abbrev pub low_of : Option ℤ → ℕ
low_of None = 0
low_of (Some z) = lifted z

-- an upper end that isn't written is the greatest integer
abbrev pub high_of : Option ℤ → ℕ
high_of None = 4294967295
high_of (Some z) = lifted z

abbrev pub seen : spec.Span → Span
seen s = record { token = s.first; low = low_of s.low; high = high_of s.high }

abbrev pub Fits : Option ℤ → Type 0
Fits None = Unit {0}
Fits (Some z) = FitsSigned w32 z

-- a range as it is kept, its ends being integers
pub record IsKept (span : spec.Span) (kept : Span) : Type 0 where
  pub same : kept ≡ seen span
  pub low : Fits span.low
  pub high : Fits span.high

abbrev pub AreKept : List spec.Span → List Span → Type 0
AreKept spans kept = AllZip IsKept spans kept

abbrev pub ListsAreKept : List (List spec.Span) → List (List Span) → Type 0
ListsAreKept lists kept = AllZip AreKept lists kept

-- ---- ranges, where it is known what expressions give

abbrev pub number : (Expr → Evaluated) → Expr → Option ℤ
number evaluate e = whole_in (evaluate e).value

abbrev pub spans_of : (Expr → Evaluated) → CaseRange → List spec.Span
spans_of evaluate (range.One e) = span_if (first_token e) (number evaluate e) (number evaluate e)
spans_of evaluate (range.From low) = from_low (first_token low) (number evaluate low)
spans_of evaluate (range.To high) = to_high (first_token high - 1) (number evaluate high)
spans_of evaluate (range.Between low high) = span_if (first_token low) (number evaluate low) (number evaluate high)

abbrev pub spans_at : (Expr → Evaluated) → Option FormLayer → List spec.Span
spans_at evaluate (Some (Form-F.Case (Some ranges))) = flat_map (spans_of evaluate) ranges
spans_at evaluate _ = []

-- what is told of a construct
abbrev pub construct_told : (Expr → Evaluated) → List FileTree → ℕ → Construct → List Finding
construct_told evaluate files file c =
    if is_select_at (layer_at files file c.opening) then spec.met file [] (map (λ head. spans_at evaluate (layer_at files file head)) c.heads) else []
