-- Ranges of whole numbers that meet one of an earlier list. It serves the proof alone.
use Rattle.std.specs.Prelude.{ℕ, nat_lt, max, Bool, not, ◌&&◌, if◌then◌else◌, List, [], ◌∷◌, ◌++◌, map, Option, Some, None}
use Rattle.std.specs.List.{filter, flat_map, list_any}
use Rattle.const_expr.specs.FirstTold.{soonest, itself}
use Rattle.const_value.specs.declared.intervals.Reach.{Reach}
use Rattle.const_value.specs.declared.intervals.Span.{Span}

abbrev pub meets : Span → Span → Bool
meets one other = not (nat_lt other.high one.low) && not (nat_lt one.high other.low)

-- those of the second list that meet one of the first, by their tokens
abbrev pub tokens_meeting : List Span → List Span → List ℕ
tokens_meeting before here = map (λ (s : Span). s.token) (filter (λ s. list_any (meets s) before) here)

abbrev pub met : List Span → List (List Span) → List ℕ
met before [] = []
met before (here ∷ rest) = tokens_meeting before here ++ met (before ++ here) rest

abbrev pub all_of : List (List Span) → List Span
all_of lists = flat_map (λ list. list) lists

abbrev pub least : List ℕ → Option ℕ
least tokens = soonest itself tokens

-- ---- ends of ranges

abbrev pub ends_of : Span → Reach
ends_of s = record { low = s.low; high = s.high }

abbrev pub meets_ends : Span → Reach → Bool
meets_ends s r = not (nat_lt r.high s.low) && not (nat_lt s.high r.low)

-- each upper end raised to the greatest one up to it
abbrev pub raised : ℕ → List Reach → List Reach
raised most [] = []
raised most (r ∷ rest) = record { low = r.low; high = max most r.high } ∷ raised (max most r.high) rest

abbrev pub token_if : Span → Bool → Option ℕ
token_if s met = if met then Some s.token else None

abbrev pub tokens_by : List Reach → List Span → List ℕ
tokens_by ends here = map (λ (s : Span). s.token) (filter (λ s. list_any (meets_ends s) ends) here)
