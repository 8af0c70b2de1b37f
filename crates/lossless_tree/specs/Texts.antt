-- A text as its tokens and what stands between them, and the lines of its bytes (Fortran 90, 3.2 and 3.3).
use Rattle.std.specs.Prelude.{ℕ, suc, ◌+◌, ◌<◌, ◌≤◌, nat_le, nat_lt, Bool, ◌&&◌, if◌then◌else◌, List, [], ◌∷◌, ◌++◌, map, count_by, take, drop, slice_range, Option, Some, None}
use Rattle.std.specs.Option.{option_map}
use Rattle.ftn_tree.specs.declared.token.Token.{Token}
use Rattle.ftn_tree.specs.Lines.{is_line_feed}
use Rattle.ftn_tree.specs.Reading.{tokens_of}

-- the bytes of each token
abbrev pub token_texts : List ℕ → List (List ℕ)
token_texts text = map (λ token. slice_range text token.range.start token.range.end) (tokens_of text).items

-- from that offset on: what stands before each token, and then what stands after the last one
abbrev pub gaps_from : List ℕ → ℕ → List Token → List (List ℕ)
gaps_from text at [] = drop at text ∷ []
gaps_from text at (token ∷ tokens) = slice_range text at token.range.start ∷ gaps_from text token.range.end tokens

abbrev pub gap_texts : List ℕ → List (List ℕ)
gap_texts text = gaps_from text 0 (tokens_of text).items

-- gaps and tokens in turn, up to the gap after the last token
abbrev pub in_turn : List (List ℕ) → List (List ℕ) → List ℕ
in_turn [] tokens = []
in_turn (gap ∷ gaps) [] = gap
in_turn (gap ∷ gaps) (token ∷ tokens) = gap ++ token ++ in_turn gaps tokens

-- from that offset on: each token has a byte, none begins before the one in front of it ends, and all end within that many bytes
abbrev pub Rise : ℕ → List Token → ℕ → Type 0
Rise at [] size = at ≤ size
Rise at (token ∷ tokens) size = (at ≤ token.range.start) × (token.range.start < token.range.end) × Rise token.range.end tokens size

-- the line of an offset, from 1: one more than the LFs before it
abbrev pub line_at : List ℕ → ℕ → ℕ
line_at text at = 1 + count_by is_line_feed (take at text)

-- the offset stands in the token
abbrev pub holds : ℕ → Token → Bool
holds at token = nat_le token.range.start at && nat_lt at token.range.end

-- the number of the first token that holds the offset
abbrev pub first_holding : ℕ → List Token → Option ℕ
first_holding at [] = None
first_holding at (token ∷ tokens) = if holds at token then Some 0 else option_map suc (first_holding at tokens)

abbrev pub token_at : List ℕ → ℕ → Option ℕ
token_at text at = first_holding at (tokens_of text).items
