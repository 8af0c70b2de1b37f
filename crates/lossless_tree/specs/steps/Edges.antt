-- Where what stands between two tokens begins and ends. It serves the proof of the code.
use Rattle.std.specs.Prelude.{ℕ, zero, suc, nat_le, Bool, if◌then◌else◌, List, [], ◌∷◌, Option, Some, None}
use Rattle.ftn_tree.specs.declared.token.Token.{Token}

-- where the token before that one ends, or that offset where it is the first one
abbrev pub end_before : ℕ → List Token → ℕ → ℕ
end_before at tokens zero = at
end_before at [] (suc i) = at
end_before at (token ∷ tokens) (suc i) = end_before token.range.end tokens i

-- where that token starts, or that offset where there is none
abbrev pub start_of : ℕ → List Token → ℕ → ℕ
start_of size [] i = size
start_of size (token ∷ tokens) zero = token.range.start
start_of size (token ∷ tokens) (suc i) = start_of size tokens i

-- the token ends at that offset or before it
abbrev pub has_ended : ℕ → Token → Bool
has_ended at token = nat_le token.range.end at

-- that number, where there is a token and it begins at the offset at the latest
abbrev pub begun_at : ℕ → ℕ → Option Token → Option ℕ
begun_at at i None = None
begun_at at i (Some token) = if nat_le token.range.start at then Some i else None
