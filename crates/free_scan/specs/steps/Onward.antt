-- What a scan that has come to some offset makes of a text. It serves the proof of the code.
use Rattle.std.specs.Prelude.{◌≡◌, ℕ, ◌≤◌, List, ◌++◌, length, Option}
use Rattle.std.specs.Option.{option_map}
use Rattle.free_scan.specs.declared.first_form.token.PlacedPiece.{PlacedPiece}
use Rattle.free_scan.specs.Pieces.{pieces_within}
use Rattle.free_scan.specs.Tokens.{placed_pieces_from}

-- the tokens and ends of lines found, and then those of the rest of the text, of at most n bytes
abbrev pub onward : ℕ → List PlacedPiece → ℕ → ℕ → List ℕ → Option (List PlacedPiece)
onward n found at line rest = option_map (λ more. found ++ more) (option_map (placed_pieces_from at line rest) (pieces_within n rest))

-- the whole is these, for some count of bytes that suffices
abbrev pub GoesOn : Option (List PlacedPiece) → List PlacedPiece → ℕ → ℕ → List ℕ → Type 0
GoesOn whole found at line rest = (n : ℕ) × (length rest ≤ n) × (whole ≡ onward n found at line rest)
