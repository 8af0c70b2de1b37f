-- What the rest of a row of bytes gives to a scan that has come to some run. It serves the proof of the code.
use Rattle.std.specs.Prelude.{ℕ, ◌+◌, List, [], ◌∷◌, ◌++◌, length}
use Rattle.ftn_base.specs.declared.name.Edition.{Edition}
use Rattle.ftn_base.specs.declared.place.Range.{Range}
use Rattle.ftn_tree.specs.declared.piece.Spot.{Spot}
use Rattle.ftn_tree.specs.declared.token.Token.{Token}
use Rattle.ftn_tree.specs.Breaks.{Breach, piece_breaches}
use Rattle.ftn_tree.specs.Logical.{Glyph, byte, gap, cut}
use Rattle.ftn_tree.specs.Reading.{over_run, token_of}
use Rattle.free_scan.specs.steps.Scanning.{new_range}

-- xs in front of the first list
abbrev pub before_first_of : {X : Type 0} → List X → List (List X) → List (List X)
before_first_of xs [] = xs ∷ []
before_first_of xs (first ∷ rest) = (xs ++ first) ∷ rest

-- the tokens of each statement, the first being what is left of the one in hand
abbrev pub rows_left : List ℕ → List Spot → List Glyph → List (List Token)
rows_left bytes spots [] = over_run token_of bytes spots ∷ []
rows_left bytes spots (byte b spot ∷ row) = rows_left (bytes ++ b ∷ []) (spots ++ spot ∷ []) row
rows_left bytes spots (gap ∷ row) = before_first_of (over_run token_of bytes spots) (rows_left [] [] row)
rows_left bytes spots (cut ∷ row) = over_run token_of bytes spots ∷ rows_left [] [] row

-- what is wrong with the pieces
abbrev pub wrongs_left : Edition → List ℕ → List Spot → List Glyph → List Breach
wrongs_left edition bytes spots [] = over_run (piece_breaches edition) bytes spots
wrongs_left edition bytes spots (byte b spot ∷ row) = wrongs_left edition (bytes ++ b ∷ []) (spots ++ spot ∷ []) row
wrongs_left edition bytes spots (gap ∷ row) = over_run (piece_breaches edition) bytes spots ++ wrongs_left edition [] [] row
wrongs_left edition bytes spots (cut ∷ row) = over_run (piece_breaches edition) bytes spots ++ wrongs_left edition [] [] row

-- the ranges of statements, where that many tokens were found and the statement in hand begins with that one
abbrev pub ranges_left : ℕ → ℕ → List (List Token) → List Range
ranges_left first count [] = []
ranges_left first count (row ∷ rows) = new_range first (count + length row) ++ ranges_left (count + length row) (count + length row) rows
