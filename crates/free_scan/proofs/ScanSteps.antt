-- A scan goes on from piece to piece.
use Rattle.std.proofs.Common.{◌≡◌, ℕ, zero, suc, ◌+◌, ◌≤◌, ◌<◌, Bool, true, false, List, [], ◌∷◌, ◌++◌, length, drop, Option, Some, None, refl, ap, sym, ◌∙◌, arith, length-drop, append_assoc, take, ◌-◌}
use Rattle.std.proofs.lemmas.List.{take_rest, drop-drop}
use Rattle.std.specs.Option.{option_map}
use Rattle.free_scan.specs.declared.first_form.token.PieceKind.{PieceKind}
use Rattle.free_scan.specs.declared.first_form.token.PlacedPiece.{PlacedPiece}
use Rattle.free_scan.specs.Pieces.{Piece, front, pieces_within}
use Rattle.free_scan.specs.Tokens.{is_kept, keep_if, line_after, placed_piece, placed_pieces_from, placed_pieces_of}
use Rattle.free_scan.specs.steps.Onward.{GoesOn}
use Rattle.free_scan.proofs.PiecesLaws.{front_size, then_pieces}

-- where nothing is found yet
none_yet : (o : Option (List PlacedPiece)) → o ≡ option_map (λ more. [] ++ more) o
none_yet None = refl
none_yet (Some more) = refl

-- before the first piece
pub at_start : (text : List ℕ) → GoesOn (placed_pieces_of text) [] 0 1 text
at_start text = (length text, omega arith, none_yet (placed_pieces_of text))

keep_in_front : {X : Type 0} (b : Bool) (x : X) (xs : List X) → keep_if b x xs ≡ keep_if b x [] ++ xs
keep_in_front true x xs = refl
keep_in_front false x xs = refl

-- the first piece moves to those found
moved : (found : List PlacedPiece) (at line : ℕ) (text : List ℕ) (piece : Piece) (more : Option (List Piece))
    → option_map (λ tokens. found ++ tokens) (option_map (placed_pieces_from at line text) (option_map (λ pieces. piece ∷ pieces) more))
    ≡ option_map (λ tokens. (found ++ keep_if (is_kept piece.0) (placed_piece at line piece.0 text piece.1) []) ++ tokens)
    (option_map (placed_pieces_from (at + piece.1) (line_after line piece.0) (drop piece.1 text)) more)
moved found at line text piece None = refl
moved found at line text piece (Some pieces) =
    let rest : List PlacedPiece = placed_pieces_from (at + piece.1) (line_after line piece.0) (drop piece.1 text) pieces in
    let first : List PlacedPiece = keep_if (is_kept piece.0) (placed_piece at line piece.0 text piece.1) [] in
    ap Some (ap (λ tokens. found ++ tokens) (keep_in_front (is_kept piece.0) (placed_piece at line piece.0 text piece.1) rest) ∙ sym (append_assoc found first rest))

-- past a piece, which is kept if it is a token or the end of a line
pub scan_step : (whole : Option (List PlacedPiece)) (found : List PlacedPiece) (at line : ℕ) (rest : List ℕ) (kind : PieceKind) (size : ℕ)
    → 0 < length rest
    → front rest ≡ Some (kind, size)
    → GoesOn whole found at line rest
    → GoesOn whole (found ++ keep_if (is_kept kind) (placed_piece at line kind rest size) []) (at + size) (line_after line kind) (drop size rest)
scan_step whole found at line [] kind size some is goes = absurd (omega arith)
scan_step whole found at line (b ∷ rest) kind size some is (zero, fits, goes) = absurd (omega arith)
scan_step whole found at line (b ∷ rest) kind size some is (suc n, fits, goes) =
    let least : 1 ≤ size = (front_size (b ∷ rest) (kind, size) is).0 in
    let less : length (drop size (b ∷ rest)) ≤ n = omega (arith, length-drop size (b ∷ rest)) in (
      n,
      less,
      goes
          ∙ ap (λ o. option_map (λ tokens. found ++ tokens) (option_map (placed_pieces_from at line (b ∷ rest)) (then_pieces n (b ∷ rest) o))) is
          ∙ moved found at line (b ∷ rest) (kind, size) (pieces_within n (drop size (b ∷ rest))),
    )

-- where no piece begins
pub scan_stops : (whole : Option (List PlacedPiece)) (found : List PlacedPiece) (at line : ℕ) (rest : List ℕ)
    → 0 < length rest → front rest ≡ None → GoesOn whole found at line rest → whole ≡ None
scan_stops whole found at line [] some is goes = absurd (omega arith)
scan_stops whole found at line (b ∷ rest) some is (zero, fits, goes) = absurd (omega arith)
scan_stops whole found at line (b ∷ rest) some is (suc n, fits, goes) =
    goes ∙ ap (λ o. option_map (λ tokens. found ++ tokens) (option_map (placed_pieces_from at line (b ∷ rest)) (then_pieces n (b ∷ rest) o))) is

-- the same where the rest of a text begins at that offset
pub stops_at : (text : List ℕ) (found : List PlacedPiece) (at line : ℕ)
    → at < length text → front (take (length text - at) (drop at text)) ≡ None → GoesOn (placed_pieces_of text) found at line (drop at text) → None ≡ placed_pieces_of text
stops_at text found at line some is goes =
    let stops : front (drop at text) ≡ None = rw (take_rest text at) at is in
    let left : 0 < length (drop at text) = omega (arith, length-drop at text) in
    sym (scan_stops (placed_pieces_of text) found at line (drop at text) left stops goes)

pub step_at : (text : List ℕ) (found now : List PlacedPiece) (at line next : ℕ) (kind : PieceKind) (size : ℕ)
    → at < length text
    → front (take (length text - at) (drop at text)) ≡ Some (kind, size)
    → now ≡ found ++ keep_if (is_kept kind) (placed_piece at line kind (take (length text - at) (drop at text)) size) []
    → next ≡ line_after line kind
    → GoesOn (placed_pieces_of text) found at line (drop at text)
    → GoesOn (placed_pieces_of text) now (at + size) next (drop (at + size) text)
step_at text found now at line next kind size some is kept lines goes =
    let left : 0 < length (drop at text) = omega (arith, length-drop at text) in
    let here : front (drop at text) ≡ Some (kind, size) = rw (take_rest text at) at is in
    let tokens : now ≡ found ++ keep_if (is_kept kind) (placed_piece at line kind (drop at text) size) [] = rw (take_rest text at) at kept in
    let further : GoesOn (placed_pieces_of text) (found ++ keep_if (is_kept kind) (placed_piece at line kind (drop at text) size) []) (at + size) (line_after line kind) (drop size (drop at text))
    = scan_step (placed_pieces_of text) found at line (drop at text) kind size left here goes in
    rw (tokens, lines, ← drop-drop size at text) further

-- a piece ends within the text
pub within_text : (text : List ℕ) (at size : ℕ) → at < length text → size ≤ length (take (length text - at) (drop at text)) → at + size ≤ length text
within_text text at size some fits =
    let left : size ≤ length (drop at text) = rw (take_rest text at) at fits in
    omega (arith, length-drop at text)
