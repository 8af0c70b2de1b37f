-- The pieces of a text: how large they are, that the computation finds them, and that there are no others.
use Rattle.std.proofs.Common.{◌≡◌, ℕ, zero, suc, ◌+◌, ◌≤◌, List, [], ◌∷◌, length, drop, Option, Some, None, refl, ap, ◌∙◌, arith, length-drop, take, get_or, ◌-◌}
use Rattle.std.proofs.lemmas.List.{take_all}
use Rattle.std.specs.Prelude.{◌==◌, not, IfSome}
use Rattle.std.specs.List.{sum_by}
use Rattle.std.specs.Option.{option_map, option_and_then}
use Rattle.std.proofs.lemmas.Bool.{cond_both}
use Rattle.std.proofs.lemmas.List.Sums.{prefix_len-le-length, sum_by-cons}
use Rattle.ftn_base.specs.Letters.{is_letter, is_digit, is_name_byte}
use Rattle.ftn_tree.specs.Lines.{is_line_feed}
use Rattle.ftn_tree.specs.Pieces.{is_mark, is_pair}
use Rattle.free_scan.specs.Pieces.{Piece, mark_at, front, ArePieces, pieces_within, pieces_of}

-- a piece, if there is one, has a byte at least, and no more than there are
abbrev pub IsSized : ℕ → Option Piece → Type 0
IsSized most found = IfSome found (λ piece. (1 ≤ piece.1) × (piece.1 ≤ most))

one_mark : (a n : ℕ) → 1 ≤ n → IsSized n (mark_at a [])
one_mark a n some = cond_both (is_mark a) _ _ (IsSized n) (λ e. (omega arith, some)) (λ e. tt)

mark_sized : (a : ℕ) (rest : List ℕ) → IsSized (suc (length rest)) (mark_at a rest)
mark_sized a [] = one_mark a 1 (omega arith)
mark_sized a (b ∷ rest) =
    cond_both (is_pair a b) _ _ (IsSized (suc (suc (length rest)))) (λ e. (omega arith, omega arith)) (λ e. one_mark a (suc (suc (length rest))) (omega arith))

pub front_sized : (text : List ℕ) → IsSized (length text) (front text)
front_sized [] = tt
front_sized (b ∷ rest) =
    let n : ℕ = suc (length rest) in
    cond_both (is_line_feed b) _ _ (IsSized n) (λ e. (omega arith, omega arith)) (λ e.
    cond_both (b == 32) _ _ (IsSized n) (λ e. (omega arith, omega arith)) (λ e.
    cond_both (b == 33) _ _ (IsSized n) (λ e. (omega arith, omega (arith, prefix_len-le-length (λ c. not (is_line_feed c)) rest))) (λ e.
    cond_both (is_letter b) _ _ (IsSized n) (λ e. (omega arith, omega (arith, prefix_len-le-length is_name_byte rest))) (λ e.
    cond_both (is_digit b) _ _ (IsSized n) (λ e. (omega arith, omega (arith, prefix_len-le-length is_digit rest))) (λ e.
    mark_sized b rest)))))

-- the size of the piece at the front
pub front_size : (text : List ℕ) (piece : Piece) → front text ≡ Some piece → (1 ≤ piece.1) × (piece.1 ≤ length text)
front_size text piece is = rw is at (front_sized text)

-- the same of a first byte and what follows it
pub first_sized : (text : List ℕ) (found : Option Piece)
    → 1 ≤ length text → found ≡ front (get_or text 0 0 ∷ take (length text - 1) (drop 1 text)) → IsSized (length text) found
first_sized [] found some is = absurd (omega arith)
first_sized (b ∷ rest) found some is =
    let less : suc (length rest) - 1 ≡ length rest = omega arith in
    let same : found ≡ front (b ∷ take (length rest) rest) = rw less at is in
    let whole : take (length rest) rest ≡ rest = take_all (length rest) rest (omega arith) in
    rw (same, whole) (front_sized (b ∷ rest))

-- with one piece in front
abbrev pub then_pieces : ℕ → List ℕ → Option Piece → Option (List Piece)
then_pieces n text found = option_and_then (λ piece. option_map (λ pieces. piece ∷ pieces) (pieces_within n (drop piece.1 text))) found

after_piece : (text : List ℕ) (piece : Piece) (ps : List Piece) (more : Option (List Piece))
    → front text ≡ Some piece
    → ((qs : List Piece) → more ≡ Some qs → ArePieces (drop piece.1 text) qs)
    → option_map (λ pieces. piece ∷ pieces) more ≡ Some ps
    → ArePieces text ps
after_piece text piece ps None is sound e = absurd (cc)
after_piece text piece [] (Some qs) is sound e = absurd (cc)
after_piece text piece (p ∷ ps) (Some qs) is sound e =
    let same : p ≡ piece = cc in
    let rest : ps ≡ qs = cc in
    rw (same, rest) (is, sound qs refl)

in_front : (n : ℕ) (text : List ℕ) (ps : List Piece) (found : Option Piece)
    → front text ≡ found
    → ((rest : List ℕ) (qs : List Piece) → pieces_within n rest ≡ Some qs → ArePieces rest qs)
    → then_pieces n text found ≡ Some ps
    → ArePieces text ps
in_front n text ps None is sound e = absurd (cc)
in_front n text ps (Some piece) is sound e = after_piece text piece ps (pieces_within n (drop piece.1 text)) is (sound (drop piece.1 text)) e

pub within_sound : (n : ℕ) (text : List ℕ) (ps : List Piece) → pieces_within n text ≡ Some ps → ArePieces text ps
within_sound n [] [] e = refl
within_sound n [] (p ∷ ps) e = absurd (cc)
within_sound zero (b ∷ rest) ps e = absurd (cc)
within_sound (suc n) (b ∷ rest) ps e = in_front n (b ∷ rest) ps (front (b ∷ rest)) refl (within_sound n) e

-- what is computed are the pieces
pub pieces_sound : (text : List ℕ) (ps : List Piece) → pieces_of text ≡ Some ps → ArePieces text ps
pieces_sound text ps e = within_sound (length text) text ps e

pub within_complete : (n : ℕ) (text : List ℕ) (ps : List Piece) → length text ≤ n → ArePieces text ps → pieces_within n text ≡ Some ps
within_complete n [] [] fits are = refl
within_complete n [] (p ∷ ps) fits are = absurd (cc (are.0))
within_complete n (b ∷ rest) [] fits are = absurd (cc (are))
within_complete zero (b ∷ rest) (p ∷ ps) fits are = absurd (omega arith)
within_complete (suc n) (b ∷ rest) (p ∷ ps) fits are =
    let size : (1 ≤ p.1) × (p.1 ≤ suc (length rest)) = front_size (b ∷ rest) p are.0 in
    let least : 1 ≤ p.1 = size.0 in
    let less : length (drop p.1 (b ∷ rest)) ≤ n = omega (arith, length-drop p.1 (b ∷ rest)) in
    ap (then_pieces n (b ∷ rest)) are.0 ∙ ap (option_map (λ pieces. p ∷ pieces)) (within_complete n (drop p.1 (b ∷ rest)) ps less are.1)

-- the pieces are what is computed
pub pieces_complete : (text : List ℕ) (ps : List Piece) → ArePieces text ps → pieces_of text ≡ Some ps
pieces_complete text ps are = within_complete (length text) text ps (omega arith) are

-- no byte of the text is left out
pub pieces_join : (text : List ℕ) (ps : List Piece) → ArePieces text ps → sum_by (λ piece. piece.1) ps ≡ length text
pieces_join text [] are = rw are refl
pieces_join text (p ∷ ps) are =
    let size : (1 ≤ p.1) × (p.1 ≤ length text) = front_size text p are.0 in
    let fits : p.1 ≤ length text = size.1 in
    let more : sum_by (λ piece. piece.1) ps ≡ length (drop p.1 text) = pieces_join (drop p.1 text) ps are.1 in
    let left : length (drop p.1 text) ≡ length text - p.1 = length-drop p.1 text in
    let whole : sum_by (λ piece. piece.1) (p ∷ ps) ≡ p.1 + sum_by (λ piece. piece.1) ps = sum_by-cons (λ piece. piece.1) p ps in
    omega arith
