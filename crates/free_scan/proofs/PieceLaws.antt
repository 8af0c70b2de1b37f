-- The pieces of a text without continuations: how large they are, that the computation finds them, and that there are no others.
use Rattle.std.proofs.Common.{◌≡◌, ℕ, zero, suc, ◌+◌, ◌-◌, ◌≤◌, true, false, List, [], ◌∷◌, length, drop, Option, Some, None, refl, ap, sym, ◌∙◌, arith, length-drop, Bool}
use Rattle.std.specs.Prelude.{◌==◌, ◌&&◌, not, nat_le}
use Rattle.std.specs.List.{prefix_len, sum_by}
use Rattle.std.specs.Option.{option_map, option_map_or}
use Rattle.std.proofs.lemmas.Bool.{cond_both, and_parts}
use Rattle.std.proofs.lemmas.List.Sums.{prefix_len-le-length, sum_by-cons}
use Rattle.ftn_base.specs.Letters.{is_blank, is_letter, is_digit, is_name_byte}
use Rattle.ftn_tree.specs.Lines.{begins_with}
use Rattle.ftn_tree.specs.Code.{is_quote}
use Rattle.ftn_tree.specs.declared.token.TokenKind.TheVariants as tokens
use Rattle.ftn_tree.specs.declared.piece.PieceKind.TheVariants.{Token, Unclosed}
use Rattle.ftn_tree.specs.Pieces.{Piece, is_mark, is_pair, one_mark, mark_at, dotted_len, point_at, number_at, constant_len, constant_at, front, ArePieces, pieces_within, pieces_of}
use Rattle.ftn_tree.proofs.LineLaws.{begins_some}

-- a run of bytes is no longer than where it stands. The name is for tactics, which take no hyphen
pub run_fits : (p : ℕ → Bool) (xs : List ℕ) → prefix_len p xs ≤ length xs
run_fits p xs = prefix_len-le-length p xs

-- a piece has a byte at least, and no more than there are
abbrev IsSized : ℕ → Piece → Type 0
IsSized most piece = (1 ≤ piece.1) × (piece.1 ≤ most)

-- what there is, if anything, is a count of at most that many bytes
abbrev IsWithin : ℕ → Option ℕ → Type 0
IsWithin most None = Unit {0}
IsWithin most (Some n) = n ≤ most

one_mark_sized : (a n : ℕ) → 1 ≤ n → IsSized n (one_mark a)
one_mark_sized a n some = cond_both (is_mark a) _ _ (IsSized n) (λ e. (omega arith, some)) (λ e. (omega arith, some))

mark_sized : (a : ℕ) (rest : List ℕ) → IsSized (suc (length rest)) (mark_at a rest)
mark_sized a [] = one_mark_sized a 1 (omega arith)
mark_sized a (b ∷ rest) =
    cond_both (is_pair a b) _ _ (IsSized (suc (suc (length rest)))) (λ e. (omega arith, omega arith)) (λ e. one_mark_sized a (suc (suc (length rest))) (omega arith))

dotted_within : (rest : List ℕ) → IsWithin (length rest) (dotted_len rest)
dotted_within rest =
    let n : ℕ = prefix_len is_letter rest in
    cond_both (nat_le 1 n && begins_with 46 (drop n rest)) _ _ (IsWithin (length rest))
    (λ e. let point : 1 ≤ length (drop n rest) = begins_some 46 (drop n rest) (and_parts (nat_le 1 n) (begins_with 46 (drop n rest)) e).1 in
    omega (arith, length-drop n rest))
    (λ e. tt)

-- a piece of a size that is placed behind its first byte, or else another
placed : (f : ℕ → Piece) (other : Piece) (most : ℕ) (o : Option ℕ) → IsWithin most o → ((n : ℕ) → n ≤ most → IsSized (suc most) (f n)) → IsSized (suc most) other
    → IsSized (suc most) (option_map_or f o other)
placed f other most None within some none = none
placed f other most (Some n) within some none = some n within

point_sized : (rest : List ℕ) → IsSized (suc (length rest)) (point_at rest)
point_sized rest =
    let n : ℕ = prefix_len is_digit rest in
    let fits : n ≤ length rest = prefix_len-le-length is_digit rest in
    placed (λ k. (Token tokens.Dotted, 1 + k)) _ (length rest) (dotted_len rest) (dotted_within rest) (λ k le. (omega arith, omega arith))
    (cond_both (nat_le 1 n) _ _ (IsSized (suc (length rest))) (λ e. (omega arith, omega arith)) (λ e. (omega arith, omega arith)))

number_sized : (n : ℕ) (rest : List ℕ) → 1 ≤ n → IsSized (n + length rest) (number_at n rest)
number_sized n rest some =
    cond_both (begins_with 95 rest) _ _ (IsSized (n + length rest)) (λ e. (omega arith, omega (arith, prefix_len-le-length is_name_byte rest))) (λ e.
    cond_both (begins_with 46 rest && option_map_or (λ k. false) (dotted_len (drop 1 rest)) true) _ _ (IsSized (n + length rest))
    (λ e. let point : 1 ≤ length rest = begins_some 46 rest (and_parts (begins_with 46 rest) _ e).0 in
    (omega arith, omega (arith, length-drop 1 rest, prefix_len-le-length is_digit (drop 1 rest))))
    (λ e. (some, omega arith)))

grown : (k most : ℕ) (f : ℕ → ℕ) (o : Option ℕ) → ((n : ℕ) → f n ≡ k + n) → IsWithin most o → IsWithin (k + most) (option_map f o)
grown k most f None is within = tt
grown k most f (Some n) is within = omega (arith, is n)

constant_within : (quote : ℕ) (rest : List ℕ) → IsWithin (length rest) (constant_len quote rest)
constant_within quote [] = tt
constant_within quote (b ∷ []) = cond_both (b == quote) _ _ (IsWithin 1) (λ e. omega arith) (λ e. tt)
constant_within quote (b ∷ c ∷ rest) =
    let one : 1 + suc (length rest) ≡ suc (suc (length rest)) = omega arith in
    let two : 2 + length rest ≡ suc (suc (length rest)) = omega arith in
    cond_both (not (b == quote)) _ _ (IsWithin (suc (suc (length rest))))
    (λ e. rw one at (grown 1 (suc (length rest)) suc (constant_len quote (c ∷ rest)) (λ n. omega arith) (constant_within quote (c ∷ rest)))) (λ e.
    cond_both (c == quote) _ _ (IsWithin (suc (suc (length rest))))
    (λ e. rw two at (grown 2 (length rest) (λ n. 2 + n) (constant_len quote rest) (λ n. refl) (constant_within quote rest)))
    (λ e. omega arith))

-- a constant has no more bytes than there are
pub len_within : (quote : ℕ) (rest : List ℕ) (n : ℕ) → constant_len quote rest ≡ Some n → n ≤ length rest
len_within quote rest n is = rw is at (constant_within quote rest)

constant_sized : (quote : ℕ) (rest : List ℕ) → IsSized (suc (length rest)) (constant_at quote rest)
constant_sized quote rest =
    placed (λ n. (Token tokens.Quoted, 1 + n)) (Unclosed, 1 + length rest) (length rest) (constant_len quote rest) (constant_within quote rest)
    (λ k le. (omega arith, omega arith)) (omega arith, omega arith)

digits_sized : (rest : List ℕ) → IsSized (suc (length rest)) (number_at (1 + prefix_len is_digit rest) (drop (prefix_len is_digit rest) rest))
digits_sized rest =
    let n : ℕ = prefix_len is_digit rest in
    let fits : n ≤ length rest = prefix_len-le-length is_digit rest in
    let all : 1 + n + length (drop n rest) ≡ suc (length rest) = omega (arith, length-drop n rest) in
    rw all at (number_sized (1 + n) (drop n rest) (omega arith))

-- the piece that begins with a byte has that byte at least, and no more than there are
pub front_size : (b : ℕ) (rest : List ℕ) → (1 ≤ (front b rest).1) × ((front b rest).1 ≤ suc (length rest))
front_size b rest =
    let n : ℕ = suc (length rest) in
    cond_both (is_blank b) _ _ (IsSized n) (λ e. (omega arith, omega arith)) (λ e.
    cond_both (is_letter b) _ _ (IsSized n) (λ e. (omega arith, omega (arith, prefix_len-le-length is_name_byte rest))) (λ e.
    cond_both (is_digit b) _ _ (IsSized n) (λ e. digits_sized rest) (λ e.
    cond_both (b == 46) _ _ (IsSized n) (λ e. point_sized rest) (λ e.
    cond_both (is_quote b) _ _ (IsSized n) (λ e. constant_sized b rest) (λ e.
    mark_sized b rest)))))

pub sized : (b : ℕ) (rest : List ℕ) (piece : Piece) → piece ≡ front b rest → (1 ≤ piece.1) × (piece.1 ≤ length rest + 1)
sized b rest piece is =
    let size : (1 ≤ piece.1) × (piece.1 ≤ suc (length rest)) = rw is (front_size b rest) in
    let most : piece.1 ≤ suc (length rest) = size.1 in
    (size.0, omega arith)

-- what follows the first piece is less than what there was
pub less : (n b : ℕ) (rest : List ℕ) → suc (length rest) ≤ suc n → length (drop (front b rest).1 (b ∷ rest)) ≤ n
less n b rest fits =
    let some : 1 ≤ (front b rest).1 = (front_size b rest).0 in
    omega (arith, length-drop (front b rest).1 (b ∷ rest))

-- what is computed are the pieces
within_sound : (n : ℕ) (text : List ℕ) → length text ≤ n → ArePieces text (pieces_within n text)
within_sound n [] fits = refl
within_sound zero (b ∷ rest) fits = absurd (omega arith)
within_sound (suc n) (b ∷ rest) fits = (refl, within_sound n (drop (front b rest).1 (b ∷ rest)) (less n b rest fits))

-- the pieces are what is computed
within_complete : (n : ℕ) (text : List ℕ) (ps : List Piece) → length text ≤ n → ArePieces text ps → pieces_within n text ≡ ps
within_complete n [] ps fits are = sym are
within_complete n (b ∷ rest) [] fits are = absurd are
within_complete zero (b ∷ rest) (p ∷ ps) fits are = absurd (omega arith)
within_complete (suc n) (b ∷ rest) (p ∷ ps) fits are =
    let left : length (drop p.1 (b ∷ rest)) ≤ n = rw are.0 at (less n b rest fits) in
    ap (λ (q : Piece). q ∷ pieces_within n (drop q.1 (b ∷ rest))) are.0 ∙ ap (λ qs. p ∷ qs) (within_complete n (drop p.1 (b ∷ rest)) ps left are.1)

-- a greater count of bytes makes no difference
pub enough : (n : ℕ) (text : List ℕ) → length text ≤ n → pieces_within n text ≡ pieces_of text
enough n text fits = within_complete n text (pieces_of text) fits (within_sound (length text) text (omega arith))

pub pieces_sound : (text : List ℕ) (ps : List Piece) → pieces_of text ≡ ps → ArePieces text ps
pieces_sound text ps e = rw e at (within_sound (length text) text (omega arith))

pub pieces_complete : (text : List ℕ) (ps : List Piece) → ArePieces text ps → pieces_of text ≡ ps
pieces_complete text ps are = within_complete (length text) text ps (omega arith) are

-- no byte of the text is left out
pub pieces_join : (text : List ℕ) (ps : List Piece) → ArePieces text ps → sum_by (λ piece. piece.1) ps ≡ length text
pieces_join [] ps are = rw are refl
pieces_join (b ∷ rest) [] are = absurd are
pieces_join (b ∷ rest) (p ∷ ps) are =
    let fits : p.1 ≤ suc (length rest) = rw are.0 at (front_size b rest).1 in
    let more : sum_by (λ piece. piece.1) ps ≡ length (drop p.1 (b ∷ rest)) = pieces_join (drop p.1 (b ∷ rest)) ps are.1 in
    let left : length (drop p.1 (b ∷ rest)) ≡ suc (length rest) - p.1 = length-drop p.1 (b ∷ rest) in
    let whole : sum_by (λ piece. piece.1) (p ∷ ps) ≡ p.1 + sum_by (λ piece. piece.1) ps = sum_by-cons (λ piece. piece.1) p ps in
    omega arith
