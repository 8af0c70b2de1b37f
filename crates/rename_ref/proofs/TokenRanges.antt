-- The ranges of the tokens of a text: they lie in the text, rise and don't overlap.
use Rattle.std.proofs.Common.{◌≡◌, ℕ, zero, suc, ◌+◌, ◌-◌, ◌≤◌, Bool, true, false, not, cond, ◌&&◌, ◌==◌, List, [], ◌∷◌, length, drop, Option, Some, None, IsTrue, IfSome, refl, ap, sym, ◌∙◌, subst, arith}
use Rattle.std.specs.List.{filter, prefix_len, cons_option}
use Rattle.std.specs.Option.{option_map}
use Rattle.std.specs.Str.{bytes_eq}
use Rattle.std.proofs.lemmas.Bool.{cond_both}
use Rattle.std.proofs.lemmas.List.Sums.{prefix_len-le-length}
use Rattle.std.proofs.lemmas.Option.{option_and_then_some}
use Rattle.ftn_base.specs.Letters.{is_letter, is_digit, is_name_byte}
use Rattle.ftn_tree.specs.Lines.{is_line_feed}
use Rattle.ftn_tree.specs.Pieces.{is_pair, is_mark}
use Rattle.free_scan.specs.Pieces.{Piece, mark_at, front, pieces_within, pieces_of}
use Rattle.free_scan.specs.Tokens.{is_kept, line_after, placed_piece, keep_if, placed_pieces_from, placed_pieces_of, token_kind, as_token, tokens_among, tokens_of}
use Rattle.free_scan.specs.declared.first_form.token.PieceKind.{PieceKind}
use Rattle.free_scan.specs.declared.first_form.token.PieceKind.TheVariants.{Blank, Comment, LineEnd, Word, Whole, Mark}
use Rattle.free_scan.specs.declared.first_form.token.PlacedPiece.{PlacedPiece}
use Rattle.ftn_tree.specs.declared.token.Token.{Token}
use Rattle.ftn_tree.specs.declared.token.TokenKind.{TokenKind}
use Rattle.rename_ref.specs.declared.edits.Edit.{Edit}
use Rattle.rename_ref.specs.Edits.{fit, replacing}
use Rattle.rename_ref.specs.Names.{is_name_token, denoting}
use Rattle.rename_ref.proofs.EditSteps.{fits_from_first, fits_before}
use Rattle.free_scan.proofs.ReadTrue.{mapped}

-- the piece, if there is one, has at least one byte and at most so many
pub record Sized (most : ℕ) (found : Option Piece) : Type 0 where
  pub sizes : IfSome found (λ piece. (1 ≤ piece.1) × (piece.1 ≤ most))

no_piece : (most : ℕ) → Sized most None
no_piece most = record { sizes = tt }

a_piece : (most : ℕ) (kind : PieceKind) (size : ℕ) → 1 ≤ size → size ≤ most → Sized most (Some (kind, size))
a_piece most kind size some within = record { sizes = (some, within) }

either : (most : ℕ) (b : Bool) (x y : Option Piece) → Sized most x → Sized most y → Sized most (cond b x y)
either most true x y h k = h
either most false x y h k = k

mark_sized : (a : ℕ) (rest : List ℕ) → Sized (1 + length rest) (mark_at a rest)
mark_sized a [] = either _ (is_mark a) _ _ (a_piece _ Mark 1 (omega arith) (omega arith)) (no_piece _)
mark_sized a (b ∷ rest) =
    either (1 + length (b ∷ rest)) (is_pair a b) _ _ (a_piece (1 + length (b ∷ rest)) Mark 2 (omega arith) (omega arith))
    (either (1 + length (b ∷ rest)) (is_mark a) _ _ (a_piece (1 + length (b ∷ rest)) Mark 1 (omega arith) (omega arith)) (no_piece _))

front_sized_at : (b : ℕ) (rest : List ℕ) → Sized (1 + length rest) (front (b ∷ rest))
front_sized_at b rest =
    let comment : prefix_len (λ c. not (is_line_feed c)) rest ≤ length rest = prefix_len-le-length (λ c. not (is_line_feed c)) rest in
    let word : prefix_len is_name_byte rest ≤ length rest = prefix_len-le-length is_name_byte rest in
    let whole : prefix_len is_digit rest ≤ length rest = prefix_len-le-length is_digit rest in
    either (1 + length rest) (is_line_feed b) _ _ (a_piece _ LineEnd 1 (omega arith) (omega arith))
    (either (1 + length rest) (b == 32) _ _ (a_piece _ Blank 1 (omega arith) (omega arith))
    (either (1 + length rest) (b == 33) _ _ (a_piece _ Comment (1 + prefix_len (λ c. not (is_line_feed c)) rest) (omega arith) (omega arith))
    (either (1 + length rest) (is_letter b) _ _ (a_piece _ Word (1 + prefix_len is_name_byte rest) (omega arith) (omega arith))
    (either (1 + length rest) (is_digit b) _ _ (a_piece _ Whole (1 + prefix_len is_digit rest) (omega arith) (omega arith))
    (mark_sized b rest)))))

-- the piece at the front of a text has a byte, and lies in the text
pub front_sized : (b : ℕ) (rest : List ℕ) (piece : Piece) → front (b ∷ rest) ≡ Some piece → (1 ≤ piece.1) × (piece.1 ≤ length (b ∷ rest))
front_sized b rest piece e =
    let sized : Sized (1 + length rest) (Some piece) = subst (λ found. Sized (1 + length rest) found) e (front_sized_at b rest) in
    let low : 1 ≤ piece.1 = sized.sizes.0 in
    let high : piece.1 ≤ 1 + length rest = sized.sizes.1 in
    (low, omega arith)

-- what the pieces of a text that has one say
pub record FirstPiece (n : ℕ) (text : List ℕ) (piece : Piece) (pieces : List Piece) : Type 0 where
  pub some : 1 ≤ piece.1
  pub within : piece.1 ≤ length text
  pub rest : pieces_within n (drop piece.1 text) ≡ Some pieces

cons_parts : (piece first : Piece) (found : Option (List Piece)) (pieces : List Piece)
    → option_map (λ others. piece ∷ others) found ≡ Some (first ∷ pieces) → (piece ≡ first) × (found ≡ Some pieces)
cons_parts piece first None pieces e = absurd (cc)
cons_parts piece first (Some others) pieces e =
    let same : piece ≡ first = cc in
    let rest : others ≡ pieces = cc in
    (same, ap Some rest)

-- the first piece of a text's pieces, and the rest of them
pub first_piece : (n b : ℕ) (text : List ℕ) (piece : Piece) (pieces : List Piece) → pieces_within (suc n) (b ∷ text) ≡ Some (piece ∷ pieces)
    → FirstPiece n (b ∷ text) piece pieces
first_piece n b text piece pieces e =
    option_and_then_some {P = FirstPiece n (b ∷ text) piece pieces} (λ p. option_map (λ others. p ∷ others) (pieces_within n (drop p.1 (b ∷ text)))) (front (b ∷ text)) (piece ∷ pieces) e
    (λ p found rest.
    let parts = cons_parts p piece (pieces_within n (drop p.1 (b ∷ text))) pieces rest in
    let here : front (b ∷ text) ≡ Some piece = found ∙ ap Some parts.0 in
    let sizes = front_sized b text piece here in
    record {
      some = sizes.0;
      within = sizes.1;
      rest = subst (λ q. pieces_within n (drop q.1 (b ∷ text)) ≡ Some pieces) parts.0 parts.1;
    })

-- an edit of a range at the front of a text fits, with edits that fit the rest
front_edit : (edit : Edit) (at size : ℕ) (text : List ℕ) (edits : List Edit) → edit.range.start ≡ at → edit.range.end ≡ at + size → size ≤ length text
    → IsTrue (fit (at + size) (drop size text) edits) → IsTrue (fit at text (edit ∷ edits))
front_edit edit at size text edits start end inside h =
    let span : edit.range.end - at ≡ size = omega arith in
    let there : IsTrue (fit edit.range.end (drop size text) edits) = subst (λ to. IsTrue (fit to (drop size text) edits)) (sym end) h in
    fits_from_first at text edit edits (record {
      starts = omega arith;
      rises = omega arith;
      ends = omega arith;
      rest = subst (λ n. IsTrue (fit edit.range.end (drop n text) edits)) (sym span) there;
    })

-- the edits of those tokens that are kept fit, where the edits of the tokens after the first do
front_token : (kept : Bool) (keeps : Token → Bool) (first : PlacedPiece) (others : List PlacedPiece) (at size : ℕ) (text new : List ℕ)
    → first.range.start ≡ at → first.range.end ≡ at + size → size ≤ length text
    → IsTrue (fit (at + size) (drop size text) (replacing new (filter keeps (tokens_among others))))
    → IsTrue (fit at text (replacing new (filter keeps (tokens_among (keep_if kept first others)))))
front_token false keeps first others at size text new start end inside h = fits_before at size text (replacing new (filter keeps (tokens_among others))) inside h
front_token true keeps first others at size text new start end inside h = go (token_kind first.kind)
  where
    kept_others : List Token
    kept_others = filter keeps (tokens_among others)

    go : (kind : Option TokenKind) → IsTrue (fit at text (replacing new (filter keeps (cons_option (option_map (as_token first) kind) (tokens_among others)))))
    go None = fits_before at size text (replacing new kept_others) inside h
    go (Some kind) =
        cond_both (keeps (as_token first kind)) (as_token first kind ∷ kept_others) kept_others (λ tokens. IsTrue (fit at text (replacing new tokens)))
        (λ _. front_edit (record { range = first.range; text = new }) at size text (replacing new kept_others) start end inside h)
        (λ _. fits_before at size text (replacing new kept_others) inside h)

-- the edits that replace some of a text's tokens fit the text
pub tokens_fit : (n at line : ℕ) (text : List ℕ) (pieces : List Piece) (keeps : Token → Bool) (new : List ℕ) → pieces_within n text ≡ Some pieces
    → IsTrue (fit at text (replacing new (filter keeps (tokens_among (placed_pieces_from at line text pieces)))))
tokens_fit n at line text [] keeps new e = refl
tokens_fit zero at line [] (piece ∷ pieces) keeps new e = absurd (cc)
tokens_fit zero at line (b ∷ text) (piece ∷ pieces) keeps new e = absurd (cc)
tokens_fit (suc n) at line [] (piece ∷ pieces) keeps new e = absurd (cc)
tokens_fit (suc n) at line (b ∷ text) (piece ∷ pieces) keeps new e =
    let first = first_piece n b text piece pieces e in
    front_token (is_kept piece.0) keeps (placed_piece at line piece.0 (b ∷ text) piece.1)
    (placed_pieces_from (at + piece.1) (line_after line piece.0) (drop piece.1 (b ∷ text)) pieces) at piece.1 (b ∷ text) new refl refl first.within
    (tokens_fit n (at + piece.1) (line_after line piece.0) (drop piece.1 (b ∷ text)) pieces keeps new first.rest)

filter_twice : (p q : Token → Bool) (tokens : List Token) → filter p (filter q tokens) ≡ filter (λ token. q token && p token) tokens
filter_twice p q [] = refl
filter_twice p q (token ∷ tokens) =
    elim (q token) as (λ v. filter p (cond v (token ∷ filter q tokens) (filter q tokens))
    ≡ cond (v && p token) (token ∷ filter (λ other. q other && p other) tokens) (filter (λ other. q other && p other) tokens)) [
      | true ↦ ap (λ rest. cond (p token) (token ∷ rest) rest) (filter_twice p q tokens)
      | false ↦ filter_twice p q tokens
    ]

-- the edits that replace those of a text's tokens that a test keeps fit the text
pub kept_fit : (text : List ℕ) (tokens : List Token) (keeps : Token → Bool) (new : List ℕ) → tokens_of text ≡ Some tokens
    → IsTrue (fit 0 text (replacing new (filter keeps tokens)))
kept_fit text tokens keeps new e =
    let placed = mapped tokens_among (placed_pieces_of text) tokens e in
    let parts = mapped (placed_pieces_from 0 1 text) (pieces_of text) placed.0 placed.1 in
    subst (λ found. IsTrue (fit 0 text (replacing new (filter keeps found)))) (ap tokens_among parts.2 ∙ placed.2) (tokens_fit (length text) 0 1 text parts.0 keeps new parts.1)

-- the edits that replace the tokens of one name fit the text
pub denoting_fit : (text : List ℕ) (tokens : List Token) (old new : List ℕ) (edits : List Edit) → tokens_of text ≡ Some tokens
    → edits ≡ replacing new (denoting old tokens) → IsTrue (fit 0 text edits)
denoting_fit text tokens old new edits e made =
    let twice : replacing new (denoting old tokens) ≡ replacing new (filter (λ token. is_name_token token && bytes_eq token.value old) tokens)
    = ap (replacing new) (filter_twice (λ token. bytes_eq token.value old) is_name_token tokens) in
    subst (λ found. IsTrue (fit 0 text found)) (sym (made ∙ twice)) (kept_fit text tokens (λ token. is_name_token token && bytes_eq token.value old) new e)
