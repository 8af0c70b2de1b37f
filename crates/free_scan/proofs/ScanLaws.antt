-- A scan that goes on stays within what was read.
use Rattle.std.proofs.Common.{◌≡◌, ℕ, zero, suc, ◌+◌, ◌≤◌, ◌<◌, Bool, List, [], ◌∷◌, ◌++◌, length, take, drop, get_or, refl, ap, sym, ◌∙◌, arith}
use Rattle.std.specs.Prelude.{◌&&◌, ◌||◌, ◌==◌, Option}
use Rattle.std.specs.List.{list_any}
use Rattle.std.proofs.lemmas.Bool.{cond_both}
use Rattle.std.proofs.lemmas.List.{drop_more, length-append}
use Rattle.std.proofs.lemmas.List.Sums.{fold-append}
use Rattle.std.proofs.Math.Bool.{or_assoc}
use Rattle.ftn_base.specs.declared.fault.FaultKind.TheVariants as kinds
use Rattle.ftn_tree.specs.declared.piece.PieceKind.{PieceKind}
use Rattle.ftn_tree.specs.declared.piece.PieceKind.TheVariants as pieces
use Rattle.ftn_tree.specs.declared.piece.Spot.{Spot}
use Rattle.ftn_tree.specs.Code.{is_outside, is_wrong, open_after, quote_after}
use Rattle.ftn_tree.specs.Logical.{Glyph, glyph, glyphs, is_cut}
use Rattle.ftn_tree.specs.Pieces.{Piece, front, pieces_within, pieces_of}
use Rattle.ftn_tree.specs.Reading.{token_of, each_piece, over_run}
use Rattle.ftn_tree.specs.Breaks.{Breach, only_if, wrong_bytes}
use Rattle.free_scan.specs.steps.Firsts.{earlier, least}
use Rattle.free_scan.specs.steps.Scanning.{State, IsWithin, pushed, flushed, finished, taken, taken_all}

few_pieces : (n : ℕ) (text : List ℕ) → length (pieces_within n text) ≤ n
few_pieces n [] = omega arith
few_pieces zero (b ∷ rest) = omega arith
few_pieces (suc n) (b ∷ rest) = let more : length (pieces_within n (drop (front b rest).1 (b ∷ rest))) ≤ n = few_pieces n (drop (front b rest).1 (b ∷ rest)) in omega arith

one_token : (kind : PieceKind) (bytes : List ℕ) (spots : List Spot) → length (token_of kind bytes spots) ≤ 1
one_token kind bytes [] = omega arith
one_token pieces.Blank bytes (first ∷ spots) = omega arith
one_token pieces.Stray bytes (first ∷ spots) = omega arith
one_token pieces.Unclosed bytes (first ∷ spots) = omega arith
one_token (pieces.Token kind) bytes (first ∷ spots) = omega arith

few_tokens : (bytes : List ℕ) (spots : List Spot) (ps : List Piece) → length (each_piece token_of bytes spots ps) ≤ length ps
few_tokens bytes spots [] = omega arith
few_tokens bytes spots (piece ∷ ps) =
    let first : length (token_of piece.0 (take piece.1 bytes) (take piece.1 spots)) ≤ 1 = one_token piece.0 (take piece.1 bytes) (take piece.1 spots) in
    let more : length (each_piece token_of (drop piece.1 bytes) (drop piece.1 spots) ps) ≤ length ps = few_tokens (drop piece.1 bytes) (drop piece.1 spots) ps in
    let joined : length (token_of piece.0 (take piece.1 bytes) (take piece.1 spots) ++ each_piece token_of (drop piece.1 bytes) (drop piece.1 spots) ps)
    ≡ length (token_of piece.0 (take piece.1 bytes) (take piece.1 spots)) + length (each_piece token_of (drop piece.1 bytes) (drop piece.1 spots) ps)
    = length-append (token_of piece.0 (take piece.1 bytes) (take piece.1 spots)) (each_piece token_of (drop piece.1 bytes) (drop piece.1 spots) ps) in
    omega arith

-- a run has no more tokens than bytes
pub run_tokens : (bytes : List ℕ) (spots : List Spot) → length (over_run token_of bytes spots) ≤ length bytes
run_tokens bytes spots =
    let tokens : length (over_run token_of bytes spots) ≤ length (pieces_of bytes) = few_tokens bytes spots (pieces_of bytes) in
    let pieces : length (pieces_of bytes) ≤ length bytes = few_pieces (length bytes) bytes in
    omega arith

pub within_more : (n m : ℕ) (s : State) → n ≤ m → IsWithin n s → IsWithin m s
within_more n m s up is = omega arith

pub within_flushed : (n : ℕ) (s : State) → IsWithin n s → IsWithin n (flushed s)
within_flushed n s is =
    let joined : length (s.items ++ over_run token_of s.bytes s.spots) ≡ length s.items + length (over_run token_of s.bytes s.spots) = length-append s.items (over_run token_of s.bytes s.spots) in
    let less : length (over_run token_of s.bytes s.spots) ≤ length s.bytes = run_tokens s.bytes s.spots in
    omega arith

pub within_pushed : (n b : ℕ) (s : State) (spot : Spot) → IsWithin n s → IsWithin (n + 1) (pushed b spot s)
within_pushed n b s spot is =
    let bytes : length (s.bytes ++ b ∷ []) ≡ length s.bytes + 1 = length-append s.bytes (b ∷ []) in
    omega arith

pub within_finished : (n : ℕ) (s : State) → IsWithin n s → IsWithin n (finished s)
within_finished n s is = within_flushed n s is

-- past a byte
pub within_taken : (n b : ℕ) (s : State) (quote : Option ℕ) (spot : Spot) → IsWithin n s → IsWithin (n + 1) (taken s (glyph quote spot b))
within_taken n b s quote spot is =
    cond_both (is_outside quote && b == 59) _ _ (λ g. IsWithin (n + 1) (taken s g))
    (λ e. within_more n (n + 1) (finished s) (omega arith) (within_finished n s is))
    (λ e. cond_both (is_outside quote && is_wrong quote b) _ _ (λ g. IsWithin (n + 1) (taken s g))
    (λ e. within_pushed n 32 s spot is)
    (λ e. within_pushed n b s spot is))

-- the rest of a line, one byte on
pub glyphs_step : (quote : Option ℕ) (line at i : ℕ) (bytes : List ℕ) → i < length bytes
    → glyphs quote line at (drop i bytes)
    ≡ glyph quote (record { at = at; line = line }) (get_or bytes i 0) ∷ glyphs (quote_after quote (get_or bytes i 0)) line (at + 1) (drop (i + 1) bytes)
glyphs_step quote line at i bytes less = ap (glyphs quote line at) (drop_more bytes i 0 less)

pub taken_step : (s : State) (quote : Option ℕ) (line at i : ℕ) (bytes : List ℕ) → i < length bytes
    → taken_all s (glyphs quote line at (drop i bytes))
    ≡ taken_all (taken s (glyph quote (record { at = at; line = line }) (get_or bytes i 0))) (glyphs (quote_after quote (get_or bytes i 0)) line (at + 1) (drop (i + 1) bytes))
taken_step s quote line at i bytes less = ap (taken_all s) (glyphs_step quote line at i bytes less)

pub wrong_step : (found : Option Breach) (quote : Option ℕ) (at i : ℕ) (bytes : List ℕ) → i < length bytes
    → least found (wrong_bytes quote at (drop i bytes))
    ≡ least (least found (only_if (is_wrong quote (get_or bytes i 0)) (at, kinds.BadByte))) (wrong_bytes (quote_after quote (get_or bytes i 0)) (at + 1) (drop (i + 1) bytes))
wrong_step found quote at i bytes less =
    ap (λ rest. least found (wrong_bytes quote at rest)) (drop_more bytes i 0 less)
    ∙ fold-append earlier found (only_if (is_wrong quote (get_or bytes i 0)) (at, kinds.BadByte)) (wrong_bytes (quote_after quote (get_or bytes i 0)) (at + 1) (drop (i + 1) bytes))

pub open_step : (quote : Option ℕ) (i : ℕ) (bytes : List ℕ) → i < length bytes → open_after quote (drop i bytes) ≡ open_after (quote_after quote (get_or bytes i 0)) (drop (i + 1) bytes)
open_step quote i bytes less = ap (open_after quote) (drop_more bytes i 0 less)

is_cut_glyph : (quote : Option ℕ) (spot : Spot) (b : ℕ) → is_cut (glyph quote spot b) ≡ (is_outside quote && b == 59)
is_cut_glyph quote spot b =
    cond_both (is_outside quote && b == 59) _ _ (λ g. is_cut g ≡ (is_outside quote && b == 59)) (λ e. sym e)
    (λ e. cond_both (is_outside quote && is_wrong quote b) _ _ (λ g. is_cut g ≡ (is_outside quote && b == 59)) (λ other. sym e) (λ other. sym e))

any_cons : (g : Glyph) (gs : List Glyph) → list_any is_cut (g ∷ gs) ≡ (is_cut g || list_any is_cut gs)
any_cons g gs = refl

pub cut_step : (before : Bool) (quote : Option ℕ) (line at i : ℕ) (bytes : List ℕ) → i < length bytes
    → (before || list_any is_cut (glyphs quote line at (drop i bytes)))
    ≡ ((before || (is_outside quote && get_or bytes i 0 == 59)) || list_any is_cut (glyphs (quote_after quote (get_or bytes i 0)) line (at + 1) (drop (i + 1) bytes)))
cut_step before quote line at i bytes less =
    let rest : List Glyph = glyphs (quote_after quote (get_or bytes i 0)) line (at + 1) (drop (i + 1) bytes) in
    ap (λ gs. before || list_any is_cut gs) (glyphs_step quote line at i bytes less)
    ∙ ap (λ b. before || b) (any_cons (glyph quote (record { at = at; line = line }) (get_or bytes i 0)) rest)
    ∙ ap (λ b. before || (b || list_any is_cut rest)) (is_cut_glyph quote (record { at = at; line = line }) (get_or bytes i 0))
    ∙ sym (or_assoc before (is_outside quote && get_or bytes i 0 == 59) (list_any is_cut rest))
