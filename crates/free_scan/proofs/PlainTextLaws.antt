-- Bytes of one line that stand for themselves: what they give at once is what they give one by one.
use Rattle.std.proofs.Common.{◌≡◌, ℕ, zero, suc, ◌+◌, ◌-◌, ◌≤◌, Bool, true, false, List, [], ◌∷◌, ◌++◌, length, take, drop, Option, Some, None, refl, ap, sym, ◌∙◌, arith, append_assoc, append-nil}
use Rattle.std.specs.Prelude.{◌&&◌, ◌||◌, not, ◌==◌, if◌then◌else◌}
use Rattle.std.specs.List.{list_any}
use Rattle.std.proofs.lemmas.Bool.Decides.{nat_tests}
use Rattle.std.proofs.lemmas.List.{length-append, length-drop, length-take-le}
use Rattle.std.proofs.lemmas.Option.{same_Some}
use Rattle.std.proofs.Math.Bool.{and-false}
use Rattle.ftn_base.specs.declared.name.Edition.{Edition}
use Rattle.ftn_base.specs.declared.fault.FaultKind.TheVariants as kinds
use Rattle.ftn_tree.specs.declared.token.TokenKind.{TokenKind}
use Rattle.ftn_tree.specs.declared.token.TokenKind.TheVariants as tokens
use Rattle.ftn_tree.specs.declared.token.Token.{Token}
use Rattle.ftn_tree.specs.declared.piece.PieceKind.{PieceKind}
use Rattle.ftn_tree.specs.declared.piece.PieceKind.TheVariants as pieces
use Rattle.ftn_tree.specs.declared.piece.Spot.{Spot}
use Rattle.ftn_tree.specs.Breaks.{only_if, piece_breaches, wrong_bytes}
use Rattle.ftn_tree.specs.Code.{is_outside, is_wrong, open_after, quote_after}
use Rattle.ftn_tree.specs.Logical.{byte, cut, glyph, glyphs, is_cut}
use Rattle.ftn_tree.specs.Reading.{last_of, token_of, value_of}
use Rattle.free_scan.specs.steps.Scanning.{State, IsWithin, finished, flushed, pushed, taken, taken_all}
use Rattle.free_scan.specs.steps.PlainText.{adjoining, is_plain, plain_end, row_breaches, row_tokens, with_row}
use Rattle.free_scan.proofs.ScanLaws.{within_finished, within_flushed}

two_false : (a b : Bool) → not (a || b) ≡ true → (a ≡ false) × (b ≡ false)
two_false true b e = absurd (cc)
two_false false true e = absurd (cc)
two_false false false e = (refl, refl)

if_some : {A : Type 0} (c : Bool) (o : Option A) (x : A) → (if c then o else None) ≡ Some x → (c ≡ true) × (o ≡ Some x)
if_some true o x e = (refl, e)
if_some false o x e = absurd (cc)

-- a byte that stands for itself
plain_parts : (q : Option ℕ) (b : ℕ) → is_plain q b ≡ true → ((is_outside q && b == 59) ≡ false) × (is_wrong q b ≡ false)
plain_parts q b e = two_false (is_outside q && b == 59) (is_wrong q b) e

plain_glyph : (q : Option ℕ) (spot : Spot) (b : ℕ) → is_plain q b ≡ true → glyph q spot b ≡ byte b spot
plain_glyph q spot b e =
    let are : ((is_outside q && b == 59) ≡ false) × (is_wrong q b ≡ false) = plain_parts q b e in
    ap (λ c. if c then cut else if is_outside q && is_wrong q b then byte 32 spot else byte b spot) are.0
    ∙ ap (λ w. if is_outside q && w then byte 32 spot else byte b spot) are.1
    ∙ ap (λ c. if c then byte 32 spot else byte b spot) (and-false (is_outside q))

next_plain : (q last : Option ℕ) (b : ℕ) (row : List ℕ) → plain_end q (b ∷ row) ≡ Some last → (is_plain q b ≡ true) × (plain_end (quote_after q b) row ≡ Some last)
next_plain q last b row e = if_some (is_plain q b) (plain_end (quote_after q b) row) last e

-- a row of them
abbrev re : List ℕ → List Spot → State → State
re bytes spots s = record {
  edition = s.edition;
  items = s.items;
  statements = s.statements;
  first = s.first;
  bytes = bytes;
  spots = spots;
  firsts = s.firsts;
}

no_row : (line at : ℕ) (s : State) → s ≡ with_row line at [] s
no_row line at s = sym (ap (λ bytes. re bytes (s.spots ++ []) s) (append-nil s.bytes) ∙ ap (λ spots. re s.bytes spots s) (append-nil s.spots))

more_row : (line at b : ℕ) (row : List ℕ) (s : State) → with_row line (at + 1) row (pushed b (record { at = at; line = line }) s) ≡ with_row line at (b ∷ row) s
more_row line at b row s =
    let spot : Spot = record { at = at; line = line } in
    let rest : List Spot = adjoining line (at + 1) (length row) in
    ap (λ bytes. re bytes ((s.spots ++ spot ∷ []) ++ rest) s) (append_assoc s.bytes (b ∷ []) row)
    ∙ ap (λ spots. re (s.bytes ++ b ∷ row) spots s) (append_assoc s.spots (spot ∷ []) rest)

plain_taken : (s : State) (q last : Option ℕ) (line at : ℕ) (row : List ℕ) → plain_end q row ≡ Some last → taken_all s (glyphs q line at row) ≡ with_row line at row s
plain_taken s q last line at [] e = no_row line at s
plain_taken s q last line at (b ∷ row) e =
    let spot : Spot = record { at = at; line = line } in
    let parts : (is_plain q b ≡ true) × (plain_end (quote_after q b) row ≡ Some last) = next_plain q last b row e in
    ap (λ g. taken_all (taken s g) (glyphs (quote_after q b) line (at + 1) row)) (plain_glyph q spot b parts.0)
    ∙ plain_taken (pushed b spot s) (quote_after q b) last line (at + 1) row parts.1
    ∙ more_row line at b row s

pub plain_right : (q last : Option ℕ) (at : ℕ) (row : List ℕ) → plain_end q row ≡ Some last → wrong_bytes q at row ≡ []
plain_right q last at [] e = refl
plain_right q last at (b ∷ row) e =
    let parts : (is_plain q b ≡ true) × (plain_end (quote_after q b) row ≡ Some last) = next_plain q last b row e in
    let are : ((is_outside q && b == 59) ≡ false) × (is_wrong q b ≡ false) = plain_parts q b parts.0 in
    ap (λ w. only_if w (at, kinds.BadByte) ++ wrong_bytes (quote_after q b) (at + 1) row) are.1 ∙ plain_right (quote_after q b) last (at + 1) row parts.1

pub plain_open : (q last : Option ℕ) (row : List ℕ) → plain_end q row ≡ Some last → open_after q row ≡ last
plain_open q last [] e = same_Some q last e
plain_open q last (b ∷ row) e =
    let parts : (is_plain q b ≡ true) × (plain_end (quote_after q b) row ≡ Some last) = next_plain q last b row e in
    plain_open (quote_after q b) last row parts.1

pub plain_uncut : (q last : Option ℕ) (line at : ℕ) (row : List ℕ) → plain_end q row ≡ Some last → list_any is_cut (glyphs q line at row) ≡ false
plain_uncut q last line at [] e = refl
plain_uncut q last line at (b ∷ row) e =
    let spot : Spot = record { at = at; line = line } in
    let parts : (is_plain q b ≡ true) × (plain_end (quote_after q b) row ≡ Some last) = next_plain q last b row e in
    ap (λ g. list_any is_cut (g ∷ glyphs (quote_after q b) line (at + 1) row)) (plain_glyph q spot b parts.0)
    ∙ plain_uncut (quote_after q b) last line (at + 1) row parts.1

within_row : (n line at : ℕ) (row : List ℕ) (s : State) → IsWithin n s → IsWithin (n + length row) (with_row line at row s)
within_row n line at row s is =
    let bytes : length (s.bytes ++ row) ≡ length s.bytes + length row = length-append s.bytes row in
    omega arith

pub within_flushed_row : (n line at : ℕ) (row : List ℕ) (s : State) → IsWithin n s → IsWithin (n + length row) (flushed (with_row line at row s))
within_flushed_row n line at row s is = within_flushed (n + length row) (with_row line at row s) (within_row n line at row s is)

pub within_read : (n line at : ℕ) (row : List ℕ) (s : State) → IsWithin n s → IsWithin (n + length row) (finished (with_row line at row s))
within_read n line at row s is = within_finished (n + length row) (with_row line at row s) (within_row n line at row s is)

-- a line of such bytes whose statement ends with it
pub plain_line : (s : State) (q last : Option ℕ) (line at : ℕ) (row : List ℕ) (goes_on : Bool) → goes_on ≡ false → plain_end q row ≡ Some last
    → finished (with_row line at row s) ≡ taken_all (taken_all s (glyphs q line at row)) (if goes_on then [] else cut ∷ [])
plain_line s q last line at row true ended e = absurd (cc)
plain_line s q last line at row false ended e = ap finished (sym (plain_taken s q last line at row e))

-- places that adjoin
adjoining_length : (line at n : ℕ) → length (adjoining line at n) ≡ n
adjoining_length line at zero = refl
adjoining_length line at (suc n) = ap suc (adjoining_length line (at + 1) n)

drop_adjoining : (line at n k : ℕ) → drop k (adjoining line at n) ≡ adjoining line (at + k) (n - k)
drop_adjoining line at n zero =
    let from : at ≡ at + 0 = omega arith in
    let all : n ≡ n - 0 = omega arith in
    ap (λ m. adjoining line m n) from ∙ ap (λ m. adjoining line (at + 0) m) all
drop_adjoining line at zero (suc k) =
    let none : 0 ≡ 0 - suc k = omega arith in
    ap (λ m. adjoining line (at + suc k) m) none
drop_adjoining line at (suc n) (suc k) =
    let from : at + 1 + k ≡ at + suc k = omega arith in
    let left : n - k ≡ suc n - suc k = omega arith in
    drop_adjoining line (at + 1) n k ∙ ap (λ m. adjoining line m (n - k)) from ∙ ap (λ m. adjoining line (at + suc k) m) left

take_adjoining : (line at n k : ℕ) → k ≤ n → take k (adjoining line at n) ≡ adjoining line at k
take_adjoining line at zero zero le = refl
take_adjoining line at (suc n) zero le = refl
take_adjoining line at zero (suc k) le = absurd (omega arith)
take_adjoining line at (suc n) (suc k) le =
    let less : k ≤ n = omega arith in
    let spot : Spot = record { at = at; line = line } in
    ap (λ spots. spot ∷ spots) (take_adjoining line (at + 1) n k less)

row_last : (line at n : ℕ) → (last_of (record { at = at; line = line }) (adjoining line (at + 1) n)).at ≡ at + n
row_last line at zero = omega arith
row_last line at (suc n) = let plus : at + 1 + n ≡ at + suc n = omega arith in row_last line (at + 1) n ∙ plus

same_number : (m n : ℕ) → m ≡ n → not (m == n) ≡ false
same_number m n e = grind (arith, nat_tests)

-- a piece of a row
abbrev made : TokenKind → ℕ → ℕ → ℕ → Bool → List ℕ → List Token
made kind start end line split value = record { kind = kind; range = record { start = start; end = end }; line = line; split = split; value = value } ∷ []

piece_tokens : (kind : PieceKind) (bytes : List ℕ) (line at : ℕ) → 1 ≤ length bytes → token_of kind bytes (adjoining line at (length bytes)) ≡ row_tokens kind bytes line at
piece_tokens kind [] line at some = absurd (omega arith)
piece_tokens pieces.Blank (b ∷ rest) line at some = refl
piece_tokens pieces.Stray (b ∷ rest) line at some = refl
piece_tokens pieces.Unclosed (b ∷ rest) line at some = refl
piece_tokens (pieces.Token kind) (b ∷ rest) line at some =
    let n : ℕ = length rest in
    let value : List ℕ = value_of kind (b ∷ rest) in
    let size : ℕ = length (adjoining line (at + 1) n) in
    let plus : at + n + 1 ≡ at + suc n = omega arith in
    ap (λ m. made kind at (m + 1) line (not (m == at + size)) value) (row_last line at n)
    ∙ ap (λ k. made kind at (at + n + 1) line (not (at + n == at + k)) value) (adjoining_length line (at + 1) n)
    ∙ ap (λ split. made kind at (at + n + 1) line split value) (same_number (at + n) (at + n) refl)
    ∙ ap (λ end. made kind at end line false value) plus

piece_rules : (edition : Edition) (kind : PieceKind) (bytes : List ℕ) (line at : ℕ) → 1 ≤ length bytes
    → piece_breaches edition kind bytes (adjoining line at (length bytes)) ≡ row_breaches edition kind bytes at
piece_rules edition kind [] line at some = absurd (omega arith)
piece_rules edition pieces.Blank (b ∷ rest) line at some = refl
piece_rules edition pieces.Stray (b ∷ rest) line at some = refl
piece_rules edition pieces.Unclosed (b ∷ rest) line at some = refl
piece_rules edition (pieces.Token tokens.Word) (b ∷ rest) line at some = refl
piece_rules edition (pieces.Token tokens.Whole) (b ∷ rest) line at some = refl
piece_rules edition (pieces.Token tokens.RealForm) (b ∷ rest) line at some = refl
piece_rules edition (pieces.Token tokens.Quoted) (b ∷ rest) line at some = refl
piece_rules edition (pieces.Token tokens.Dotted) (b ∷ rest) line at some = refl
piece_rules edition (pieces.Token tokens.Mark) (b ∷ rest) line at some = refl

-- the places of a piece that begins there
places_here : (line start n at size : ℕ) → at + size ≤ n → take (at + size - at) (drop at (adjoining line start n)) ≡ adjoining line (start + at) size
places_here line start n at size le =
    let same : at + size - at ≡ size = omega arith in
    let less : size ≤ n - at = omega arith in
    ap (λ k. take k (drop at (adjoining line start n))) same ∙ ap (take size) (drop_adjoining line start n at) ∙ take_adjoining line (start + at) (n - at) size less

size_here : (bytes : List ℕ) (at size : ℕ) → at + size ≤ length bytes → length (take (at + size - at) (drop at bytes)) ≡ size
size_here bytes at size le =
    let same : at + size - at ≡ size = omega arith in
    let left : length (drop at bytes) ≡ length bytes - at = length-drop at bytes in
    let less : size ≤ length (drop at bytes) = omega arith in
    ap (λ k. length (take k (drop at bytes))) same ∙ length-take-le size (drop at bytes) less

pub tokens_here : (kind : PieceKind) (bytes : List ℕ) (line start at size : ℕ) → 1 ≤ size → at + size ≤ length bytes
    → token_of kind (take (at + size - at) (drop at bytes)) (take (at + size - at) (drop at (adjoining line start (length bytes))))
    ≡ row_tokens kind (take (at + size - at) (drop at bytes)) line (start + at)
tokens_here kind bytes line start at size some le =
    let here : List ℕ = take (at + size - at) (drop at bytes) in
    let long : length here ≡ size = size_here bytes at size le in
    let more : 1 ≤ length here = omega arith in
    ap (token_of kind here) (places_here line start (length bytes) at size le ∙ ap (adjoining line (start + at)) (sym long)) ∙ piece_tokens kind here line (start + at) more

pub rules_here : (edition : Edition) (kind : PieceKind) (bytes : List ℕ) (line start at size : ℕ) → 1 ≤ size → at + size ≤ length bytes
    → piece_breaches edition kind (take (at + size - at) (drop at bytes)) (take (at + size - at) (drop at (adjoining line start (length bytes))))
    ≡ row_breaches edition kind (take (at + size - at) (drop at bytes)) (start + at)
rules_here edition kind bytes line start at size some le =
    let here : List ℕ = take (at + size - at) (drop at bytes) in
    let long : length here ≡ size = size_here bytes at size le in
    let more : 1 ≤ length here = omega arith in
    ap (piece_breaches edition kind here) (places_here line start (length bytes) at size le ∙ ap (adjoining line (start + at)) (sym long)) ∙ piece_rules edition kind here line (start + at) more
