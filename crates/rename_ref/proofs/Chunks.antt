-- A text as the bytes of its pieces in turn, and its tokens by these.
use Rattle.std.proofs.Common.{◌≡◌, ℕ, zero, suc, ◌+◌, ◌≤◌, Bool, true, false, cond, not, ◌&&◌, List, [], ◌∷◌, ◌++◌, map, length, take, drop, filter, Option, Some, None, refl, sym, ap, ◌∙◌, arith, bytes_eq, option_map, option_and_then, take-append-drop, length-append}
use Rattle.std.proofs.lemmas.List.{take_at, drop_at, length-take-le}
use Rattle.std.proofs.lemmas.Slice.Eq.{bytes_eq-Decides}
use Rattle.std.proofs.lemmas.Option.{same_Some}
use Rattle.std.proofs.lemmas.Bool.{and_left}
use Rattle.ftn_base.specs.Letters.{folded}
use Rattle.ftn_base.specs.Keywords.{is_keyword}
use Rattle.free_scan.specs.Pieces.{Piece, front, pieces_within, pieces_of}
use Rattle.free_scan.specs.Tokens.{value_of, is_kept, line_after, keep_if, placed_pieces_from, placed_pieces_of, as_token, tokens_among, tokens_of}
use Rattle.free_scan.specs.declared.first_form.token.PieceKind.{PieceKind}
use Rattle.free_scan.specs.declared.first_form.token.PieceKind.TheVariants.{Blank, Comment, LineEnd, Word, Whole, Mark}
use Rattle.free_scan.specs.declared.first_form.token.PlacedPiece.{PlacedPiece}
use Rattle.ftn_tree.specs.declared.token.Token.{Token}
use Rattle.ftn_tree.specs.declared.token.TokenKind.TheVariants as kinds
use Rattle.rename_ref.specs.Names.{is_word, is_name_token, name_tokens, denoting}
use Rattle.rename_ref.proofs.Fronts.{front_some}
use Rattle.free_scan.proofs.ReadTrue.{mapped}

-- a piece with its bytes
abbrev pub Chunk : Type 0
Chunk = PieceKind × List ℕ

-- the text that the pieces make
abbrev pub joined : List Chunk → List ℕ
joined [] = []
joined (c ∷ cs) = c.1 ++ joined cs

-- what the piece is, and how many bytes it has
abbrev pub sized : Chunk → Piece
sized c = (c.0, length c.1)

-- each piece stands at the front of what is left
abbrev pub AreFronts : List Chunk → Type 0
AreFronts [] = Unit {0}
AreFronts (c ∷ cs) = (front (c.1 ++ joined cs) ≡ Some (c.0, length c.1)) × AreFronts cs

-- ---- options

-- the value of a step that gave one
and_then_some : {A B : Type 0} (f : A → Option B) (o : Option A) (y : B) → option_and_then f o ≡ Some y → (x : A) × (o ≡ Some x) × (f x ≡ Some y)
and_then_some f None y e = absurd cc
and_then_some f (Some x) y e = (x, refl, e)

-- ---- a text and its pieces

-- the piece at the front with its bytes, before the pieces of what is left
first_piece : (text : List ℕ) (piece : Piece) (cs : List Chunk) → front text ≡ Some piece → joined cs ≡ drop piece.1 text → AreFronts cs
    → (joined ((piece.0, take piece.1 text) ∷ cs) ≡ text) × AreFronts ((piece.0, take piece.1 text) ∷ cs) × (sized (piece.0, take piece.1 text) ≡ piece)
first_piece text piece cs e j fs =
    let s = front_some text piece.0 piece.1 e in
    let len : length (take piece.1 text) ≡ piece.1 = length-take-le piece.1 text s.1 in
    let whole : take piece.1 text ++ joined cs ≡ text = ap (λ (u : List ℕ). take piece.1 text ++ u) j ∙ take-append-drop piece.1 text in
    let size : sized (piece.0, take piece.1 text) ≡ piece = ap (λ (n : ℕ). pair piece.0 n) len in
    (whole, (ap front whole ∙ e ∙ ap (λ (p : Piece). Some p) (sym size), fs), size)
  where
    pair : PieceKind → ℕ → Piece
    pair k n = (k, n)

-- a text that has pieces is what they make
pub pieces_cut : (n : ℕ) (text : List ℕ) (ps : List Piece) → pieces_within n text ≡ Some ps → (cs : List Chunk) × (joined cs ≡ text) × AreFronts cs × (map sized cs ≡ ps)
pieces_cut n [] ps e = ([], refl, tt, same_Some [] ps e)
pieces_cut zero (b ∷ rest) ps e = absurd cc
pieces_cut (suc n) (b ∷ rest) ps e =
    let text : List ℕ = b ∷ rest in
    let a = and_then_some (λ (piece : Piece). option_map (λ (pieces : List Piece). piece ∷ pieces) (pieces_within n (drop piece.1 text))) (front text) ps e in
    let m = mapped (λ (pieces : List Piece). a.0 ∷ pieces) (pieces_within n (drop a.0.1 text)) ps a.2 in
    let r = pieces_cut n (drop a.0.1 text) m.0 m.1 in
    let f = first_piece text a.0 r.0 a.1 r.1 r.2 in
    ((a.0.0, take a.0.1 text) ∷ r.0, f.0, f.1, cc (f.2, r.3, m.2))

-- pieces that stand each at the front are the pieces of the text that they make
pub pieces_back : (cs : List Chunk) → AreFronts cs → (n : ℕ) → length (joined cs) ≤ n → pieces_within n (joined cs) ≡ Some (map sized cs)
pieces_back [] fs n le = refl
pieces_back ((k, []) ∷ cs) fs n le = let s = front_some (joined cs) k 0 fs.0 in absurd (omega arith)
pieces_back ((k, b ∷ w) ∷ cs) fs zero le = absurd (omega arith)
pieces_back ((k, b ∷ w) ∷ cs) fs (suc n) le =
    let len : length (w ++ joined cs) ≡ length w + length (joined cs) = length-append w (joined cs) in
    let r : pieces_within n (joined cs) ≡ Some (map sized cs) = pieces_back cs fs.1 n (omega arith) in
    rw (fs.0, drop_at w (joined cs) (length w) refl, r) refl

-- ---- its tokens

-- the piece with its place, at that offset and on that line
abbrev pub placed_at : ℕ → ℕ → Chunk → PlacedPiece
placed_at at line c = record { kind = c.0; range = record { start = at; end = at + length c.1 }; line = line; value = value_of c.0 c.1 }

-- the tokens and ends of lines of a text that begins at that offset and on that line
abbrev pub placed_in : ℕ → ℕ → List Chunk → List PlacedPiece
placed_in at line [] = []
placed_in at line (c ∷ cs) = keep_if (is_kept c.0) (placed_at at line c) (placed_in (at + length c.1) (line_after line c.0) cs)

-- its tokens
abbrev pub tokens_in : ℕ → ℕ → List Chunk → List Token
tokens_in at line cs = tokens_among (placed_in at line cs)

-- these are the tokens and ends of lines of the text
placed_in_is : (at line : ℕ) (cs : List Chunk) → placed_pieces_from at line (joined cs) (map sized cs) ≡ placed_in at line cs
placed_in_is at line [] = refl
placed_in_is at line (c ∷ cs) =
    let r = placed_in_is (at + length c.1) (line_after line c.0) cs in
    rw (take_at c.1 (joined cs) (length c.1) refl, drop_at c.1 (joined cs) (length c.1) refl, r) refl

-- a text that has tokens is made of pieces that have these
pub text_cut : (text : List ℕ) (tokens : List Token) → tokens_of text ≡ Some tokens → (cs : List Chunk) × (joined cs ≡ text) × AreFronts cs × (tokens_in 0 1 cs ≡ tokens)
text_cut text tokens e =
    let q = mapped tokens_among (placed_pieces_of text) tokens e in
    let m = mapped (placed_pieces_from 0 1 text) (pieces_of text) q.0 q.1 in
    let r = pieces_cut (length text) text m.0 m.1 in
    let t : placed_pieces_from 0 1 (joined r.0) (map sized r.0) ≡ placed_in 0 1 r.0 = placed_in_is 0 1 r.0 in
    let p : placed_in 0 1 r.0 ≡ q.0 = sym t ∙ ap (λ (u : List ℕ). placed_pieces_from 0 1 u (map sized r.0)) r.1 ∙ ap (placed_pieces_from 0 1 text) r.3 ∙ m.2 in
    (r.0, r.1, r.2, ap tokens_among p ∙ q.2)

-- the tokens and ends of lines of the text that pieces make
pub placed_of_joined : (cs : List Chunk) → AreFronts cs → placed_pieces_of (joined cs) ≡ Some (placed_in 0 1 cs)
placed_of_joined cs fs =
    let p : pieces_within (length (joined cs)) (joined cs) ≡ Some (map sized cs) = pieces_back cs fs (length (joined cs)) (omega arith) in
    ap (option_map (placed_pieces_from 0 1 (joined cs))) p ∙ ap (λ (ps : List PlacedPiece). Some ps) (placed_in_is 0 1 cs)

-- and its tokens
pub tokens_of_joined : (cs : List Chunk) → AreFronts cs → tokens_of (joined cs) ≡ Some (tokens_in 0 1 cs)
tokens_of_joined cs fs = ap (option_map tokens_among) (placed_of_joined cs fs)

-- ---- its name tokens

-- whether a piece of that kind is a word
abbrev pub is_word_piece : PieceKind → Bool
is_word_piece Word = true
is_word_piece Blank = false
is_word_piece Comment = false
is_word_piece LineEnd = false
is_word_piece Whole = false
is_word_piece Mark = false

-- whether a piece is a name
abbrev pub is_name_chunk : Chunk → Bool
is_name_chunk c = is_word_piece c.0 && not (is_keyword (folded c.1))

-- whether it is that word
abbrev pub is_old : List ℕ → Chunk → Bool
is_old old c = is_word_piece c.0 && bytes_eq (folded c.1) old

-- the token that a word is at that offset and on that line
abbrev pub token_at : ℕ → ℕ → Chunk → Token
token_at at line c = record { kind = kinds.Word; range = record { start = at; end = at + length c.1 }; line = line; split = false; value = value_of c.0 c.1 }

-- the tokens of the words that pass
abbrev pub tokens_where : (Chunk → Bool) → ℕ → ℕ → List Chunk → List Token
tokens_where p at line [] = []
tokens_where p at line (c ∷ cs) = cond (p c) (token_at at line c ∷ tokens_where p (at + length c.1) (line_after line c.0) cs) (tokens_where p (at + length c.1) (line_after line c.0) cs)

-- one more that both tests pass, or neither
grown : {X : Type 0} (a b : Bool) (x : X) (xs ys : List X) → a ≡ b → xs ≡ ys → cond a (x ∷ xs) xs ≡ cond b (x ∷ ys) ys
grown true true x xs ys e r = cc
grown true false x xs ys e r = absurd cc
grown false true x xs ys e r = absurd cc
grown false false x xs ys e r = r

-- one that doesn't pass
passed_by : {X : Type 0} (b : Bool) (x : X) (xs ys : List X) → b ≡ false → xs ≡ ys → xs ≡ cond b (x ∷ ys) ys
passed_by true x xs ys e r = absurd cc
passed_by false x xs ys e r = r

-- one that passes neither test
passed_both : {X : Type 0} (a b : Bool) (x y : X) (xs ys : List X) → a ≡ false → b ≡ false → xs ≡ ys → cond a (x ∷ xs) xs ≡ cond b (y ∷ ys) ys
passed_both true b x y xs ys d e r = absurd cc
passed_both false b x y xs ys d e r = passed_by b y xs ys e r

module _ (p : Token → Bool) (q : Chunk → Bool) (same : (at line : ℕ) (w : List ℕ) → p (token_at at line (Word, w)) ≡ q (Word, w))
    (only : (t : Token) → is_word t.kind ≡ false → p t ≡ false) (none : (c : Chunk) → is_word_piece c.0 ≡ false → q c ≡ false) where
  -- The tokens that pass a test that only words pass are those of the words that pass.
  filter_tokens : (at line : ℕ) (cs : List Chunk) → filter p (tokens_in at line cs) ≡ tokens_where q at line cs
  filter_tokens at line [] = refl
  filter_tokens at line ((Blank, w) ∷ cs) = passed_by (q (Blank, w)) (token_at at line (Blank, w)) _ _ (none (Blank, w) refl) (filter_tokens (at + length w) line cs)
  filter_tokens at line ((Comment, w) ∷ cs) = passed_by (q (Comment, w)) (token_at at line (Comment, w)) _ _ (none (Comment, w) refl) (filter_tokens (at + length w) line cs)
  filter_tokens at line ((LineEnd, w) ∷ cs) = passed_by (q (LineEnd, w)) (token_at at line (LineEnd, w)) _ _ (none (LineEnd, w) refl) (filter_tokens (at + length w) (line + 1) cs)
  filter_tokens at line ((Word, w) ∷ cs) =
      grown (p (token_at at line (Word, w))) (q (Word, w)) (token_at at line (Word, w)) _ _ (same at line w) (filter_tokens (at + length w) line cs)
  filter_tokens at line ((Whole, w) ∷ cs) =
      let t : Token = as_token (placed_at at line (Whole, w)) kinds.Whole in
      passed_both (p t) (q (Whole, w)) t (token_at at line (Whole, w)) _ _ (only t refl) (none (Whole, w) refl) (filter_tokens (at + length w) line cs)
  filter_tokens at line ((Mark, w) ∷ cs) =
      let t : Token = as_token (placed_at at line (Mark, w)) kinds.Mark in
      passed_both (p t) (q (Mark, w)) t (token_at at line (Mark, w)) _ _ (only t refl) (none (Mark, w) refl) (filter_tokens (at + length w) line cs)

-- the name tokens of a text are those of its names
pub name_tokens_in : (at line : ℕ) (cs : List Chunk) → name_tokens (tokens_in at line cs) ≡ tokens_where is_name_chunk at line cs
name_tokens_in at line cs =
    filter_tokens is_name_token is_name_chunk (λ from on w. refl) (λ t e. and_left (is_word t.kind) (not (is_keyword t.value)) e) (λ c e. and_left (is_word_piece c.0) (not (is_keyword (folded c.1))) e) at line cs

-- two filters are one
pub filter_filter : {X : Type 0} (p q : X → Bool) (xs : List X) → filter q (filter p xs) ≡ filter (λ x. p x && q x) xs
filter_filter p q [] = refl
filter_filter p q (x ∷ xs) = go (p x) (filter_filter p q xs)
  where
    go : (t : Bool) → filter q (filter p xs) ≡ filter (λ x. p x && q x) xs → filter q (cond t (x ∷ filter p xs) (filter p xs)) ≡ cond (t && q x) (x ∷ filter (λ x. p x && q x) xs) (filter (λ x. p x && q x) xs)
    go true r = ap (λ (ys : List _). cond (q x) (x ∷ ys) ys) r
    go false r = r

-- a word that is no word of statements, where it is one that is none
word_and : (w k e : Bool) → (e ≡ true → k ≡ false) → ((w && not k) && e) ≡ (w && e)
word_and false k e h = refl
word_and true false e h = refl
word_and true true true h = let e : true ≡ false = h refl in absurd cc
word_and true true false h = refl

-- the tokens that denote a name that is no word of statements are the words of that name
pub denoting_in : (old : List ℕ) → is_keyword old ≡ false → (at line : ℕ) (cs : List Chunk) → denoting old (tokens_in at line cs) ≡ tokens_where (is_old old) at line cs
denoting_in old free at line cs =
    filter_filter is_name_token (λ token. bytes_eq token.value old) (tokens_in at line cs)
    ∙ filter_tokens (λ token. is_name_token token && bytes_eq token.value old) (is_old old) same
    (λ t e. and_left (is_name_token t) (bytes_eq t.value old) (and_left (is_word t.kind) (not (is_keyword t.value)) e)) (λ c e. and_left (is_word_piece c.0) (bytes_eq (folded c.1) old) e) at line cs
  where
    same : (from on : ℕ) (w : List ℕ) → (is_name_token (token_at from on (Word, w)) && bytes_eq (folded w) old) ≡ is_old old (Word, w)
    same from on w = word_and true (is_keyword (folded w)) (bytes_eq (folded w) old) (λ e. ap is_keyword ((bytes_eq-Decides (folded w) old).0 e) ∙ free)
