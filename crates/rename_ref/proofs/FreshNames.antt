-- A word that no name token of a text is, is no name of the program.
use Rattle.std.proofs.Common.{◌≡◌, ℕ, Bool, true, false, not, ◌&&◌, ◌||◌, List, [], ◌∷◌, ◌++◌, map, find, option_map, None, refl, sym, ap, ◌∙◌, codes, bytes_eq, if◌then◌else◌}
use Rattle.std.specs.List.{list_all, cons_option}
use Rattle.std.proofs.lemmas.Bool.{and_parts, and_from}
use Rattle.ftn_base.specs.Keywords.{is_keyword, is_intrinsic}
use Rattle.ftn_base.specs.Names.{is_name}
use Rattle.std.specs.List.{onto_first}
use Rattle.std.proofs.lemmas.List.Folds.{list_all-map}
use Rattle.ftn_base.specs.Limits.{name_limit}
use Rattle.ftn_base.specs.declared.name.Edition.TheVariants.{F90}
use Rattle.free_scan.specs.Spelling.{Lexeme, word, whole, mark, lexeme, lexeme_of, lexeme_rows, token_lines, rows_of, is_some_row, commas, spell_declaration, spell_statement, spell_program}
use Rattle.free_scan.specs.Clean.{is_free_name, variables}
use Rattle.free_scan.specs.Tokens.{is_line_end, token_kind, as_token, tokens_among}
use Rattle.free_scan.specs.declared.first_form.token.PieceKind.{PieceKind}
use Rattle.free_scan.specs.declared.first_form.token.PieceKind.TheVariants.{Blank, Comment, LineEnd, Word, Whole, Mark}
use Rattle.free_scan.specs.declared.first_form.token.PlacedPiece.{PlacedPiece}
use Rattle.ftn_tree.specs.declared.token.Token.{Token}
use Rattle.ftn_tree.specs.declared.token.TokenKind.TheVariants as kinds
use Rattle.free_scan.specs.declared.first_form.program.Program.{Program}
use Rattle.rename_ref.specs.Names.{is_name_token, name_tokens}
use Rattle.rename_ref.proofs.Alls.{all_weaken, all_both, all_append_parts, all_flat, all_filter, all_from_filter, find_none}
use Rattle.rename_ref.proofs.CleanRenamed.{is_other}

-- the lexeme is a word of statements, or another word, or no word
abbrev pub says_other : List ℕ → Lexeme → Bool
says_other new (word v) = is_keyword v || is_other new v
says_other new (whole n) = true
says_other new (mark m) = true

-- each element of each list, with one more in front of the first list
all_onto_first : {X : Type 0} (q : X → Bool) (x : X) (xss : List (List X)) → q x ≡ true → list_all (list_all q) xss ≡ true → list_all (list_all q) (onto_first x xss) ≡ true
all_onto_first q x [] h a = rw h refl
all_onto_first q x (xs ∷ xss) h a = let s = and_parts (list_all q xs) (list_all (list_all q) xss) a in rw (h, s.0, s.1) refl

-- what holds of each piece holds on each line
all_token_lines : (q : PlacedPiece → Bool) (pieces : List PlacedPiece) → list_all q pieces ≡ true → list_all (list_all q) (token_lines pieces) ≡ true
all_token_lines q [] a = refl
all_token_lines q (t ∷ ts) a =
    let s = and_parts (q t) (list_all q ts) a in
    go (is_line_end t.kind) s.0 (all_token_lines q ts s.1)
  where
    go : (b : Bool) → q t ≡ true → list_all (list_all q) (token_lines ts) ≡ true → list_all (list_all q) (if b then [] ∷ token_lines ts else onto_first t (token_lines ts)) ≡ true
    go true h r = r
    go false h r = all_onto_first q t (token_lines ts) h r

-- no name token, or one of another value
abbrev no_such_name : List ℕ → Token → Bool
no_such_name new t = not (is_name_token t) || not (bytes_eq t.value new)

-- what the piece says is another word, or a word of statements, or none
abbrev piece_says_other : List ℕ → PlacedPiece → Bool
piece_says_other new piece = says_other new (lexeme_of piece)

-- a test of the name tokens among pieces, as a test of what the pieces say
pieces_say : (new : List ℕ) (pieces : List PlacedPiece) → list_all (no_such_name new) (tokens_among pieces) ≡ true → list_all (piece_says_other new) pieces ≡ true
pieces_say new [] a = refl
pieces_say new (piece ∷ pieces) a = go piece.kind a (pieces_say new pieces)
  where
    either : (k e : Bool) → (not (not k) || not e) ≡ true → (k || not e) ≡ true
    either true e h = refl
    either false e h = h

    go : (k : PieceKind) → list_all (no_such_name new) (cons_option (option_map (as_token piece) (token_kind k)) (tokens_among pieces)) ≡ true
        → (list_all (no_such_name new) (tokens_among pieces) ≡ true → list_all (piece_says_other new) pieces ≡ true)
        → (says_other new (lexeme k piece.value) && list_all (piece_says_other new) pieces) ≡ true
    go Blank a r = r a
    go Comment a r = r a
    go LineEnd a r = r a
    go Word a r =
        let s = and_parts (no_such_name new (as_token piece kinds.Word)) (list_all (no_such_name new) (tokens_among pieces)) a in
        and_from (says_other new (word piece.value)) (list_all (piece_says_other new) pieces) (either (is_keyword piece.value) (bytes_eq piece.value new) s.0) (r s.1)
    go Whole a r = r a
    go Mark a r = r a

-- Where no name token is that word, no row says it.
pub rows_say_other : (new : List ℕ) (pieces : List PlacedPiece) → find (λ token. bytes_eq token.value new) (name_tokens (tokens_among pieces)) ≡ None → list_all (list_all (says_other new)) (lexeme_rows pieces) ≡ true
rows_say_other new pieces e =
    let a = find_none (λ (token : Token). bytes_eq token.value new) (name_tokens (tokens_among pieces)) e in
    let b = all_from_filter (λ (token : Token). not (bytes_eq token.value new)) is_name_token (tokens_among pieces) a in
    let c = pieces_say new pieces b in
    let d = all_filter (list_all (piece_says_other new)) is_some_row (token_lines pieces) (all_token_lines (piece_says_other new) pieces c) in
    list_all-map (list_all (says_other new)) (map lexeme_of) (rows_of pieces)
    ∙ all_weaken (list_all (piece_says_other new)) (λ (row : List PlacedPiece). list_all (says_other new) (map lexeme_of row)) (λ row h. list_all-map (says_other new) lexeme_of row ∙ h) (rows_of pieces) d

-- ---- the names of a program are among its words

-- what holds of a list with commas holds of its items
all_commas : (q : Lexeme → Bool) (items : List (List Lexeme)) → list_all q (commas items) ≡ true → list_all (list_all q) items ≡ true
all_commas q [] a = refl
all_commas q (item ∷ []) a = rw a refl
all_commas q (item ∷ next ∷ items) a =
    let s = all_append_parts q item (mark (codes ",") ∷ commas (next ∷ items)) a in
    let t = and_parts (q (mark (codes ","))) (list_all q (commas (next ∷ items))) s.1 in
    and_from (list_all q item) (list_all (list_all q) (next ∷ items)) s.0 (all_commas q (next ∷ items) t.1)

-- a name as an item of a list
abbrev alone : List ℕ → List Lexeme
alone name = word name ∷ []

-- the names of a declaration are among its words
declared_say : (q : Lexeme → Bool) (names : List (List ℕ)) → list_all q (spell_declaration names) ≡ true → list_all (λ name. q (word name)) names ≡ true
declared_say q names a =
    let s = and_parts (q (word (codes "integer"))) (q (mark (codes "::")) && list_all q (commas (map alone names))) a in
    let t = and_parts (q (mark (codes "::"))) (list_all q (commas (map alone names))) s.1 in
    let u : list_all (λ name. list_all q (alone name)) names ≡ true = sym (list_all-map (list_all q) alone names) ∙ all_commas q (map alone names) t.1 in
    all_weaken (λ name. list_all q (alone name)) (λ name. q (word name)) (λ name h. (and_parts (q (word name)) true h).0) names u

-- the names of a program are among its words
names_say : (q : Lexeme → Bool) (p : Program) → list_all (list_all q) (spell_program p) ≡ true → list_all (λ name. q (word name)) (p.name ∷ variables p) ≡ true
names_say q p a =
    let s = and_parts (list_all q (word (codes "program") ∷ word p.name ∷ [])) (list_all (list_all q) ((map spell_declaration p.declared ++ map spell_statement p.statements) ++ ((word (codes "end") ∷ word (codes "program") ∷ word p.name ∷ []) ∷ []))) a in
    let t = and_parts (q (word (codes "program"))) (q (word p.name) && true) s.0 in
    let name : q (word p.name) ≡ true = (and_parts (q (word p.name)) true t.1).0 in
    let u = all_append_parts (list_all q) (map spell_declaration p.declared ++ map spell_statement p.statements) ((word (codes "end") ∷ word (codes "program") ∷ word p.name ∷ []) ∷ []) s.1 in
    let v = all_append_parts (list_all q) (map spell_declaration p.declared) (map spell_statement p.statements) u.0 in
    let w : list_all (λ names. list_all q (spell_declaration names)) p.declared ≡ true = sym (list_all-map (list_all q) spell_declaration p.declared) ∙ v.0 in
    let x : list_all (λ names. list_all (λ name. q (word name)) names) p.declared ≡ true = all_weaken (λ names. list_all q (spell_declaration names)) (λ names. list_all (λ name. q (word name)) names) (declared_say q) p.declared w in
    and_from (q (word p.name)) (list_all (λ name. q (word name)) (variables p)) name (all_flat (λ name. q (word name)) self p.declared x)
  where
    self : List (List ℕ) → List (List ℕ)
    self names = names

-- a free name is no word of statements
free_no_keyword : (name : List ℕ) → is_free_name name ≡ true → is_keyword name ≡ false
free_no_keyword name h = go (is_name (name_limit F90) name) (is_keyword name) (is_intrinsic name) h
  where
    go : (a k i : Bool) → ((a && not k) && not i) ≡ true → k ≡ false
    go a false i h = refl
    go true true i h = absurd cc
    go false true i h = absurd cc

-- The names of a program are others than a word that no name token is.
pub names_other : (new : List ℕ) (pieces : List PlacedPiece) (p : Program) → find (λ token. bytes_eq token.value new) (name_tokens (tokens_among pieces)) ≡ None
    → lexeme_rows pieces ≡ spell_program p → list_all is_free_name (p.name ∷ variables p) ≡ true → list_all (is_other new) (p.name ∷ variables p) ≡ true
names_other new pieces p none spelled free =
    let a : list_all (list_all (says_other new)) (spell_program p) ≡ true = ap (list_all (list_all (says_other new))) (sym spelled) ∙ rows_say_other new pieces none in
    all_both is_free_name (λ name. says_other new (word name)) (is_other new) each (p.name ∷ variables p) free (names_say (says_other new) p a)
  where
    each : (name : List ℕ) → is_free_name name ≡ true → (is_keyword name || is_other new name) ≡ true → is_other new name ≡ true
    each name f s = go (is_keyword name) (free_no_keyword name f) s
      where
        go : (k : Bool) → k ≡ false → (k || is_other new name) ≡ true → is_other new name ≡ true
        go true e s = absurd cc
        go false e s = s
