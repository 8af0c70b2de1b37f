-- The tokens of a text after a word is replaced by a name: where they stand, and what they say.
use Rattle.std.proofs.Common.{◌≡◌, ℕ, ◌+◌, ◌-◌, ◌≤◌, Bool, true, false, cond, not, List, [], ◌∷◌, ◌++◌, map, length, filter, sum_by, refl, sym, ap, ◌∙◌, arith, bytes_eq, append_assoc, if◌then◌else◌, nat_le}
use Rattle.std.specs.List.{list_all}
use Rattle.std.proofs.lemmas.Bool.{and_parts, and_from, leb-true, le-leb, lt-leb}
use Rattle.std.proofs.lemmas.List.{append-nil}
use Rattle.std.proofs.lemmas.List.Elements.{filter-append}
use Rattle.std.proofs.lemmas.List.Sums.{sum_by_push}
use Rattle.std.proofs.lemmas.Slice.Eq.{bytes_eq-Decides}
use Rattle.ftn_base.specs.Keywords.{is_keyword}
use Rattle.ftn_base.specs.Letters.{folded}
use Rattle.std.specs.List.{onto_first}
use Rattle.free_scan.specs.Spelling.{Lexeme, word, whole, mark, lexeme_of, lexeme_rows, token_lines, is_some_row}
use Rattle.free_scan.specs.Tokens.{value_of, line_after}
use Rattle.free_scan.specs.declared.first_form.token.PieceKind.TheVariants.{Blank, Comment, LineEnd, Word, Whole, Mark}
use Rattle.free_scan.specs.declared.first_form.token.PlacedPiece.{PlacedPiece}
use Rattle.ftn_tree.specs.declared.token.Token.{Token}
use Rattle.rename_ref.specs.declared.edits.Edit.{Edit}
use Rattle.rename_ref.specs.Edits.{moved, replacing}
use Rattle.rename_ref.specs.Kept.{placed, placed_after}
use Rattle.rename_ref.specs.Renaming.{renamed}
use Rattle.rename_ref.proofs.Fronts.{front_some}
use Rattle.rename_ref.proofs.Chunks.{is_word_piece, Chunk, joined, AreFronts, is_old, is_name_chunk, tokens_where, token_at, placed_at, placed_in}
use Rattle.rename_ref.proofs.PiecesRenamed.{put}
use Rattle.free_scan.proofs.Rows.{map_onto}

-- ---- where the edits put a place

-- a filter keeps a list where all pass
filter_all : {X : Type 0} (p : X → Bool) (xs : List X) → list_all p xs ≡ true → filter p xs ≡ xs
filter_all p [] h = refl
filter_all p (x ∷ xs) h = let q = and_parts (p x) (list_all p xs) h in rw (q.0, filter_all p xs q.1) refl

-- a filter keeps nothing where none passes
filter_none : {X : Type 0} (p : X → Bool) (xs : List X) → list_all (λ x. not (p x)) xs ≡ true → filter p xs ≡ []
filter_none p [] h = refl
filter_none p (x ∷ xs) h =
    let q = and_parts (not (p x)) (list_all (λ y. not (p y)) xs) h in
    go (p x) q.0 (filter_none p xs q.1)
  where
    go : (t : Bool) → not t ≡ true → filter p xs ≡ [] → cond t (x ∷ filter p xs) (filter p xs) ≡ []
    go true n r = absurd cc
    go false n r = r

-- the edit ends at that place or before
abbrev pub ends_by : ℕ → Edit → Bool
ends_by at edit = nat_le edit.range.end at

-- how many bytes the edits put in
abbrev pub made : List Edit → ℕ
made edits = sum_by (λ (edit : Edit). length edit.text) edits

-- how many bytes they take away
abbrev pub cut : List Edit → ℕ
cut edits = sum_by (λ (edit : Edit). edit.range.end - edit.range.start) edits

-- a place between the edits goes by those before it
moved_between : (before after : List Edit) (at : ℕ) → list_all (ends_by at) before ≡ true → list_all (λ edit. not (ends_by at edit)) after ≡ true
    → moved (before ++ after) at ≡ at + made before - cut before
moved_between before after at b a =
    let f : filter (ends_by at) (before ++ after) ≡ before =
    filter-append (ends_by at) before after ∙ ap (λ (es : List Edit). es ++ filter (ends_by at) after) (filter_all (ends_by at) before b)
    ∙ ap (λ (es : List Edit). before ++ es) (filter_none (ends_by at) after a) ∙ append-nil before in
    ap (λ (es : List Edit). at + made es - cut es) f

-- ---- the edits of the pieces from a place on

-- the edits of the words of that name
abbrev pub edits_in : List ℕ → List ℕ → ℕ → ℕ → List Chunk → List Edit
edits_in old new at line cs = replacing new (tokens_where (is_old old) at line cs)

-- the edit of a piece at that offset
abbrev edit_at : List ℕ → ℕ → Chunk → Edit
edit_at new at c = record { range = record { start = at; end = at + length c.1 }; text = new }

-- they end after it
late : (old new : List ℕ) (from at line : ℕ) (cs : List Chunk) → AreFronts cs → from ≤ at → list_all (λ edit. not (ends_by from edit)) (edits_in old new at line cs) ≡ true
late old new from at line [] fs le = refl
late old new from at line (c ∷ cs) fs le =
    let s = front_some (c.1 ++ joined cs) c.0 (length c.1) fs.0 in
    go (is_old old c) (late old new from (at + length c.1) (line_after line c.0) cs fs.1 (omega arith)) (lt-leb (at + length c.1) from (omega arith))
  where
    go : (t : Bool) → list_all (λ edit. not (ends_by from edit)) (edits_in old new (at + length c.1) (line_after line c.0) cs) ≡ true → nat_le (at + length c.1) from ≡ false
        → list_all (λ edit. not (ends_by from edit)) (replacing new (cond t (token_at at line c ∷ tokens_where (is_old old) (at + length c.1) (line_after line c.0) cs) (tokens_where (is_old old) (at + length c.1) (line_after line c.0) cs))) ≡ true
    go true r l = rw l r
    go false r l = r

-- edits that end by a place end by a later one
later : (from at : ℕ) (edits : List Edit) → from ≤ at → list_all (ends_by from) edits ≡ true → list_all (ends_by at) edits ≡ true
later from at [] le h = refl
later from at (edit ∷ edits) le h =
    let q = and_parts (ends_by from edit) (list_all (ends_by from) edits) h in
    and_from (ends_by at edit) (list_all (ends_by at) edits) (le-leb edit.range.end at (omega (arith, leb-true edit.range.end from q.0))) (later from at edits le q.1)

-- one more that passes
all_push : {X : Type 0} (p : X → Bool) (xs : List X) (x : X) → list_all p xs ≡ true → p x ≡ true → list_all p (xs ++ x ∷ []) ≡ true
all_push p [] x h k = rw k refl
all_push p (y ∷ xs) x h k = let q = and_parts (p y) (list_all p xs) h in and_from (p y) (list_all p (xs ++ x ∷ [])) q.0 (all_push p xs x q.1 k)

-- ---- names

-- the new bytes in lower case
put_folded : (t : Bool) (old new w : List ℕ) → folded (if t then new else w) ≡ (if t then folded new else folded w)
put_folded true old new w = refl
put_folded false old new w = refl

-- a word after the replacing is the old word's partner
pub put_word : (old new w : List ℕ) → folded (put old new (Word, w)).1 ≡ renamed old (folded new) (folded w)
put_word old new w = put_folded (bytes_eq (folded w) old) old new w

-- a word token's value is the partner of what it was
put_value : (old new : List ℕ) (c : Chunk) → is_word_piece c.0 ≡ true → value_of c.0 (put old new c).1 ≡ renamed old (folded new) (value_of c.0 c.1)
put_value old new (Blank, w) e = absurd cc
put_value old new (Comment, w) e = absurd cc
put_value old new (LineEnd, w) e = absurd cc
put_value old new (Word, w) e = put_word old new w
put_value old new (Whole, w) e = absurd cc
put_value old new (Mark, w) e = absurd cc

-- a piece is a name after the replacing as before it
name_put : (old new : List ℕ) → is_keyword old ≡ false → is_keyword (folded new) ≡ false → (c : Chunk) → is_name_chunk (put old new c) ≡ is_name_chunk c
name_put old new free fresh (Blank, w) = refl
name_put old new free fresh (Comment, w) = refl
name_put old new free fresh (LineEnd, w) = refl
name_put old new free fresh (Word, w) = ap (λ (v : List ℕ). not (is_keyword v)) (put_word old new w) ∙ go (bytes_eq (folded w) old) (bytes_eq-Decides (folded w) old).0
  where
    go : (t : Bool) → (t ≡ true → folded w ≡ old) → not (is_keyword (if t then folded new else folded w)) ≡ not (is_keyword (folded w))
    go true h = ap not (fresh ∙ sym free ∙ ap is_keyword (sym (h refl)))
    go false h = refl
name_put old new free fresh (Whole, w) = refl
name_put old new free fresh (Mark, w) = refl

-- ---- where the name tokens stand

-- so far the edits lead from a place to its new place
abbrev pub Leads : List Edit → ℕ → ℕ → Type 0
Leads before at now = (list_all (ends_by at) before ≡ true) × (now + cut before ≡ at + made before)

-- after one edit more they lead from its end to its new end
leads_push : (before : List Edit) (new : List ℕ) (at now : ℕ) (c : Chunk) → Leads before at now → Leads (before ++ edit_at new at c ∷ []) (at + length c.1) (now + length new)
leads_push before new at now c l = (
  all_push (ends_by (at + length c.1)) before (edit_at new at c) (later at (at + length c.1) before (omega arith) l.0) (le-leb (at + length c.1) (at + length c.1) (omega arith)),
  omega (arith, sum_by_push (λ (edit : Edit). length edit.text) before (edit_at new at c), sum_by_push (λ (edit : Edit). edit.range.end - edit.range.start) before (edit_at new at c), l.1),
)

-- a place with a name
abbrev pair_of : ℕ → List ℕ → ℕ × List ℕ
pair_of a v = (a, v)

-- two lists that grow alike
cond_map : {A B C : Type 0} (g : A → C) (h : B → C) (s t : Bool) (x : A) (y : B) (xs : List A) (ys : List B) → s ≡ t → (t ≡ true → g x ≡ h y) → map g xs ≡ map h ys
    → map g (cond s (x ∷ xs) xs) ≡ map h (cond t (y ∷ ys) ys)
cond_map g h true true x y xs ys e head tail = cc (head refl, tail)
cond_map g h true false x y xs ys e head tail = absurd cc
cond_map g h false true x y xs ys e head tail = absurd cc
cond_map g h false false x y xs ys e head tail = tail

-- equal places with equal names
pair_is : (a b : ℕ) (v w : List ℕ) → a ≡ b → v ≡ w → pair_of a v ≡ pair_of b w
pair_is a b v w e d = cc

-- a place by what was added and taken away
from_sum : (n c a m : ℕ) → n + c ≡ a + m → n ≡ a + m - c
from_sum n c a m e = omega arith

-- The name tokens stand where the edits put them, with their partners' names.
pub placed_is : (old new : List ℕ) → is_keyword old ≡ false → is_keyword (folded new) ≡ false
    → (before : List Edit) (at now line : ℕ) (cs : List Chunk) → AreFronts cs → Leads before at now
    → map placed (tokens_where is_name_chunk now line (map (put old new) cs)) ≡ map (placed_after (renamed old (folded new)) (before ++ edits_in old new at line cs)) (tokens_where is_name_chunk at line cs)
placed_is old new free fresh before at now line [] fs l = refl
placed_is old new free fresh before at now line (c ∷ cs) fs l =
    cond_map placed (placed_after f edits) (is_name_chunk (put old new c)) (is_name_chunk c) (token_at now line (put old new c)) (token_at at line c) (new_rest (length (put old new c).1)) old_rest
    (name_put old new free fresh c) here
    (rest (is_old old c)
    (placed_is old new free fresh before (at + length c.1) (now + length c.1) (line_after line c.0) cs fs.1 (later at (at + length c.1) before (omega arith) l.0, omega (arith, l.1)))
    (placed_is old new free fresh (before ++ edit_at new at c ∷ []) (at + length c.1) (now + length new) (line_after line c.0) cs fs.1 (leads_push before new at now c l)))
  where
    f : List ℕ → List ℕ
    f = renamed old (folded new)

    edits : List Edit
    edits = before ++ edits_in old new at line (c ∷ cs)

    others : List Edit
    others = edits_in old new (at + length c.1) (line_after line c.0) cs

    old_rest : List Token
    old_rest = tokens_where is_name_chunk (at + length c.1) (line_after line c.0) cs

    new_rest : ℕ → List Token
    new_rest size = tokens_where is_name_chunk (now + size) (line_after line c.0) (map (put old new) cs)

    place : now ≡ moved edits at
    place =
        let m : moved edits at ≡ at + made before - cut before = moved_between before (edits_in old new at line (c ∷ cs)) at l.0 (late old new at at line (c ∷ cs) fs (omega arith)) in
        let n : now ≡ at + made before - cut before = from_sum now (cut before) at (made before) l.1 in
        n ∙ sym m

    here : is_name_chunk c ≡ true → placed (token_at now line (put old new c)) ≡ placed_after f edits (token_at at line c)
    here e = pair_is now (moved edits at) (value_of c.0 (put old new c).1) (f (value_of c.0 c.1)) place (put_value old new c (and_parts (is_word_piece c.0) (not (is_keyword (folded c.1))) e).0)

    rest : (t : Bool) → map placed (new_rest (length c.1)) ≡ map (placed_after f (before ++ others)) old_rest
        → map placed (new_rest (length new)) ≡ map (placed_after f ((before ++ edit_at new at c ∷ []) ++ others)) old_rest
        → map placed (new_rest (length (if t then new else c.1)))
        ≡ map (placed_after f (before ++ replacing new (cond t (token_at at line c ∷ tokens_where (is_old old) (at + length c.1) (line_after line c.0) cs) (tokens_where (is_old old) (at + length c.1) (line_after line c.0) cs)))) old_rest
    rest true stays goes = goes ∙ ap (λ (es : List Edit). map (placed_after f es) old_rest) (append_assoc before (edit_at new at c ∷ []) others)
    rest false stays goes = stays

-- ---- what the tokens say

-- the lexeme with another word
abbrev pub map_lexeme : (List ℕ → List ℕ) → Lexeme → Lexeme
map_lexeme f (word v) = word (f v)
map_lexeme f (whole n) = whole n
map_lexeme f (mark m) = mark m

-- a map keeps the rows that have an element
pub map_rows : {X Y : Type 0} (f : X → Y) (xss : List (List X)) → map (map f) (filter is_some_row xss) ≡ filter is_some_row (map (map f) xss)
map_rows f [] = refl
map_rows f ([] ∷ xss) = map_rows f xss
map_rows f ((x ∷ xs) ∷ xss) = ap (λ (r : List (List _)). map f (x ∷ xs) ∷ r) (map_rows f xss)

-- the lexemes of each line
abbrev pub lexeme_lines : List PlacedPiece → List (List Lexeme)
lexeme_lines pieces = map (map lexeme_of) (token_lines pieces)

-- the rows of lexemes are the lines that have one
pub lexeme_rows_is : (pieces : List PlacedPiece) → lexeme_rows pieces ≡ filter is_some_row (lexeme_lines pieces)
lexeme_rows_is pieces = map_rows lexeme_of (token_lines pieces)

-- one token more on the first line
one_more : (t u : PlacedPiece) (ts us : List PlacedPiece) (f : Lexeme → Lexeme) → lexeme_of u ≡ f (lexeme_of t) → lexeme_lines us ≡ map (map f) (lexeme_lines ts)
    → map (map lexeme_of) (onto_first u (token_lines us)) ≡ map (map f) (map (map lexeme_of) (onto_first t (token_lines ts)))
one_more t u ts us f e r =
    map_onto lexeme_of u (token_lines us) ∙ ap (λ (x : Lexeme). onto_first x (lexeme_lines us)) e ∙ ap (onto_first (f (lexeme_of t))) r
    ∙ sym (map_onto f (lexeme_of t) (lexeme_lines ts)) ∙ ap (map (map f)) (sym (map_onto lexeme_of t (token_lines ts)))

-- each line of lexemes has the partners of its words
lines_renamed : (old new : List ℕ) (at now line other : ℕ) (cs : List Chunk)
    → lexeme_lines (placed_in now other (map (put old new) cs)) ≡ map (map (map_lexeme (renamed old (folded new)))) (lexeme_lines (placed_in at line cs))
lines_renamed old new at now line other [] = refl
lines_renamed old new at now line other ((Blank, w) ∷ cs) = lines_renamed old new (at + length w) (now + length w) line other cs
lines_renamed old new at now line other ((Comment, w) ∷ cs) = lines_renamed old new (at + length w) (now + length w) line other cs
lines_renamed old new at now line other ((LineEnd, w) ∷ cs) = ap (λ (ls : List (List Lexeme)). [] ∷ ls) (lines_renamed old new (at + length w) (now + length w) (line + 1) (other + 1) cs)
lines_renamed old new at now line other ((Word, w) ∷ cs) =
    one_more (placed_at at line (Word, w)) (placed_at now other (put old new (Word, w))) (placed_in (at + length w) line cs) (placed_in (now + length (put old new (Word, w)).1) other (map (put old new) cs)) (map_lexeme (renamed old (folded new)))
    (ap word (put_word old new w)) (lines_renamed old new (at + length w) (now + length (put old new (Word, w)).1) line other cs)
lines_renamed old new at now line other ((Whole, w) ∷ cs) =
    one_more (placed_at at line (Whole, w)) (placed_at now other (Whole, w)) (placed_in (at + length w) line cs) (placed_in (now + length w) other (map (put old new) cs)) (map_lexeme (renamed old (folded new)))
    refl (lines_renamed old new (at + length w) (now + length w) line other cs)
lines_renamed old new at now line other ((Mark, w) ∷ cs) =
    one_more (placed_at at line (Mark, w)) (placed_at now other (Mark, w)) (placed_in (at + length w) line cs) (placed_in (now + length w) other (map (put old new) cs)) (map_lexeme (renamed old (folded new)))
    refl (lines_renamed old new (at + length w) (now + length w) line other cs)

-- Each row of lexemes has the partners of its words.
pub rows_renamed : (old new : List ℕ) (at now line other : ℕ) (cs : List Chunk)
    → lexeme_rows (placed_in now other (map (put old new) cs)) ≡ map (map (map_lexeme (renamed old (folded new)))) (lexeme_rows (placed_in at line cs))
rows_renamed old new at now line other cs =
    lexeme_rows_is (placed_in now other (map (put old new) cs))
    ∙ ap (filter is_some_row) (lines_renamed old new at now line other cs)
    ∙ sym (map_rows (map_lexeme (renamed old (folded new))) (lexeme_lines (placed_in at line cs)))
    ∙ ap (map (map (map_lexeme (renamed old (folded new))))) (sym (lexeme_rows_is (placed_in at line cs)))
