-- The lines of a text after a word is replaced by a name.
use Rattle.std.proofs.Common.{◌≡◌, ℕ, zero, suc, ◌+◌, ◌-◌, ◌≤◌, Bool, true, false, cond, not, ◌&&◌, ◌||◌, ◌==◌, nat_le, nat_lt, ◌⊎◌, inl, inr, List, [], ◌∷◌, ◌++◌, map, length, take, slice_get, Some, None, refl, sym, ap, ◌∙◌, if◌then◌else◌, arith, append-nil, append_assoc, bytes_eq}
use Rattle.std.specs.List.{list_all, list_any, ends_with}
use Rattle.std.proofs.lemmas.Bool.{and_parts, and_from, or_from, or_cases, or_parts, eqb-true, le-leb, not-true}
use Rattle.std.proofs.lemmas.Bool.Decides.{nat_tests, Decides-eqb}
use Rattle.std.proofs.lemmas.Slice.Eq.{ends_is}
use Rattle.ftn_base.specs.Letters.{is_letter, is_digit, is_name_byte, folded}
use Rattle.ftn_base.specs.Names.{is_name}
use Rattle.ftn_base.proofs.NameLemmas.{letter_name_byte}
use Rattle.std.specs.List.{onto_first}
use Rattle.ftn_base.specs.Limits.{line_limit}
use Rattle.std.proofs.lemmas.Option.{same_Some}
use Rattle.ftn_tree.specs.Lines.{is_line_feed}
use Rattle.free_scan.specs.Lines.{lines, is_plain_byte, is_plain_line, is_plain}
use Rattle.ftn_tree.specs.Pieces.{is_pair, is_mark}
use Rattle.free_scan.specs.Pieces.{front, mark_at}
use Rattle.free_scan.specs.Tokens.{is_line_end, line_after}
use Rattle.free_scan.specs.declared.first_form.token.PieceKind.{PieceKind}
use Rattle.free_scan.specs.declared.first_form.token.PieceKind.TheVariants.{Blank, Comment, LineEnd, Word, Whole, Mark}
use Rattle.ftn_tree.specs.declared.token.Token.{Token}
use Rattle.rename_ref.proofs.Alls.{all_weaken, all_append_parts, all_append}
use Rattle.rename_ref.proofs.Fronts.{in_comment, front_is, FrontIs, line_end, blank, comment, word, whole, one, front_some, mark_is, run_at, no_pair, two_marks, found, same_piece}
use Rattle.rename_ref.proofs.Chunks.{is_word_piece, Chunk, joined, AreFronts, is_old, tokens_where, token_at}
use Rattle.rename_ref.proofs.PiecesRenamed.{put}
use Rattle.free_scan.proofs.Rows.{map_onto}

-- ---- a piece is the end of a line, or has none in it

-- the piece is one LF, or has a byte and no LF
pub data Fine (c : Chunk) : Type 0 where
  ending : is_line_end c.0 ≡ true → c.1 ≡ 10 ∷ [] → Fine c
  inside : is_line_end c.0 ≡ false → (b : ℕ) (r : List ℕ) → c.1 ≡ b ∷ r → list_all in_comment (b ∷ r) ≡ true → Fine c

-- a byte of names is no LF
name_byte_inside : (b : ℕ) → is_name_byte b ≡ true → in_comment b ≡ true
name_byte_inside b h = go (b == 10) refl h
  where
    go : (t : Bool) → (b == 10) ≡ t → is_name_byte b ≡ true → not t ≡ true
    go true e h = let d : b ≡ 10 = eqb-true b 10 e in let k : is_name_byte 10 ≡ true = ap is_name_byte (sym d) ∙ h in absurd cc
    go false e h = refl

-- a digit is no LF
digit_inside : (b : ℕ) → is_digit b ≡ true → in_comment b ≡ true
digit_inside b h = go (b == 10) refl h
  where
    go : (t : Bool) → (b == 10) ≡ t → is_digit b ≡ true → not t ≡ true
    go true e h = let d : b ≡ 10 = eqb-true b 10 e in let k : is_digit 10 ≡ true = ap is_digit (sym d) ∙ h in absurd cc
    go false e h = refl

-- no mark of two bytes ends with the end of a line
feed_no_pair : (a : ℕ) → is_pair a 10 ≡ false
feed_no_pair a =
    or_from _ _ (no_pair (42 == a) (42 == 10) refl)
    (or_from _ _ (no_pair (47 == a) (47 == 10) refl)
    (or_from _ _ (no_pair (61 == a) (61 == 10) refl)
    (or_from _ _ (no_pair (47 == a) (61 == 10) refl)
    (or_from _ _ (no_pair (60 == a) (61 == 10) refl)
    (or_from _ _ (no_pair (62 == a) (61 == 10) refl)
    (or_from _ _ (no_pair (61 == a) (62 == 10) refl)
    (or_from _ _ (no_pair (58 == a) (58 == 10) refl)
    (or_from _ _ (no_pair (40 == a) (47 == 10) refl)
    (or_from _ _ (no_pair (47 == a) (41 == 10) refl) refl)))))))))

-- the second byte of a mark is no LF
pair_inside : (a b : ℕ) (rest : List ℕ) (k : PieceKind) → mark_at a (b ∷ rest) ≡ found k 2 → in_comment b ≡ true
pair_inside a b rest k e = go (b == 10) refl
  where
    only : (t : Bool) → two_marks t a ≡ found k 2 → t ≡ true
    only true d = refl
    only false d = one_only (is_mark a) d
      where
        one_only : (t : Bool) → (if t then found Mark 1 else None) ≡ found k 2 → false ≡ true
        one_only true d = let s = same_piece Mark k 1 2 d in absurd (omega arith)
        one_only false d = absurd cc

    go : (t : Bool) → (b == 10) ≡ t → not t ≡ true
    go true d = let p : is_pair a b ≡ true = only (is_pair a b) e in let q : is_pair a b ≡ false = ap (is_pair a) (eqb-true b 10 d) ∙ feed_no_pair a in absurd cc
    go false d = refl

-- A piece at the front of a text is one.
pub is_fine : (k : PieceKind) (w u : List ℕ) → front (w ++ u) ≡ Some (k, length w) → Fine (k, w)
is_fine k [] u e = let s = front_some u k 0 e in absurd (omega arith)
is_fine k (b ∷ r) u e = go r (front_is b (r ++ u) k (suc (length r)) e)
  where
    not_feed : is_line_feed b ≡ false → in_comment b ≡ true
    not_feed h = rw h refl

    made : (r : List ℕ) → is_line_feed b ≡ false → is_line_end k ≡ false → list_all in_comment r ≡ true → Fine (k, b ∷ r)
    made r h0 e a = inside e b r refl (and_from (in_comment b) (list_all in_comment r) (not_feed h0) a)

    go : (r : List ℕ) → FrontIs b (r ++ u) k (suc (length r)) → Fine (k, b ∷ r)
    go [] (line_end h0 ek en) = ending (ap is_line_end ek) (ap (λ (x : ℕ). x ∷ []) (eqb-true b 10 h0))
    go (c ∷ r) (line_end h0 ek en) = absurd (omega arith)
    go [] (blank h0 h1 ek en) = made [] h0 (ap is_line_end ek) refl
    go (c ∷ r) (blank h0 h1 ek en) = absurd (omega arith)
    go r (comment h0 h1 h2 ek en) = made r h0 (ap is_line_end ek) (run_at in_comment r u (omega arith)).0
    go r (word h0 h1 h2 h3 ek en) = made r h0 (ap is_line_end ek) (all_weaken is_name_byte in_comment name_byte_inside r (run_at is_name_byte r u (omega arith)).0)
    go r (whole h0 h1 h2 h3 h4 ek en) = made r h0 (ap is_line_end ek) (all_weaken is_digit in_comment digit_inside r (run_at is_digit r u (omega arith)).0)
    go [] (one h0 h1 h2 h3 h4 em) = let s = mark_is b u k 1 em in made [] h0 (ap is_line_end s.0) refl
    go (c ∷ []) (one h0 h1 h2 h3 h4 em) = let s = mark_is b (c ∷ u) k 2 em in let i : in_comment c ≡ true = pair_inside b c u k em in made (c ∷ []) h0 (ap is_line_end s.0) (rw i refl)
    go (c ∷ d ∷ r) (one h0 h1 h2 h3 h4 em) = let s = mark_is b (c ∷ d ∷ (r ++ u)) k (suc (suc (suc (length r)))) em in absurd (size s.1)
      where
        size : (suc (suc (suc (length r))) ≡ 1) ⊎ ((suc (suc (suc (length r))) ≡ 2) × (1 ≤ length (c ∷ d ∷ (r ++ u)))) → ⊥
        size (inl x) = omega arith
        size (inr x) = omega (arith, x.0)

-- each piece is so
abbrev pub AreFine : List Chunk → Type 0
AreFine [] = Unit {0}
AreFine (c ∷ cs) = Fine c × AreFine cs

-- pieces that stand at the front are so
pub are_fine : (cs : List Chunk) → AreFronts cs → AreFine cs
are_fine [] fs = tt
are_fine (c ∷ cs) fs = (is_fine c.0 c.1 (joined cs) fs.0, are_fine cs fs.1)

-- ---- the lines by pieces

-- the pieces of each line, its end among them
abbrev pub chunk_lines : List Chunk → List (List Chunk)
chunk_lines [] = []
chunk_lines (c ∷ cs) = if is_line_end c.0 then (c ∷ []) ∷ chunk_lines cs else onto_first c (chunk_lines cs)

-- bytes in front of the first line
abbrev onto_line : List ℕ → List (List ℕ) → List (List ℕ)
onto_line w [] = w ∷ []
onto_line w (l ∷ ls) = (w ++ l) ∷ ls

-- one byte in front of the first line
onto_byte : (b : ℕ) (ls : List (List ℕ)) → onto_first b ls ≡ onto_line (b ∷ []) ls
onto_byte b [] = refl
onto_byte b (l ∷ ls) = refl

-- and one more
onto_more : (b : ℕ) (w : List ℕ) (ls : List (List ℕ)) → onto_first b (onto_line w ls) ≡ onto_line (b ∷ w) ls
onto_more b w [] = refl
onto_more b w (l ∷ ls) = refl

-- bytes that are no LF stand in front of the first line
lines_inside : (b : ℕ) (w u : List ℕ) → list_all in_comment (b ∷ w) ≡ true → lines ((b ∷ w) ++ u) ≡ onto_line (b ∷ w) (lines u)
lines_inside b [] u a = let e : is_line_feed b ≡ false = not-true (is_line_feed b) (and_parts (in_comment b) true a).0 in rw e (onto_byte b (lines u))
lines_inside b (c ∷ w) u a =
    let s = and_parts (in_comment b) (list_all in_comment (c ∷ w)) a in
    let e : is_line_feed b ≡ false = not-true (is_line_feed b) s.0 in
    let r : lines ((c ∷ w) ++ u) ≡ onto_line (c ∷ w) (lines u) = lines_inside c w u s.1 in
    pick e ∙ ap (onto_first b) r ∙ onto_more b (c ∷ w) (lines u)
  where
    pick : is_line_feed b ≡ false → lines (b ∷ ((c ∷ w) ++ u)) ≡ onto_first b (lines ((c ∷ w) ++ u))
    pick e = ap (λ (t : Bool). if t then (b ∷ []) ∷ lines ((c ∷ w) ++ u) else onto_first b (lines ((c ∷ w) ++ u))) e

-- the lines that pieces make, with one piece more
joined_onto : (c : Chunk) (ls : List (List Chunk)) → map joined (onto_first c ls) ≡ onto_line c.1 (map joined ls)
joined_onto c [] = ap (λ (w : List ℕ). w ∷ []) (append-nil c.1)
joined_onto c (l ∷ ls) = refl

-- The lines of the text that pieces make are made by the pieces of each line.
pub lines_joined : (cs : List Chunk) → AreFine cs → lines (joined cs) ≡ map joined (chunk_lines cs)
lines_joined [] fs = refl
lines_joined (c ∷ cs) fs = go fs.0 (lines_joined cs fs.1)
  where
    go : Fine c → lines (joined cs) ≡ map joined (chunk_lines cs) → lines (c.1 ++ joined cs) ≡ map joined (if is_line_end c.0 then (c ∷ []) ∷ chunk_lines cs else onto_first c (chunk_lines cs))
    go (ending e w) r = let q : lines (c.1 ++ joined cs) ≡ (10 ∷ []) ∷ lines (joined cs) = ap (λ (x : List ℕ). lines (x ++ joined cs)) w in
        q ∙ ends r ∙ ap (λ (t : Bool). map joined (if t then (c ∷ []) ∷ chunk_lines cs else onto_first c (chunk_lines cs))) (sym e)
      where
        ends : lines (joined cs) ≡ map joined (chunk_lines cs) → (10 ∷ []) ∷ lines (joined cs) ≡ (c.1 ++ []) ∷ map joined (chunk_lines cs)
        ends r = let x : 10 ∷ [] ≡ c.1 ++ [] = sym w ∙ sym (append-nil c.1) in cc
    go (inside e b r' w a) r =
        ap (λ (x : List ℕ). lines (x ++ joined cs)) w ∙ lines_inside b r' (joined cs) a ∙ ap (λ (x : List ℕ). onto_line x (lines (joined cs))) (sym w) ∙ ap (onto_line c.1) r
        ∙ sym (joined_onto c (chunk_lines cs)) ∙ ap (λ (t : Bool). map joined (if t then (c ∷ []) ∷ chunk_lines cs else onto_first c (chunk_lines cs))) (sym e)

-- replacing keeps each piece on its line
pub lines_put : (old new : List ℕ) (cs : List Chunk) → chunk_lines (map (put old new) cs) ≡ map (map (put old new)) (chunk_lines cs)
lines_put old new [] = refl
lines_put old new (c ∷ cs) = go (is_line_end c.0) (lines_put old new cs)
  where
    go : (t : Bool) → chunk_lines (map (put old new) cs) ≡ map (map (put old new)) (chunk_lines cs)
        → (if t then (put old new c ∷ []) ∷ chunk_lines (map (put old new) cs) else onto_first (put old new c) (chunk_lines (map (put old new) cs))) ≡ map (map (put old new)) (if t then (c ∷ []) ∷ chunk_lines cs else onto_first c (chunk_lines cs))
    go true r = ap (λ (ls : List (List Chunk)). (put old new c ∷ []) ∷ ls) r
    go false r = ap (onto_first (put old new c)) r ∙ sym (map_onto (put old new) c (chunk_lines cs))

-- each piece of each line is so
abbrev pub AreFineLines : List (List Chunk) → Type 0
AreFineLines [] = Unit {0}
AreFineLines (l ∷ ls) = AreFine l × AreFineLines ls

-- one more piece on the first line
fine_onto : (c : Chunk) (ls : List (List Chunk)) → Fine c → AreFineLines ls → AreFineLines (onto_first c ls)
fine_onto c [] f fs = ((f, tt), tt)
fine_onto c (l ∷ ls) f fs = ((f, fs.0), fs.1)

-- the pieces of each line are so
lines_fine : (cs : List Chunk) → AreFine cs → AreFineLines (chunk_lines cs)
lines_fine [] fs = tt
lines_fine (c ∷ cs) fs = go (is_line_end c.0) (lines_fine cs fs.1)
  where
    go : (t : Bool) → AreFineLines (chunk_lines cs) → AreFineLines (if t then (c ∷ []) ∷ chunk_lines cs else onto_first c (chunk_lines cs))
    go true r = ((fs.0, tt), r)
    go false r = fine_onto c (chunk_lines cs) fs.0 r

-- ---- a line that ends with LF does so afterwards

-- the bytes end with LF
abbrev pub Ends : List ℕ → Type 0
Ends w = (front : List ℕ) × (w ≡ front ++ 10 ∷ [])

-- a list with an element is not empty
some_bytes : (xs : List ℕ) (b : ℕ) (zs : List ℕ) → xs ++ b ∷ zs ≡ [] → ⊥
some_bytes [] b zs e = absurd cc
some_bytes (x ∷ xs) b zs e = absurd cc

-- the end of a list is at the end of its last part
after_front : (xs : List ℕ) (b : ℕ) (zs front : List ℕ) → xs ++ b ∷ zs ≡ front ++ 10 ∷ [] → Ends (b ∷ zs)
after_front [] b zs front e = (front, e)
after_front (x ∷ xs) b zs [] e = let d : xs ++ b ∷ zs ≡ [] = cc in absurd (some_bytes xs b zs d)
after_front (x ∷ xs) b zs (f ∷ front) e = let d : xs ++ b ∷ zs ≡ front ++ 10 ∷ [] = cc in after_front xs b zs front d

-- a word is no end of a line
no_end : (k : PieceKind) → is_word_piece k ≡ true → is_line_end k ≡ true → ⊥
no_end Blank w e = absurd cc
no_end Comment w e = absurd cc
no_end LineEnd w e = absurd cc
no_end Word w e = absurd cc
no_end Whole w e = absurd cc
no_end Mark w e = absurd cc

-- a word does not end with LF
old_no_end : (old : List ℕ) (c : Chunk) → is_old old c ≡ true → Fine c → (front : List ℕ) → c.1 ≡ front ++ 10 ∷ [] → ⊥
old_no_end old c o (ending e w) front d = no_end c.0 (and_parts (is_word_piece c.0) (bytes_eq (folded c.1) old) o).0 e
old_no_end old c o (inside e b r w a) front d =
    let k : list_all in_comment (front ++ 10 ∷ []) ≡ true = ap (list_all in_comment) (sym d ∙ w) ∙ a in
    let s = all_append_parts in_comment front (10 ∷ []) k in
    let f : false ≡ true = s.1 in absurd cc

-- a piece has a byte
fine_some : (c : Chunk) → Fine c → (b : ℕ) × (r : List ℕ) × (c.1 ≡ b ∷ r)
fine_some c (ending e w) = (10, [], w)
fine_some c (inside e b r w a) = (b, r, w)

-- a line that ended with LF does so after the replacing
line_ends : (old new : List ℕ) (cs : List Chunk) → AreFine cs → Ends (joined cs) → Ends (joined (map (put old new) cs))
line_ends old new [] fs e = absurd (some_bytes e.0 10 [] (sym e.1))
line_ends old new (c ∷ []) fs e = go (is_old old c) refl
  where
    go : (t : Bool) → is_old old c ≡ t → Ends ((if t then new else c.1) ++ [])
    go true o = absurd (old_no_end old c o fs.0 e.0 (sym (append-nil c.1) ∙ e.1))
    go false o = e
line_ends old new (c ∷ d ∷ cs) fs e =
    let s = fine_some d fs.1.0 in
    let rest : joined (d ∷ cs) ≡ s.0 ∷ (s.1 ++ joined cs) = ap (λ (w : List ℕ). w ++ joined cs) s.2 in
    let t : Ends (s.0 ∷ (s.1 ++ joined cs)) = after_front c.1 s.0 (s.1 ++ joined cs) e.0 (ap (λ (w : List ℕ). c.1 ++ w) (sym rest) ∙ e.1) in
    let r : Ends (joined (map (put old new) (d ∷ cs))) = line_ends old new (d ∷ cs) fs.1 (t.0, rest ∙ t.1) in
    ((put old new c).1 ++ r.0, ap (λ (w : List ℕ). (put old new c).1 ++ w) r.1 ∙ sym (append_assoc (put old new c).1 r.0 (10 ∷ [])))

-- ---- its bytes

-- a byte of names is plain
name_byte_plain : (b : ℕ) → is_name_byte b ≡ true → is_plain_byte b ≡ true
name_byte_plain b h = grind (arith, nat_tests)

-- a name is plain
name_plain : (limit : ℕ) (new : List ℕ) → is_name limit new ≡ true → list_all is_plain_byte new ≡ true
name_plain limit [] name = absurd cc
name_plain limit (b ∷ r) name =
    let q = and_parts (is_letter b && nat_lt (length r) limit) (list_all is_name_byte r) name in
    let p = and_parts (is_letter b) (nat_lt (length r) limit) q.0 in
    and_from (is_plain_byte b) (list_all is_plain_byte r) (name_byte_plain b (letter_name_byte b p.0)) (all_weaken is_name_byte is_plain_byte name_byte_plain r q.1)

-- a line of plain bytes has such bytes after the replacing
plain_put : (old new : List ℕ) → list_all is_plain_byte new ≡ true → (cs : List Chunk) → list_all is_plain_byte (joined cs) ≡ true → list_all is_plain_byte (joined (map (put old new) cs)) ≡ true
plain_put old new name [] a = refl
plain_put old new name (c ∷ cs) a =
    let s = all_append_parts is_plain_byte c.1 (joined cs) a in
    all_append is_plain_byte (put old new c).1 (joined (map (put old new) cs)) (go (is_old old c) s.0) (plain_put old new name cs s.1)
  where
    go : (t : Bool) → list_all is_plain_byte c.1 ≡ true → list_all is_plain_byte (if t then new else c.1) ≡ true
    go true h = name
    go false h = h

-- a line on which nothing is replaced stays
none_put : (old new : List ℕ) (cs : List Chunk) → list_any (is_old old) cs ≡ false → joined (map (put old new) cs) ≡ joined cs
none_put old new [] h = refl
none_put old new (c ∷ cs) h =
    let s = or_parts (is_old old c) (list_any (is_old old) cs) h in
    ap (λ (t : Bool). (if t then new else c.1) ++ joined (map (put old new) cs)) s.0 ∙ ap (λ (w : List ℕ). c.1 ++ w) (none_put old new cs s.1)

-- ---- lines stay plain

module _ (old new : List ℕ) (limit : ℕ) (name : is_name limit new ≡ true) where
  -- a plain line is plain after the replacing, if it is short enough
  line_plain : (cs : List Chunk) → AreFine cs → is_plain_line (joined cs) ≡ true → (list_any (is_old old) cs ≡ true → length (joined (map (put old new) cs)) ≤ (line_limit + 1)) → is_plain_line (joined (map (put old new) cs)) ≡ true
  line_plain cs fs p short = go (list_any (is_old old) cs) refl short
    where
      go : (t : Bool) → list_any (is_old old) cs ≡ t → (t ≡ true → length (joined (map (put old new) cs)) ≤ (line_limit + 1)) → is_plain_line (joined (map (put old new) cs)) ≡ true
      go false none h = ap is_plain_line (none_put old new cs none) ∙ p
      go true some h =
          let s = and_parts (ends_with ◌==◌ (joined cs) (10 ∷ []) && nat_le (length (joined cs)) (line_limit + 1)) (list_all is_plain_byte (joined cs)) p in
          let t = and_parts (ends_with ◌==◌ (joined cs) (10 ∷ [])) (nat_le (length (joined cs)) (line_limit + 1)) s.0 in
          let e = (ends_is {E = ◌==◌} Decides-eqb (joined cs) (10 ∷ []) (ends_with ◌==◌ (joined cs) (10 ∷ [])) refl).0 t.0 in
          let r = line_ends old new cs fs (take (length (joined cs) - 1) (joined cs), e) in
          let d : ends_with ◌==◌ (joined (map (put old new) cs)) (10 ∷ []) ≡ true =
          (ends_is {E = ◌==◌} Decides-eqb (joined (map (put old new) cs)) (10 ∷ []) (ends_with ◌==◌ (joined (map (put old new) cs)) (10 ∷ [])) refl).1 r.0 r.1 in
          and_from (ends_with ◌==◌ (joined (map (put old new) cs)) (10 ∷ []) && nat_le (length (joined (map (put old new) cs))) (line_limit + 1)) (list_all is_plain_byte (joined (map (put old new) cs)))
          (and_from (ends_with ◌==◌ (joined (map (put old new) cs)) (10 ∷ [])) (nat_le (length (joined (map (put old new) cs))) (line_limit + 1)) d (le-leb (length (joined (map (put old new) cs))) (line_limit + 1) (h refl)))
          (plain_put old new (name_plain limit new name) cs s.1)

  -- each line with a replaced word is short enough
  abbrev pub AreShort : List (List Chunk) → Type 0
  AreShort ls = (i : ℕ) (l : List Chunk) → slice_get ls i ≡ Some l → list_any (is_old old) l ≡ true → length (joined (map (put old new) l)) ≤ (line_limit + 1)

  -- plain lines are plain after the replacing
  lines_plain : (ls : List (List Chunk)) → AreFineLines ls → list_all is_plain_line (map joined ls) ≡ true → AreShort ls → list_all is_plain_line (map joined (map (map (put old new)) ls)) ≡ true
  lines_plain [] fs a short = refl
  lines_plain (l ∷ ls) fs a short =
      let s = and_parts (is_plain_line (joined l)) (list_all is_plain_line (map joined ls)) a in
      and_from (is_plain_line (joined (map (put old new) l))) (list_all is_plain_line (map joined (map (map (put old new)) ls)))
      (line_plain l fs.0 s.0 (short 0 l refl)) (lines_plain ls fs.1 s.1 (λ i. short (suc i)))

  -- The text after the replacing is plain, where the lines with a replaced word are short enough.
  pub plain_renamed : (cs : List Chunk) → AreFine cs → AreFine (map (put old new) cs) → is_plain (joined cs) ≡ true → AreShort (chunk_lines cs) → is_plain (joined (map (put old new) cs)) ≡ true
  plain_renamed cs fs gs plain short =
      let a : list_all is_plain_line (map joined (chunk_lines cs)) ≡ true = ap (list_all is_plain_line) (sym (lines_joined cs fs)) ∙ plain in
      ap (list_all is_plain_line) (lines_joined (map (put old new) cs) gs ∙ ap (map joined) (lines_put old new cs)) ∙ lines_plain (chunk_lines cs) (lines_fine cs fs) a short

-- ---- the lines of tokens

-- a replaced word on a line is the piece in front, or stands on that line of the rest
get_onto : (old : List ℕ) (c : Chunk) (ls : List (List Chunk)) (i : ℕ) (l : List Chunk) → slice_get (onto_first c ls) i ≡ Some l → list_any (is_old old) l ≡ true
    → ((is_old old c ≡ true) × (i ≡ 0)) ⊎ ((m : List Chunk) × (slice_get ls i ≡ Some m) × (list_any (is_old old) m ≡ true))
get_onto old c [] zero l e h =
    let d : c ∷ [] ≡ l = same_Some (c ∷ []) l e in
    let k : (is_old old c || false) ≡ true = ap (list_any (is_old old)) d ∙ h in
    go (or_cases (is_old old c) false k)
  where
    go : (is_old old c ≡ true) ⊎ (false ≡ true) → ((is_old old c ≡ true) × (zero ≡ 0)) ⊎ ((m : List Chunk) × (slice_get [] zero ≡ Some m) × (list_any (is_old old) m ≡ true))
    go (inl o) = inl (o, refl)
    go (inr o) = absurd cc
get_onto old c [] (suc i) l e h = absurd cc
get_onto old c (m ∷ ls) zero l e h =
    let d : c ∷ m ≡ l = same_Some (c ∷ m) l e in
    let k : (is_old old c || list_any (is_old old) m) ≡ true = ap (list_any (is_old old)) d ∙ h in
    go (or_cases (is_old old c) (list_any (is_old old) m) k)
  where
    go : (is_old old c ≡ true) ⊎ (list_any (is_old old) m ≡ true) → ((is_old old c ≡ true) × (zero ≡ 0)) ⊎ ((x : List Chunk) × (Some m ≡ Some x) × (list_any (is_old old) x ≡ true))
    go (inl o) = inl (o, refl)
    go (inr o) = inr (m, refl, o)
get_onto old c (m ∷ ls) (suc i) l e h = inr (l, e, h)

-- the test of the token in front, and of the others
token_tests : (old : List ℕ) (q : ℕ → Bool) (t : Token) (c : Chunk) (ts : List Token) → list_all (λ token. q token.line) (cond (is_old old c) (t ∷ ts) ts) ≡ true
    → (is_old old c ≡ true → q t.line ≡ true) × (list_all (λ token. q token.line) ts ≡ true)
token_tests old q t c ts a = go (is_old old c) a
  where
    go : (b : Bool) → list_all (λ token. q token.line) (cond b (t ∷ ts) ts) ≡ true → (b ≡ true → q t.line ≡ true) × (list_all (λ token. q token.line) ts ≡ true)
    go true a = let s = and_parts (q t.line) (list_all (λ token. q token.line) ts) a in ((λ e. s.0), s.1)
    go false a = ((λ e. absurd cc), a)

-- the end of a line begins the next one
line_goes : (line : ℕ) (k : PieceKind) → is_line_end k ≡ true → line_after line k ≡ line + 1
line_goes line Blank e = absurd cc
line_goes line Comment e = absurd cc
line_goes line LineEnd e = refl
line_goes line Word e = absurd cc
line_goes line Whole e = absurd cc
line_goes line Mark e = absurd cc

-- other pieces stay on their line
line_stays : (line : ℕ) (k : PieceKind) → is_line_end k ≡ false → line_after line k ≡ line
line_stays line Blank e = refl
line_stays line Comment e = refl
line_stays line LineEnd e = absurd cc
line_stays line Word e = refl
line_stays line Whole e = refl
line_stays line Mark e = refl

-- A test of the lines of the tokens holds at each line on which one stands.
pub token_on_line : (old : List ℕ) (q : ℕ → Bool) (at line : ℕ) (cs : List Chunk) → list_all (λ token. q token.line) (tokens_where (is_old old) at line cs) ≡ true
    → (i : ℕ) (l : List Chunk) → slice_get (chunk_lines cs) i ≡ Some l → list_any (is_old old) l ≡ true → q (line + i) ≡ true
token_on_line old q at line [] a i l e h = absurd cc
token_on_line old q at line (c ∷ cs) a i l e h =
    let s = token_tests old q (token_at at line c) c (tokens_where (is_old old) (at + length c.1) (line_after line c.0) cs) a in
    go (is_line_end c.0) refl i e s.0 (token_on_line old q (at + length c.1) (line_after line c.0) cs s.1)
  where
    Rest : Type 0
    Rest = (i : ℕ) (l : List Chunk) → slice_get (chunk_lines cs) i ≡ Some l → list_any (is_old old) l ≡ true → q (line_after line c.0 + i) ≡ true

    inner : (i : ℕ) → is_line_end c.0 ≡ false → (is_old old c ≡ true → q line ≡ true) → Rest
        → ((is_old old c ≡ true) × (i ≡ 0)) ⊎ ((m : List Chunk) × (slice_get (chunk_lines cs) i ≡ Some m) × (list_any (is_old old) m ≡ true)) → q (line + i) ≡ true
    inner i k here rest (inl o) = let d : line + i ≡ line = omega (arith, o.1) in ap q d ∙ here o.0
    inner i k here rest (inr m) = let n : line_after line c.0 ≡ line = line_stays line c.0 k in let d : line + i ≡ line_after line c.0 + i = omega arith in ap q d ∙ rest i m.0 m.1 m.2

    go : (t : Bool) → is_line_end c.0 ≡ t → (i : ℕ) → slice_get (if t then (c ∷ []) ∷ chunk_lines cs else onto_first c (chunk_lines cs)) i ≡ Some l → (is_old old c ≡ true → q line ≡ true) → Rest → q (line + i) ≡ true
    go true k zero e here rest =
        let d : (is_old old c || false) ≡ true = ap (list_any (is_old old)) (same_Some (c ∷ []) l e) ∙ h in
        absurd (only (or_cases (is_old old c) false d))
      where
        only : (is_old old c ≡ true) ⊎ (false ≡ true) → ⊥
        only (inl o) = no_end c.0 (and_parts (is_word_piece c.0) (bytes_eq (folded c.1) old) o).0 k
        only (inr o) = absurd cc
    go true k (suc j) e here rest =
        let n : line_after line c.0 ≡ line + 1 = line_goes line c.0 k in
        let d : line + suc j ≡ line_after line c.0 + j = omega arith in
        ap q d ∙ rest j l e h
    go false k i e here rest = inner i k here rest (get_onto old c (chunk_lines cs) i l e h)
