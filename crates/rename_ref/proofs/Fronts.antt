-- The piece at the front of a text stays where what follows it begins alike.
use Rattle.std.proofs.Common.{◌≡◌, ℕ, suc, ◌+◌, ◌≤◌, ◌<◌, Bool, true, false, cond, not, ◌&&◌, ◌==◌, nat_lt, ◌⊎◌, inl, inr, List, [], ◌∷◌, ◌++◌, length, Option, Some, None, refl, sym, ap, ◌∙◌, if◌then◌else◌, arith}
use Rattle.std.specs.List.{prefix_len, list_all}
use Rattle.std.proofs.lemmas.Bool.{and_parts, or_from, ne_eqb}
use Rattle.std.proofs.lemmas.Bool.Decides.{nat_tests}
use Rattle.std.proofs.lemmas.List.Sums.{prefix_len-le-length}
use Rattle.ftn_base.specs.Letters.{is_letter, is_digit, is_name_byte}
use Rattle.ftn_base.specs.Names.{is_name}
use Rattle.ftn_base.proofs.NameLemmas.{letter_name_byte}
use Rattle.ftn_tree.specs.Lines.{is_line_feed}
use Rattle.ftn_tree.specs.Pieces.{is_pair, is_mark}
use Rattle.free_scan.specs.Pieces.{Piece, front, mark_at}
use Rattle.free_scan.specs.declared.first_form.token.PieceKind.{PieceKind}
use Rattle.free_scan.specs.declared.first_form.token.PieceKind.TheVariants.{Blank, Comment, LineEnd, Word, Whole, Mark}

-- ---- runs

-- a run by p that has come so far ends before u
abbrev pub Stops : (ℕ → Bool) → List ℕ → Type 0
Stops p [] = Unit {0}
Stops p (b ∷ u) = p b ≡ false

-- a run that has no byte stops at once
stops_at_none : (p : ℕ → Bool) (u : List ℕ) → prefix_len p u ≡ 0 → Stops p u
stops_at_none p [] e = tt
stops_at_none p (b ∷ u) e = go (p b) refl
  where
    go : (t : Bool) → p b ≡ t → p b ≡ false
    go true q = let k : cond (p b) (1 + prefix_len p u) 0 ≡ 0 = e in let l : 1 + prefix_len p u ≡ 0 = rw q at k in absurd (omega arith)
    go false q = q

-- a run of just these bytes passes at each of them and stops after them
pub run_at : (p : ℕ → Bool) (w u : List ℕ) → prefix_len p (w ++ u) ≡ length w → (list_all p w ≡ true) × Stops p u
run_at p [] u e = (refl, stops_at_none p u e)
run_at p (x ∷ w) u e = go (p x) refl (run_at p w u)
  where
    go : (t : Bool) → p x ≡ t → (prefix_len p (w ++ u) ≡ length w → (list_all p w ≡ true) × Stops p u) → ((p x && list_all p w) ≡ true) × Stops p u
    go true q more =
        let k : cond (p x) (1 + prefix_len p (w ++ u)) 0 ≡ suc (length w) = e in
        let l : 1 + prefix_len p (w ++ u) ≡ suc (length w) = rw q at k in
        let r = more (omega arith) in
        (rw q r.0, r.1)
    go false q more =
        let k : cond (p x) (1 + prefix_len p (w ++ u)) 0 ≡ suc (length w) = e in
        let l : 0 ≡ suc (length w) = rw q at k in absurd (omega arith)

-- bytes that pass, and then a stop, are a run
pub run_from : (p : ℕ → Bool) (w u : List ℕ) → list_all p w ≡ true → Stops p u → prefix_len p (w ++ u) ≡ length w
run_from p [] [] a s = refl
run_from p [] (b ∷ u) a s = rw s refl
run_from p (x ∷ w) u a s =
    let q = and_parts (p x) (list_all p w) a in
    let r = run_from p w u q.1 s in
    rw (q.0) (omega arith)

-- ---- texts that begin alike

-- both are empty, or begin with one byte, or with letters
abbrev pub BeginAlike : List ℕ → List ℕ → Type 0
BeginAlike [] [] = Unit {0}
BeginAlike [] (b ∷ v) = ⊥
BeginAlike (a ∷ u) [] = ⊥
BeginAlike (a ∷ u) (b ∷ v) = (a ≡ b) ⊎ ((is_letter a ≡ true) × (is_letter b ≡ true))

-- a test that takes all letters alike
abbrev pub IsUniform : (ℕ → Bool) → Type 0
IsUniform p = (a b : ℕ) → is_letter a ≡ true → is_letter b ≡ true → p a ≡ p b

-- a run stops before texts that begin alike
pub stops_alike : (p : ℕ → Bool) → IsUniform p → (u v : List ℕ) → BeginAlike u v → Stops p u → Stops p v
stops_alike p uni [] [] alike s = tt
stops_alike p uni [] (b ∷ v) alike s = absurd alike
stops_alike p uni (a ∷ u) [] alike s = absurd alike
stops_alike p uni (a ∷ u) (b ∷ v) (inl same) s = ap p (sym same) ∙ s
stops_alike p uni (a ∷ u) (b ∷ v) (inr letters) s = uni b a letters.1 letters.0 ∙ s

-- ---- letters

-- a letter is no small number
letter_bounds : (b : ℕ) → is_letter b ≡ true → ((65 ≤ b) × (b ≤ 90)) ⊎ ((97 ≤ b) × (b ≤ 122))
letter_bounds b h = grind (arith, nat_tests)

-- all letters are bytes of names
pub name_byte_uniform : IsUniform is_name_byte
name_byte_uniform a b ha hb = letter_name_byte a ha ∙ sym (letter_name_byte b hb)

-- a letter is no byte outside their ranges
pub letter_is_not : (b n : ℕ) → is_letter b ≡ true → (n < 65) ⊎ ((90 < n) × (n < 97)) → (b == n) ≡ false
letter_is_not b n h far = ne_eqb b n (λ e. go (letter_bounds b h) e far)
  where
    go : ((65 ≤ b) × (b ≤ 90)) ⊎ ((97 ≤ b) × (b ≤ 122)) → b ≡ n → (n < 65) ⊎ ((90 < n) × (n < 97)) → ⊥
    go bounds e d = omega arith

-- the same, the other way round
pub is_not_letter : (b n : ℕ) → is_letter b ≡ true → (n < 65) ⊎ ((90 < n) × (n < 97)) → (n == b) ≡ false
is_not_letter b n h far = ne_eqb n b (λ e. go (letter_bounds b h) e far)
  where
    go : ((65 ≤ b) × (b ≤ 90)) ⊎ ((97 ≤ b) × (b ≤ 122)) → n ≡ b → (n < 65) ⊎ ((90 < n) × (n < 97)) → ⊥
    go bounds e d = omega arith

-- a letter is no digit
pub letter_no_digit : (b : ℕ) → is_letter b ≡ true → is_digit b ≡ false
letter_no_digit b h = grind (arith, nat_tests)

-- no letter is a digit
digit_uniform : IsUniform is_digit
digit_uniform a b ha hb = letter_no_digit a ha ∙ sym (letter_no_digit b hb)

-- the byte is no LF, so a comment goes on
abbrev pub in_comment : ℕ → Bool
in_comment c = not (is_line_feed c)

-- a letter is no LF
letter_in_comment : (b : ℕ) → is_letter b ≡ true → in_comment b ≡ true
letter_in_comment b h = let e : (b == 10) ≡ false = letter_is_not b 10 h (inl (omega arith)) in rw e refl

-- a comment goes on over all letters
comment_uniform : IsUniform in_comment
comment_uniform a b ha hb = letter_in_comment a ha ∙ sym (letter_in_comment b hb)

-- two bytes are no pair, where the second one differs
pub no_pair : (x y : Bool) → y ≡ false → (x && (y && true)) ≡ false
no_pair true true e = absurd cc
no_pair true false e = refl
no_pair false y e = refl

-- no mark of two bytes ends with a letter
pub letter_no_pair : (a b : ℕ) → is_letter b ≡ true → is_pair a b ≡ false
letter_no_pair a b h =
    let star : (42 == b) ≡ false = is_not_letter b 42 h (inl (omega arith)) in
    let slash : (47 == b) ≡ false = is_not_letter b 47 h (inl (omega arith)) in
    let equal : (61 == b) ≡ false = is_not_letter b 61 h (inl (omega arith)) in
    let greater : (62 == b) ≡ false = is_not_letter b 62 h (inl (omega arith)) in
    let colon : (58 == b) ≡ false = is_not_letter b 58 h (inl (omega arith)) in
    let close : (41 == b) ≡ false = is_not_letter b 41 h (inl (omega arith)) in
    or_from _ _ (no_pair (42 == a) (42 == b) star)
    (or_from _ _ (no_pair (47 == a) (47 == b) slash)
    (or_from _ _ (no_pair (61 == a) (61 == b) equal)
    (or_from _ _ (no_pair (47 == a) (61 == b) equal)
    (or_from _ _ (no_pair (60 == a) (61 == b) equal)
    (or_from _ _ (no_pair (62 == a) (61 == b) equal)
    (or_from _ _ (no_pair (61 == a) (62 == b) greater)
    (or_from _ _ (no_pair (58 == a) (58 == b) colon)
    (or_from _ _ (no_pair (40 == a) (47 == b) slash)
    (or_from _ _ (no_pair (47 == a) (41 == b) close) refl)))))))))

-- ---- the piece at the front, by cases

-- the piece at the front of a text with a first byte, as the tests find it
pub data FrontIs (b : ℕ) (rest : List ℕ) (k : PieceKind) (n : ℕ) : Type 0 where
  line_end : is_line_feed b ≡ true → k ≡ LineEnd → n ≡ 1 → FrontIs b rest k n
  blank : is_line_feed b ≡ false → (b == 32) ≡ true → k ≡ Blank → n ≡ 1 → FrontIs b rest k n
  comment : is_line_feed b ≡ false → (b == 32) ≡ false → (b == 33) ≡ true → k ≡ Comment → n ≡ 1 + prefix_len in_comment rest → FrontIs b rest k n
  word : is_line_feed b ≡ false → (b == 32) ≡ false → (b == 33) ≡ false → is_letter b ≡ true → k ≡ Word → n ≡ 1 + prefix_len is_name_byte rest → FrontIs b rest k n
  whole : is_line_feed b ≡ false → (b == 32) ≡ false → (b == 33) ≡ false → is_letter b ≡ false → is_digit b ≡ true → k ≡ Whole → n ≡ 1 + prefix_len is_digit rest → FrontIs b rest k n
  one : is_line_feed b ≡ false → (b == 32) ≡ false → (b == 33) ≡ false → is_letter b ≡ false → is_digit b ≡ false → mark_at b rest ≡ Some (k, n) → FrontIs b rest k n

-- the piece that was found
abbrev pub found : PieceKind → ℕ → Option Piece
found k n = Some (k, n)

-- one found piece is one piece
same_some : (p q : Piece) → found p.0 p.1 ≡ found q.0 q.1 → p ≡ q
same_some p q e = cc

-- so its kind and its size are
pub same_piece : (k l : PieceKind) (n m : ℕ) → found k n ≡ found l m → (l ≡ k) × (m ≡ n)
same_piece k l n m e = let p = same_some (k, n) (l, m) e in (ap (λ (x : Piece). x.0) (sym p), ap (λ (x : Piece). x.1) (sym p))

-- the tests of the front in their order
abbrev chosen_piece : Bool → Bool → Bool → Bool → Bool → Option Piece → Option Piece → Option Piece → Option Piece → Option Piece → Option Piece → Option Piece
chosen_piece t0 t1 t2 t3 t4 p0 p1 p2 p3 p4 p5 = if t0 then p0 else if t1 then p1 else if t2 then p2 else if t3 then p3 else if t4 then p4 else p5

-- the case of the piece that is found
pub front_is : (b : ℕ) (rest : List ℕ) (k : PieceKind) (n : ℕ) → front (b ∷ rest) ≡ Some (k, n) → FrontIs b rest k n
front_is b rest k n = go (is_line_feed b) refl (b == 32) refl (b == 33) refl (is_letter b) refl (is_digit b) refl
  where
    go : (t0 : Bool) → is_line_feed b ≡ t0 → (t1 : Bool) → (b == 32) ≡ t1 → (t2 : Bool) → (b == 33) ≡ t2 → (t3 : Bool) → is_letter b ≡ t3 → (t4 : Bool) → is_digit b ≡ t4
        → chosen_piece t0 t1 t2 t3 t4 (Some (LineEnd, 1)) (Some (Blank, 1)) (Some (Comment, 1 + prefix_len in_comment rest)) (Some (Word, 1 + prefix_len is_name_byte rest)) (Some (Whole, 1 + prefix_len is_digit rest)) (mark_at b rest) ≡ Some (k, n) → FrontIs b rest k n
    go true h0 t1 h1 t2 h2 t3 h3 t4 h4 e = let s = same_piece LineEnd k 1 n e in line_end h0 s.0 s.1
    go false h0 true h1 t2 h2 t3 h3 t4 h4 e = let s = same_piece Blank k 1 n e in blank h0 h1 s.0 s.1
    go false h0 false h1 true h2 t3 h3 t4 h4 e = let s = same_piece Comment k (1 + prefix_len in_comment rest) n e in comment h0 h1 h2 s.0 s.1
    go false h0 false h1 false h2 true h3 t4 h4 e = let s = same_piece Word k (1 + prefix_len is_name_byte rest) n e in word h0 h1 h2 h3 s.0 s.1
    go false h0 false h1 false h2 false h3 true h4 e = let s = same_piece Whole k (1 + prefix_len is_digit rest) n e in whole h0 h1 h2 h3 h4 s.0 s.1
    go false h0 false h1 false h2 false h3 false h4 e = one h0 h1 h2 h3 h4 e

-- and back
pub front_from : (b : ℕ) (rest : List ℕ) (k : PieceKind) (n : ℕ) → FrontIs b rest k n → front (b ∷ rest) ≡ Some (k, n)
front_from b rest k n (line_end h0 e s) = rw (h0, e, s) refl
front_from b rest k n (blank h0 h1 e s) = rw (h0, h1, e, s) refl
front_from b rest k n (comment h0 h1 h2 e s) = rw (h0, h1, h2, e, s) refl
front_from b rest k n (word h0 h1 h2 h3 e s) = rw (h0, h1, h2, h3, e, s) refl
front_from b rest k n (whole h0 h1 h2 h3 h4 e s) = rw (h0, h1, h2, h3, h4, e, s) refl
front_from b rest k n (one h0 h1 h2 h3 h4 e) = rw (h0, h1, h2, h3, h4) e

-- ---- marks

-- a mark of one byte
abbrev pub one_mark : ℕ → Option Piece
one_mark a = if is_mark a then Some (Mark, 1) else None

-- what it is
mark_one : (a : ℕ) (k : PieceKind) (n : ℕ) → one_mark a ≡ Some (k, n) → (k ≡ Mark) × (n ≡ 1)
mark_one a k n = go (is_mark a)
  where
    go : (t : Bool) → (if t then found Mark 1 else None) ≡ Some (k, n) → (k ≡ Mark) × (n ≡ 1)
    go true e = same_piece Mark k 1 n e
    go false e = absurd cc

-- a mark of two bytes, or else of one
abbrev pub two_marks : Bool → ℕ → Option Piece
two_marks t a = if t then Some (Mark, 2) else one_mark a

-- a mark has one byte, or two that stand there
pub mark_is : (a : ℕ) (rest : List ℕ) (k : PieceKind) (n : ℕ) → mark_at a rest ≡ Some (k, n) → (k ≡ Mark) × ((n ≡ 1) ⊎ ((n ≡ 2) × (1 ≤ length rest)))
mark_is a [] k n e = let s = mark_one a k n e in (s.0, inl s.1)
mark_is a (b ∷ rest) k n e = go (is_pair a b) e
  where
    go : (t : Bool) → two_marks t a ≡ Some (k, n) → (k ≡ Mark) × ((n ≡ 1) ⊎ ((n ≡ 2) × (1 ≤ suc (length rest))))
    go true e = let s = same_piece Mark k 2 n e in (s.0, inr (s.1, omega arith))
    go false e = let s = mark_one a k n e in (s.0, inl s.1)

-- a mark of one byte is one before each text that begins alike
one_mark_alike : (a : ℕ) (u v : List ℕ) (k : PieceKind) → BeginAlike u v → mark_at a u ≡ Some (k, 1) → mark_at a v ≡ Some (k, 1)
one_mark_alike a [] [] k alike e = e
one_mark_alike a [] (d ∷ v) k alike e = absurd alike
one_mark_alike a (b ∷ u) [] k alike e = absurd alike
one_mark_alike a (b ∷ u) (d ∷ v) k alike e = go (is_pair a b) refl alike e
  where
    go : (t : Bool) → is_pair a b ≡ t → BeginAlike (b ∷ u) (d ∷ v) → two_marks t a ≡ Some (k, 1) → two_marks (is_pair a d) a ≡ Some (k, 1)
    go true p al e = let s = same_piece Mark k 2 1 e in absurd (omega arith)
    go false p (inl same) e = let q : is_pair a d ≡ false = ap (is_pair a) (sym same) ∙ p in rw q e
    go false p (inr letters) e = let q : is_pair a d ≡ false = letter_no_pair a d letters.1 in rw q e

-- ---- the piece at the front is kept

-- no piece is empty
pub front_some : (u : List ℕ) (k : PieceKind) (n : ℕ) → front u ≡ Some (k, n) → (1 ≤ n) × (n ≤ length u)
front_some [] k n e = absurd cc
front_some (b ∷ u) k n e = go (front_is b u k n e)
  where
    go : FrontIs b u k n → (1 ≤ n) × (n ≤ suc (length u))
    go (line_end h0 ek en) = (omega arith, omega arith)
    go (blank h0 h1 ek en) = (omega arith, omega arith)
    go (comment h0 h1 h2 ek en) = (omega arith, omega (arith, prefix_len-le-length in_comment u))
    go (word h0 h1 h2 h3 ek en) = (omega arith, omega (arith, prefix_len-le-length is_name_byte u))
    go (whole h0 h1 h2 h3 h4 ek en) = (omega arith, omega (arith, prefix_len-le-length is_digit u))
    go (one h0 h1 h2 h3 h4 em) = let s = mark_is b u k n em in by_size s.1
      where
        by_size : (n ≡ 1) ⊎ ((n ≡ 2) × (1 ≤ length u)) → (1 ≤ n) × (n ≤ suc (length u))
        by_size (inl en) = (omega arith, omega arith)
        by_size (inr en) = (omega arith, omega arith)

-- A piece stays before each text that begins as what followed it.
pub front_alike : (k : PieceKind) (w u v : List ℕ) → BeginAlike u v → front (w ++ u) ≡ Some (k, length w) → front (w ++ v) ≡ Some (k, length w)
front_alike k [] u v alike e = let s = front_some u k 0 e in absurd (omega arith)
front_alike k (b ∷ w) u v alike e = front_from b (w ++ v) k (suc (length w)) (go w (front_is b (w ++ u) k (suc (length w)) e))
  where
    longer : (p : ℕ → Bool) (w : List ℕ) → IsUniform p → suc (length w) ≡ 1 + prefix_len p (w ++ u) → suc (length w) ≡ 1 + prefix_len p (w ++ v)
    longer p w uni en =
        let r = run_at p w u (omega arith) in
        let s = run_from p w v r.0 (stops_alike p uni u v alike r.1) in
        omega arith

    go : (w : List ℕ) → FrontIs b (w ++ u) k (suc (length w)) → FrontIs b (w ++ v) k (suc (length w))
    go w (line_end h0 ek en) = line_end h0 ek en
    go w (blank h0 h1 ek en) = blank h0 h1 ek en
    go w (comment h0 h1 h2 ek en) = comment h0 h1 h2 ek (longer in_comment w comment_uniform en)
    go w (word h0 h1 h2 h3 ek en) = word h0 h1 h2 h3 ek (longer is_name_byte w name_byte_uniform en)
    go w (whole h0 h1 h2 h3 h4 ek en) = whole h0 h1 h2 h3 h4 ek (longer is_digit w digit_uniform en)
    go [] (one h0 h1 h2 h3 h4 em) = one h0 h1 h2 h3 h4 (one_mark_alike b u v k alike em)
    go (c ∷ w) (one h0 h1 h2 h3 h4 em) = one h0 h1 h2 h3 h4 em

-- ---- words

-- a word begins with a letter, has name bytes, and stops
pub word_is : (k : PieceKind) (w u : List ℕ) → k ≡ Word → front (w ++ u) ≡ Some (k, length w) → (b : ℕ) × (r : List ℕ) × (w ≡ b ∷ r) × (is_letter b ≡ true) × (list_all is_name_byte r ≡ true) × Stops is_name_byte u
word_is k [] u is e = let s = front_some u k 0 e in absurd (omega arith)
word_is k (b ∷ r) u is e = go (front_is b (r ++ u) k (suc (length r)) e)
  where
    go : FrontIs b (r ++ u) k (suc (length r)) → (c : ℕ) × (s : List ℕ) × (b ∷ r ≡ c ∷ s) × (is_letter c ≡ true) × (list_all is_name_byte s ≡ true) × Stops is_name_byte u
    go (line_end h0 ek en) = absurd cc
    go (blank h0 h1 ek en) = absurd cc
    go (comment h0 h1 h2 ek en) = absurd cc
    go (word h0 h1 h2 h3 ek en) = let q = run_at is_name_byte r u (omega arith) in (b, r, refl, h3, q.0, q.1)
    go (whole h0 h1 h2 h3 h4 ek en) = absurd cc
    go (one h0 h1 h2 h3 h4 em) = let s = mark_is b (r ++ u) k (suc (length r)) em in let e : k ≡ Mark = s.0 in absurd cc

-- a name before a stop is a word
pub word_from : (limit : ℕ) (k : PieceKind) (w u : List ℕ) → k ≡ Word → is_name limit w ≡ true → Stops is_name_byte u → front (w ++ u) ≡ Some (k, length w)
word_from limit k [] u is name stops = absurd cc
word_from limit k (b ∷ r) u is name stops =
    let q = and_parts (is_letter b && nat_lt (length r) limit) (list_all is_name_byte r) name in
    let p = and_parts (is_letter b) (nat_lt (length r) limit) q.0 in
    let run = run_from is_name_byte r u q.1 stops in
    front_from b (r ++ u) k (suc (length r)) (word (letter_is_not b 10 p.0 (inl (omega arith))) (letter_is_not b 32 p.0 (inl (omega arith))) (letter_is_not b 33 p.0 (inl (omega arith))) p.0 is (omega arith))
