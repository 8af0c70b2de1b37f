-- The pieces of a text after a word is replaced by a name.
use Rattle.std.proofs.Common.{◌≡◌, ℕ, ◌+◌, ◌-◌, Bool, true, false, cond, ◌&&◌, inl, inr, List, [], ◌∷◌, ◌++◌, map, length, take, drop, Some, refl, sym, ap, ◌∙◌, arith, bytes_eq, append_assoc, length-append, if◌then◌else◌, nat_lt}
use Rattle.std.specs.List.{list_all}
use Rattle.std.proofs.lemmas.Bool.{and_parts}
use Rattle.std.proofs.lemmas.List.{take_at, drop_at}
use Rattle.ftn_base.specs.Letters.{folded, is_letter, is_name_byte}
use Rattle.ftn_base.specs.Names.{is_name}
use Rattle.free_scan.specs.Pieces.{front}
use Rattle.free_scan.specs.Tokens.{line_after}
use Rattle.free_scan.specs.declared.first_form.token.PieceKind.{PieceKind}
use Rattle.free_scan.specs.declared.first_form.token.PieceKind.TheVariants.{Blank, Comment, LineEnd, Word, Whole, Mark}
use Rattle.ftn_tree.specs.declared.token.Token.{Token}
use Rattle.rename_ref.specs.Edits.{applied_from, replacing}
use Rattle.rename_ref.proofs.Fronts.{BeginAlike, stops_alike, name_byte_uniform, front_some, front_alike, word_is, word_from}
use Rattle.rename_ref.proofs.Chunks.{is_word_piece, Chunk, joined, AreFronts, is_old, tokens_where, token_at}

-- the new bytes in place of that word
abbrev pub put : List ℕ → List ℕ → Chunk → Chunk
put old new c = (c.0, if is_old old c then new else c.1)

-- what is a word is of that kind
pub word_kind : (k : PieceKind) → is_word_piece k ≡ true → k ≡ Word
word_kind Blank e = absurd cc
word_kind Comment e = absurd cc
word_kind LineEnd e = absurd cc
word_kind Word e = refl
word_kind Whole e = absurd cc
word_kind Mark e = absurd cc

-- a name begins with a letter
name_begins : (limit : ℕ) (new : List ℕ) → is_name limit new ≡ true → (a : ℕ) × (r : List ℕ) × (new ≡ a ∷ r) × (is_letter a ≡ true)
name_begins limit [] name = absurd cc
name_begins limit (a ∷ r) name =
    let q = and_parts (is_letter a && nat_lt (length r) limit) (list_all is_name_byte r) name in
    let p = and_parts (is_letter a) (nat_lt (length r) limit) q.0 in
    (a, r, refl, p.0)

module _ (old new : List ℕ) (limit : ℕ) (name : is_name limit new ≡ true) where
  -- where the pieces are left, and what follows them, the texts begin alike
  begins : (cs : List Chunk) → AreFronts cs → BeginAlike (joined cs) (joined (map (put old new) cs))
  begins [] fs = tt
  begins (c ∷ cs) fs = go c.1 (is_old old c) refl fs.0
    where
      go : (w : List ℕ) (t : Bool) → is_old old c ≡ t → front (w ++ joined cs) ≡ Some (c.0, length w) → BeginAlike (w ++ joined cs) ((if t then new else w) ++ joined (map (put old new) cs))
      go [] t p f = let s = front_some (joined cs) c.0 0 f in absurd (omega arith)
      go (b ∷ w) false p f = inl refl
      go (b ∷ w) true p f =
          let k : c.0 ≡ Word = word_kind c.0 (and_parts (is_word_piece c.0) (bytes_eq (folded c.1) old) p).0 in
          let a = word_is c.0 (b ∷ w) (joined cs) k f in
          let d = name_begins limit new name in
          let e : b ≡ a.0 = cc (a.2) in
          rw d.2 (inr (rw e a.3, d.3))

  -- each piece stands at the front in the new text
  pub fronts_renamed : (cs : List Chunk) → AreFronts cs → AreFronts (map (put old new) cs)
  fronts_renamed [] fs = tt
  fronts_renamed (c ∷ cs) fs = (go (is_old old c) refl, fronts_renamed cs fs.1)
    where
      go : (t : Bool) → is_old old c ≡ t → front ((if t then new else c.1) ++ joined (map (put old new) cs)) ≡ Some (c.0, length (if t then new else c.1))
      go false p = front_alike c.0 c.1 (joined cs) (joined (map (put old new) cs)) (begins cs fs.1) fs.0
      go true p =
          let k : c.0 ≡ Word = word_kind c.0 (and_parts (is_word_piece c.0) (bytes_eq (folded c.1) old) p).0 in
          let a = word_is c.0 c.1 (joined cs) k fs.0 in
          let s = stops_alike is_name_byte name_byte_uniform (joined cs) (joined (map (put old new) cs)) (begins cs fs.1) a.5 in
          word_from limit c.0 new (joined (map (put old new) cs)) k name s

-- the edits make the text of the new pieces, where the bytes up to the next piece stand in front
pub applied_is : (old new : List ℕ) (before at line : ℕ) (pre : List ℕ) (cs : List Chunk) → at ≡ before + length pre
    → applied_from before (pre ++ joined cs) (replacing new (tokens_where (is_old old) at line cs)) ≡ pre ++ joined (map (put old new) cs)
applied_is old new before at line pre [] e = refl
applied_is old new before at line pre (c ∷ cs) e =
    go (is_old old c) (applied_is old new before (at + length c.1) (line_after line c.0) (pre ++ c.1) cs (omega (arith, length-append pre c.1)))
    (applied_is old new (at + length c.1) (at + length c.1) (line_after line c.0) [] cs (omega arith))
  where
    rest : List ℕ
    rest = joined (map (put old new) cs)

    edits : List Token
    edits = tokens_where (is_old old) (at + length c.1) (line_after line c.0) cs

    go : (t : Bool) → applied_from before ((pre ++ c.1) ++ joined cs) (replacing new edits) ≡ (pre ++ c.1) ++ rest → applied_from (at + length c.1) (joined cs) (replacing new edits) ≡ rest
        → applied_from before (pre ++ (c.1 ++ joined cs)) (replacing new (cond t (token_at at line c ∷ edits) edits)) ≡ pre ++ ((if t then new else c.1) ++ rest)
    go false stays goes = ap (λ (u : List ℕ). applied_from before u (replacing new edits)) (sym (append_assoc pre c.1 (joined cs))) ∙ stays ∙ append_assoc pre c.1 rest
    go true stays goes =
        let front : take (at - before) (pre ++ (c.1 ++ joined cs)) ≡ pre = take_at pre (c.1 ++ joined cs) (at - before) (omega arith) in
        let after : drop ((at + length c.1) - before) (pre ++ (c.1 ++ joined cs)) ≡ joined cs =
        ap (drop ((at + length c.1) - before)) (sym (append_assoc pre c.1 (joined cs))) ∙ drop_at (pre ++ c.1) (joined cs) ((at + length c.1) - before) (omega (arith, length-append pre c.1)) in
        rw (front, after, goes) refl
