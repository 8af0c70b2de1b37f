-- Character constants, byte by byte.
use Rattle.std.proofs.Common.{◌≡◌, ℕ, suc, ◌+◌, ◌<◌, ◌≤◌, ◌≢◌, true, false, List, [], ◌∷◌, ◌++◌, length, drop, get_or, Option, Some, None, refl, ap, sym, ◌∙◌, arith, append_assoc, length-drop}
use Rattle.std.specs.Prelude.{◌==◌}
use Rattle.std.specs.Option.{option_map}
use Rattle.std.proofs.lemmas.Bool.{eq-eqb, ne_eqb}
use Rattle.std.proofs.lemmas.List.{drop_more, drop-drop, drop_all, append-nil}
use Rattle.ftn_tree.specs.Lines.{begins_with}
use Rattle.ftn_tree.specs.Pieces.{constant_len}
use Rattle.ftn_tree.specs.Reading.{inside}
use Rattle.ftn_tree.proofs.LineLaws.{begins_some}

same : (quote : ℕ) → (quote == quote) ≡ true
same quote = eq-eqb quote quote refl

-- a byte that is no quote
len_other : (quote b : ℕ) (rest : List ℕ) → b ≢ quote → constant_len quote (b ∷ rest) ≡ option_map suc (constant_len quote rest)
len_other quote b [] ne = rw (ne_eqb b quote ne) refl
len_other quote b (c ∷ rest) ne = rw (ne_eqb b quote ne) refl

inside_other : (quote b : ℕ) (rest : List ℕ) → b ≢ quote → inside quote (b ∷ rest) ≡ b ∷ inside quote rest
inside_other quote b [] ne = rw (ne_eqb b quote ne) refl
inside_other quote b (c ∷ rest) ne = rw (ne_eqb b quote ne) refl

-- a doubled quote
len_doubled : (quote : ℕ) (rest : List ℕ) → begins_with quote rest ≡ true → constant_len quote (quote ∷ rest) ≡ option_map (λ n. 2 + n) (constant_len quote (drop 1 rest))
len_doubled quote [] e = absurd (cc)
len_doubled quote (c ∷ rest) e = rw (same quote, e) refl

inside_doubled : (quote : ℕ) (rest : List ℕ) → begins_with quote rest ≡ true → inside quote (quote ∷ rest) ≡ quote ∷ inside quote (drop 1 rest)
inside_doubled quote [] e = absurd (cc)
inside_doubled quote (c ∷ rest) e = rw (same quote, e) refl

-- the quote that closes it
len_closed : (quote : ℕ) (rest : List ℕ) → begins_with quote rest ≡ false → constant_len quote (quote ∷ rest) ≡ Some 1
len_closed quote [] e = rw (same quote) refl
len_closed quote (c ∷ rest) e = rw (same quote, e) refl

inside_closed : (quote : ℕ) (rest : List ℕ) → begins_with quote rest ≡ false → inside quote (quote ∷ rest) ≡ []
inside_closed quote [] e = rw (same quote) refl
inside_closed quote (c ∷ rest) e = rw (same quote, e) refl

-- that many bytes, and those of the rest
abbrev pub plus : ℕ → Option ℕ → Option ℕ
plus at rest = option_map (λ n. at + n) rest

pub plus_none : (o : Option ℕ) → o ≡ plus 0 o
plus_none None = refl
plus_none (Some n) = ap (λ n. Some n) (omega arith)

plus_one : (at : ℕ) (o : Option ℕ) → plus at (option_map suc o) ≡ plus (at + 1) o
plus_one at None = refl
plus_one at (Some n) = let e : at + suc n ≡ at + 1 + n = omega arith in ap (λ n. Some n) e

plus_two : (at : ℕ) (o : Option ℕ) → plus at (option_map (λ n. 2 + n) o) ≡ plus (at + 2) o
plus_two at None = refl
plus_two at (Some n) = let e : at + (2 + n) ≡ at + 2 + n = omega arith in ap (λ n. Some n) e

-- two bytes on
two_on : (rest : List ℕ) (at : ℕ) → drop 1 (drop (at + 1) rest) ≡ drop (at + 2) rest
two_on rest at = let e : at + 1 + 1 ≡ at + 2 = omega arith in drop-drop 1 (at + 1) rest ∙ ap (λ n. drop n rest) e

-- the first byte of what is left, where it is a quote
quote_at : (quote : ℕ) (rest : List ℕ) (at : ℕ) → at < length rest → get_or rest at 0 ≡ quote → drop at rest ≡ quote ∷ drop (at + 1) rest
quote_at quote rest at lt is = drop_more rest at 0 lt ∙ ap (λ b. b ∷ drop (at + 1) rest) is

-- a quote that follows is within the text
pub next_within : (quote : ℕ) (rest : List ℕ) (at : ℕ) → begins_with quote (drop (at + 1) rest) ≡ true → at + 2 ≤ length rest
next_within quote rest at next = let some : 1 ≤ length (drop (at + 1) rest) = begins_some quote (drop (at + 1) rest) next in omega (arith, length-drop (at + 1) rest)

-- how many bytes there are, past a byte that is no quote
pub len_on : (whole : Option ℕ) (quote : ℕ) (rest : List ℕ) (at : ℕ) → at < length rest → get_or rest at 0 ≢ quote
    → whole ≡ plus at (constant_len quote (drop at rest)) → whole ≡ plus (at + 1) (constant_len quote (drop (at + 1) rest))
len_on whole quote rest at lt ne goes =
    goes ∙ ap (λ xs. plus at (constant_len quote xs)) (drop_more rest at 0 lt) ∙ ap (plus at) (len_other quote (get_or rest at 0) (drop (at + 1) rest) ne)
    ∙ plus_one at (constant_len quote (drop (at + 1) rest))

-- past a doubled one
pub len_twice : (whole : Option ℕ) (quote : ℕ) (rest : List ℕ) (at : ℕ) → at < length rest → get_or rest at 0 ≡ quote → begins_with quote (drop (at + 1) rest) ≡ true
    → whole ≡ plus at (constant_len quote (drop at rest)) → whole ≡ plus (at + 2) (constant_len quote (drop (at + 2) rest))
len_twice whole quote rest at lt is next goes =
    goes ∙ ap (λ xs. plus at (constant_len quote xs)) (quote_at quote rest at lt is) ∙ ap (plus at) (len_doubled quote (drop (at + 1) rest) next)
    ∙ plus_two at (constant_len quote (drop 1 (drop (at + 1) rest))) ∙ ap (λ xs. plus (at + 2) (constant_len quote xs)) (two_on rest at)

-- at the one that closes it
pub len_ends : (whole : Option ℕ) (quote : ℕ) (rest : List ℕ) (at : ℕ) → at < length rest → get_or rest at 0 ≡ quote → begins_with quote (drop (at + 1) rest) ≡ false
    → whole ≡ plus at (constant_len quote (drop at rest)) → Some (at + 1) ≡ whole
len_ends whole quote rest at lt is next goes =
    sym (goes ∙ ap (λ xs. plus at (constant_len quote xs)) (quote_at quote rest at lt is) ∙ ap (plus at) (len_closed quote (drop (at + 1) rest) next))

-- where no byte is left
pub len_none : (whole : Option ℕ) (quote : ℕ) (rest : List ℕ) (at : ℕ) → length rest ≤ at → whole ≡ plus at (constant_len quote (drop at rest)) → None ≡ whole
len_none whole quote rest at le goes = sym (goes ∙ ap (λ xs. plus at (constant_len quote xs)) (drop_all at rest le))

-- the same of what it stands for
pub inside_on : (whole made : List ℕ) (quote : ℕ) (rest : List ℕ) (at : ℕ) → at < length rest → get_or rest at 0 ≢ quote
    → whole ≡ made ++ inside quote (drop at rest) → whole ≡ (made ++ get_or rest at 0 ∷ []) ++ inside quote (drop (at + 1) rest)
inside_on whole made quote rest at lt ne goes =
    goes ∙ ap (λ xs. made ++ inside quote xs) (drop_more rest at 0 lt) ∙ ap (λ xs. made ++ xs) (inside_other quote (get_or rest at 0) (drop (at + 1) rest) ne)
    ∙ sym (append_assoc made (get_or rest at 0 ∷ []) (inside quote (drop (at + 1) rest)))

pub inside_twice : (whole made : List ℕ) (quote : ℕ) (rest : List ℕ) (at : ℕ) → at < length rest → get_or rest at 0 ≡ quote → begins_with quote (drop (at + 1) rest) ≡ true
    → whole ≡ made ++ inside quote (drop at rest) → whole ≡ (made ++ quote ∷ []) ++ inside quote (drop (at + 2) rest)
inside_twice whole made quote rest at lt is next goes =
    goes ∙ ap (λ xs. made ++ inside quote xs) (quote_at quote rest at lt is) ∙ ap (λ xs. made ++ xs) (inside_doubled quote (drop (at + 1) rest) next)
    ∙ sym (append_assoc made (quote ∷ []) (inside quote (drop 1 (drop (at + 1) rest)))) ∙ ap (λ xs. (made ++ quote ∷ []) ++ inside quote xs) (two_on rest at)

pub inside_ends : (whole made : List ℕ) (quote : ℕ) (rest : List ℕ) (at : ℕ) → at < length rest → get_or rest at 0 ≡ quote → begins_with quote (drop (at + 1) rest) ≡ false
    → whole ≡ made ++ inside quote (drop at rest) → made ≡ whole
inside_ends whole made quote rest at lt is next goes =
    sym (goes ∙ ap (λ xs. made ++ inside quote xs) (quote_at quote rest at lt is) ∙ ap (λ xs. made ++ xs) (inside_closed quote (drop (at + 1) rest) next) ∙ append-nil made)

pub inside_none : (whole made : List ℕ) (quote : ℕ) (rest : List ℕ) (at : ℕ) → length rest ≤ at → whole ≡ made ++ inside quote (drop at rest) → made ≡ whole
inside_none whole made quote rest at le goes = sym (goes ∙ ap (λ xs. made ++ inside quote xs) (drop_all at rest le) ∙ append-nil made)
