-- Which token holds an offset.
use Rattle.std.proofs.Common.{◌≡◌, ℕ, zero, suc, ◌+◌, ◌≤◌, ◌<◌, ◌^◌, Bool, true, false, ◌&&◌, List, [], ◌∷◌, length, get_or, Option, Some, None, refl, ap, sym, ◌∙◌, arith, if◌then◌else◌, one-add}
use Rattle.std.specs.Prelude.{nat_le, slice_get}
use Rattle.std.specs.Option.{option_map}
use Rattle.std.specs.List.{prefix_len}
use Rattle.std.specs.List.Sorted.{IsPartitionedBy}
use Rattle.std.proofs.lemmas.Bool.Decides.{nat_tests}
use Rattle.std.proofs.lemmas.List.Sums.{prefix_len_is}
use Rattle.std.proofs.lemmas.Bool.{le-leb, lt-leb, leb-true, leb-false, lt-ltb, le-ltb}
use Rattle.ftn_tree.specs.declared.token.Token.{Token}
use Rattle.ftn_tree.specs.Reading.{tokens_of}
use Rattle.lossless_tree.specs.steps.Edges.{has_ended, begun_at}
use Rattle.lossless_tree.specs.Texts.{Rise, first_holding, token_at}
use Rattle.lossless_tree.proofs.Rising.{tokens_rise}

-- ---- what is found

none_later : (at low size : ℕ) (tokens : List Token) → at < low → Rise low tokens size → first_holding at tokens ≡ None
none_later at low size [] less rise = refl
none_later at low size (token ∷ tokens) less (first, some, more) =
    rw (lt-leb token.range.start at (omega arith)) (ap (option_map suc) (none_later at token.range.end size tokens (omega arith) more))

counted_on : (begun : Bool) (n : ℕ) → option_map suc (if begun then Some n else None) ≡ (if begun then Some (suc n) else None)
counted_on true n = refl
counted_on false n = refl

next_is : (at n : ℕ) (there : Option Token) → option_map suc (begun_at at n there) ≡ begun_at at (suc n) there
next_is at n None = refl
next_is at n (Some token) = counted_on (nat_le token.range.start at) n

first_is : (begun : Bool) (later : Option ℕ) → later ≡ None → (if begun && true then Some 0 else option_map suc later) ≡ (if begun then Some 0 else None)
first_is true later is = refl
first_is false later is = ap (option_map suc) is

pub found : (at low size : ℕ) (tokens : List Token) → Rise low tokens size
    → first_holding at tokens ≡ begun_at at (prefix_len (has_ended at) tokens) (slice_get tokens (prefix_len (has_ended at) tokens))
found at low size [] rise = refl
found at low size (token ∷ tokens) (first, some, more) = by (found at token.range.end size tokens more) (nat_le token.range.end at) refl where
  by : first_holding at tokens ≡ begun_at at (prefix_len (has_ended at) tokens) (slice_get tokens (prefix_len (has_ended at) tokens))
      → (ended : Bool) → nat_le token.range.end at ≡ ended
      → first_holding at (token ∷ tokens) ≡ begun_at at (prefix_len (has_ended at) (token ∷ tokens)) (slice_get (token ∷ tokens) (prefix_len (has_ended at) (token ∷ tokens)))
  by later true is =
      let before : token.range.end ≤ at = leb-true token.range.end at is in
      let n : ℕ = prefix_len (has_ended at) tokens in
      rw (is, le-leb token.range.start at (omega arith), le-ltb at token.range.end before)
      (ap (option_map suc) later ∙ next_is at n (slice_get tokens n) ∙ ap (λ k. begun_at at k (slice_get (token ∷ tokens) k)) (sym (one-add n)))
  by later false is =
      let inside : at < token.range.end = leb-false token.range.end at is in
      rw (is, lt-ltb at token.range.end inside)
      (first_is (nat_le token.range.start at) (first_holding at tokens) (none_later at token.range.end size tokens inside more))

-- ---- tokens that end at an offset or before it come first

ends_from : (low size : ℕ) (tokens : List Token) → Rise low tokens size → (j : ℕ) (d : Token) → j < length tokens → low ≤ (get_or tokens j d).range.end
ends_from low size [] rise j d less = absurd (omega arith)
ends_from low size (token ∷ tokens) (first, some, more) zero d less = omega arith
ends_from low size (token ∷ tokens) (first, some, more) (suc j) d less =
    let further : token.range.end ≤ (get_or tokens j d).range.end = ends_from token.range.end size tokens more j d (omega arith) in omega arith

ends_rise : (low size : ℕ) (tokens : List Token) → Rise low tokens size → (i j : ℕ) (d : Token) → i ≤ j → j < length tokens → (get_or tokens i d).range.end ≤ (get_or tokens j d).range.end
ends_rise low size [] rise i j d order less = absurd (omega arith)
ends_rise low size (token ∷ tokens) (first, some, more) zero zero d order less = omega arith
ends_rise low size (token ∷ tokens) (first, some, more) zero (suc j) d order less = ends_from token.range.end size tokens more j d (omega arith)
ends_rise low size (token ∷ tokens) (first, some, more) (suc i) zero d order less = absurd (omega arith)
ends_rise low size (token ∷ tokens) (first, some, more) (suc i) (suc j) d order less = ends_rise token.range.end size tokens more i j d (omega arith) (omega arith)

pub le_below : (a b at : ℕ) → a ≤ b → nat_le b at ≡ true → nat_le a at ≡ true
le_below a b at less is = grind (arith, nat_tests)

ended_first : (text : List ℕ) (at : ℕ) → IsPartitionedBy (has_ended at) (tokens_of text).items
ended_first text at i j d order less is =
    le_below (get_or (tokens_of text).items i d).range.end (get_or (tokens_of text).items j d).range.end at
    (ends_rise 0 (length text) (tokens_of text).items (tokens_rise text) i j d order less) is

pub ended_parted : (text : List ℕ) (tokens : List Token) (at : ℕ) → tokens ≡ (tokens_of text).items → IsPartitionedBy (has_ended at) tokens
ended_parted text tokens at are = rw are (ended_first text at)

-- what a search over parted things finds is how many come first
pub point_is : {A : Type 0} (p : A → Bool) (xs : List A) (r : ℕ) → r ≤ length xs
    → ((k : ℕ) (e : A) → 0 ≤ k → k < r → p (get_or xs k e) ≡ true) × ((k : ℕ) (e : A) → r ≤ k → k < length xs → p (get_or xs k e) ≡ false) → prefix_len p xs ≡ r
point_is p [] r bound point = omega arith
point_is p (x ∷ xs) r bound point = prefix_len_is p (x ∷ xs) r x bound (λ k l. point.0 k x (omega arith) l) (λ l. point.1 r x (omega arith) l)

-- ---- of a text and of tokens that are known to be its own

count_within : (low size : ℕ) (tokens : List Token) → Rise low tokens size → low + length tokens ≤ size
count_within low size [] rise = omega arith
count_within low size (token ∷ tokens) (first, some, more) =
    let rest : token.range.end + length tokens ≤ size = count_within token.range.end size tokens more in omega arith

pub count_held : (text : List ℕ) (tokens : List Token) → tokens ≡ (tokens_of text).items → length text + 1 < 2 ^ 32 → length tokens < 2 ^ 32
count_held text tokens are fits = rw are (below (length (tokens_of text).items) (length text) (count_within 0 (length text) (tokens_of text).items (tokens_rise text)) fits) where
  below : (count size : ℕ) → 0 + count ≤ size → size + 1 < 2 ^ 32 → count < 2 ^ 32
  below count size few fits = omega arith

pub token_found : (text seen : List ℕ) (tokens : List Token) (at count : ℕ) (made : Option ℕ) → text ≡ seen → tokens ≡ (tokens_of text).items
    → count ≡ prefix_len (has_ended at) tokens → made ≡ begun_at at count (slice_get tokens count) → made ≡ token_at seen at
token_found text seen tokens at count made same are counted is =
    is ∙ ap (λ n. begun_at at n (slice_get tokens n)) counted
    ∙ ap (λ tokens. begun_at at (prefix_len (has_ended at) tokens) (slice_get tokens (prefix_len (has_ended at) tokens))) are
    ∙ sym (found at 0 (length text) (tokens_of text).items (tokens_rise text)) ∙ ap (λ known. token_at known at) same

-- ---- tokens in their order

starts_from : (low size : ℕ) (tokens : List Token) → Rise low tokens size → (j : ℕ) (other : Token) → slice_get tokens j ≡ Some other → low ≤ other.range.start
starts_from low size [] rise j other is = absurd (cc is)
starts_from low size (token ∷ tokens) (first, some, more) zero other is = let same : token ≡ other = cc is in subst_start token other low same first where
  subst_start : (one other : Token) (low : ℕ) → one ≡ other → low ≤ one.range.start → low ≤ other.range.start
  subst_start one other low same less = rw (← same) less
starts_from low size (token ∷ tokens) (first, some, more) (suc j) other is =
    let further : token.range.end ≤ other.range.start = starts_from token.range.end size tokens more j other is in omega arith

apart_from : (low size : ℕ) (tokens : List Token) → Rise low tokens size → (i j : ℕ) (one other : Token) → i < j
    → slice_get tokens i ≡ Some one → slice_get tokens j ≡ Some other → one.range.end ≤ other.range.start
apart_from low size [] rise i j one other order is_one is_other = absurd (cc is_one)
apart_from low size (token ∷ tokens) rise i zero one other order is_one is_other = absurd (omega arith)
apart_from low size (token ∷ tokens) (first, some, more) zero (suc j) one other order is_one is_other =
    let same : token ≡ one = cc is_one in
    subst_end token one other same (starts_from token.range.end size tokens more j other is_other) where
      subst_end : (one same other : Token) → one ≡ same → one.range.end ≤ other.range.start → same.range.end ≤ other.range.start
      subst_end one same other are less = rw (← are) less
apart_from low size (token ∷ tokens) (first, some, more) (suc i) (suc j) one other order is_one is_other =
    apart_from token.range.end size tokens more i j one other (omega arith) is_one is_other

pub apart : (text : List ℕ) (i j : ℕ) (one other : Token) → i < j
    → slice_get (tokens_of text).items i ≡ Some one → slice_get (tokens_of text).items j ≡ Some other → one.range.end ≤ other.range.start
apart text i j one other order is_one is_other = apart_from 0 (length text) (tokens_of text).items (tokens_rise text) i j one other order is_one is_other
