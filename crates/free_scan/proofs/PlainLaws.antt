-- One pass over a text finds whether it is plain.
use Rattle.std.proofs.Common.{◌≡◌, ℕ, suc, ◌+◌, Bool, true, false, List, [], ◌∷◌, length, drop, refl, ap, sym, ◌∙◌, arith}
use Rattle.std.specs.Prelude.{◌&&◌, ◌==◌, nat_le, ◌-◌}
use Rattle.std.specs.List.{list_all, ends_with}
use Rattle.std.specs.Cmp.Lexicographic.{pointwise}
use Rattle.std.proofs.lemmas.Bool.{eqb-true}
use Rattle.std.proofs.lemmas.Bool.Decides.{nat_tests}
use Rattle.ftn_base.specs.Letters.{is_within}
use Rattle.ftn_tree.specs.Lines.{is_line_feed}
use Rattle.std.specs.List.{onto_first}
use Rattle.std.proofs.Math.Bool.{and-false}
use Rattle.ftn_base.specs.Limits.{line_limit}
use Rattle.free_scan.specs.Lines.{lines, is_plain_byte, is_plain_line, is_plain}
use Rattle.free_scan.specs.steps.PlainWalk.{plain_from}

-- whether lines are plain, where that many plain bytes stand before the first
abbrev pub plain_after : ℕ → List (List ℕ) → Bool
plain_after count [] = count == 0
plain_after count (line ∷ rest) =
    ends_with ◌==◌ line (10 ∷ []) && nat_le (count + length line) (line_limit + 1) && list_all is_plain_byte line && list_all is_plain_line rest

grouped : (e n a r : Bool) → e && n && a && r ≡ (e && n && a) && r
grouped true true a r = refl
grouped true false a r = refl
grouped false n a r = refl

none_before : (ls : List (List ℕ)) → plain_after 0 ls ≡ list_all is_plain_line ls
none_before [] = refl
none_before (line ∷ rest) =
    let size : 0 + length line ≡ length line = omega arith in
    rw size (grouped (ends_with ◌==◌ line (10 ∷ [])) (nat_le (length line) (line_limit + 1)) (list_all is_plain_byte line) (list_all is_plain_line rest))

shuffled : (w e n a r : Bool) → w && (e && n && a && r) ≡ e && n && (w && a) && r
shuffled true true true true r = refl
shuffled true true true false r = refl
shuffled true true false true r = refl
shuffled true true false false r = refl
shuffled true false true true r = refl
shuffled true false true false r = refl
shuffled true false false true r = refl
shuffled true false false false r = refl
shuffled false true true true r = refl
shuffled false true true false r = refl
shuffled false true false true r = refl
shuffled false true false false r = refl
shuffled false false true true r = refl
shuffled false false true false r = refl
shuffled false false false true r = refl
shuffled false false false false r = refl

with_true : (n x : Bool) → n && x ≡ n && true && x
with_true true x = refl
with_true false x = refl

flipped : (b : ℕ) → b == 10 ≡ false → 10 == b ≡ false
flipped b is = grind (arith, nat_tests)

not_zero : (count : ℕ) → count + 1 == 0 ≡ false
not_zero count = grind (arith, nat_tests)

one_up : (count : ℕ) → nat_le count line_limit ≡ nat_le (count + 1) (line_limit + 1)
one_up count = grind (arith, nat_tests)

-- the end of a line of two bytes and more
same_end : (b c : ℕ) (line : List ℕ) → ends_with ◌==◌ (c ∷ line) (10 ∷ []) ≡ ends_with ◌==◌ (b ∷ c ∷ line) (10 ∷ [])
same_end b c line =
    let short : suc (length line) - 1 ≡ length line = omega arith in
    let long : suc (suc (length line)) - 1 ≡ suc (length line) = omega arith in
    ap (λ k. pointwise ◌==◌ (10 ∷ []) (drop k (c ∷ line))) short ∙ sym (ap (λ k. pointwise ◌==◌ (10 ∷ []) (drop k (b ∷ c ∷ line))) long)

-- a line of one byte more, that is no LF
one_more : (count b : ℕ) (ls : List (List ℕ)) → is_line_feed b ≡ false → is_within 32 126 b && plain_after (count + 1) ls ≡ plain_after count (onto_first b ls)
one_more count b [] other = rw (not_zero count, flipped b other) (and-false (is_within 32 126 b))
one_more count b ([] ∷ rest) other = rw (flipped b other) (and-false (is_within 32 126 b))
one_more count b ((c ∷ line) ∷ rest) other =
    let size : count + 1 + suc (length line) ≡ count + suc (suc (length line)) = omega arith in
    rw (other, ← same_end b c line, size)
    (shuffled (is_within 32 126 b) (ends_with ◌==◌ (c ∷ line) (10 ∷ [])) (nat_le (count + suc (suc (length line))) (line_limit + 1)) (list_all is_plain_byte (c ∷ line)) (list_all is_plain_line rest))

-- one byte of the walk
step : (count b : ℕ) (rest : List ℕ) (t : Bool) → is_line_feed b ≡ t
    → ((n : ℕ) → plain_from n rest ≡ plain_after n (lines rest))
    → plain_from count (b ∷ rest) ≡ plain_after count (lines (b ∷ rest))
step count b rest true is goes_on =
    let same : b ≡ 10 = eqb-true b 10 is in
    rw (same, one_up count, goes_on 0, none_before (lines rest)) (with_true (nat_le (count + 1) (line_limit + 1)) (list_all is_plain_line (lines rest)))
step count b rest false is goes_on =
    rw is (ap (λ more. is_within 32 126 b && more) (goes_on (count + 1)) ∙ one_more count b (lines rest) is)

-- the walk, past some bytes of a line
walk : (count : ℕ) (text : List ℕ) → plain_from count text ≡ plain_after count (lines text)
walk count [] = refl
walk count (b ∷ rest) = step count b rest (is_line_feed b) refl (λ n. walk n rest)

-- the walk over the whole text finds whether it is plain
pub plain_walk : (text : List ℕ) → plain_from 0 text ≡ is_plain text
plain_walk text = walk 0 text ∙ none_before (lines text)
