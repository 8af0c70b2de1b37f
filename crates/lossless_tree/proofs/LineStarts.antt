-- How many lines begin at an offset at the latest.
use Rattle.std.proofs.Common.{◌≡◌, ℕ, zero, suc, ◌+◌, ◌≤◌, ◌<◌, Bool, true, false, List, [], ◌∷◌, length, take, get_or, refl, ap, sym, ◌∙◌, arith}
use Rattle.std.specs.Prelude.{⊤, cond, map, nat_le, count_by}
use Rattle.std.specs.List.{slice_split, onto_first, prefix_len}
use Rattle.std.specs.List.Sorted.{IsPartitionedBy}
use Rattle.std.proofs.lemmas.Bool.{cond_both, le-leb, lt-leb}
use Rattle.std.proofs.lemmas.List.Sums.{prefix_len_is, sum_by-cons}
use Rattle.ftn_tree.specs.Lines.{Line, is_line_feed, line_starts, placed}
use Rattle.lossless_tree.specs.Texts.{line_at}
use Rattle.lossless_tree.proofs.Holding.{le_below}

-- where further lines begin, from that offset on
abbrev pub after : ℕ → List ℕ → List ℕ
after at [] = []
after at (b ∷ rest) = cond (is_line_feed b) ((at + 1) ∷ after (at + 1) rest) (after (at + 1) rest)

abbrev pub starts : List Line → List ℕ
starts lines = map (λ line. line.at) lines

-- after a first piece the others begin there
abbrev pub tail_starts : ℕ → List (List ℕ) → List ℕ
tail_starts at [] = []
tail_starts at (piece ∷ pieces) = at ∷ tail_starts (at + length piece + 1) pieces

starts_of : (number at : ℕ) (pieces : List (List ℕ)) → starts (placed number at pieces) ≡ tail_starts at pieces
starts_of number at [] = refl
starts_of number at (piece ∷ []) = refl
starts_of number at (piece ∷ next ∷ pieces) = ap (λ more. at ∷ more) (starts_of (number + 1) (at + length piece + 1) (next ∷ pieces))

onto_starts : (at b : ℕ) (pieces : List (List ℕ)) (more : List ℕ) → tail_starts (at + 1) pieces ≡ (at + 1) ∷ more → tail_starts at (onto_first b pieces) ≡ at ∷ more
onto_starts at b [] more is = absurd (cc)
onto_starts at b (piece ∷ pieces) more is =
    let on : at + suc (length piece) + 1 ≡ at + 1 + length piece + 1 = omega arith in
    let same : tail_starts (at + 1 + length piece + 1) pieces ≡ more = cc in
    ap (λ n. at ∷ tail_starts n pieces) on ∙ ap (λ rest. at ∷ rest) same

split_starts : (at : ℕ) (text : List ℕ) → tail_starts at (slice_split is_line_feed text) ≡ at ∷ after at text
split_starts at [] = refl
split_starts at (b ∷ rest) = by (is_line_feed b) (split_starts (at + 1) rest)
  where
    by : (feed : Bool) → tail_starts (at + 1) (slice_split is_line_feed rest) ≡ (at + 1) ∷ after (at + 1) rest
        → tail_starts at (cond feed ([] ∷ slice_split is_line_feed rest) (onto_first b (slice_split is_line_feed rest))) ≡ at ∷ cond feed ((at + 1) ∷ after (at + 1) rest) (after (at + 1) rest)
    by true more = let on : at + 0 + 1 ≡ at + 1 = omega arith in ap (λ n. at ∷ tail_starts n (slice_split is_line_feed rest)) on ∙ ap (λ rest. at ∷ rest) more
    by false more = onto_starts at b (slice_split is_line_feed rest) (after (at + 1) rest) more

pub starts_are : (text : List ℕ) → line_starts text ≡ 0 ∷ after 0 text
starts_are text = starts_of 1 0 (slice_split is_line_feed text) ∙ split_starts 0 text

-- numbers that don't fall, from that one on
abbrev pub AreRising : ℕ → List ℕ → Type 0
AreRising low [] = ⊤
AreRising low (x ∷ xs) = (low ≤ x) × AreRising x xs

rising_sooner : (low x : ℕ) (xs : List ℕ) → low ≤ x → AreRising x xs → AreRising low xs
rising_sooner low x [] less rising = tt
rising_sooner low x (y ∷ ys) less (first, more) = (omega arith, more)

after_rises : (at : ℕ) (text : List ℕ) → AreRising at (after at text)
after_rises at [] = tt
after_rises at (b ∷ rest) =
    cond_both (is_line_feed b) _ _ (AreRising at) (λ e. (omega arith, after_rises (at + 1) rest)) (λ e. rising_sooner at (at + 1) (after (at + 1) rest) (omega arith) (after_rises (at + 1) rest))

rising_from : (low : ℕ) (xs : List ℕ) → AreRising low xs → (j d : ℕ) → j < length xs → low ≤ get_or xs j d
rising_from low [] rising j d less = absurd (omega arith)
rising_from low (x ∷ xs) (first, more) zero d less = first
rising_from low (x ∷ xs) (first, more) (suc j) d less = let further : x ≤ get_or xs j d = rising_from x xs more j d (omega arith) in omega arith

rising_pair : (low : ℕ) (xs : List ℕ) → AreRising low xs → (i j d : ℕ) → i ≤ j → j < length xs → get_or xs i d ≤ get_or xs j d
rising_pair low [] rising i j d order less = absurd (omega arith)
rising_pair low (x ∷ xs) (first, more) zero zero d order less = omega arith
rising_pair low (x ∷ xs) (first, more) zero (suc j) d order less = rising_from x xs more j d (omega arith)
rising_pair low (x ∷ xs) (first, more) (suc i) zero d order less = absurd (omega arith)
rising_pair low (x ∷ xs) (first, more) (suc i) (suc j) d order less = rising_pair x xs more i j d (omega arith) (omega arith)

-- lines that begin at an offset at the latest come first
pub starts_parted : (text : List ℕ) (at : ℕ) → IsPartitionedBy (λ start. nat_le start at) (line_starts text)
starts_parted text at =
    rw (starts_are text) (λ i j d order less is.
    le_below (get_or (0 ∷ after 0 text) i d) (get_or (0 ∷ after 0 text) j d) at (rising_pair 0 (0 ∷ after 0 text) (omega arith, after_rises 0 text) i j d order less) is)

count_cons : (b : ℕ) (rest : List ℕ) → count_by is_line_feed (b ∷ rest) ≡ cond (is_line_feed b) 1 0 + count_by is_line_feed rest
count_cons b rest = sum_by-cons (λ x. cond (is_line_feed x) 1 0) b rest

none_after : (at low : ℕ) (text : List ℕ) → at ≤ low → prefix_len (λ start. nat_le start at) (after low text) ≡ 0
none_after at low [] less = refl
none_after at low (b ∷ rest) less =
    cond_both (is_line_feed b) _ _ (λ list. prefix_len (λ start. nat_le start at) list ≡ 0)
    (λ e. rw (lt-leb (low + 1) at (omega arith)) refl)
    (λ e. none_after at (low + 1) rest (omega arith))

counted_after : (at low k : ℕ) (text : List ℕ) → at ≡ low + k → prefix_len (λ start. nat_le start at) (after low text) ≡ count_by is_line_feed (take k text)
counted_after at low zero text is = none_after at low text (omega arith)
counted_after at low (suc k) [] is = refl
counted_after at low (suc k) (b ∷ rest) is =
    by (is_line_feed b) (counted_after at (low + 1) k rest (omega arith)) (le-leb (low + 1) at (omega arith)) ∙ sym (count_cons b (take k rest))
  where
    by : (feed : Bool) → prefix_len (λ start. nat_le start at) (after (low + 1) rest) ≡ count_by is_line_feed (take k rest) → nat_le (low + 1) at ≡ true
        → prefix_len (λ start. nat_le start at) (cond feed ((low + 1) ∷ after (low + 1) rest) (after (low + 1) rest)) ≡ cond feed 1 0 + count_by is_line_feed (take k rest)
    by true more here = rw here (ap (λ n. 1 + n) more)
    by false more here = more ∙ omega arith

pub starts_counted : (text : List ℕ) (at : ℕ) → prefix_len (λ start. nat_le start at) (line_starts text) ≡ line_at text at
starts_counted text at =
    rw (starts_are text, le-leb 0 at (omega arith)) (ap (λ n. 1 + n) (counted_after at 0 at text (omega arith)))

-- what a search over parted numbers finds is how many come first
pub prefix_from_point : (p : ℕ → Bool) (xs : List ℕ) (r d : ℕ) → r ≤ length xs
    → ((k : ℕ) (e : ℕ) → 0 ≤ k → k < r → p (get_or xs k e) ≡ true) × ((k : ℕ) (e : ℕ) → r ≤ k → k < length xs → p (get_or xs k e) ≡ false) → prefix_len p xs ≡ r
prefix_from_point p xs r d bound point = prefix_len_is p xs r d bound (λ k l. point.0 k d (omega arith) l) (λ l. point.1 r d (omega arith) l)
