-- A token of a file stands in one mention alone, so that what this one means is what is found at the token.
use Rattle.std.proofs.Common.{◌≡◌, refl, sym, ◌∙◌, ap, ap₂, subst, cond, inl, inr, ◌⊎◌, ℕ, zero, suc, ◌+◌, ◌-◌, ◌<◌, ◌≤◌, Bool, true, false, List, [], ◌∷◌, map, length, take, drop, Option, Some, None, option_map, arith}
use Rattle.std.specs.Prelude.{◌&&◌, ◌==◌, slice_get}
use Rattle.std.specs.List.{All, enumerate_from, find, range_with_len}
use Rattle.std.specs.Option.{option_and_then, option_map_or}
use Rattle.std.proofs.lemmas.Bool.{cases_eq}
use Rattle.std.proofs.lemmas.Bool.Decides.{nat_tests}
use Rattle.std.proofs.lemmas.List.Elements.{All-head, All-tail}
use Rattle.std.proofs.lemmas.Option.{get_or_from_slice_get, slice_get_within}
use Rattle.ftn_base.specs.declared.place.Range.{Range}
use Rattle.ftn_tree.specs.declared.mention.Mention.{Mention}
use Rattle.ftn_tree.specs.declared.token.Token.{Token}
use Rattle.ftn_tree.specs.declared.token.Tokens.{Tokens}
use Rattle.ftn_tree.specs.declared.unit.FileTree.{FileTree}
use Rattle.ftn_tree.specs.declared.unit.Statement.{Statement}
use Rattle.ftn_tree.specs.Bindings.{Denoting, denoting, denotings, denotings_in, occurrence_meaning}
use Rattle.ftn_tree.specs.Extents.{form_in}
use Rattle.ftn_tree.specs.FileFaults.{AreRead, IsRead, row_in}
use Rattle.ftn_tree.specs.KeyKinds.{is_at, key_at, key_of}
use Rattle.ftn_tree.specs.Mentions.{mentions_of}
use Rattle.ftn_tree.specs.Projects.{AreTrees, IsSomeTree}
use Rattle.ftn_tree.specs.Reading.{ranges_from, rows_of, tokens_of}
use Rattle.ftn_tree.specs.RowNames.{AreNames, Rise, has_letters, names_in, numbers_of}
use Rattle.ftn_tree.specs.Sayings.{mentions_at}
use Rattle.ftn_tree.proofs.RowLaws.{from_first, rising, up_to_last}
use Rattle.ftn_tree.proofs.StatementNames.{statement_names}
use Rattle.const_value.proofs.FindingSets.{In, in_flat, out_of_flat}
use Rattle.const_value.proofs.InLists.{in_map, in_numbers, in_range, out_of_map}

-- ---- statements stand one after the other

from_start : (first : ℕ) (rows : List (List Token)) (k : ℕ) (r : Range) → slice_get (ranges_from first rows) k ≡ Some r → first ≤ r.start
from_start first [] k r is = absurd (cc is)
from_start first ([] ∷ rows) k r is = let less : first + 0 ≤ r.start = from_start (first + 0) rows k r is in omega (arith, less)
from_start first ((t ∷ more) ∷ rows) zero r is = let same : Some first ≡ Some r.start = ap (option_map (λ (x : Range). x.start)) is in let start : first ≡ r.start = cc same in omega (arith, start)
from_start first ((t ∷ more) ∷ rows) (suc k) r is =
    let less : first + suc (length more) ≤ r.start = from_start (first + suc (length more)) rows k r is in omega (arith, less)

ranges_apart : (first : ℕ) (rows : List (List Token)) (j k : ℕ) (a b : Range) → j < k → slice_get (ranges_from first rows) j ≡ Some a → slice_get (ranges_from first rows) k ≡ Some b → a.end ≤ b.start
ranges_apart first [] j k a b less one other = absurd (cc one)
ranges_apart first ([] ∷ rows) j k a b less one other = ranges_apart (first + 0) rows j k a b less one other
ranges_apart first ((t ∷ more) ∷ rows) j zero a b less one other = absurd (omega (arith, less))
ranges_apart first ((t ∷ more) ∷ rows) zero (suc k) a b less one other =
    let same : Some (first + suc (length more)) ≡ Some a.end = ap (option_map (λ (x : Range). x.end)) one in
    let end : first + suc (length more) ≡ a.end = cc same in
    let next : first + suc (length more) ≤ b.start = from_start (first + suc (length more)) rows k b other in
    omega (arith, end, next)
ranges_apart first ((t ∷ more) ∷ rows) (suc j) (suc k) a b less one other = ranges_apart (first + suc (length more)) rows j k a b (omega (arith, less)) one other

record ReadAt (tokens : Tokens) (ranges : List Range) (k : ℕ) (statement : Statement) : Type 0 where
  range : Range
  there : slice_get ranges k ≡ Some range
  read : IsRead tokens range statement

read_at : (tokens : Tokens) (ranges : List Range) (statements : List Statement) (k : ℕ) (statement : Statement) → AreRead tokens ranges statements → slice_get statements k ≡ Some statement
    → ReadAt tokens ranges k statement
read_at tokens [] [] k statement read is = absurd (cc is)
read_at tokens [] (s ∷ statements) k statement read is = absurd read
read_at tokens (range ∷ ranges) [] k statement read is = absurd (cc is)
read_at tokens (range ∷ ranges) (s ∷ statements) zero statement (first, read) is = record { range = range; there = refl; read = subst (IsRead tokens range) (cc is) first }
read_at tokens (range ∷ ranges) (s ∷ statements) (suc k) statement (first, read) is =
    let rest = read_at tokens ranges statements k statement read is in record { range = rest.range; there = rest.there; read = rest.read }

-- ---- the mentions of a statement stand at its tokens

in_all : (P : ℕ → Type 0) (ms : List Mention) (m : Mention) → All P (numbers_of ms) → In m ms → P m.token
in_all P [] m all h = absurd h
in_all P (x ∷ ms) m all (inl same) = subst (λ (y : Mention). P y.token) same (All-head P x.token (numbers_of ms) all)
in_all P (x ∷ ms) m all (inr h) = in_all P ms m (All-tail P x.token (numbers_of ms) all) h

one_token : (ms : List Mention) (m k : Mention) → Rise (numbers_of ms) → In m ms → In k ms → m.token ≡ k.token → m ≡ k
one_token [] m k rise h j same = absurd h
one_token (x ∷ ms) m k (first, rise) (inl a) (inl b) same = sym a ∙ b
one_token (x ∷ ms) m k (first, rise) (inl a) (inr j) same =
    let less : x.token < k.token = in_all (λ next. x.token < next) ms k first j in
    let here : x.token ≡ m.token = ap (λ (y : Mention). y.token) a in
    absurd (omega (arith, less, here, same))
one_token (x ∷ ms) m k (first, rise) (inr h) (inl b) same =
    let less : x.token < m.token = in_all (λ next. x.token < next) ms m first h in
    let here : x.token ≡ k.token = ap (λ (y : Mention). y.token) b in
    absurd (omega (arith, less, here, same))
one_token (x ∷ ms) m k (first, rise) (inr h) (inr j) same = one_token ms m k rise h j same

short : {A : Type 0} (n : ℕ) (xs : List A) → length (take n xs) ≤ n
short zero xs = omega arith
short (suc n) [] = omega arith
short (suc n) (x ∷ xs) = let rest : length (take n xs) ≤ n = short n xs in omega (arith, rest)

module _ (tokens : Tokens) (range : Range) (statement : Statement) (read : IsRead tokens range statement) where
  abbrev row : List Token
  row = row_in tokens range

  said : AreNames (has_letters statement.form) range.start row (names_in statement.form)
  said = statement_names statement.form range.start row read.says

  starts : (m : Mention) → In m (mentions_of statement.form) → range.start ≤ m.token
  starts m h = in_all (λ n. range.start ≤ n) (mentions_of statement.form) m (from_first (has_letters statement.form) row range.start (names_in statement.form) said) h

  ends : (m : Mention) → In m (mentions_of statement.form) → m.token < range.end
  ends m h =
      let low : range.start ≤ m.token = starts m h in
      let high : m.token < range.start + length row =
      in_all (λ n. n < range.start + length row) (mentions_of statement.form) m (up_to_last (has_letters statement.form) row range.start (names_in statement.form) said) h in
      let most : length row ≤ range.end - range.start = short (range.end - range.start) (drop range.start tokens.items) in
      omega (arith, low, high, most)

  rises : Rise (names_in statement.form)
  rises = rising (has_letters statement.form) row range.start (names_in statement.form) said

-- ---- of a file

which_first : (s t : ℕ) → (s ≡ t → ⊥) → (s < t) ⊎ (t < s)
which_first zero zero apart = absurd (apart refl)
which_first zero (suc t) apart = inl (omega arith)
which_first (suc s) zero apart = inr (omega arith)
which_first (suc s) (suc t) apart = by (which_first s t (λ same. apart (ap suc same))) where
  by : (s < t) ⊎ (t < s) → (suc s < suc t) ⊎ (suc t < suc s)
  by (inl less) = inl (omega (arith, less))
  by (inr less) = inr (omega (arith, less))

module _ (tree : FileTree) (some : IsSomeTree tree) where
  before : (s t : ℕ) (one other : Statement) (m k : Mention) → s < t → slice_get tree.statements s ≡ Some one → slice_get tree.statements t ≡ Some other
      → In m (mentions_of one.form) → In k (mentions_of other.form) → m.token < k.token
  before s t one other m k less there also h j =
      let text = some.1 in
      let tokens = tokens_of text in
      let a = read_at tokens tokens.statements tree.statements s one some.3.1.read there in
      let b = read_at tokens tokens.statements tree.statements t other some.3.1.read also in
      let apart : a.range.end ≤ b.range.start = ranges_apart 0 (rows_of text) s t a.range b.range less a.there b.there in
      let last : m.token < a.range.end = ends tokens a.range one a.read m h in
      let first : b.range.start ≤ k.token = starts tokens b.range other b.read k j in
      omega (arith, apart, last, first)

  one_in : (s : ℕ) (one : Statement) (m k : Mention) → slice_get tree.statements s ≡ Some one → In m (mentions_of one.form) → In k (mentions_of one.form) → m.token ≡ k.token → m ≡ k
  one_in s one m k there h j same =
      let tokens = tokens_of some.1 in
      let a = read_at tokens tokens.statements tree.statements s one some.3.1.read there in
      one_token (mentions_of one.form) m k (rises tokens a.range one a.read) h j same

  unique_in : (s t : ℕ) (one other : Statement) (m k : Mention) → slice_get tree.statements s ≡ Some one → slice_get tree.statements t ≡ Some other
      → In m (mentions_of one.form) → In k (mentions_of other.form) → m.token ≡ k.token → (s ≡ t) × (m ≡ k)
  unique_in s t one other m k there also h j same = by (cases_eq s t) where
    later : (s < t) ⊎ (t < s) → (s ≡ t) × (m ≡ k)
    later (inl less) = let ordered : m.token < k.token = before s t one other m k less there also h j in absurd (omega (arith, ordered, same))
    later (inr less) = let ordered : k.token < m.token = before t s other one k m less also there j h in absurd (omega (arith, ordered, same))

    by : (s ≡ t) ⊎ (s ≡ t → ⊥) → (s ≡ t) × (m ≡ k)
    by (inl is) =
        let statements : Some one ≡ Some other = sym there ∙ ap (slice_get tree.statements) is ∙ also in
        let equal : one ≡ other = cc statements in
        (is, one_in s one m k there h (subst (λ (x : Statement). In k (mentions_of x.form)) (sym equal) j) same)
    by (inr apart) = later (which_first s t apart)

-- ---- of a project

record There (files : List FileTree) (file s : ℕ) (m : Mention) : Type 0 where
  tree : FileTree
  tree_is : slice_get files file ≡ Some tree
  some : IsSomeTree tree
  statement : Statement
  there : slice_get tree.statements s ≡ Some statement
  here : In m (mentions_of statement.form)

module _ (files : List FileTree) (are : AreTrees files) where
  there_at : (file s : ℕ) (m : Mention) → In m (mentions_at files file s) → There files file s m
  there_at file s m h = by (slice_get files file) refl h where
    in_tree : (tree : FileTree) → slice_get files file ≡ Some tree → (o : Option Statement) → slice_get tree.statements s ≡ o
        → In m (option_map_or mentions_of (option_map (λ (s : Statement). s.form) o) []) → There files file s m
    in_tree tree tree_is None at h = absurd h
    in_tree tree tree_is (Some statement) at h = record {
      tree = tree;
      tree_is = tree_is;
      some = subst IsSomeTree (get_or_from_slice_get files file tree tree tree_is) (are.trees file tree (slice_get_within files file tree tree_is));
      statement = statement;
      there = at;
      here = h;
    }

    by : (o : Option FileTree) → slice_get files file ≡ o → In m (option_map_or mentions_of (option_and_then (form_in s) o) []) → There files file s m
    by None at h = absurd h
    by (Some tree) at h = in_tree tree at (slice_get tree.statements s) refl h

  -- two mentions at one token are one
  pub one_mention : (file s t : ℕ) (m k : Mention) → In m (mentions_at files file s) → In k (mentions_at files file t) → m.token ≡ k.token → (s ≡ t) × (m ≡ k)
  one_mention file s t m k h j same =
      let a = there_at file s m h in
      let b = there_at file t k j in
      let trees : Some b.tree ≡ Some a.tree = sym b.tree_is ∙ a.tree_is in
      let one : b.tree ≡ a.tree = cc trees in
      unique_in a.tree a.some s t a.statement b.statement m k a.there (subst (λ (x : FileTree). slice_get x.statements t ≡ Some b.statement) one b.there) a.here b.here same

  -- ---- what is found at a token

  find_only : {A : Type 0} (p : A → Bool) (xs : List A) (x : A) → In x xs → p x ≡ true → ((y : A) → In y xs → p y ≡ true → y ≡ x) → find p xs ≡ Some x
  find_only p [] x h passes only = absurd h
  find_only {A} p (y ∷ xs) x h passes only = by (p y) refl h (λ j. find_only p xs x j passes (λ z k. only z (inr k))) where
    by : (b : Bool) → p y ≡ b → In x (y ∷ xs) → (In x xs → find p xs ≡ Some x) → cond b (Some y) (find p xs) ≡ Some x
    by true is h rest = ap Some (only y (inl refl) is)
    by false is (inl same) rest = let both : p y ≡ p x = ap p same in absurd (cc (both, is, passes))
    by false is (inr j) rest = rest j

  both_equal : (a b c d : ℕ) → ((a == b) && (c == d)) ≡ true → (a ≡ b) × (c ≡ d)
  both_equal a b c d is = (grind (arith, nat_tests), grind (arith, nat_tests))

  itself : (a b : ℕ) → ((a == a) && (b == b)) ≡ true
  itself a b = grind (arith, nat_tests)

  among : (file s : ℕ) (m : Mention) → In m (mentions_at files file s) → In (denoting files file s m) (denotings files)
  among file s m h =
      let a = there_at file s m h in
      let plain : 0 + file ≡ file = omega arith in
      let less : s < length a.tree.statements = slice_get_within a.tree.statements s a.statement a.there in
      in_flat (λ (numbered : ℕ × FileTree). denotings_in files numbered.0 numbered.1) (enumerate_from 0 files) (file, a.tree) (denoting files file s m)
      (subst (λ n. In (n, a.tree) (enumerate_from 0 files)) plain (in_numbers 0 files file a.tree a.tree_is))
      (in_flat (λ statement. map (denoting files file statement) (mentions_at files file statement)) (range_with_len 0 (length a.tree.statements)) s (denoting files file s m)
      (in_range 0 (length a.tree.statements) s (omega arith) (omega (arith, less)))
      (in_map (denoting files file s) (mentions_at files file s) m h))

  one_denoting : (f t : ℕ) (k : Mention) (file s : ℕ) (m : Mention) (d : Denoting) → denoting files f t k ≡ d → f ≡ file → (t ≡ s) × (k ≡ m) → d ≡ denoting files file s m
  one_denoting f t k file s m d is same (place, one) = sym is ∙ ap (λ x. denoting files x t k) same ∙ ap₂ (λ x y. denoting files file x y) place one

  same_here : (f t : ℕ) (k : Mention) (file s : ℕ) (m : Mention) (d : Denoting) → denoting files f t k ≡ d → In k (mentions_at files f t) → In m (mentions_at files file s) → is_at file m.token d ≡ true
      → d ≡ denoting files file s m
  same_here f t k file s m d made j h is =
      let parts = both_equal f file k.token m.token (ap (is_at file m.token) made ∙ is) in
      one_denoting f t k file s m d made parts.0 (one_mention file t s k m (subst (λ x. In k (mentions_at files x t)) parts.0 j) h parts.1)

  alone : (file s : ℕ) (m : Mention) → In m (mentions_at files file s) → (d : Denoting) → In d (denotings files) → is_at file m.token d ≡ true → d ≡ denoting files file s m
  alone file s m h d j is =
      let w = out_of_flat (λ (numbered : ℕ × FileTree). denotings_in files numbered.0 numbered.1) (enumerate_from 0 files) d j in
      let v = out_of_flat (λ statement. map (denoting files w.of.0 statement) (mentions_at files w.of.0 statement)) (range_with_len 0 (length w.of.1.statements)) d w.here in
      let u = out_of_map (denoting files w.of.0 v.of) (mentions_at files w.of.0 v.of) d v.here in
      same_here w.of.0 v.of u.of file s m d u.is u.among h is

  pub first_denoting : (file s : ℕ) (m : Mention) → In m (mentions_at files file s) → find (is_at file m.token) (denotings files) ≡ Some (denoting files file s m)
  first_denoting file s m h =
      find_only (is_at file m.token) (denotings files) (denoting files file s m) (among file s m h) (itself file m.token) (alone file s m h)

  -- the key at a mention's token is what the mention means
  pub mention_key : (file s : ℕ) (m : Mention) → In m (mentions_at files file s) → key_at files file m.token ≡ key_of (occurrence_meaning files file s m)
  mention_key file s m h = ap (λ o. option_map_or (λ (d : Denoting). key_of d.meaning) o None) (first_denoting file s m h)
