-- The numbers of entities by their provisional numbers: one more entity in front.
use Rattle.std.proofs.Common.{◌≡◌, ℕ, zero, suc, ◌+◌, ◌<◌, ◌≤◌, Bool, true, false, cond, List, [], ◌∷◌, length, get_or, set, Option, Some, None, refl, sym, ap, ap₂, ◌∙◌, subst, arith, ◌⊎◌, inl, inr}
use Rattle.std.specs.Prelude.{◌&&◌, ◌||◌, not, nat_eq, nat_lt, slice_get, slice_set, is_some}
use Rattle.std.specs.List.{position, position_from}
use Rattle.std.specs.Option.{option_map, option_map_or, option_eq}
use Rattle.std.specs.Str.{bytes_eq}
use Rattle.std.proofs.lemmas.Bool.Decides.{nat_tests}
use Rattle.std.proofs.lemmas.Bool.{and_parts, cases_eq}
use Rattle.std.proofs.lemmas.Iterator.Adapters.{position_from-zero}
use Rattle.std.proofs.lemmas.List.{get_or-set_other, get_or-set_same, length-set}
use Rattle.std.proofs.lemmas.Option.{slice_get-get_or}
use Rattle.ftn_tree.specs.declared.table.Entity.{Entity}
use Rattle.ftn_tree.specs.declared.unit.FileTree.{FileTree}
use Rattle.ftn_tree.specs.Bindings.{is_entity_of}
use Rattle.ftn_tree.specs.Meanings.{Key}
use Rattle.scope_bind.specs.steps.Entities.{first_entity, put_if}

-- ---- the first entity

next_from : {X : Type 0} (test : X → Bool) (xs : List X) (n at : ℕ) → option_map_or (λ index. index + at) (position_from test (n + 1) xs) 0 ≡ option_map_or (λ index. index + (at + 1)) (position_from test n xs) 0
next_from test [] n at = refl
next_from test (x ∷ xs) n at = by (test x) (next_from test xs (n + 1) at) where
  by : (b : Bool) → option_map_or (λ index. index + at) (position_from test (n + 1 + 1) xs) 0 ≡ option_map_or (λ index. index + (at + 1)) (position_from test (n + 1) xs) 0
      → option_map_or (λ index. index + at) (cond b (Some (n + 1)) (position_from test (n + 1 + 1) xs)) 0 ≡ option_map_or (λ index. index + (at + 1)) (cond b (Some n) (position_from test (n + 1) xs)) 0
  by true rest = omega arith
  by false rest = rest

pub one_more : (files : List FileTree) (key : Key) (at : ℕ) (entity : Entity) (rest : List Entity)
    → first_entity files key at (entity ∷ rest) ≡ cond (is_entity_of files key entity) at (first_entity files key (at + 1) rest)
one_more files key at entity rest =
    ap (λ o. option_map_or (λ index. index + at) o 0) (position_from-zero test (entity ∷ rest))
    ∙ by (test entity) (next_from test rest 0 at ∙ ap (λ o. option_map_or (λ index. index + (at + 1)) o 0) (sym (position_from-zero test rest)))
  where
    test : Entity → Bool
    test = is_entity_of files key

    by : (b : Bool) → option_map_or (λ index. index + at) (position_from test (0 + 1) rest) 0 ≡ first_entity files key (at + 1) rest
        → option_map_or (λ index. index + at) (cond b (Some 0) (position_from test (0 + 1) rest)) 0 ≡ cond b at (first_entity files key (at + 1) rest)
    by true more = omega arith
    by false more = more

-- ---- what is written

abbrev pub hits : Option ℕ → ℕ → Bool
hits None k = false
hits (Some n) k = nat_eq n k

pub put_long : (number : Option ℕ) (at : ℕ) (numbers : List ℕ) → length (put_if number at numbers) ≡ length numbers
put_long None at numbers = refl
put_long (Some n) at numbers = by (nat_lt n (length numbers)) where
  by : (b : Bool) → length (cond b (slice_set numbers n at) numbers) ≡ length numbers
  by true = length-set numbers n at
  by false = refl

equal_test : (m n : ℕ) → m ≡ n → nat_eq m n ≡ true
equal_test m n same = grind (arith, nat_tests)

differ_test : (m n : ℕ) → (m ≡ n → ⊥) → nat_eq m n ≡ false
differ_test m n differ = grind (arith, nat_tests)

set_there : (numbers : List ℕ) (n at k : ℕ) → n < length numbers → k < length numbers → slice_get (slice_set numbers n at) k ≡ cond (nat_eq n k) (Some at) (slice_get numbers k)
set_there numbers n at k less within = by (cases_eq n k) where
  long : k < length (slice_set numbers n at)
  long = subst (λ l. k < l) (sym (length-set numbers n at)) within

  by : (n ≡ k) ⊎ (n ≡ k → ⊥) → slice_get (slice_set numbers n at) k ≡ cond (nat_eq n k) (Some at) (slice_get numbers k)
  by (inl same) =
      ap (slice_get (slice_set numbers n at)) (sym same)
      ∙ slice_get-get_or (slice_set numbers n at) n 0 (subst (λ l. n < l) (sym (length-set numbers n at)) less)
      ∙ ap Some (get_or-set_same numbers n at 0 less)
      ∙ sym (ap (λ b. cond b (Some at) (slice_get numbers k)) (equal_test n k same))
  by (inr differ) =
      slice_get-get_or (slice_set numbers n at) k 0 long
      ∙ ap Some (get_or-set_other numbers n k at 0 (λ same. differ (sym same)))
      ∙ sym (slice_get-get_or numbers k 0 within)
      ∙ sym (ap (λ b. cond b (Some at) (slice_get numbers k)) (differ_test n k differ))

pub put_there : (number : Option ℕ) (at : ℕ) (numbers : List ℕ) (k : ℕ) → k < length numbers → slice_get (put_if number at numbers) k ≡ cond (hits number k) (Some at) (slice_get numbers k)
put_there None at numbers k within = refl
put_there (Some n) at numbers k within = by (nat_lt n (length numbers)) refl where
  by : (b : Bool) → nat_lt n (length numbers) ≡ b → slice_get (cond b (slice_set numbers n at) numbers) k ≡ cond (nat_eq n k) (Some at) (slice_get numbers k)
  by true is = set_there numbers n at k (grind (arith, nat_tests, is)) within
  by false is =
      let past : length numbers ≤ n = grind (arith, nat_tests, is) in
      sym (ap (λ b. cond b (Some at) (slice_get numbers k)) (differ_test n k (λ same. omega (arith, past, within, same))))

either_put : (a b : Bool) (x y : Option ℕ) → cond b x (cond a x y) ≡ cond (a || b) x y
either_put true true x y = refl
either_put true false x y = refl
either_put false true x y = refl
either_put false false x y = refl

-- all three
pub put_all : (one two three : Option ℕ) (at : ℕ) (numbers : List ℕ) (k : ℕ) → k < length numbers
    → slice_get (put_if three at (put_if two at (put_if one at numbers))) k ≡ cond (hits one k || hits two k || hits three k) (Some at) (slice_get numbers k)
put_all one two three at numbers k within =
    let first : k < length (put_if one at numbers) = subst (λ l. k < l) (sym (put_long one at numbers)) within in
    let second : k < length (put_if two at (put_if one at numbers)) = subst (λ l. k < l) (sym (put_long two at (put_if one at numbers))) first in
    put_there three at (put_if two at (put_if one at numbers)) k second
    ∙ ap (cond (hits three k) (Some at)) (put_there two at (put_if one at numbers) k first ∙ ap (cond (hits two k) (Some at)) (put_there one at numbers k within)
    ∙ either_put (hits one k) (hits two k) (Some at) (slice_get numbers k))
    ∙ either_put (hits one k || hits two k) (hits three k) (Some at) (slice_get numbers k)
    ∙ ap (λ b. cond b (Some at) (slice_get numbers k)) (join (hits one k) (hits two k) (hits three k))
  where
    join : (a b c : Bool) → ((a || b) || c) ≡ (a || b || c)
    join true b c = refl
    join false b c = refl
