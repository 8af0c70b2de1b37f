-- Places in lists of values of names.
use Rattle.std.proofs.Common.{◌≡◌, ℕ, suc, ◌+◌, ◌-◌, ◌<◌, ◌≤◌, Bool, true, false, cond, ◌||◌, List, [], ◌∷◌, ◌++◌, length, map, set, Some, bytes_eq, refl, subst, ap, ap₂, ◌∙◌, arith}
use Rattle.std.specs.Prelude.{slice_get}
use Rattle.std.specs.Cmp.Lexicographic.{nat_list_eq_equiv}
use Rattle.std.proofs.lemmas.List.{set-append_right}
use Rattle.std.proofs.lemmas.Slice.Eq.{bytes_eq-Decides}
use Rattle.decl_table.specs.steps.Seen.{is_among}
use Rattle.const_value.specs.steps.Names.{number_from}
use Rattle.const_value.proofs.NamePlaces.{AreApart}

pub same_bytes : (a b : List ℕ) → bytes_eq a b ≡ true → a ≡ b
same_bytes a b is = (bytes_eq-Decides a b).0 (grind arith)

-- ---- places in a list behind another one

pub get_behind : {X : Type 0} (xs ys : List X) (k : ℕ) → slice_get (xs ++ ys) (length xs + k) ≡ slice_get ys k
get_behind [] ys k = let same : 0 + k ≡ k = omega arith in ap (slice_get ys) same
get_behind (x ∷ xs) ys k = let same : suc (length xs) + k ≡ suc (length xs + k) = omega arith in ap (slice_get (x ∷ (xs ++ ys))) same ∙ get_behind xs ys k

pub set_behind : {X : Type 0} (xs ys : List X) (k : ℕ) (y : X) → set (xs ++ ys) (length xs + k) y ≡ xs ++ set ys k y
set_behind xs ys k y =
    let over : length xs ≤ length xs + k = omega arith in
    let left : length xs + k - length xs ≡ k = omega arith in
    set-append_right xs ys (length xs) (length xs + k) y refl over ∙ ap (λ j. xs ++ set ys j y) left

-- ---- one of a list of names gets another value

module _ {A : Type 0} (g h : List ℕ → A) (name : List ℕ) (others : (x : List ℕ) → bytes_eq name x ≡ false → h x ≡ g x) where
  pub same_others : (names : List (List ℕ)) → is_among name names ≡ false → map h names ≡ map g names
  same_others [] apart = refl
  same_others (x ∷ names) apart = by (bytes_eq x name) refl apart (same_others names) where
    by : (b : Bool) → bytes_eq x name ≡ b → (b || is_among name names) ≡ false → (is_among name names ≡ false → map h names ≡ map g names) → h x ∷ map h names ≡ g x ∷ map g names
    by true same not_there rest = absurd (cc not_there)
    by false differ not_there rest = ap₂ (λ y ys. y ∷ ys) (others x (nat_list_eq_equiv.symm name x ∙ differ)) (rest not_there)

  pub record Put (first : ℕ) (v : A) (names : List (List ℕ)) : Type 0 where
    pub k : ℕ
    pub number : number_from first name names ≡ Some (first + k)
    pub within : k < length names
    pub here : slice_get (map g names) k ≡ Some (g name)
    pub made : map h names ≡ set (map g names) k v

  pub put_there : (first : ℕ) (v : A) (names : List (List ℕ)) → h name ≡ v → AreApart names → is_among name names ≡ true → Put first v names
  put_there first v [] is apart there = absurd (cc there)
  put_there first v (x ∷ names) is apart there = by (bytes_eq x name) refl there (put_there (first + 1) v names is apart.1) where
    by : (b : Bool) → bytes_eq x name ≡ b → (b || is_among name names) ≡ true → (is_among name names ≡ true → Put (first + 1) v names) → Put first v (x ∷ names)
    by true same is_there rest =
        let one : x ≡ name = same_bytes x name same in
        let found : bytes_eq name x ≡ true = nat_list_eq_equiv.symm name x ∙ same in
        let none : is_among name names ≡ false = subst (λ n. is_among n names ≡ false) one apart.0 in
        let start : first ≡ first + 0 = omega arith in record {
          k = 0;
          number = ap (λ b. cond b (Some first) (number_from (first + 1) name names)) found ∙ ap Some start;
          within = omega arith;
          here = ap (λ n. Some (g n)) one;
          made = ap₂ (λ y ys. y ∷ ys) (ap h one ∙ is) (same_others names none);
        }
    by false differ is_there rest =
        let more = rest is_there in
        let away : bytes_eq name x ≡ false = nat_list_eq_equiv.symm name x ∙ differ in
        let moved : first + 1 + more.k ≡ first + suc more.k = omega arith in
        let less : more.k < length names = more.within in record {
          k = suc more.k;
          number = ap (λ b. cond b (Some first) (number_from (first + 1) name names)) away ∙ more.number ∙ ap Some moved;
          within = omega (arith, less);
          here = more.here;
          made = ap₂ (λ y ys. y ∷ ys) (others x away) more.made;
        }
