-- Members, blocks and their units are few, since each object stands once among the members.
use Rattle.std.proofs.Common.{zero, suc, ◌≡◌, ◌≢◌, ℕ, ◌+◌, ◌<◌, ◌≤◌, List, [], ◌∷◌, ◌++◌, Bool, true, false, All, AllPairs, map, filter, take, sum, set, length, get_or, refl, sym, ◌∙◌, ap, arith}
use Rattle.std.specs.List.{sum_by}
use Rattle.std.proofs.lemmas.Bool.Decides.{nat_tests}
use Rattle.std.proofs.lemmas.List.{get_or-set_other, length-set, take_more}
use Rattle.std.proofs.lemmas.List.Elements.{All-head, All-tail}
use Rattle.std.proofs.lemmas.List.Sums.{sum_by-set, sum_by-cons, sum-map, sum_by-take-le}
use Rattle.ftn_base.specs.Limits.{most_units_of_all}
use Rattle.ftn_base.specs.declared.storage.Member.{Member}
use Rattle.ftn_base.specs.StorageMembers.{is_in, units_in}
use Rattle.storage_layout.specs.steps.Numbered.{AreNames}
use Rattle.storage_layout.specs.steps.Kept.{AreMembers}
use Rattle.storage_layout.proofs.Start.{filter_first, filter_other}
use Rattle.storage_layout.proofs.Ending.{units_more}

pub sum-cons : (x : ℕ) (xs : List ℕ) → sum (x ∷ xs) ≡ x + sum xs
sum-cons x xs = sum_by-cons (λ (k : ℕ). k) x xs

same_map : {X : Type 0} (f g : X → ℕ) (xs : List X) → All (λ x. f x ≡ g x) xs → map f xs ≡ map g xs
same_map f g [] same = refl
same_map {X} f g (x ∷ xs) same = ap (λ (k : ℕ). k ∷ map f xs) (All-head (λ y. f y ≡ g y) x xs same) ∙ ap (λ (ks : List ℕ). g x ∷ ks) (same_map f g xs (All-tail (λ y. f y ≡ g y) x xs same))

abbrev unit_of : List ℕ → Member → ℕ
unit_of sizes member = get_or sizes member.object 0

pub distinct_sum : (sizes : List ℕ) (members : List Member) → All (λ member. member.object < length sizes) members → AllPairs (λ earlier later. earlier.object ≢ later.object) members
    → sum (map (unit_of sizes) members) ≤ sum sizes
distinct_sum sizes [] there once = omega arith
distinct_sum sizes (member ∷ rest) there once =
    let less : List ℕ = set sizes member.object 0 in
    let inside : member.object < length sizes = All-head (λ m. m.object < length sizes) member rest there in
    let len : length less ≡ length sizes = length-set sizes member.object 0 in
    let later : sum (map (unit_of less) rest) ≤ sum less =
    distinct_sum less rest (λ k d lt. (let old : (get_or rest k d).object < length sizes = All-tail (λ m. m.object < length sizes) member rest there k d lt in let l = len in omega (arith, old, l)))
    (λ i j d before lt. once (suc i) (suc j) d (omega arith) (omega arith)) in
    let same : map (unit_of less) rest ≡ map (unit_of sizes) rest =
    same_map (unit_of less) (unit_of sizes) rest (λ k d lt. get_or-set_other sizes member.object (get_or rest k d).object 0 0 (λ e. once zero (suc k) d (omega arith) (omega arith) (sym e))) in
    let all : sum (map (unit_of sizes) (member ∷ rest)) ≡ unit_of sizes member + sum (map (unit_of sizes) rest) = sum-cons (unit_of sizes member) (map (unit_of sizes) rest) in
    let taken : sum less + get_or sizes member.object 0 ≡ sum sizes + 0 = sum_by-set (λ (k : ℕ). k) sizes member.object 0 0 inside in
    let sums : sum (map (unit_of less) rest) ≡ sum (map (unit_of sizes) rest) = ap sum same in
    omega arith

pub length_least : (xs : List ℕ) → ((i : ℕ) → i < length xs → 1 ≤ get_or xs i 0) → length xs ≤ sum xs
length_least [] filled = omega arith
length_least (x ∷ xs) filled =
    let rest : length xs ≤ sum xs = length_least xs (λ i lt. filled (suc i) (omega arith)) in
    let first : 1 ≤ x = filled zero (omega arith) in
    let all : sum (x ∷ xs) ≡ x + sum xs = sum-cons x xs in
    omega arith

filtered_sum : {X : Type 0} (f : X → ℕ) (p : X → Bool) (xs : List X) → sum (map f (filter p xs)) ≤ sum (map f xs)
filtered_sum f p [] = omega arith
filtered_sum {X} f p (x ∷ xs) = by_case (filtered_sum f p xs) (p x) refl
  where
    by_case : sum (map f (filter p xs)) ≤ sum (map f xs) → (b : Bool) → p x ≡ b → sum (map f (filter p (x ∷ xs))) ≤ sum (map f (x ∷ xs))
    by_case rest true e =
        let kept : sum (map f (filter p (x ∷ xs))) ≡ f x + sum (map f (filter p xs)) = ap (λ (ys : List X). sum (map f ys)) (filter_first p x xs e) ∙ sum-cons (f x) (map f (filter p xs)) in
        let all : sum (map f (x ∷ xs)) ≡ f x + sum (map f xs) = sum-cons (f x) (map f xs) in
        omega arith
    by_case rest false e =
        let kept : sum (map f (filter p (x ∷ xs))) ≡ sum (map f (filter p xs)) = ap (λ (ys : List X). sum (map f ys)) (filter_other p x xs e) in
        let all : sum (map f (x ∷ xs)) ≡ f x + sum (map f xs) = sum-cons (f x) (map f xs) in
        omega arith

pub units_le : (sizes : List ℕ) (members : List Member) (number scope : ℕ) → units_in sizes members number scope ≤ sum (map (unit_of sizes) members)
units_le sizes members number scope = filtered_sum (unit_of sizes) (is_in number scope) members

module _ (sizes : List ℕ) (members : List Member) (are : AreMembers sizes members) where
  pub part_sum : (k : ℕ) → sum (map (unit_of sizes) (take k members)) ≤ sum sizes
  part_sum k =
      let all : sum (map (unit_of sizes) members) ≤ sum sizes = distinct_sum sizes members are.there are.once in
      let whole : sum (map (unit_of sizes) members) ≡ sum_by (unit_of sizes) members = sum-map (unit_of sizes) members in
      let part : sum (map (unit_of sizes) (take k members)) ≡ sum_by (unit_of sizes) (take k members) = sum-map (unit_of sizes) (take k members) in
      let le : sum_by (unit_of sizes) (take k members) ≤ sum_by (unit_of sizes) members = sum_by-take-le (unit_of sizes) members k in
      omega arith

  pub objects_few : length sizes ≤ most_units_of_all
  objects_few = let le : length sizes ≤ sum sizes = length_least sizes are.filled in let small : sum sizes ≤ most_units_of_all = are.small in omega arith

  pub names_few : (k : ℕ) (names block_sizes : List ℕ) → AreNames sizes (take k members) names block_sizes → length names ≤ most_units_of_all
  names_few k names block_sizes names_are =
      let sized : length block_sizes ≡ length names = names_are.sized in
      let le : length block_sizes ≤ sum block_sizes = length_least block_sizes (λ i lt. names_are.filled i (omega arith)) in
      let sums : sum block_sizes ≤ sum (map (unit_of sizes) (take k members)) = names_are.small in
      let part = part_sum k in
      let small : sum sizes ≤ most_units_of_all = are.small in
      omega arith

  pub end_few : (k : ℕ) (d : Member) → k < length members
      → units_in sizes (take k members) (get_or members k d).block (get_or members k d).scope + get_or sizes (get_or members k d).object 0 ≤ most_units_of_all
  end_few k d lt =
      let member : Member = get_or members k d in
      let same : is_in (get_or members k d).block (get_or members k d).scope (get_or members k d) ≡ true = is_own (get_or members k d) in
      let more : units_in sizes (take k members ++ get_or members k d ∷ []) (get_or members k d).block (get_or members k d).scope
      ≡ units_in sizes (take k members) (get_or members k d).block (get_or members k d).scope + get_or sizes (get_or members k d).object 0 =
      units_more sizes (take k members) (get_or members k d) (get_or members k d).block (get_or members k d).scope same in
      let next : units_in sizes (take (k + 1) members) (get_or members k d).block (get_or members k d).scope ≡ units_in sizes (take k members ++ get_or members k d ∷ []) (get_or members k d).block (get_or members k d).scope =
      ap (λ (ms : List Member). units_in sizes ms (get_or members k d).block (get_or members k d).scope) (take_more members k d lt) in
      let le = units_le sizes (take (k + 1) members) (get_or members k d).block (get_or members k d).scope in
      let part = part_sum (k + 1) in
      let small : sum sizes ≤ most_units_of_all = are.small in
      omega (arith, more, next, le, part, small)
    where
      is_own : (m : Member) → is_in m.block m.scope m ≡ true
      is_own m = grind (arith, nat_tests)

  pub member_there : (k : ℕ) (d : Member) → k < length members → (get_or members k d).object < length sizes
  member_there k d lt = are.there k d lt
