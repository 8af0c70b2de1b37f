-- The names of one scoping unit after the other.
use Rattle.std.proofs.Common.{◌≡◌, ℕ, zero, suc, ◌+◌, ◌<◌, ◌≤◌, Bool, Vec, List, [], ◌∷◌, ◌++◌, length, map, get_or, take, drop, Option, Some, ◌⊎◌, inl, inr, refl, sym, ap, ap₂, ◌∙◌, arith, append_assoc, length-append}
use Rattle.std.specs.Prelude.{slice_get}
use Rattle.std.specs.Borrow.{Bor}
use Rattle.std.specs.List.{flat_map}
use Rattle.std.specs.Option.{option_and_then}
use Rattle.std.proofs.lemmas.Bool.{cases_lt}
use Rattle.std.proofs.lemmas.List.{drop_more, flat_map_more, get_or-map, length-map, take_more}
use Rattle.std.proofs.lemmas.Option.{slice_get-get_or, slice_get_past}
use Rattle.indexmap.specs.IndexMap.{IndexMap}
use Rattle.ftn_tree.specs.declared.table.Scope.{Scope}
use Rattle.ftn_tree.specs.DeclarationFaults.{is_block_data}
use Rattle.ftn_tree.specs.DeclaredEntities.{names_after}
use Rattle.ftn_tree.specs.Sayings.{Saying}
use Rattle.const_value.specs.declared.name_numbers.Owned.{Owned}
use Rattle.const_value.specs.steps.Names.{first_of, number_at, number_from, number_in, number_of, owned, owned_from, owned_in}
use Rattle.const_value.proofs.NamedPlaces.{get_behind}

get_before : {X : Type 0} (xs ys : List X) (k : ℕ) → k < length xs → slice_get (xs ++ ys) k ≡ slice_get xs k
get_before [] ys k less = absurd (omega arith)
get_before (x ∷ xs) ys zero less = refl
get_before (x ∷ xs) ys (suc k) less = get_before xs ys k (omega arith)

module _ (said : List (List Saying)) (i : ℕ) (here : List Saying) (less : i < length said) (is : here ≡ get_or said i here) where
  there : slice_get said i ≡ Some here
  there = slice_get-get_or said i here less ∙ ap Some (sym is)

  pub numbers_more : {S : Type 0} (kept : List (IndexMap (Bor (List ℕ)) ℕ S)) (one : IndexMap (Bor (List ℕ)) ℕ S) (base : ℕ) → length kept ≡ i → base ≡ first_of said i
      → ((scope : ℕ) (name : List ℕ) → scope < i → number_at kept scope name ≡ number_of said scope name) → ((name : List ℕ) → number_in one name ≡ number_from base name (names_after [] here))
      → (scope : ℕ) (name : List ℕ) → scope < i + 1 → number_at (kept ++ one ∷ []) scope name ≡ number_of said scope name
  numbers_more {S} kept one base long first old new scope name below = by (cases_lt scope i) where
    at : Option (IndexMap (Bor (List ℕ)) ℕ S) → Option ℕ
    at o = option_and_then (λ (numbers : IndexMap (Bor (List ℕ)) ℕ S). number_in numbers name) o

    by : (scope < i) ⊎ (i ≤ scope) → at (slice_get (kept ++ one ∷ []) scope) ≡ number_of said scope name
    by (inl before) = ap at (get_before kept (one ∷ []) scope (omega (arith, long, before))) ∙ old scope name before
    by (inr after) =
        let same : scope ≡ i = omega (arith, below, after) in
        let place : scope ≡ length kept + 0 = omega (arith, same, long) in
        ap at (ap (slice_get (kept ++ one ∷ [])) place ∙ get_behind kept (one ∷ []) 0) ∙ new name ∙ ap (λ n. number_from n name (names_after [] here)) first
        ∙ sym (ap (option_and_then (λ (s : List Saying). number_from (first_of said i) name (names_after [] s))) there) ∙ ap (λ n. number_of said n name) (sym same)

  pub size_more : (old new : List Owned) (scope file : ℕ) (kind : Bool) → length old ≡ first_of said i → new ≡ old ++ owned_in scope file kind here → length new ≡ first_of said (i + 1)
  size_more old new scope file kind long made =
      let one : length new ≡ length old + length (owned_in scope file kind here) = ap length made ∙ length-append old (owned_in scope file kind here) in
      let two : length (owned_in scope file kind here) ≡ length (names_after [] here) = length-map (names_after [] here) (owned scope file kind here) in
      let three : first_of said (i + 1) ≡ first_of said i + length (names_after [] here) =
      ap (λ xs. length (flat_map (names_after []) xs)) (take_more said i here less ∙ ap (λ (s : List Saying). take i said ++ s ∷ []) (sym is))
      ∙ ap length (sym (flat_map_more (names_after []) [] (take i said) here)) ∙ length-append (flat_map (names_after []) (take i said)) (names_after [] here) in
      omega (arith, one, two, three, long)

  pub owned_more : (scopes : List Scope) (entry : Scope) (whole old new : List Owned) → i < length scopes → entry ≡ get_or scopes i entry → new ≡ old ++ owned_in i entry.unit.file (is_block_data entry.kind) here
      → whole ≡ old ++ owned_from i (drop i scopes) (drop i said) → whole ≡ new ++ owned_from (i + 1) (drop (i + 1) scopes) (drop (i + 1) said)
  owned_more scopes entry whole old new within at made before =
      before
      ∙ ap₂ (λ (xs : List Scope) (ys : List (List Saying)). old ++ owned_from i xs ys)
      (drop_more scopes i entry within ∙ ap (λ (x : Scope). x ∷ drop (i + 1) scopes) (sym at)) (drop_more said i here less ∙ ap (λ (x : List Saying). x ∷ drop (i + 1) said) (sym is))
      ∙ sym (append_assoc old (owned_in i entry.unit.file (is_block_data entry.kind) here) (owned_from (i + 1) (drop (i + 1) scopes) (drop (i + 1) said)))
      ∙ ap (λ xs. xs ++ owned_from (i + 1) (drop (i + 1) scopes) (drop (i + 1) said)) (sym made)

pub numbers_all : {S : Type 0} (said : List (List Saying)) (kept : List (IndexMap (Bor (List ℕ)) ℕ S)) (i : ℕ) → length kept ≡ i → length said ≡ i
    → ((scope : ℕ) (name : List ℕ) → scope < i → number_at kept scope name ≡ number_of said scope name) → (scope : ℕ) (name : List ℕ) → number_at kept scope name ≡ number_of said scope name
numbers_all {S} said kept i long size old scope name = by (cases_lt scope i) where
  by : (scope < i) ⊎ (i ≤ scope) → number_at kept scope name ≡ number_of said scope name
  by (inl before) = old scope name before
  by (inr after) =
      ap (option_and_then (λ (numbers : IndexMap (Bor (List ℕ)) ℕ S). number_in numbers name)) (slice_get_past kept scope (omega (arith, long, after)))
      ∙ sym (ap (option_and_then (λ (s : List Saying). number_from (first_of said scope) name (names_after [] s))) (slice_get_past said scope (omega (arith, size, after))))

-- ---- lists of sayings as they lie in memory, and as contracts see them

abbrev pub lists_in : {A : Type 0} → List (Vec Saying A) → List (List Saying)
lists_in lists = map (λ one. one.items) lists

pub lists_long : {A : Type 0} (lists : List (Vec Saying A)) → length (lists_in lists) ≡ length lists
lists_long lists = length-map lists (λ one. one.items)

pub lent_here : {A : Type 0} (lists : List (Vec Saying A)) (i scope : ℕ) (v : Vec Saying A) (here : List Saying) → i < length lists → scope ≡ i → v ≡ get_or lists scope v → here ≡ v.items
    → here ≡ get_or (lists_in lists) i here
lent_here lists i scope v here less same at is = is ∙ ap (λ one. one.items) (at ∙ ap (λ k. get_or lists k v) same) ∙ sym (get_or-map (λ one. one.items) lists i v here less)
