-- A scoping unit is inside another one exactly where that one is among those around it.
use Rattle.std.proofs.Common.{◌≡◌, ℕ, zero, suc, ◌+◌, ◌≤◌, ◌<◌, Bool, true, false, ◌||◌, List, [], ◌∷◌, ◌++◌, length, map, Option, Some, None, inl, inr, refl, sym, ap, ap₂, ◌∙◌, arith}
use Rattle.std.specs.Prelude.{◌==◌, slice_get}
use Rattle.std.specs.List.{list_any}
use Rattle.std.specs.Option.{option_and_then, option_map, option_map_or}
use Rattle.std.proofs.lemmas.List.Folds.{list_any-append}
use Rattle.std.proofs.lemmas.Option.{slice_get-map}
use Rattle.ftn_tree.specs.declared.table.Extent.{Extent}
use Rattle.ftn_tree.specs.declared.unit.FileTree.{FileTree}
use Rattle.ftn_tree.specs.Extents.{same_extent, scoping}
use Rattle.ftn_tree.specs.KeyKinds.{is_result_in}
use Rattle.ftn_tree.specs.Projects.{AreTrees}
use Rattle.ftn_tree.specs.Scopes.{chain, host_number}
use Rattle.decl_table.proofs.Arounds.{split_at}
use Rattle.decl_table.proofs.Hosts.{stands_in_front}
use Rattle.decl_table.proofs.OwnStatements.{told_apart}
use Rattle.decl_table.proofs.Paths.{HasHost, HostCase, host_case}
use Rattle.name_types.specs.steps.Senses.{host_in, is_inside, is_within}

in_range : {A : Type 0} (xs : List A) (k : ℕ) (x : A) → slice_get xs k ≡ Some x → k < length xs
in_range [] k x is = absurd (cc is)
in_range (y ∷ xs) zero x is = omega arith
in_range (y ∷ xs) (suc k) x is = let less : k < length xs = in_range xs k x is in omega (arith, less)

zero_plus : (k : ℕ) → k ≡ 0 + k
zero_plus k = omega arith

either_way : (a b : Bool) → (a || b) ≡ (b || (a || false))
either_way true true = refl
either_way true false = refl
either_way false true = refl
either_way false false = refl

module _ (files : List FileTree) (are : AreTrees files) (hosts : List (Option ℕ)) (those : hosts ≡ map (host_number files) (scoping files))
    (outer : ℕ) (f : Extent) (there : slice_get (scoping files) outer ≡ Some f) where
  host_is : (scope : ℕ) (e : Extent) → slice_get (scoping files) scope ≡ Some e → slice_get hosts scope ≡ Some (host_number files e)
  host_is scope e here =
      ap (λ (all : List (Option ℕ)). slice_get all scope) those ∙ slice_get-map (host_number files) (scoping files) scope ∙ ap (option_map (host_number files)) here

  apart : (scope : ℕ) (e : Extent) → slice_get (scoping files) scope ≡ Some e → (scope == outer) ≡ same_extent f e
  apart scope e here = told_apart files are outer scope f e there here

  abbrev Right : ℕ → Type 0
  Right n = (scope : ℕ) (e : Extent) → scope ≤ n → slice_get (scoping files) scope ≡ Some e → is_within n hosts outer scope ≡ list_any (same_extent f) (chain files e)

  alone : (scope : ℕ) (e : Extent) → slice_get (scoping files) scope ≡ Some e → chain files e ≡ e ∷ [] → ((scope == outer) || false) ≡ list_any (same_extent f) (chain files e)
  alone scope e here is = ap (λ b. b || false) (apart scope e here) ∙ sym (ap (list_any (same_extent f)) is)

  further : (n : ℕ) → Right n → (scope : ℕ) (e : Extent) → scope ≤ suc n → slice_get (scoping files) scope ≡ Some e → (pre post : List Extent) → scoping files ≡ pre ++ e ∷ post
      → length pre ≡ scope → HasHost files pre e → is_within (suc n) hosts outer scope ≡ list_any (same_extent f) (chain files e)
  further n right scope e most here pre post split long (h, j, front, number, found, its, is) =
      let less : j < length pre = in_range pre j h found in
      let at : slice_get (scoping files) j ≡ Some h =
      ap (λ (all : List Extent). slice_get all j) split ∙ ap (λ n. slice_get (pre ++ e ∷ post) n) (zero_plus j) ∙ stands_in_front pre (e ∷ post) j h found in
      let host : host_in hosts scope ≡ Some j = ap (option_and_then (λ host. host)) (host_is scope e here) ∙ number in
      let walk : is_within n hosts outer j ≡ list_any (same_extent f) (chain files h) = right j h (omega (arith, less, long, most)) at in
      ap₂ (λ b o. b || option_map_or (is_within n hosts outer) o false) (apart scope e here) host
      ∙ ap (λ b. same_extent f e || b) walk
      ∙ either_way (same_extent f e) (list_any (same_extent f) (chain files h))
      ∙ sym (list_any-append (same_extent f) (chain files h) (e ∷ []))
      ∙ sym (ap (list_any (same_extent f)) is)

  by_host : (n : ℕ) → Right n → (scope : ℕ) (e : Extent) → scope ≤ suc n → slice_get (scoping files) scope ≡ Some e → (pre post : List Extent) → scoping files ≡ pre ++ e ∷ post
      → length pre ≡ scope → HostCase files pre e → is_within (suc n) hosts outer scope ≡ list_any (same_extent f) (chain files e)
  by_host n right scope e most here pre post split long (inl (number, is)) =
      let host : host_in hosts scope ≡ None = ap (option_and_then (λ host. host)) (host_is scope e here) ∙ number in
      ap (λ o. (scope == outer) || option_map_or (is_within n hosts outer) o false) host ∙ alone scope e here is
  by_host n right scope e most here pre post split long (inr has) = further n right scope e most here pre post split long has

  or_false : (b : Bool) → b ≡ (b || false)
  or_false true = refl
  or_false false = refl

  at_first : (scope : ℕ) (e : Extent) → scope ≤ 0 → slice_get (scoping files) scope ≡ Some e → (pre : List Extent) → length pre ≡ scope → HostCase files pre e
      → (scope == outer) ≡ list_any (same_extent f) (chain files e)
  at_first scope e most here pre long (inl (number, is)) = or_false (scope == outer) ∙ alone scope e here is
  at_first scope e most here pre long (inr (h, j, front, number, found, its, is)) =
      let less : j < length pre = in_range pre j h found in absurd (omega (arith, less, long, most))

  within : (n : ℕ) → Right n
  within zero scope e most here =
      let (pre, post, split, long) = split_at (scoping files) scope e here in at_first scope e most here pre long (host_case files are pre e post split)
  within (suc n) scope e most here =
      let (pre, post, split, long) = split_at (scoping files) scope e here in by_host n (within n) scope e most here pre post split long (host_case files are pre e post split)

  pub inside_is : (scope : ℕ) (e : Extent) → slice_get (scoping files) scope ≡ Some e → is_inside hosts outer scope ≡ is_result_in files e f
  inside_is scope e here =
      let less : scope < length hosts = in_range hosts scope (host_number files e) (host_is scope e here) in within (length hosts) scope e (omega (arith, less)) here
