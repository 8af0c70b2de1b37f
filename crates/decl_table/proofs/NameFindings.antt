-- What is found at a saying by the first sayings before it is what is defined.
use Rattle.std.proofs.Common.{◌≡◌, ℕ, Bool, true, false, cond, List, [], ◌∷◌, ◌++◌, append_assoc, append-nil, length, find, Some, None, is_some, option_map, option_and_then, sym, ap, ap₂, ◌∙◌}
use Rattle.std.specs.Prelude.{◌&&◌, ◌||◌, not, slice_get}
use Rattle.std.specs.Cmp.Lexicographic.{nat_list_eq_equiv}
use Rattle.ftn_base.specs.declared.fault.FaultKind.TheVariants.{Conflicting}
use Rattle.ftn_tree.specs.declared.table.ScopeKind.{ScopeKind}
use Rattle.ftn_tree.specs.Sayings as said
use Rattle.ftn_tree.specs.Sayings.{Saying, same_name}
use Rattle.ftn_tree.specs.Exclusions.{is_twice, is_twice_itself, is_excluded}
use Rattle.ftn_tree.specs.DeclarationFaults as spec
use Rattle.ftn_tree.specs.DeclarationFaults.{found, is_module, is_block_data, place_of_saying}
use Rattle.decl_table.specs.steps.Firsts.{place, firsts_of, alone, joined}
use Rattle.decl_table.specs.steps.Rules.{twice}
use Rattle.decl_table.specs.steps.NameFindings.{partner, found_twice, twice_finding, is_misplaced, is_conflicting, conflicting_finding}
use Rattle.decl_table.proofs.Places.{place_found, any_placed}
use Rattle.decl_table.proofs.FirstSayings.{joined_is}
use Rattle.decl_table.proofs.FirstRules.{is_there, its, twice_is, excluding_is, conflicting_is}

-- with itself, where it alone makes a second declaration
with_itself : (before : List Saying) (s : Saying) (i : ℕ) → i ≡ length before → (b : Bool)
    → cond b (joined i (firsts_of (same_name s.name) before) (alone s)) (firsts_of (same_name s.name) before) ≡ firsts_of (same_name s.name) (before ++ cond b (s ∷ []) [])
with_itself before s i last true = joined_is (same_name s.name) before s i last (nat_list_eq_equiv.refl s.name)
with_itself before s i last false = ap (firsts_of (same_name s.name)) (sym (append-nil before))

module _ (before : List Saying) (s : Saying) where
  pub twice_found : (file : ℕ) (rest : List Saying) (i : ℕ) → i ≡ length before
      → twice_finding file (before ++ s ∷ rest) s (partner i (firsts_of (same_name s.name) before) (alone s) s) ≡ option_map (found_twice file s) (spec.partner before s)
  twice_found file rest i last =
      ap (λ o. option_map (found_twice file s) (option_and_then (slice_get (before ++ s ∷ rest)) o))
      (ap (λ f. twice f (alone s)) (with_itself before s i last (is_twice_itself s)) ∙ (twice_is (same_name s.name) (before ++ cond (is_twice_itself s) (s ∷ []) []) s).told)
      ∙ ap (option_map (found_twice file s)) (by (is_twice_itself s))
    where
      by : (b : Bool) → option_and_then (slice_get (before ++ s ∷ rest)) (place (λ e. same_name s.name e && is_twice e s) (before ++ cond b (s ∷ []) []))
          ≡ find (λ e. same_name s.name e && is_twice e s) (before ++ cond b (s ∷ []) [])
      by true = ap (λ zs. option_and_then (slice_get zs) (place (λ e. same_name s.name e && is_twice e s) (before ++ s ∷ []))) (sym (append_assoc before (s ∷ []) rest))
          ∙ place_found (λ e. same_name s.name e && is_twice e s) (before ++ s ∷ []) rest
      by false = ap (λ zs. option_and_then (slice_get zs) (place (λ e. same_name s.name e && is_twice e s) (before ++ []))) (ap (λ xs. xs ++ s ∷ rest) (sym (append-nil before)))
          ∙ place_found (λ e. same_name s.name e && is_twice e s) (before ++ []) (s ∷ rest)

  misplaced_is : (kind : ScopeKind) → is_misplaced kind (firsts_of (same_name s.name) before) (alone s) ≡ spec.is_misplaced kind before s
  misplaced_is kind = ap₂ (λ a b. a || b) (ap₂ (λ a b. a && not b) (is_there {s = s} (its said.intent)) (sym (any_placed (λ e. same_name s.name e && said.dummy e) before)))
      (ap₂ (λ a b. (a || b) && not (is_module kind)) (is_there {s = s} (its said.public)) (is_there {s = s} (its said.private)))

  conflicting_is_so : (kind : ScopeKind) → is_conflicting kind (firsts_of (same_name s.name) before) (alone s) ≡ spec.is_conflicting kind before s
  conflicting_is_so kind =
      let block_data = is_block_data kind in
      ap₂ (λ a b. a || b) (ap₂ (λ a b. a || b) (is_there (excluding_is (λ x. true) (s ∷ []) s block_data)) (misplaced_is kind))
      (ap is_some (conflicting_is (same_name s.name) before s block_data).told ∙ sym (any_placed (λ e. same_name s.name e && is_excluded block_data e s) before))

  pub conflicting_found : (kind : ScopeKind) (file : ℕ)
      → conflicting_finding kind file (firsts_of (same_name s.name) before) (alone s) s ≡ cond (spec.is_conflicting kind before s) (Some (found Conflicting (place_of_saying file s))) None
  conflicting_found kind file = ap (λ b. cond b (Some (found Conflicting (place_of_saying file s))) None) (conflicting_is_so kind)
