-- One turn over the sayings of a scoping unit.
use Rattle.std.proofs.Common.{◌≡◌, ℕ, suc, ◌+◌, ◌<◌, arith, Bool, true, false, cond, List, [], ◌∷◌, ◌++◌, take, drop, length, get_or, drop-cons, take-append-drop, Option, Some, None, option_map, bytes_eq, refl, sym, ap, ap₂, ◌∙◌}
use Rattle.std.proofs.Math.Seq.{take-suc, length-take-le}
use Rattle.std.proofs.lemmas.Slice.Eq.{bytes_eq-Decides}
use Rattle.ftn_base.specs.declared.fault.FaultKind.TheVariants.{Conflicting}
use Rattle.ftn_tree.specs.declared.table.ScopeKind.{ScopeKind}
use Rattle.ftn_tree.specs.Sayings.{Saying, same_name}
use Rattle.ftn_tree.specs.DeclarationFaults as spec
use Rattle.ftn_tree.specs.DeclarationFaults.{Finding, found, place_of_saying, declaration_rank, each_after, first_finding}
use Rattle.decl_table.specs.declared.firsts.Firsts.{Firsts}
use Rattle.decl_table.specs.steps.Firsts.{firsts_of, alone, joined}
use Rattle.decl_table.specs.steps.Gathering.{earlier, gathered}
use Rattle.decl_table.specs.steps.NameFindings.{partner, found_twice, twice_finding, conflicting_finding}
use Rattle.decl_table.proofs.FirstSayings.{joined_is, passed_is}
use Rattle.decl_table.proofs.Gathering.{gathered_at}
use Rattle.decl_table.proofs.NameFindings.{twice_found, conflicting_found}

next_is : (i : ℕ) → suc i ≡ i + 1
next_is i = omega arith

opened : (said : List Saying) (i : ℕ) (s : Saying) → i < length said → s ≡ get_or said i s → drop i said ≡ s ∷ drop (i + 1) said
opened said i s lt at = drop-cons said i s lt ∙ ap (λ y. y ∷ drop (suc i) said) (sym at) ∙ ap (λ k. s ∷ drop k said) (next_is i)

taken : (said : List Saying) (i : ℕ) (s : Saying) → i < length said → s ≡ get_or said i s → take (i + 1) said ≡ take i said ++ s ∷ []
taken said i s lt at = sym (ap (λ k. take k said) (next_is i)) ∙ take-suc said i s lt ∙ ap (λ x. take i said ++ x ∷ []) (sym at)

-- one more saying of one name
more_of : (before : List Saying) (s : Saying) (i : ℕ) → i ≡ length before → (name : List ℕ) (k : Firsts) → k ≡ firsts_of (same_name name) before
    → cond (bytes_eq s.name name) (joined i (firsts_of (same_name s.name) before) (alone s)) k ≡ firsts_of (same_name name) (before ++ s ∷ [])
more_of before s i last name k other = by (bytes_eq s.name name) refl
  where
    by : (b : Bool) → bytes_eq s.name name ≡ b → cond b (joined i (firsts_of (same_name s.name) before) (alone s)) k ≡ firsts_of (same_name name) (before ++ s ∷ [])
    by true same =
        ap (λ n. joined i (firsts_of (same_name n) before) (alone s)) ((bytes_eq-Decides s.name name).0 (grind arith)) ∙ joined_is (same_name name) before s i last same
    by false apart = other ∙ passed_is (same_name name) before s apart

module _ (said : List Saying) (i : ℕ) (s : Saying) (lt : i < length said) (at : s ≡ get_or said i s) where
  last : i ≡ length (take i said)
  last = sym (length-take-le i said (omega arith))

  whole : take i said ++ s ∷ drop (i + 1) said ≡ said
  whole = ap (λ xs. take i said ++ xs) (sym (opened said i s lt at)) ∙ take-append-drop i said

  -- what is known of each name
  pub known_next : (n : List ℕ) → n ≡ s.name → (before one both k new : Firsts) → before ≡ firsts_of (same_name n) (take i said) → one ≡ alone s → both ≡ joined i before one
      → (name : List ℕ) → k ≡ firsts_of (same_name name) (take i said) → new ≡ cond (bytes_eq n name) both k → new ≡ firsts_of (same_name name) (take (i + 1) said)
  known_next n named before one both k new known is_alone joint name other put =
      put ∙ ap (λ m. cond (bytes_eq m name) both k) named
      ∙ ap (λ f. cond (bytes_eq s.name name) f k) (joint ∙ ap₂ (joined i) (known ∙ ap (λ m. firsts_of (same_name m) (take i said)) named) is_alone)
      ∙ more_of (take i said) s i last name k other ∙ ap (firsts_of (same_name name)) (sym (taken said i s lt at))

  -- what is found
  pub found_next : (kind : ScopeKind) (file : ℕ) (n : List ℕ) → n ≡ s.name → (before one : Firsts) → before ≡ firsts_of (same_name n) (take i said) → one ≡ alone s
      → (best first second : Option Finding) → first_finding declaration_rank (each_after kind file [] said) ≡ gathered best (each_after kind file (take i said) (drop i said))
      → first ≡ earlier best (twice_finding file said s (partner i before one s)) → second ≡ earlier first (conflicting_finding kind file before one s)
      → first_finding declaration_rank (each_after kind file [] said) ≡ gathered second (each_after kind file (take (i + 1) said) (drop (i + 1) said))
  found_next kind file n named before one known is_alone best first second so_far twice conflict =
      so_far ∙ ap (λ rest. gathered best (each_after kind file (take i said) rest)) (opened said i s lt at)
      ∙ gathered_at best (found_twice file s) (spec.partner (take i said) s) (found Conflicting (place_of_saying file s)) (spec.is_conflicting kind (take i said) s) more
      ∙ ap (λ o. gathered o more) (sym (conflict ∙ ap₂ earlier (twice ∙ ap (earlier best) is_twice) is_conflict))
      ∙ ap (λ xs. gathered second (each_after kind file xs (drop (i + 1) said))) (sym (taken said i s lt at))
    where
      more : List Finding
      more = each_after kind file (take i said ++ s ∷ []) (drop (i + 1) said)

      ours : before ≡ firsts_of (same_name s.name) (take i said)
      ours = known ∙ ap (λ m. firsts_of (same_name m) (take i said)) named

      is_twice : twice_finding file said s (partner i before one s) ≡ option_map (found_twice file s) (spec.partner (take i said) s)
      is_twice =
          ap (λ zs. twice_finding file zs s (partner i before one s)) (sym whole)
          ∙ ap₂ (λ f g. twice_finding file (take i said ++ s ∷ drop (i + 1) said) s (partner i f g s)) ours is_alone ∙ twice_found (take i said) s file (drop (i + 1) said) i last

      is_conflict : conflicting_finding kind file before one s ≡ cond (spec.is_conflicting kind (take i said) s) (Some (found Conflicting (place_of_saying file s))) None
      is_conflict = ap₂ (λ f g. conflicting_finding kind file f g s) ours is_alone ∙ conflicting_found (take i said) s kind file
