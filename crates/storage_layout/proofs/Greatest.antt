-- The greatest end of members, with one member more.
use Rattle.std.proofs.Common.{◌≡◌, ℕ, ◌+◌, ◌<◌, ◌≤◌, max, ◌⊎◌, inl, inr, Bool, true, false, ◌&&◌, cond, List, nat_eq, nat_lt, Some, slice_get, refl, sym, ◌∙◌, subst, ap, arith}
use Rattle.std.proofs.lemmas.Bool.{ltb-true, ltb-false, eqb-true, eq-eqb}
use Rattle.std.proofs.lemmas.Option.{same_Some}
use Rattle.ftn_base.specs.declared.entity.Tie.{Tie}
use Rattle.ftn_base.specs.declared.storage.Member.{Member}
use Rattle.storage_layout.specs.steps.Ends.{last_of, IsEndOf, IsGreatest}
use Rattle.storage_layout.proofs.Numbers.{lt_split}
use Rattle.storage_layout.proofs.Start.{clash}

module _ (members : List Member) (ties : List Tie) (class offset size : List ℕ) (count : ℕ) (member : Member) (tie : Tie) (here : slice_get members count ≡ Some member) (tie_here : slice_get ties count ≡ Some tie)
    (number scope end : ℕ) (greatest : IsGreatest members ties class offset size count number scope end) where
  last : ℕ
  last = last_of class offset size tie

  -- what the member at hand tells
  is_last : (at other : ℕ) → at ≡ count → IsEndOf members ties class offset size number scope at other → other ≡ last_of class offset size tie
  is_last at other same is =
      sym is.last ∙ ap (last_of class offset size) (same_Some is.tie tie (sym is.tie_there ∙ ap (slice_get ties) same ∙ tie_here))

  of_block : (at other : ℕ) → at ≡ count → IsEndOf members ties class offset size number scope at other → (member.block ≡ number) × (member.scope ≡ scope)
  of_block at other same is =
      let one : is.member ≡ member = same_Some is.member member (sym is.there ∙ ap (slice_get members) same ∙ here) in
      (subst (λ (m : Member). m.block ≡ number) one is.of_block, subst (λ (m : Member). m.scope ≡ scope) one is.in_scope)

  earlier : (at other : ℕ) → (at < count) × IsEndOf members ties class offset size number scope at other → (at < count + 1) × IsEndOf members ties class offset size number scope at other
  earlier at other found = (omega (arith, found.0), found.1)

  kept_reached : (e : ℕ) → e ≡ end → (e ≡ 0) ⊎ ((at : ℕ) × (at < count + 1) × IsEndOf members ties class offset size number scope at e)
  kept_reached e same = by_case greatest.reached
    where
      by_case : (end ≡ 0) ⊎ ((at : ℕ) × (at < count) × IsEndOf members ties class offset size number scope at end) → (e ≡ 0) ⊎ ((at : ℕ) × (at < count + 1) × IsEndOf members ties class offset size number scope at e)
      by_case (inl none) = inl (same ∙ none)
      by_case (inr found) = inr (found.0, (omega (arith, found.1)), subst (λ (k : ℕ). IsEndOf members ties class offset size number scope found.0 k) (sym same) found.2)

  another : (member.block ≡ number → member.scope ≡ scope → ⊥) → IsGreatest members ties class offset size (count + 1) number scope end
  another apart = record {
    within = λ at other lt is. by_case at other is (lt_split at count lt);
    reached = kept_reached end refl;
  }
    where
      by_case : (at other : ℕ) → IsEndOf members ties class offset size number scope at other → (at < count) ⊎ (at ≡ count) → other ≤ end
      by_case at other is (inl less) = greatest.within at other less is
      by_case at other is (inr same) = let both = of_block at other same is in absurd (apart both.0 both.1)

  one_more : member.block ≡ number → member.scope ≡ scope → IsGreatest members ties class offset size (count + 1) number scope (max end (last_of class offset size tie))
  one_more e f = record {
    within = λ at other lt is. by_case at other is (lt_split at count lt);
    reached = by_size (nat_lt end (last_of class offset size tie)) refl;
  }
    where
      by_case : (at other : ℕ) → IsEndOf members ties class offset size number scope at other → (at < count) ⊎ (at ≡ count) → other ≤ max end (last_of class offset size tie)
      by_case at other is (inl less) = let le = greatest.within at other less is in omega (arith, le)
      by_case at other is (inr same) = let le = is_last at other same is in omega (arith, le)

      by_size : (b : Bool) → nat_lt end (last_of class offset size tie) ≡ b
          → (max end (last_of class offset size tie) ≡ 0) ⊎ ((at : ℕ) × (at < count + 1) × IsEndOf members ties class offset size number scope at (max end (last_of class offset size tie)))
      by_size true less =
          let lt : end < last_of class offset size tie = ltb-true end (last_of class offset size tie) less in
          let most : last_of class offset size tie ≡ max end (last_of class offset size tie) = omega (arith, lt) in
          inr (count, (omega arith), record { member = member; tie = tie; there = here; tie_there = tie_here; of_block = e; in_scope = f; last = most })
      by_size false more =
          let le : last_of class offset size tie ≤ end = ltb-false end (last_of class offset size tie) more in
          kept_reached (max end (last_of class offset size tie)) (omega (arith, le))

  pub greatest_more : (new : ℕ) → new ≡ cond (nat_eq member.block number && nat_eq member.scope scope) (max end (last_of class offset size tie)) end
      → IsGreatest members ties class offset size (count + 1) number scope new
  greatest_more new is = by_case (nat_eq member.block number) (nat_eq member.scope scope) refl refl is
    where
      by_case : (a b : Bool) → nat_eq member.block number ≡ a → nat_eq member.scope scope ≡ b → new ≡ cond (a && b) (max end (last_of class offset size tie)) end → IsGreatest members ties class offset size (count + 1) number scope new
      by_case true true e f is = subst (λ (k : ℕ). IsGreatest members ties class offset size (count + 1) number scope k) (sym is) (one_more (eqb-true member.block number e) (eqb-true member.scope scope f))
      by_case true false e f is = subst (λ (k : ℕ). IsGreatest members ties class offset size (count + 1) number scope k) (sym is) (another (λ _ same. clash (nat_eq member.scope scope) (eq-eqb member.scope scope same) f))
      by_case false b e f is = subst (λ (k : ℕ). IsGreatest members ties class offset size (count + 1) number scope k) (sym is) (another (λ same _. clash (nat_eq member.block number) (eq-eqb member.block number same) e))
