-- The links of one scoping unit's lists: those of the members there, with the starts that they have among all members.
use Rattle.std.proofs.Common.{zero, suc, ◌≡◌, ℕ, List, [], ◌∷◌, ◌++◌, Bool, true, false, Some, Contains, map, filter, sum, nat_eq, take, get_or, slice_get, refl, sym, ◌∙◌, subst, ap, arith}
use Rattle.std.proofs.lemmas.Bool.Decides.{nat_tests}
use Rattle.std.proofs.lemmas.List.{append-nil, append_assoc}
use Rattle.std.proofs.lemmas.List.Elements.{filter-append}
use Rattle.std.proofs.lemmas.Bool.{eqb-true, eq-eqb}
use Rattle.std.proofs.lemmas.Option.{same_Some, none-some}
use Rattle.ftn_base.specs.Storage.{Link, member_link}
use Rattle.ftn_base.specs.declared.storage.Member.{Member}
use Rattle.ftn_base.specs.StorageMembers.{is_in, units_in, start_after, links_after}
use Rattle.storage_layout.proofs.Potential.{either, cons_cases, cons_more}
use Rattle.storage_layout.proofs.Start.{filter_twice, filter_first, filter_other}

abbrev pub of_scope : ℕ → Member → Bool
of_scope scope member = nat_eq member.scope scope

-- the members of a scoping unit
abbrev pub there_in : ℕ → List Member → List Member
there_in scope members = filter (of_scope scope) members

in_scope : (number scope : ℕ) (member : Member) → is_in number scope member ≡ true → of_scope scope member ≡ true
in_scope number scope member e = grind (arith, nat_tests)

-- members of other scoping units take no part in where a member begins
start_there : (sizes : List ℕ) (scope : ℕ) (before after : List Member) (member : Member) → after ≡ there_in scope before → member.scope ≡ scope → start_after sizes after member ≡ start_after sizes before member
start_there sizes scope before after member same e =
    ap (λ (ms : List Member). units_in sizes ms member.block member.scope) same
    ∙ subst (λ (s : ℕ). units_in sizes (there_in s before) member.block member.scope ≡ units_in sizes before member.block member.scope) e
    (ap (λ (ms : List Member). sum (map (λ m. get_or sizes m.object 0) ms)) (filter_twice (of_scope member.scope) (is_in member.block member.scope) (in_scope member.block member.scope) before))

with_member : (scope : ℕ) (before after : List Member) (member : Member) → after ≡ there_in scope before → of_scope scope member ≡ true → after ++ member ∷ [] ≡ there_in scope (before ++ member ∷ [])
with_member scope before after member same e =
    ap (λ (ms : List Member). ms ++ member ∷ []) same ∙ ap (λ (ms : List Member). there_in scope before ++ ms) (sym (filter_first (of_scope scope) member [] e)) ∙ sym (filter-append (of_scope scope) before (member ∷ []))

without_member : (scope : ℕ) (before after : List Member) (member : Member) → after ≡ there_in scope before → of_scope scope member ≡ false → after ≡ there_in scope (before ++ member ∷ [])
without_member scope before after member same e =
    same ∙ sym (append-nil (there_in scope before)) ∙ ap (λ (ms : List Member). there_in scope before ++ ms) (sym (filter_other (of_scope scope) member [] e)) ∙ sym (filter-append (of_scope scope) before (member ∷ []))

-- the link of a member, which begins after those before it
abbrev pub link_at : List ℕ → List Member → List Member → ℕ → Member → Link
link_at sizes before members at member = member_link member.block member.object (start_after sizes (before ++ take at members) member)

onward : (before rest : List Member) (first : Member) (k : ℕ) → (before ++ first ∷ []) ++ take k rest ≡ before ++ take (suc k) (first ∷ rest)
onward before rest first k = append_assoc before (first ∷ []) (take k rest)

-- the link of each member is there
pub link_there : (sizes : List ℕ) (before members : List Member) (at : ℕ) (member : Member) → slice_get members at ≡ Some member → Contains (links_after sizes before members) (link_at sizes before members at member)
link_there sizes before [] at member here = absurd (none-some member here)
link_there sizes before (first ∷ rest) zero member here =
    let one : first ≡ member = same_Some first member here in
    (zero, (omega arith), ap (λ (m : Member). member_link m.block m.object (start_after sizes before m)) one ∙ ap (λ (ms : List Member). member_link member.block member.object (start_after sizes ms member)) (sym (append-nil before)))
link_there sizes before (first ∷ rest) (suc k) member here =
    subst (λ (ms : List Member). Contains (links_after sizes before (first ∷ rest)) (member_link member.block member.object (start_after sizes ms member))) (onward before rest first k)
    (cons_more (member_link first.block first.object (start_after sizes before first)) (links_after sizes (before ++ first ∷ []) rest) (link_at sizes (before ++ first ∷ []) rest k member)
    (link_there sizes (before ++ first ∷ []) rest k member here))

-- the link of each member of the scoping unit is one of its links
pub scope_link : (sizes : List ℕ) (scope : ℕ) (before after members : List Member) → after ≡ there_in scope before → (at : ℕ) (member : Member) → slice_get members at ≡ Some member → member.scope ≡ scope
    → Contains (links_after sizes after (there_in scope members)) (link_at sizes before members at member)
scope_link sizes scope before after [] same at member here e = absurd (none-some member here)
scope_link sizes scope before after (first ∷ rest) same zero member here e =
    let one : first ≡ member = same_Some first member here in
    let kept : there_in scope (first ∷ rest) ≡ first ∷ there_in scope rest = filter_first (of_scope scope) first rest (eq-eqb first.scope scope (ap (λ (m : Member). m.scope) one ∙ e)) in
    subst (λ (ms : List Member). Contains (links_after sizes after ms) (link_at sizes before (first ∷ rest) zero member)) (sym kept) (
      zero,
      (omega arith),
      ap (λ (m : Member). member_link m.block m.object (start_after sizes after m)) one ∙ ap (member_link member.block member.object) (start_there sizes scope before after member same e)
          ∙ ap (λ (ms : List Member). member_link member.block member.object (start_after sizes ms member)) (sym (append-nil before)),
    )
scope_link sizes scope before after (first ∷ rest) same (suc k) member here e =
    by_scope
    (λ kept_too. scope_link sizes scope (before ++ first ∷ []) (after ++ first ∷ []) rest kept_too k member here e)
    (λ left_out. scope_link sizes scope (before ++ first ∷ []) after rest left_out k member here e)
    (of_scope scope first) refl
  where
    goes_on : Link
    goes_on = link_at sizes (before ++ first ∷ []) rest k member

    by_scope : (after ++ first ∷ [] ≡ there_in scope (before ++ first ∷ []) → Contains (links_after sizes (after ++ first ∷ []) (there_in scope rest)) (link_at sizes (before ++ first ∷ []) rest k member))
        → (after ≡ there_in scope (before ++ first ∷ []) → Contains (links_after sizes after (there_in scope rest)) (link_at sizes (before ++ first ∷ []) rest k member))
        → (b : Bool) → of_scope scope first ≡ b → Contains (links_after sizes after (there_in scope (first ∷ rest))) (link_at sizes before (first ∷ rest) (suc k) member)
    by_scope with_it without_it true f =
        subst (λ (ms : List Member). Contains (links_after sizes after (there_in scope (first ∷ rest))) (member_link member.block member.object (start_after sizes ms member))) (onward before rest first k)
        (subst (λ (ms : List Member). Contains (links_after sizes after ms) (link_at sizes (before ++ first ∷ []) rest k member)) (sym (filter_first (of_scope scope) first rest f))
        (cons_more (member_link first.block first.object (start_after sizes after first)) (links_after sizes (after ++ first ∷ []) (there_in scope rest)) (link_at sizes (before ++ first ∷ []) rest k member)
        (with_it (with_member scope before after first same f))))
    by_scope with_it without_it false f =
        subst (λ (ms : List Member). Contains (links_after sizes after (there_in scope (first ∷ rest))) (member_link member.block member.object (start_after sizes ms member))) (onward before rest first k)
        (subst (λ (ms : List Member). Contains (links_after sizes after ms) (link_at sizes (before ++ first ∷ []) rest k member)) (sym (filter_other (of_scope scope) first rest f))
        (without_it (without_member scope before after first same f)))

-- the link is that of a member of the scoping unit
pub record IsPlaced (sizes : List ℕ) (scope : ℕ) (before members : List Member) (link : Link) : Type 0 where
  pub at : ℕ
  pub member : Member
  pub there : slice_get members at ≡ Some member
  pub of_scope_is : member.scope ≡ scope
  pub is : link_at sizes before members at member ≡ link

placed_later : (sizes : List ℕ) (scope : ℕ) (before rest : List Member) (first : Member) (link : Link) → IsPlaced sizes scope (before ++ first ∷ []) rest link → IsPlaced sizes scope before (first ∷ rest) link
placed_later sizes scope before rest first link p = record {
  at = suc p.at;
  member = p.member;
  there = p.there;
  of_scope_is = p.of_scope_is;
  is = ap (λ (ms : List Member). member_link p.member.block p.member.object (start_after sizes ms p.member)) (sym (onward before rest first p.at)) ∙ p.is;
}

pub link_placed : (sizes : List ℕ) (scope : ℕ) (before after members : List Member) → after ≡ there_in scope before → (link : Link) → Contains (links_after sizes after (there_in scope members)) link
    → IsPlaced sizes scope before members link
link_placed sizes scope before after [] same link there = absurd (omega (arith, there.1))
link_placed sizes scope before after (first ∷ rest) same link there =
    by_scope
    (λ kept_too. link_placed sizes scope (before ++ first ∷ []) (after ++ first ∷ []) rest kept_too link)
    (λ left_out. link_placed sizes scope (before ++ first ∷ []) after rest left_out link)
    (of_scope scope first) refl
  where
    by_scope : (after ++ first ∷ [] ≡ there_in scope (before ++ first ∷ []) → Contains (links_after sizes (after ++ first ∷ []) (there_in scope rest)) link → IsPlaced sizes scope (before ++ first ∷ []) rest link)
        → (after ≡ there_in scope (before ++ first ∷ []) → Contains (links_after sizes after (there_in scope rest)) link → IsPlaced sizes scope (before ++ first ∷ []) rest link)
        → (b : Bool) → of_scope scope first ≡ b → IsPlaced sizes scope before (first ∷ rest) link
    by_scope with_it without_it true f =
        let e : first.scope ≡ scope = eqb-true first.scope scope f in
        either
        (λ is. record {
          at = zero;
          member = first;
          there = refl;
          of_scope_is = e;
          is = ap (λ (ms : List Member). member_link first.block first.object (start_after sizes ms first)) (append-nil before)
              ∙ ap (member_link first.block first.object) (sym (start_there sizes scope before after first same e)) ∙ is;
        })
        (λ later. placed_later sizes scope before rest first link (with_it (with_member scope before after first same f) later))
        (cons_cases (member_link first.block first.object (start_after sizes after first)) (links_after sizes (after ++ first ∷ []) (there_in scope rest)) link
        (subst (λ (ms : List Member). Contains (links_after sizes after ms) link) (filter_first (of_scope scope) first rest f) there))
    by_scope with_it without_it false f =
        placed_later sizes scope before rest first link
        (without_it (without_member scope before after first same f) (subst (λ (ms : List Member). Contains (links_after sizes after ms) link) (filter_other (of_scope scope) first rest f) there))
