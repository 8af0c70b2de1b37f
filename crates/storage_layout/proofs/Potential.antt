-- Lists of common blocks alone do not contradict each other: each object stands in them once, and so has one place.
use Rattle.std.proofs.Common.{zero, suc, ◌≡◌, ◌≢◌, ℕ, ℤ, pos, ◌+ℤ◌, List, [], ◌∷◌, ◌++◌, ◌⊎◌, inl, inr, Contains, AllPairs, nat_eq, cond, refl, sym, ◌∙◌, subst, ap, arith}
use Rattle.std.proofs.lemmas.Int.{ints}
use Rattle.std.proofs.lemmas.Bool.Decides.{nat_tests}
use Rattle.ftn_base.specs.Storage.{Thing, Link, object, block, member_link, Leads, IsContradicted}
use Rattle.ftn_base.proofs.WalkLaws.{leads_kept}
use Rattle.ftn_base.specs.declared.storage.Member.{Member}
use Rattle.ftn_base.specs.StorageMembers.{start_after, links_after, list_links}

pub either : {A B C : Type 0} → (A → C) → (B → C) → A ⊎ B → C
either left right (inl a) = left a
either left right (inr b) = right b

pub cons_cases : {X : Type 0} (x : X) (xs : List X) (y : X) → Contains (x ∷ xs) y → (x ≡ y) ⊎ Contains xs y
cons_cases x xs y (zero, lt, e) = inl e
cons_cases x xs y (suc k, lt, e) = inr (k, (omega arith), e)

pub cons_more : {X : Type 0} (x : X) (xs : List X) (y : X) → Contains xs y → Contains (x ∷ xs) y
cons_more x xs y (k, lt, e) = (suc k, (omega arith), e)

-- ---- where each thing begins

-- the start of the object's first place among the members, or 0
abbrev pub place_in : List ℕ → List Member → List Member → ℕ → ℕ
place_in sizes before [] number = 0
place_in sizes before (member ∷ rest) number = cond (nat_eq member.object number) (start_after sizes before member) (place_in sizes (before ++ member ∷ []) rest number)

abbrev pub place : List ℕ → List Member → Thing → ℤ
place sizes members (block number) = pos 0
place sizes members (object number) = pos (place_in sizes [] members number)

-- the link leads from a block to a member, by the start of the member's one place
pub record IsPlaced (sizes : List ℕ) (before members : List Member) (link : Link) : Type 0 where
  pub from : ℕ
  pub member : Member
  pub there : Contains members member
  pub from_is : link.from ≡ block from
  pub to_is : link.to ≡ object member.object
  pub by_is : link.by ≡ pos (place_in sizes before members member.object)

place_first : (sizes : List ℕ) (before rest : List Member) (member : Member) → place_in sizes before (member ∷ rest) member.object ≡ start_after sizes before member
place_first sizes before rest member = grind (arith, nat_tests)

place_later : (sizes : List ℕ) (before rest : List Member) (member : Member) (number : ℕ) → member.object ≢ number → place_in sizes before (member ∷ rest) number ≡ place_in sizes (before ++ member ∷ []) rest number
place_later sizes before rest member number other = grind (arith, nat_tests)

placed : (sizes : List ℕ) (before members : List Member) → AllPairs (λ earlier later. earlier.object ≢ later.object) members → (link : Link) → Contains (links_after sizes before members) link → IsPlaced sizes before members link
placed sizes before [] once link there = absurd (omega (arith, there.1))
placed sizes before (member ∷ rest) once link there = by_case (placed sizes (before ++ member ∷ []) rest once_later link) (cons_cases (member_link member.block member.object (start_after sizes before member)) (links_after sizes (before ++ member ∷ []) rest) link there)
  where
    once_later : AllPairs (λ earlier later. earlier.object ≢ later.object) rest
    once_later i j d less lt = once (suc i) (suc j) d (omega arith) (omega arith)

    other : (later : Member) → Contains rest later → member.object ≢ later.object
    other later (k, lt, e) = subst (λ (m : Member). member.object ≢ m.object) e (once zero (suc k) later (omega arith) (omega arith))

    by_case : (Contains (links_after sizes (before ++ member ∷ []) rest) link → IsPlaced sizes (before ++ member ∷ []) rest link)
        → (member_link member.block member.object (start_after sizes before member) ≡ link) ⊎ Contains (links_after sizes (before ++ member ∷ []) rest) link → IsPlaced sizes before (member ∷ rest) link
    by_case further (inl e) = subst (IsPlaced sizes before (member ∷ rest)) e (record {
      from = member.block;
      member = member;
      there = (zero, (omega arith), refl);
      from_is = refl;
      to_is = refl;
      by_is = ap pos (sym (place_first sizes before rest member));
    })
    by_case further (inr later) =
        let is = further later in
        record {
          from = is.from;
          member = is.member;
          there = cons_more member rest is.member is.there;
          from_is = is.from_is;
          to_is = is.to_is;
          by_is = is.by_is ∙ ap pos (sym (place_later sizes before rest member is.member.object (other is.member is.there)));
        }

module _ (sizes : List ℕ) (members : List Member) (once : AllPairs (λ earlier later. earlier.object ≢ later.object) members) where
  link_kept : (link : Link) → Contains (list_links sizes members) link → place sizes members link.to ≡ place sizes members link.from +ℤ link.by
  link_kept link there =
      let is = placed sizes [] members once link there in
      let to : place sizes members link.to ≡ pos (place_in sizes [] members is.member.object) = ap (place sizes members) is.to_is in
      let from : place sizes members link.from ≡ pos 0 = ap (place sizes members) is.from_is in
      let by : link.by ≡ pos (place_in sizes [] members is.member.object) = is.by_is in
      omega (arith, ints)

  -- a walk over links of lists leads as far as the places of its ends are apart
  pub walk_places : (first last : Thing) (by : ℤ) → Leads (list_links sizes members) first last by → place sizes members last ≡ place sizes members first +ℤ by
  walk_places first last by walk =
      let start : place sizes members first ≡ place sizes members first +ℤ pos 0 = omega (arith, ints) in
      let kept : place sizes members last ≡ place sizes members first +ℤ (pos 0 +ℤ by) = leads_kept (list_links sizes members) (λ thing at. place sizes members thing ≡ place sizes members first +ℤ at)
      (λ link there at so_far. (let step = link_kept link there in let here : place sizes members link.from ≡ place sizes members first +ℤ at = so_far in omega (arith, ints)))
      (λ link there at so_far. (let step = link_kept link there in let here : place sizes members link.to ≡ place sizes members first +ℤ at = so_far in omega (arith, ints)))
      first last (pos 0) by walk start in
      omega (arith, ints)

  pub lists_agree : IsContradicted (list_links sizes members) → ⊥
  lists_agree bad =
      let apart : place sizes members bad.thing ≡ place sizes members bad.thing +ℤ bad.by = walk_places bad.thing bad.thing bad.by bad.back in
      bad.apart (omega (arith, ints))
