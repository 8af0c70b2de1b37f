-- Walks over links of objects and blocks are walks over the ties that the code keeps, and the other way round.
use Rattle.std.proofs.Common.{zero, ◌≡◌, ℕ, ◌+◌, ◌-◌, ◌<◌, ℤ, pos, neg_ℤ, ◌+ℤ◌, ◌-ℤ◌, List, [], ◌∷◌, ◌++◌, ◌⊎◌, inl, inr, Bool, true, false, Contains, All, nat_eq, nat_lt, cond, length, get_or, refl, sym, ◌∙◌, subst, ap, arith}
use Rattle.std.specs.List.{position_or_len}
use Rattle.std.proofs.lemmas.Int.{ints}
use Rattle.std.proofs.lemmas.Bool.Decides.{nat_tests}
use Rattle.std.proofs.lemmas.List.Elements.{All-contains, Contains-append_left, Contains-append_right, Contains-append_cases}
use Rattle.std.proofs.lemmas.List.Sums.{passes_at_first}
use Rattle.std.proofs.lemmas.Bool.{eqb-true}
use Rattle.ftn_base.specs.declared.entity.Tie.{Tie}
use Rattle.ftn_base.specs.Storage.{Thing, Link, object, block, member_link, tie_link, tie_links, Leads, IsContradicted}
use Rattle.ftn_base.proofs.WalkLaws.{leads_kept, leads_nowhere, leads_on, leads_back, leads_by, leads_forward}
use Rattle.ftn_base.specs.declared.storage.Member.{Member}
use Rattle.ftn_base.specs.StorageMembers.{start_after, links_after, list_links, links}
use Rattle.storage_layout.specs.steps.Numbered.{numbered, named, IsMemberTie, AreMemberTies}
use Rattle.storage_layout.proofs.Potential.{either, cons_cases, cons_more}

-- where each link leads along the images of its ends, each walk does
pub leads_carried : (these those : List Link) (image : Thing → Thing) (first last : Thing) (by : ℤ)
    → ((link : Link) → Contains these link → Leads those (image link.from) (image link.to) link.by)
    → Leads these first last by → Leads those (image first) (image last) by
leads_carried these those image first last by each here =
    leads_by those (image first) (image last) (pos 0 +ℤ by) by (leads_kept these (λ thing at. Leads those (image first) (image thing) at)
    (λ link there at so_far. leads_on those (image first) (image link.from) (image link.to) at link.by so_far (each link there))
    (λ link there at so_far. leads_on those (image first) (image link.to) (image link.from) at (neg_ℤ link.by) so_far (leads_back those (image link.from) (image link.to) link.by (each link there)))
    first last (pos 0) by here (leads_nowhere those (image first))) (omega (arith, ints))

pub contradicted_carried : (these those : List Link) (image : Thing → Thing)
    → ((link : Link) → Contains these link → Leads those (image link.from) (image link.to) link.by)
    → IsContradicted these → IsContradicted those
contradicted_carried these those image each bad =
    record { thing = image bad.thing; by = bad.by; apart = bad.apart; back = leads_carried these those image bad.thing bad.thing bad.by each bad.back }

-- ---- links of members, and their ties

module _ (count : ℕ) (names sizes : List ℕ) where
  -- the tie's link is the image of the member's link
  member_image : (before : List Member) (member : Member) (tie : Tie) → IsMemberTie count names sizes before member tie
      → (those : List Link) → Contains those (tie_link tie)
      → Leads those (object (count + position_or_len (nat_eq member.block) names)) (object member.object) (pos (start_after sizes before member))
  member_image before member tie is those there =
      let by : pos tie.at_a -ℤ pos tie.at_b ≡ pos (start_after sizes before member) = (let at_a : tie.at_a ≡ start_after sizes before member = is.at_a in let at_b : tie.at_b ≡ 0 = is.at_b in omega (arith, ints)) in
      leads_by those (object (count + position_or_len (nat_eq member.block) names)) (object member.object) (pos tie.at_a -ℤ pos tie.at_b) (pos (start_after sizes before member))
      (subst (λ (a : ℕ). Leads those (object a) (object member.object) (pos tie.at_a -ℤ pos tie.at_b)) is.a
      (subst (λ (b : ℕ). Leads those (object tie.a) (object b) (pos tie.at_a -ℤ pos tie.at_b)) is.b (leads_forward those (tie_link tie) there))) by

  pub members_carried : (before members : List Member) (ties : List Tie) → AreMemberTies count names sizes before members ties
      → (those : List Link) → ((link : Link) → Contains (tie_links ties) link → Contains those link)
      → (link : Link) → Contains (links_after sizes before members) link → Leads those (numbered count names link.from) (numbered count names link.to) link.by
  members_carried before [] ties are those kept link there = absurd (omega (arith, there.1))
  members_carried before (member ∷ rest) [] are those kept link there = absurd are
  members_carried before (member ∷ rest) (tie ∷ ties) are those kept link there =
      either
      (λ e. subst (λ (l : Link). Leads those (numbered count names l.from) (numbered count names l.to) l.by) e
      (member_image before member tie are.0 those (kept (tie_link tie) (zero, (omega arith), refl))))
      (λ later. members_carried (before ++ member ∷ []) rest ties are.1 those (λ l in_rest. kept l (cons_more (tie_link tie) (tie_links ties) l in_rest)) link later)
      (cons_cases (member_link member.block member.object (start_after sizes before member)) (links_after sizes (before ++ member ∷ []) rest) link there)

pub tie_there : (ties : List Tie) (tie : Tie) → Contains ties tie → Contains (tie_links ties) (tie_link tie)
tie_there [] tie there = absurd (omega (arith, there.1))
tie_there (first ∷ rest) tie there = either (λ e. (zero, (omega arith), ap tie_link e)) (λ later. cons_more (tie_link first) (tie_links rest) (tie_link tie) (tie_there rest tie later)) (cons_cases first rest tie there)

pub tie_from : (ties : List Tie) (link : Link) → Contains (tie_links ties) link → (tie : Tie) × Contains ties tie × (tie_link tie ≡ link)
tie_from [] link there = absurd (omega (arith, there.1))
tie_from (first ∷ rest) link there =
    either
    (λ e. (first, (zero, (omega arith), refl), e))
    (λ later. (let found = tie_from rest link later in (found.0, cons_more first rest found.0 found.1, found.2)))
    (cons_cases (tie_link first) (tie_links rest) link there)

pub object_named : (count : ℕ) (names : List ℕ) (v : ℕ) → v < count → named count names (object v) ≡ object v
object_named count names v lt = grind (arith, nat_tests)

pub block_named : (count i : ℕ) (names : List ℕ) → named count names (object (count + i)) ≡ block (get_or names i 0)
block_named count i names = let less : nat_lt (count + i) count ≡ false = grind (arith, nat_tests) in let back : (count + i) - count ≡ i = omega arith in
    ap (λ (t : Bool). cond t (object (count + i)) (block (get_or names ((count + i) - count) 0))) less ∙ ap (λ (k : ℕ). block (get_or names k 0)) back

-- ---- back from the kept ties

module _ (names sizes : List ℕ) (all : List Member) (given : List Tie) where
  given_back : All (λ tie. (tie.a < length sizes) × (tie.b < length sizes)) given → (tie : Tie) → Contains given tie
      → Leads (links sizes all given) (named (length sizes) names (object tie.a)) (named (length sizes) names (object tie.b)) (pos tie.at_a -ℤ pos tie.at_b)
  given_back known tie there =
      let both = All-contains (λ t. (t.a < length sizes) × (t.b < length sizes)) given tie known there in
      let plain : Leads (links sizes all given) (object tie.a) (object tie.b) (pos tie.at_a -ℤ pos tie.at_b) =
      leads_forward (links sizes all given) (tie_link tie) (Contains-append_right (list_links sizes all) (tie_links given) (tie_link tie) (tie_there given tie there)) in
      subst (λ (x : Thing). Leads (links sizes all given) x (named (length sizes) names (object tie.b)) (pos tie.at_a -ℤ pos tie.at_b)) (sym (object_named (length sizes) names tie.a both.0))
      (subst (λ (y : Thing). Leads (links sizes all given) (object tie.a) y (pos tie.at_a -ℤ pos tie.at_b)) (sym (object_named (length sizes) names tie.b both.1)) plain)

  member_back : (before : List Member) (member : Member) (tie : Tie) → IsMemberTie (length sizes) names sizes before member tie → member.object < length sizes
      → (those : List Link) → Contains those (member_link member.block member.object (start_after sizes before member))
      → Leads those (named (length sizes) names (object tie.a)) (named (length sizes) names (object tie.b)) (pos tie.at_a -ℤ pos tie.at_b)
  member_back before member tie is lt those there =
      let by : pos (start_after sizes before member) ≡ pos tie.at_a -ℤ pos tie.at_b = (let at_a : tie.at_a ≡ start_after sizes before member = is.at_a in let at_b : tie.at_b ≡ 0 = is.at_b in omega (arith, ints)) in
      let plain = leads_by those (block member.block) (object member.object) (pos (start_after sizes before member)) (pos tie.at_a -ℤ pos tie.at_b) (leads_forward those (member_link member.block member.object (start_after sizes before member)) there) by in
      let index : ℕ = position_or_len (nat_eq member.block) names in
      let name : get_or names index 0 ≡ member.block = sym (eqb-true member.block (get_or names index 0) (passes_at_first (nat_eq member.block) names 0 is.known)) in
      let from : named (length sizes) names (object tie.a) ≡ block member.block = ap (λ (a : ℕ). named (length sizes) names (object a)) is.a ∙ block_named (length sizes) index names ∙ ap block name in
      let to : named (length sizes) names (object tie.b) ≡ object member.object = ap (λ (b : ℕ). named (length sizes) names (object b)) is.b ∙ object_named (length sizes) names member.object lt in
      subst (λ (x : Thing). Leads those x (named (length sizes) names (object tie.b)) (pos tie.at_a -ℤ pos tie.at_b)) (sym from)
      (subst (λ (y : Thing). Leads those (block member.block) y (pos tie.at_a -ℤ pos tie.at_b)) (sym to) plain)

  members_back : (before members : List Member) (ties : List Tie) → AreMemberTies (length sizes) names sizes before members ties
      → ((member : Member) → Contains members member → member.object < length sizes)
      → (those : List Link) → ((link : Link) → Contains (links_after sizes before members) link → Contains those link)
      → (tie : Tie) → Contains ties tie → Leads those (named (length sizes) names (object tie.a)) (named (length sizes) names (object tie.b)) (pos tie.at_a -ℤ pos tie.at_b)
  members_back before [] [] are known those kept tie there = absurd (omega (arith, there.1))
  members_back before [] (first ∷ ties) are known those kept tie there = absurd are
  members_back before (member ∷ rest) [] are known those kept tie there = absurd are
  members_back before (member ∷ rest) (first ∷ ties) are known those kept tie there =
      either
      (λ e. subst (λ (t : Tie). Leads those (named (length sizes) names (object t.a)) (named (length sizes) names (object t.b)) (pos t.at_a -ℤ pos t.at_b)) e
      (member_back before member first are.0 (known member (zero, (omega arith), refl)) those
      (kept (member_link member.block member.object (start_after sizes before member)) (zero, (omega arith), refl))))
      (λ later. members_back (before ++ member ∷ []) rest ties are.1 (λ m in_rest. known m (cons_more member rest m in_rest)) those
      (λ l in_rest. kept l (cons_more (member_link member.block member.object (start_after sizes before member)) (links_after sizes (before ++ member ∷ []) rest) l in_rest)) tie later)
      (cons_cases first ties tie there)

  -- ---- the two ways

  module _ (member_ties : List Tie) (are : AreMemberTies (length sizes) names sizes [] all member_ties)
      (known : All (λ tie. (tie.a < length sizes) × (tie.b < length sizes)) given) (there : (member : Member) → Contains all member → member.object < length sizes) where
    pub each_on : (link : Link) → Contains (links sizes all given) link → Leads (tie_links (member_ties ++ given)) (numbered (length sizes) names link.from) (numbered (length sizes) names link.to) link.by
    each_on link in_links = by_case (Contains-append_cases (list_links sizes all) (tie_links given) link in_links)
      where
        of_member : (l : Link) → Contains (tie_links member_ties) l → Contains (tie_links (member_ties ++ given)) l
        of_member l in_ties = let found = tie_from member_ties l in_ties in
            subst (Contains (tie_links (member_ties ++ given))) found.2 (tie_there (member_ties ++ given) found.0 (Contains-append_left member_ties given found.0 found.1))

        of_tie : (tie : Tie) → Contains given tie → Leads (tie_links (member_ties ++ given)) (object tie.a) (object tie.b) (pos tie.at_a -ℤ pos tie.at_b)
        of_tie tie in_given = leads_forward (tie_links (member_ties ++ given)) (tie_link tie) (tie_there (member_ties ++ given) tie (Contains-append_right member_ties given tie in_given))

        by_case : Contains (list_links sizes all) link ⊎ Contains (tie_links given) link
            → Leads (tie_links (member_ties ++ given)) (numbered (length sizes) names link.from) (numbered (length sizes) names link.to) link.by
        by_case (inl of_list) = members_carried (length sizes) names sizes [] all member_ties are (tie_links (member_ties ++ given)) of_member link of_list
        by_case (inr of_given) = let found = tie_from given link of_given in
            subst (λ (l : Link). Leads (tie_links (member_ties ++ given)) (numbered (length sizes) names l.from) (numbered (length sizes) names l.to) l.by) found.2 (of_tie found.0 found.1)

    pub each_back : (link : Link) → Contains (tie_links (member_ties ++ given)) link → Leads (links sizes all given) (named (length sizes) names link.from) (named (length sizes) names link.to) link.by
    each_back link in_links =
        let found = tie_from (member_ties ++ given) link in_links in
        subst (λ (l : Link). Leads (links sizes all given) (named (length sizes) names l.from) (named (length sizes) names l.to) l.by) found.2
        (by_case found.0 (Contains-append_cases member_ties given found.0 found.1))
      where
        by_case : (tie : Tie) → Contains member_ties tie ⊎ Contains given tie
            → Leads (links sizes all given) (named (length sizes) names (object tie.a)) (named (length sizes) names (object tie.b)) (pos tie.at_a -ℤ pos tie.at_b)
        by_case tie (inl of_member) = members_back [] all member_ties are there (links sizes all given) (λ l in_list. Contains-append_left (list_links sizes all) (tie_links given) l in_list) tie of_member
        by_case tie (inr of_given) = given_back known tie of_given

    pub walk_on : (first last : Thing) (by : ℤ) → Leads (links sizes all given) first last by
        → Leads (tie_links (member_ties ++ given)) (numbered (length sizes) names first) (numbered (length sizes) names last) by
    walk_on first last by = leads_carried (links sizes all given) (tie_links (member_ties ++ given)) (numbered (length sizes) names) first last by each_on

    pub walk_back : (first last : Thing) (by : ℤ) → Leads (tie_links (member_ties ++ given)) first last by
        → Leads (links sizes all given) (named (length sizes) names first) (named (length sizes) names last) by
    walk_back first last by = leads_carried (tie_links (member_ties ++ given)) (links sizes all given) (named (length sizes) names) first last by each_back

    -- lists and ties contradict each other exactly where the kept ties do
    pub contradicts_on : IsContradicted (links sizes all given) → IsContradicted (tie_links (member_ties ++ given))
    contradicts_on = contradicted_carried (links sizes all given) (tie_links (member_ties ++ given)) (numbered (length sizes) names) each_on

    pub contradicts_back : IsContradicted (tie_links (member_ties ++ given)) → IsContradicted (links sizes all given)
    contradicts_back = contradicted_carried (tie_links (member_ties ++ given)) (links sizes all given) (named (length sizes) names) each_back
