-- Ties extend a block exactly where a member stands farther from the first unit that its ties reach than from the
-- first unit of its block.
use Rattle.std.proofs.Common.{zero, suc, ◌≡◌, ◌≢◌, ℕ, ◌<◌, ◌≤◌, ℤ, pos, negsuc, neg_ℤ, ◌+ℤ◌, ◌-ℤ◌, ◌<ℤ◌, List, [], ◌∷◌, ◌++◌, Bool, true, false, Contains, nat_eq, nat_lt, length, get_or, refl, sym, ◌∙◌, subst, ap, arith}
use Rattle.std.proofs.lemmas.Int.{ints}
use Rattle.std.proofs.lemmas.List.Elements.{Contains-append_left, Contains-append_right, Contains-append_cases}
use Rattle.std.proofs.lemmas.Bool.{eqb-true, ltb-true, ltb-false}
use Rattle.ftn_base.specs.declared.entity.Tie.{Tie}
use Rattle.ftn_base.specs.Storage.{Thing, Link, object, block, member_link, tie_link, tie_links, Leads, IsContradicted}
use Rattle.ftn_base.proofs.WalkLaws.{leads_kept, leads_on, leads_forward, leads_backward, leads_more}
use Rattle.ftn_base.specs.declared.storage.Member.{Member}
use Rattle.ftn_base.specs.StorageMembers.{start_after, links_after, list_links, links}
use Rattle.ftn_base.specs.StorageFaults.{IsExtended}
use Rattle.equiv_class.specs.Sound as classes
use Rattle.storage_layout.proofs.Potential.{either, cons_cases, cons_more}
use Rattle.storage_layout.proofs.Carried.{tie_from, tie_there}
use Rattle.storage_layout.proofs.Start.{link_kept, kept, of_block, filter_first, filter_other, start_same, kept_with, kept_without}

-- a member stands farther from the first unit that its ties reach than from its block's first unit
pub record IsFarther (sizes : List ℕ) (members : List Member) (offset : List ℕ) : Type 0 where
  pub number : ℕ
  pub member : ℕ
  pub start : ℕ
  pub link : Contains (list_links sizes members) (member_link number member start)
  pub farther : start < get_or offset member 0

-- a link of the block's own lists is one of all lists, and is of that block
link_all : (sizes : List ℕ) (number : ℕ) (before after members : List Member) → after ≡ kept number before
    → (link : Link) → Contains (links_after sizes after (kept number members)) link
    → (m : ℕ) × (start : ℕ) × (member_link number m start ≡ link) × Contains (links_after sizes before members) link
link_all sizes number before after [] same link there = absurd (omega (arith, there.1))
link_all sizes number before after (member ∷ rest) same link there =
    by_block
    (λ kept_too. link_all sizes number (before ++ member ∷ []) (after ++ member ∷ []) rest kept_too link)
    (λ left_out. link_all sizes number (before ++ member ∷ []) after rest left_out link)
    (nat_eq member.block number) refl
  where
    by_block : (after ++ member ∷ [] ≡ kept number (before ++ member ∷ []) → Contains (links_after sizes (after ++ member ∷ []) (kept number rest)) link → (m : ℕ) × (start : ℕ) × (member_link number m start ≡ link) × Contains (links_after sizes (before ++ member ∷ []) rest) link)
        → (after ≡ kept number (before ++ member ∷ []) → Contains (links_after sizes after (kept number rest)) link → (m : ℕ) × (start : ℕ) × (member_link number m start ≡ link) × Contains (links_after sizes (before ++ member ∷ []) rest) link)
        → (b : Bool) → nat_eq member.block number ≡ b → (m : ℕ) × (start : ℕ) × (member_link number m start ≡ link) × Contains (links_after sizes before (member ∷ rest)) link
    by_block with_it without_it true e =
        let first : kept number (member ∷ rest) ≡ member ∷ kept number rest = filter_first (of_block number) member rest e in
        let more = kept_with number before after member same e in
        let number_is : member.block ≡ number = eqb-true member.block number e in
        either
        (λ is. (
          member.object,
          start_after sizes after member,
          ap (λ (b : ℕ). member_link b member.object (start_after sizes after member)) (sym number_is) ∙ is,
          (zero, (omega arith), ap (member_link member.block member.object) (sym (start_same sizes number before after member same number_is)) ∙ is),
        ))
        (λ later. (let found = with_it more later in (found.0, found.1, found.2, cons_more (member_link member.block member.object (start_after sizes before member)) (links_after sizes (before ++ member ∷ []) rest) link found.3)))
        (cons_cases (member_link member.block member.object (start_after sizes after member)) (links_after sizes (after ++ member ∷ []) (kept number rest)) link
        (subst (λ (ms : List Member). Contains (links_after sizes after ms) link) first there))
    by_block with_it without_it false e =
        let others : kept number (member ∷ rest) ≡ kept number rest = filter_other (of_block number) member rest e in
        let found = without_it (kept_without number before after member same e) (subst (λ (ms : List Member). Contains (links_after sizes after ms) link) others there) in
        (found.0, found.1, found.2, cons_more (member_link member.block member.object (start_after sizes before member)) (links_after sizes (before ++ member ∷ []) rest) link found.3)

-- what is not other than 0 is 0
zero_by : (by : ℤ) → ((by ≢ pos 0) → ⊥) → by ≡ pos 0
zero_by (pos zero) h = refl
zero_by (pos (suc n)) h = absurd (h (λ e. absurd (omega (arith, ints, e))))
zero_by (negsuc n) h = absurd (h (λ e. absurd (omega (arith, ints, e))))

module _ (sizes all_sizes : List ℕ) (members : List Member) (given : List Tie) (class offset size : List ℕ)
    (found : classes.IsSound all_sizes (tie_links given) class offset size)
    (there : (number member start : ℕ) → Contains (list_links sizes members) (member_link number member start) → member < length all_sizes) where
  -- a member that stands farther makes its ties extend the block
  pub extends : IsFarther sizes members offset → IsExtended sizes members given
  extends far =
      let inside = there far.number far.member far.start far.link in
      let least = found.offsets.least far.member inside in
      let walk = (found.classes.joined far.member least.0 inside least.1).1 (sym least.2) in
      let away : pos (get_or offset least.0 0) ≡ pos (get_or offset far.member 0) +ℤ walk.0 = found.offsets.apart far.member least.0 walk.0 inside least.1 walk.1 in
      let zero_there : get_or offset least.0 0 ≡ 0 = least.3 in
      let farther : far.start < get_or offset far.member 0 = far.farther in
      let own : List Link = links sizes (kept far.number members) given in
      let to_member : Leads own (block far.number) (object far.member) (pos far.start) =
      leads_forward own (member_link far.number far.member far.start) (Contains-append_left (list_links sizes (kept far.number members)) (tie_links given) (member_link far.number far.member far.start)
      (link_kept sizes far.number [] [] members refl (member_link far.number far.member far.start) far.link refl)) in
      let onward : Leads own (object far.member) (object least.0) walk.0 =
      leads_more (tie_links given) own (object far.member) (object least.0) walk.0 (λ link in_ties. Contains-append_right (list_links sizes (kept far.number members)) (tie_links given) link in_ties) walk.1 in
      record {
        number = far.number;
        reached = least.0;
        by = pos far.start +ℤ walk.0;
        before = omega (arith, ints);
        walk = leads_on own (block far.number) (object far.member) (object least.0) (pos far.start) walk.0 to_member onward;
      }

  -- ---- the other way round: where no member stands farther, no walk from a block leads before it

  -- the thing is the block, at its own unit, or an object of a class that a member of the block begins in
  abbrev AtMember : ℕ → Thing → ℤ → Type 0
  AtMember number (block other) at = (other ≡ number) × (at ≡ pos 0)
  AtMember number (object v) at =
      (member : ℕ) × (start : ℕ) × Contains (list_links sizes members) (member_link number member start) × (v < length all_sizes) × (get_or class member 0 ≡ get_or class v 0)
      × (at ≡ pos start +ℤ (pos (get_or offset v 0) -ℤ pos (get_or offset member 0)))

  module _ (agree : IsContradicted (links sizes members given) → ⊥) (known : (tie : Tie) → Contains given tie → (tie.a < length all_sizes) × (tie.b < length all_sizes)) (number : ℕ) where
    abbrev own : List Link
    own = links sizes (kept number members) given

    member_on : (m start : ℕ) → Contains (list_links sizes members) (member_link number m start) → (at : ℤ) → AtMember number (block number) at → AtMember number (object m) (at +ℤ pos start)
    member_on m start in_list at here =
        let none : at ≡ pos 0 = here.1 in
        (m, start, in_list, there number m start in_list, refl, (omega (arith, ints)))

    member_off : (m start : ℕ) → Contains (list_links sizes members) (member_link number m start) → (at : ℤ) → AtMember number (object m) at → AtMember number (block number) (at +ℤ neg_ℤ (pos start))
    member_off m start in_list at here =
        let all : List Link = links sizes members given in
        let inside = there number here.0 here.1 here.2 in
        let tied = (found.classes.joined here.0 m inside here.3).1 here.4 in
        let away : pos (get_or offset m 0) ≡ pos (get_or offset here.0 0) +ℤ tied.0 = found.offsets.apart here.0 m tied.0 inside here.3 tied.1 in
        let place : at ≡ pos here.1 +ℤ (pos (get_or offset m 0) -ℤ pos (get_or offset here.0 0)) = here.5 in
        let out : Leads all (block number) (object here.0) (pos here.1) = leads_forward all (member_link number here.0 here.1) (Contains-append_left (list_links sizes members) (tie_links given) (member_link number here.0 here.1) here.2) in
        let across : Leads all (object here.0) (object m) tied.0 = leads_more (tie_links given) all (object here.0) (object m) tied.0 (λ link in_ties. Contains-append_right (list_links sizes members) (tie_links given) link in_ties) tied.1 in
        let home : Leads all (object m) (block number) (neg_ℤ (pos start)) = leads_backward all (member_link number m start) (Contains-append_left (list_links sizes members) (tie_links given) (member_link number m start) in_list) in
        let round = leads_on all (block number) (object m) (block number) (pos here.1 +ℤ tied.0) (neg_ℤ (pos start)) (leads_on all (block number) (object here.0) (object m) (pos here.1) tied.0 out across) home in
        let none : (pos here.1 +ℤ tied.0) +ℤ neg_ℤ (pos start) ≡ pos 0 = zero_by ((pos here.1 +ℤ tied.0) +ℤ neg_ℤ (pos start)) (λ apart. agree (record { thing = block number; by = (pos here.1 +ℤ tied.0) +ℤ neg_ℤ (pos start); apart = apart; back = round })) in
        (refl, (omega (arith, ints)))

    tie_on : (a b : ℕ) (by at : ℤ) → Leads (tie_links given) (object a) (object b) by → b < length all_sizes → AtMember number (object a) at → AtMember number (object b) (at +ℤ by)
    tie_on a b by at walk lt_b here =
        let same = (found.classes.joined a b here.3 lt_b).0 (by, walk) in
        let away : pos (get_or offset b 0) ≡ pos (get_or offset a 0) +ℤ by = found.offsets.apart a b by here.3 lt_b walk in
        let place : at ≡ pos here.1 +ℤ (pos (get_or offset a 0) -ℤ pos (get_or offset here.0 0)) = here.5 in
        (here.0, here.1, here.2, lt_b, here.4 ∙ same, (omega (arith, ints)))

    onward : (link : Link) → Contains own link → (at : ℤ) → AtMember number link.from at → AtMember number link.to (at +ℤ link.by)
    onward link in_own at =
        either
        (λ in_list. (let f = link_all sizes number [] [] members refl link in_list in
        subst (λ (l : Link). AtMember number l.from at → AtMember number l.to (at +ℤ l.by)) f.2 (member_on f.0 f.1 (subst (Contains (list_links sizes members)) (sym f.2) f.3) at)))
        (λ in_ties. (let f = tie_from given link in_ties in
        subst (λ (l : Link). AtMember number l.from at → AtMember number l.to (at +ℤ l.by)) f.2
        (tie_on f.0.a f.0.b (pos f.0.at_a -ℤ pos f.0.at_b) at (leads_forward (tie_links given) (tie_link f.0) (tie_there given f.0 f.1)) (known f.0 f.1).1)))
        (Contains-append_cases (list_links sizes (kept number members)) (tie_links given) link in_own)

    backward_too : (link : Link) → Contains own link → (at : ℤ) → AtMember number link.to at → AtMember number link.from (at +ℤ neg_ℤ link.by)
    backward_too link in_own at =
        either
        (λ in_list. (let f = link_all sizes number [] [] members refl link in_list in
        subst (λ (l : Link). AtMember number l.to at → AtMember number l.from (at +ℤ neg_ℤ l.by)) f.2 (member_off f.0 f.1 (subst (Contains (list_links sizes members)) (sym f.2) f.3) at)))
        (λ in_ties. (let f = tie_from given link in_ties in
        subst (λ (l : Link). AtMember number l.to at → AtMember number l.from (at +ℤ neg_ℤ l.by)) f.2
        (tie_on f.0.b f.0.a (neg_ℤ (pos f.0.at_a -ℤ pos f.0.at_b)) at (leads_backward (tie_links given) (tie_link f.0) (tie_there given f.0 f.1)) (known f.0 f.1).0)))
        (Contains-append_cases (list_links sizes (kept number members)) (tie_links given) link in_own)

    pub not_before : (IsFarther sizes members offset → ⊥) → (v : ℕ) (by : ℤ) → Leads own (block number) (object v) by → by <ℤ pos 0 → ⊥
    not_before near v by walk less =
        let at = leads_kept own (AtMember number) onward backward_too (block number) (object v) (pos 0) by walk (refl, refl) in
        let place : pos 0 +ℤ by ≡ pos at.1 +ℤ (pos (get_or offset v 0) -ℤ pos (get_or offset at.0 0)) = at.5 in
        by_case (nat_lt at.1 (get_or offset at.0 0)) at.0 at.1 at.2 place refl
      where
        by_case : (b : Bool) (m start : ℕ) → Contains (list_links sizes members) (member_link number m start) → pos 0 +ℤ by ≡ pos start +ℤ (pos (get_or offset v 0) -ℤ pos (get_or offset m 0)) → nat_lt start (get_or offset m 0) ≡ b → ⊥
        by_case true m start in_list place e = near (record { number = number; member = m; start = start; link = in_list; farther = ltb-true start (get_or offset m 0) e })
        by_case false m start in_list place e = let high : get_or offset m 0 ≤ start = ltb-false start (get_or offset m 0) e in let l : by <ℤ pos 0 = less in absurd (omega (arith, ints))

  -- where lists and ties do not contradict each other and no member stands farther, no tie extends a block
  pub not_extended : (IsContradicted (links sizes members given) → ⊥) → ((tie : Tie) → Contains given tie → (tie.a < length all_sizes) × (tie.b < length all_sizes)) → (IsFarther sizes members offset → ⊥) → IsExtended sizes members given → ⊥
  not_extended agree known near it = not_before agree known it.number near it.reached it.by it.walk it.before
