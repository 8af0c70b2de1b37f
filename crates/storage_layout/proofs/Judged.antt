-- What classes of things by some of the ties tell of blocks.
use Rattle.std.proofs.Common.{zero, ◌≡◌, ℕ, ◌+◌, ◌-◌, ◌<◌, ◌≤◌, pos, List, [], ◌∷◌, ◌++◌, Bool, true, false, Contains, All, Any, take, drop, nat_lt, length, get_or, refl, sym, ◌∙◌, subst, ap, arith}
use Rattle.std.proofs.lemmas.Int.{ints}
use Rattle.std.proofs.lemmas.List.{length-append, length-drop, get_or-drop}
use Rattle.std.proofs.lemmas.List.Elements.{Contains-append_left, Contains-append_right, Contains-append_cases, All-contains}
use Rattle.std.proofs.lemmas.Bool.{ltb-true, ltb-false}
use Rattle.ftn_base.specs.declared.entity.Tie.{Tie}
use Rattle.ftn_base.specs.Storage.{Link, object, member_link, tie_links, IsContradicted}
use Rattle.ftn_base.specs.Storage.{IsWithin}
use Rattle.ftn_base.specs.declared.storage.Member.{Member}
use Rattle.ftn_base.specs.StorageMembers.{start_after, links_after, list_links, links}
use Rattle.ftn_base.specs.StorageFaults.{IsExtended, AreBlocksJoined}
use Rattle.equiv_class.specs.Sound as classes
use Rattle.storage_layout.specs.steps.Numbered.{AreNames, AreMemberTies, AreThings}
use Rattle.storage_layout.specs.steps.Kept.{AreMembers, AreLinkable}
use Rattle.storage_layout.specs.steps.Held.{HasTwins}
use Rattle.storage_layout.proofs.Potential.{either, cons_cases, cons_more}
use Rattle.storage_layout.proofs.Carried.{contradicts_on}
use Rattle.storage_layout.proofs.Conflict.{take_past}
use Rattle.storage_layout.proofs.Extending.{IsFarther, extends, not_extended}
use Rattle.storage_layout.proofs.Twins.{twins_join, join_twins}
use Rattle.storage_layout.proofs.Keeping.{take_front}
use Rattle.storage_layout.proofs.Parts.{AreAmong, take_among, agree_among, all_among, objects_known, members_known}

-- ---- member ties and links of lists

link_tie : (count : ℕ) (names sizes : List ℕ) (before members : List Member) (ties : List Tie) → AreMemberTies count names sizes before members ties
    → (link : Link) → Contains (links_after sizes before members) link → (tie : Tie) × Contains ties tie × (link.to ≡ object tie.b) × (link.by ≡ pos tie.at_a)
link_tie count names sizes before [] ties are link there = absurd (omega (arith, there.1))
link_tie count names sizes before (member ∷ rest) [] are link there = absurd are
link_tie count names sizes before (member ∷ rest) (tie ∷ ties) are link there =
    either
    (λ e. (tie, (zero, (omega arith), refl), ap (λ (l : Link). l.to) (sym e) ∙ ap object (sym are.0.b), ap (λ (l : Link). l.by) (sym e) ∙ ap pos (sym are.0.at_a)))
    (λ later. (let found = link_tie count names sizes (before ++ member ∷ []) rest ties are.1 link later in (found.0, cons_more tie ties found.0 found.1, found.2, found.3)))
    (cons_cases (member_link member.block member.object (start_after sizes before member)) (links_after sizes (before ++ member ∷ []) rest) link there)

tie_member : (count : ℕ) (names sizes : List ℕ) (before members : List Member) (ties : List Tie) → AreMemberTies count names sizes before members ties
    → (tie : Tie) → Contains ties tie → (number : ℕ) × Contains (links_after sizes before members) (member_link number tie.b tie.at_a)
tie_member count names sizes before [] [] are tie there = absurd (omega (arith, there.1))
tie_member count names sizes before [] (first ∷ ties) are tie there = absurd are
tie_member count names sizes before (member ∷ rest) [] are tie there = absurd are
tie_member count names sizes before (member ∷ rest) (first ∷ ties) are tie there =
    either
    (λ e. (
      member.block,
      (zero, (omega arith), ap (λ (m : ℕ). member_link member.block m (start_after sizes before member)) (sym are.0.b ∙ ap (λ (t : Tie). t.b) e) ∙ ap (member_link member.block tie.b) (sym are.0.at_a ∙ ap (λ (t : Tie). t.at_a) e)),
    ))
    (λ later. (let found = tie_member count names sizes (before ++ member ∷ []) rest ties are.1 tie later in
    (found.0, cons_more (member_link member.block member.object (start_after sizes before member)) (links_after sizes (before ++ member ∷ []) rest) (member_link found.0 tie.b tie.at_a) found.1)))
    (cons_cases first ties tie there)

one_object : (a b : ℕ) → object a ≡ object b → a ≡ b
one_object a b e = cc e

one_number : (a b : ℕ) → pos a ≡ pos b → a ≡ b
one_number a b e = omega (arith, ints, e)

append_among : (own some all : List Tie) → AreAmong some all → AreAmong (own ++ some) (own ++ all)
append_among own some all among tie there =
    either (λ left. Contains-append_left own all tie left) (λ right. Contains-append_right own all tie (among tie right)) (Contains-append_cases own some tie there)

module _ (sizes : List ℕ) (members : List Member) (given : List Tie) (kept_sizes names : List ℕ) (entries : ℕ) (kept : List Tie)
    (are : AreThings sizes members given kept_sizes names entries kept) (members_are : AreMembers sizes members) (within : All (IsWithin sizes) given)
    (linkable : AreLinkable kept_sizes kept) (agree : IsContradicted (tie_links kept) → ⊥) (count : ℕ) where
  abbrev some : List Tie
  some = take count given

  pub member_part : take entries kept ≡ are.member_ties
  member_part = ap (λ (n : ℕ). take n kept) are.entries_are ∙ ap (take (length are.member_ties)) are.ties_are ∙ take_front are.member_ties given

  pub first_part : take (entries + count) kept ≡ are.member_ties ++ take count given
  first_part = ap (λ (n : ℕ). take (n + count) kept) are.entries_are ∙ ap (take (length are.member_ties + count)) are.ties_are ∙ take_past are.member_ties given count

  part_among : AreAmong (are.member_ties ++ take count given) kept
  part_among = subst (AreAmong (are.member_ties ++ take count given)) (sym are.ties_are) (append_among are.member_ties (take count given) given (take_among count given))

  some_among : AreAmong (take count given) kept
  some_among tie there = part_among tie (Contains-append_right are.member_ties (take count given) tie there)

  some_within : All (IsWithin sizes) (take count given)
  some_within = all_among (IsWithin sizes) (take count given) given (take_among count given) within

  some_known : All (λ tie. (tie.a < length sizes) × (tie.b < length sizes)) (take count given)
  some_known = objects_known sizes (take count given) some_within

  links_agree : IsContradicted (links sizes members (take count given)) → ⊥
  links_agree bad = agree_among (are.member_ties ++ take count given) kept part_among agree
      (contradicts_on names sizes members (take count given) are.member_ties are.members_are some_known (members_known sizes members members_are) bad)

  member_inside : (number member start : ℕ) → Contains (list_links sizes members) (member_link number member start) → member < length kept_sizes
  member_inside number member start there =
      let found = link_tie (length sizes) names sizes [] members are.member_ties are.members_are (member_link number member start) there in
      let is : IsWithin kept_sizes found.0 = All-contains (IsWithin kept_sizes) kept found.0 linkable.within (part_among found.0 (Contains-append_left are.member_ties (take count given) found.0 found.1)) in
      subst (λ (m : ℕ). m < length kept_sizes) (one_object found.0.b member (sym found.2)) is.b

  kept_known : (tie : Tie) → Contains (take count given) tie → (tie.a < length kept_sizes) × (tie.b < length kept_sizes)
  kept_known tie there = let is : IsWithin kept_sizes tie = All-contains (IsWithin kept_sizes) kept tie linkable.within (some_among tie there) in (is.a, is.b)

  -- ---- blocks extended before their first unit

  module _ (class offset size : List ℕ) (found : classes.IsSound kept_sizes (tie_links (take count given)) class offset size) where
    pub extended_on : Any (λ tie. tie.at_a < get_or offset tie.b 0) (take entries kept) → IsExtended sizes members (take count given)
    extended_on far = by_tie (subst (Any (λ tie. tie.at_a < get_or offset tie.b 0)) member_part far)
      where
        by_tie : Any (λ tie. tie.at_a < get_or offset tie.b 0) are.member_ties → IsExtended sizes members (take count given)
        by_tie it =
            let link = tie_member (length sizes) names sizes [] members are.member_ties are.members_are it.1 (it.0, it.2, it.3) in
            extends sizes kept_sizes members (take count given) class offset size found member_inside
            (record { number = link.0; member = it.1.b; start = it.1.at_a; link = link.1; farther = it.4 })

    pub extended_back : All (λ tie. get_or offset tie.b 0 ≤ tie.at_a) (take entries kept) → IsExtended sizes members (take count given) → ⊥
    extended_back near = not_extended sizes kept_sizes members (take count given) class offset size found member_inside links_agree kept_known none_farther
      where
        none_farther : IsFarther sizes members offset → ⊥
        none_farther far =
            let found = link_tie (length sizes) names sizes [] members are.member_ties are.members_are (member_link far.number far.member far.start) far.link in
            let member : far.member ≡ found.0.b = one_object far.member found.0.b found.2 in
            let start : far.start ≡ found.0.at_a = one_number far.start found.0.at_a found.3 in
            let le : get_or offset found.0.b 0 ≤ found.0.at_a = All-contains (λ tie. get_or offset tie.b 0 ≤ tie.at_a) are.member_ties found.0 (subst (All (λ tie. get_or offset tie.b 0 ≤ tie.at_a)) member_part near) found.1 in
            let same : get_or offset far.member 0 ≡ get_or offset found.0.b 0 = ap (λ (m : ℕ). get_or offset m 0) member in
            let less : far.start < get_or offset far.member 0 = far.farther in
            absurd (omega (arith, start, le, same, less))

  -- ---- blocks joined

  names_are : AreNames sizes members names are.block_sizes
  names_are = are.names_are

  same_name : (i j : ℕ) → i < length names → j < length names → get_or names i 0 ≡ get_or names j 0 → i ≡ j
  same_name i j lt_i lt_j e = by_case (nat_lt i j) (nat_lt j i) refl refl
    where
      by_case : (a b : Bool) → nat_lt i j ≡ a → nat_lt j i ≡ b → i ≡ j
      by_case true b less other = absurd (names_are.once i j 0 (ltb-true i j less) lt_j e)
      by_case false true other less = absurd (names_are.once j i 0 (ltb-true j i less) lt_i (sym e))
      by_case false false one other = let low = ltb-false i j one in let high = ltb-false j i other in omega (arith, low, high)

  whole : length kept_sizes ≡ length sizes + length names
  whole = ap length are.sizes_are ∙ length-append sizes are.block_sizes ∙ ap (λ (n : ℕ). length sizes + n) names_are.sized

  module _ (class offset size : List ℕ) (found : classes.IsSound kept_sizes (tie_links (take (entries + count) kept)) class offset size) where
    tied : classes.IsSound kept_sizes (tie_links (are.member_ties ++ take count given)) class offset size
    tied = subst (λ (ties : List Tie). classes.IsSound kept_sizes (tie_links ties) class offset size) first_part found

    blocks_counted : length (drop (length sizes) class) ≡ length names
    blocks_counted = let all : length class ≡ length kept_sizes = found.classes.all in let w = whole in let rest : length (drop (length sizes) class) ≡ length class - length sizes = length-drop (length sizes) class in omega (arith, all, w, rest)

    pub joined_on : HasTwins (drop (length sizes) class) → AreBlocksJoined sizes members (take count given)
    joined_on twins =
        let len = blocks_counted in
        let w = whole in
        let lt_i : twins.i < length names = (let lt = twins.one in omega (arith, lt, len)) in
        let lt_j : twins.j < length names = (let lt = twins.other in omega (arith, lt, len)) in
        let same : get_or class (length sizes + twins.i) 0 ≡ get_or class (length sizes + twins.j) 0 = sym (get_or-drop (length sizes) class twins.i 0) ∙ twins.same ∙ get_or-drop (length sizes) class twins.j 0 in
        twins_join names sizes members (take count given) are.member_ties are.members_are some_known (members_known sizes members members_are) same_name
        (record {
          i = twins.i;
          j = twins.j;
          one = lt_i;
          other = lt_j;
          apart = twins.apart;
          walk = (tied.classes.joined (length sizes + twins.i) (length sizes + twins.j) (omega (arith, lt_i, w)) (omega (arith, lt_j, w))).1 same;
        })

    pub joined_back : AreBlocksJoined sizes members (take count given) → HasTwins (drop (length sizes) class)
    joined_back it =
        let twins = join_twins names sizes members (take count given) are.member_ties are.members_are some_known (members_known sizes members members_are) it in
        let len = blocks_counted in
        let w = whole in
        let lt_i : twins.i < length names = twins.one in
        let lt_j : twins.j < length names = twins.other in
        let same : get_or class (length sizes + twins.i) 0 ≡ get_or class (length sizes + twins.j) 0 = (tied.classes.joined (length sizes + twins.i) (length sizes + twins.j) (omega (arith, lt_i, w)) (omega (arith, lt_j, w))).0 twins.walk in
        record {
          i = twins.i;
          j = twins.j;
          one = omega (arith, lt_i, len);
          other = omega (arith, lt_j, len);
          apart = twins.apart;
          same = get_or-drop (length sizes) class twins.i 0 ∙ same ∙ sym (get_or-drop (length sizes) class twins.j 0);
        }
