-- Where no two blocks are joined, a block ends in a scoping unit where the class of one of its members there does that
-- reaches farthest.
use Rattle.std.proofs.Common.{zero, suc, ◌≡◌, ℕ, ◌+◌, ◌-◌, ◌<◌, ◌≤◌, ℤ, pos, neg_ℤ, ◌+ℤ◌, ◌-ℤ◌, ◌≤ℤ◌, List, [], ◌∷◌, ◌++◌, ◌⊎◌, inl, inr, Bool, true, false, Option, None, Some, Contains, All, filter, nat_lt, length, take, get_or, slice_get, refl, sym, ◌∙◌, subst, ap, arith}
use Rattle.std.specs.Option.{option_map}
use Rattle.std.proofs.lemmas.Int.{ints}
use Rattle.std.proofs.lemmas.List.{length-append, length-map, get_or_append_left, get_or_past, append-nil, append_assoc}
use Rattle.std.proofs.lemmas.List.Elements.{All-contains, All-get_or, Contains-append_left, Contains-append_right, Contains-append_cases}
use Rattle.std.proofs.lemmas.Option.{slice_get_within, slice_get_past, get_or_from_slice_get, same_Some}
use Rattle.std.proofs.lemmas.Bool.{ltb-true, ltb-false, eq-eqb}
use Rattle.ftn_base.specs.declared.entity.Tie.{Tie}
use Rattle.ftn_base.specs.Storage.{Thing, Link, object, block, tie_link, tie_links, Leads, IsContradicted}
use Rattle.ftn_base.proofs.WalkLaws.{leads_kept, leads_nowhere, leads_on, leads_by, leads_forward, leads_backward, leads_more}
use Rattle.ftn_base.specs.declared.storage.Object.{Object}
use Rattle.ftn_base.specs.declared.storage.Member.{Member}
use Rattle.ftn_base.specs.StorageMembers.{sizes_of, start_after, list_links, links}
use Rattle.ftn_base.specs.StorageGiven.{IsObjectOf, IsTieOf}
use Rattle.ftn_base.specs.StorageFaults.{AreBlocksJoined, is_of, is_tie_in, links_in, IsEnd}
use Rattle.equiv_class.specs.Sound as classes
use Rattle.storage_layout.specs.steps.Numbered.{IsMemberTie, AreMemberTies}
use Rattle.storage_layout.specs.steps.Ends.{last_of, IsEndOf, IsGreatest}
use Rattle.storage_layout.proofs.Numbers.{zero_by}
use Rattle.storage_layout.proofs.Potential.{either, cons_cases, cons_more}
use Rattle.storage_layout.proofs.Carried.{tie_from, tie_there}
use Rattle.storage_layout.proofs.Start.{filter_first, filter_other, only_block}
use Rattle.storage_layout.proofs.ScopeLinks.{there_in, link_at, link_there, scope_link, link_placed}

-- ---- what is kept of a list

kept_from : {X : Type 0} (p : X → Bool) (xs : List X) (x : X) → Contains (filter p xs) x → Contains xs x × (p x ≡ true)
kept_from p [] x there = absurd (omega (arith, there.1))
kept_from p (first ∷ rest) x there = by_test (kept_from p rest x) (p first) refl
  where
    by_test : (Contains (filter p rest) x → Contains rest x × (p x ≡ true)) → (b : Bool) → p first ≡ b → Contains (first ∷ rest) x × (p x ≡ true)
    by_test later true e =
        either (λ is. ((zero, (omega arith), is), subst (λ y. p y ≡ true) is e)) (λ more. (let found = later more in (cons_more first rest x found.0, found.1)))
        (cons_cases first (filter p rest) x (subst (λ list. Contains list x) (filter_first p first rest e) there))
    by_test later false e = let found = later (subst (λ list. Contains list x) (filter_other p first rest e) there) in (cons_more first rest x found.0, found.1)

kept_to : {X : Type 0} (p : X → Bool) (xs : List X) (x : X) → Contains xs x → p x ≡ true → Contains (filter p xs) x
kept_to p [] x there passes = absurd (omega (arith, there.1))
kept_to p (first ∷ rest) x there passes = by_test (λ more. kept_to p rest x more passes) (p first) refl
  where
    by_test : (Contains rest x → Contains (filter p rest) x) → (b : Bool) → p first ≡ b → Contains (filter p (first ∷ rest)) x
    by_test later true e =
        subst (λ list. Contains list x) (sym (filter_first p first rest e))
        (either (λ is. (zero, (omega arith), is)) (λ more. cons_more first (filter p rest) x (later more)) (cons_cases first rest x there))
    by_test later false e =
        subst (λ list. Contains list x) (sym (filter_other p first rest e))
        (either (λ is. absurd (cc (sym e ∙ ap p is ∙ passes))) later (cons_cases first rest x there))

-- ---- the tie of a member

pub record HasTie (count : ℕ) (names sizes : List ℕ) (before : List Member) (member : Member) (ties : List Tie) (at : ℕ) : Type 0 where
  pub tie : Tie
  pub there : slice_get ties at ≡ Some tie
  pub is : IsMemberTie count names sizes before member tie

pub tie_at : (count : ℕ) (names sizes : List ℕ) (before members : List Member) (ties : List Tie) → AreMemberTies count names sizes before members ties
    → (at : ℕ) (member : Member) → slice_get members at ≡ Some member → HasTie count names sizes (before ++ take at members) member ties at
tie_at count names sizes before [] ties are at member here = absurd (cc here)
tie_at count names sizes before (first ∷ rest) [] are at member here = absurd are
tie_at count names sizes before (first ∷ rest) (tie ∷ ties) are zero member here =
    let one : first ≡ member = same_Some first member here in
    record {
      tie = tie;
      there = refl;
      is = subst (λ (m : Member). IsMemberTie count names sizes (before ++ []) m tie) one (subst (λ (ms : List Member). IsMemberTie count names sizes ms first tie) (sym (append-nil before)) are.0);
    }
tie_at count names sizes before (first ∷ rest) (tie ∷ ties) are (suc k) member here =
    let later = tie_at count names sizes (before ++ first ∷ []) rest ties are.1 k member here in
    record {
      tie = later.tie;
      there = later.there;
      is = subst (λ (ms : List Member). IsMemberTie count names sizes ms member later.tie) (append_assoc before (first ∷ []) (take k rest)) later.is;
    }

-- ---- objects of a scoping unit

of_scope_too : (scope : ℕ) (found : Option Object) → option_map (λ (o : Object). o.scope) found ≡ Some scope → is_of scope found ≡ true
of_scope_too scope None e = absurd (cc e)
of_scope_too scope (Some o) e = eq-eqb o.scope scope (same_Some o.scope scope e)

pub there_too : (objects : List Object) (v scope : ℕ) → IsObjectOf objects scope v → v < length objects
there_too objects v scope e = by_case (nat_lt v (length objects)) refl
  where
    by_case : (b : Bool) → nat_lt v (length objects) ≡ b → v < length objects
    by_case true lt = ltb-true v (length objects) lt
    by_case false past = absurd (cc (sym e ∙ ap (option_map (λ (o : Object). o.scope)) (slice_get_past objects v (ltb-false v (length objects) past))))

-- an object that begins so far from the block ends within what its class tells
close : (start class_end from at units end : ℕ) (by : ℤ) → pos 0 +ℤ by ≡ pos start +ℤ (pos at -ℤ pos from) → start + (class_end - from) ≤ end → at + units ≤ class_end → from ≤ class_end → (by +ℤ pos units) ≤ℤ pos end
close start class_end from at units end by away most inner member_inner = omega (arith, ints, away, most, inner, member_inner)

-- an object that ends where the class of a member does
closed : (start class_end from at units end : ℕ) (by : ℤ) → pos at ≡ pos from +ℤ by → start + (class_end - from) ≡ end → at + units ≡ class_end → from ≤ class_end → pos start +ℤ by ≡ pos end -ℤ pos units
closed start class_end from at units end by away end_is far inner = omega (arith, ints, away, end_is, far, inner)

module _ (objects : List Object) (block_sizes : List ℕ) (members : List Member) (given : List Tie)
    (class offset size : List ℕ) (found : classes.IsSound (sizes_of objects ++ block_sizes) (tie_links given) class offset size)
    (homes : All (λ (member : Member). IsObjectOf objects member.scope member.object) members) (tied : All (IsTieOf objects) given)
    (agree : IsContradicted (links (sizes_of objects) members given) → ⊥) (apart : AreBlocksJoined (sizes_of objects) members given → ⊥)
    (names : List ℕ) (kept member_ties : List Tie) (are : AreMemberTies (length (sizes_of objects)) names (sizes_of objects) [] members member_ties) (kept_is : kept ≡ member_ties ++ given)
    (scope number : ℕ) where
  abbrev all : List Link
  all = links (sizes_of objects) members given

  abbrev own : List Link
  own = links_in objects members given scope

  abbrev own_ties : List Tie
  own_ties = filter (is_tie_in objects scope) given

  abbrev start : ℕ → Member → ℕ
  start k member = start_after (sizes_of objects) (take k members) member

  in_all : (v : ℕ) → v < length objects → v < length (sizes_of objects ++ block_sizes)
  in_all v lt =
      let whole = length-append (sizes_of objects) block_sizes in
      let same : length (sizes_of objects) ≡ length objects = length-map objects (λ (o : Object). o.units) in
      omega (arith, lt, whole, same)

  -- ---- objects of members and of ties

  home : (k : ℕ) (member : Member) → slice_get members k ≡ Some member → IsObjectOf objects member.scope member.object
  home k member there =
      let lt = slice_get_within members k member there in
      subst (λ (m : Member). IsObjectOf objects m.scope m.object) (get_or_from_slice_get members k member member there) (All-get_or (λ (m : Member). IsObjectOf objects m.scope m.object) members k member lt homes)

  member_inside : (k : ℕ) (member : Member) → slice_get members k ≡ Some member → member.object < length (sizes_of objects ++ block_sizes)
  member_inside k member there = in_all member.object (there_too objects member.object member.scope (home k member there))

  tie_ends : (tie : Tie) → Contains given tie → (tie.a < length objects) × (tie.b < length objects)
  tie_ends tie there =
      let is = All-contains (IsTieOf objects) given tie tied there in
      let same : length (sizes_of objects) ≡ length objects = length-map objects (λ (o : Object). o.units) in
      let a : tie.a < length (sizes_of objects) = is.within.a in
      let b : tie.b < length (sizes_of objects) = is.within.b in
      ((omega (arith, a, same)), (omega (arith, b, same)))

  member_out : (k : ℕ) (member : Member) → slice_get members k ≡ Some member → Contains all (link_at (sizes_of objects) [] members k member)
  member_out k member there =
      Contains-append_left (list_links (sizes_of objects) members) (tie_links given) (link_at (sizes_of objects) [] members k member) (link_there (sizes_of objects) [] members k member there)

  -- ---- where walks from the block lead

  -- the object lies in the class of a member, and as far from it as their offsets are apart
  record IsAt (v : ℕ) (at : ℤ) : Type 0 where
    k : ℕ
    member : Member
    there : slice_get members k ≡ Some member
    of_block : member.block ≡ number
    of_scope : member.scope ≡ scope
    inside : v < length (sizes_of objects ++ block_sizes)
    together : get_or class member.object 0 ≡ get_or class v 0
    away : at ≡ pos (start k member) +ℤ (pos (get_or offset v 0) -ℤ pos (get_or offset member.object 0))

  abbrev AtEnd : Thing → ℤ → Type 0
  AtEnd (block other) at = (other ≡ number) × (at ≡ pos 0)
  AtEnd (object v) at = IsAt v at

  member_on : (k : ℕ) (member : Member) → slice_get members k ≡ Some member → member.scope ≡ scope → (at : ℤ) → AtEnd (block member.block) at → AtEnd (object member.object) (at +ℤ pos (start k member))
  member_on k member there in_scope at here =
      let none : at ≡ pos 0 = here.1 in
      record { k = k; member = member; there = there; of_block = here.0; of_scope = in_scope; inside = member_inside k member there; together = refl; away = omega (arith, ints, none) }

  -- a walk from one member's block to another's, over their ties
  round : (k j : ℕ) (one other : Member) → slice_get members k ≡ Some one → slice_get members j ≡ Some other → (d : ℤ) → Leads (tie_links given) (object one.object) (object other.object) d
      → Leads all (block one.block) (block other.block) ((pos (start k one) +ℤ d) +ℤ neg_ℤ (pos (start j other)))
  round k j one other one_there other_there d walk =
      leads_on all (block one.block) (object other.object) (block other.block) (pos (start k one) +ℤ d) (neg_ℤ (pos (start j other)))
      (leads_on all (block one.block) (object one.object) (object other.object) (pos (start k one)) d (leads_forward all (link_at (sizes_of objects) [] members k one) (member_out k one one_there))
      (leads_more (tie_links given) all (object one.object) (object other.object) d (λ link in_ties. Contains-append_right (list_links (sizes_of objects) members) (tie_links given) link in_ties) walk))
      (leads_backward all (link_at (sizes_of objects) [] members j other) (member_out j other other_there))

  member_off : (j : ℕ) (other : Member) → slice_get members j ≡ Some other → (at : ℤ) → AtEnd (object other.object) at → AtEnd (block other.block) (at +ℤ neg_ℤ (pos (start j other)))
  member_off j other there at here =
      let from = member_inside here.k here.member here.there in
      let to = member_inside j other there in
      let walk = (found.classes.joined here.member.object other.object from to).1 here.together in
      let away : pos (get_or offset other.object 0) ≡ pos (get_or offset here.member.object 0) +ℤ walk.0 = found.offsets.apart here.member.object other.object walk.0 from to walk.1 in
      let place : at ≡ pos (start here.k here.member) +ℤ (pos (get_or offset other.object 0) -ℤ pos (get_or offset here.member.object 0)) = here.away in
      let back = round here.k j here.member other here.there there walk.0 walk.1 in
      let by : ℤ = (pos (start here.k here.member) +ℤ walk.0) +ℤ neg_ℤ (pos (start j other)) in
      let same : here.member.block ≡ other.block = only_block (sizes_of objects) members given apart here.member.block other.block by back in
      let closed : Leads all (block here.member.block) (block here.member.block) by = subst (λ (b : ℕ). Leads all (block here.member.block) (block b) by) (sym same) back in
      let none : (pos (start here.k here.member) +ℤ walk.0) +ℤ neg_ℤ (pos (start j other)) ≡ pos 0 = zero_by by (λ moved. agree (record { thing = block here.member.block; by = by; apart = moved; back = closed })) in
      (sym same ∙ here.of_block, (omega (arith, ints, away, place, none)))

  tie_on : (a b : ℕ) (by at : ℤ) → Leads (tie_links given) (object a) (object b) by → b < length (sizes_of objects ++ block_sizes) → AtEnd (object a) at → AtEnd (object b) (at +ℤ by)
  tie_on a b by at walk lt_b here =
      let same = (found.classes.joined a b here.inside lt_b).0 (by, walk) in
      let away : pos (get_or offset b 0) ≡ pos (get_or offset a 0) +ℤ by = found.offsets.apart a b by here.inside lt_b walk in
      let place : at ≡ pos (start here.k here.member) +ℤ (pos (get_or offset a 0) -ℤ pos (get_or offset here.member.object 0)) = here.away in
      record { k = here.k; member = here.member; there = here.there; of_block = here.of_block; of_scope = here.of_scope; inside = lt_b; together = here.together ∙ same; away = omega (arith, ints, away, place) }

  onward : (link : Link) → Contains own link → (at : ℤ) → AtEnd link.from at → AtEnd link.to (at +ℤ link.by)
  onward link in_own at =
      either
      (λ in_list. (let p = link_placed (sizes_of objects) scope [] [] members refl link in_list in
      subst (λ (l : Link). AtEnd l.from at → AtEnd l.to (at +ℤ l.by)) p.is (member_on p.at p.member p.there p.of_scope_is at)))
      (λ in_ties. (let f = tie_from own_ties link in_ties in let g = kept_from (is_tie_in objects scope) given f.0 f.1 in
      subst (λ (l : Link). AtEnd l.from at → AtEnd l.to (at +ℤ l.by)) f.2
      (tie_on f.0.a f.0.b (pos f.0.at_a -ℤ pos f.0.at_b) at (leads_forward (tie_links given) (tie_link f.0) (tie_there given f.0 g.0)) (in_all f.0.b (tie_ends f.0 g.0).1))))
      (Contains-append_cases (list_links (sizes_of objects) (there_in scope members)) (tie_links own_ties) link in_own)

  backward_too : (link : Link) → Contains own link → (at : ℤ) → AtEnd link.to at → AtEnd link.from (at +ℤ neg_ℤ link.by)
  backward_too link in_own at =
      either
      (λ in_list. (let p = link_placed (sizes_of objects) scope [] [] members refl link in_list in
      subst (λ (l : Link). AtEnd l.to at → AtEnd l.from (at +ℤ neg_ℤ l.by)) p.is (member_off p.at p.member p.there at)))
      (λ in_ties. (let f = tie_from own_ties link in_ties in let g = kept_from (is_tie_in objects scope) given f.0 f.1 in
      subst (λ (l : Link). AtEnd l.to at → AtEnd l.from (at +ℤ neg_ℤ l.by)) f.2
      (tie_on f.0.b f.0.a (neg_ℤ (pos f.0.at_a -ℤ pos f.0.at_b)) at (leads_backward (tie_links given) (tie_link f.0) (tie_there given f.0 g.0)) (in_all f.0.a (tie_ends f.0 g.0).0))))
      (Contains-append_cases (list_links (sizes_of objects) (there_in scope members)) (tie_links own_ties) link in_own)

  reached_at : (v : ℕ) (by : ℤ) → Leads own (block number) (object v) by → IsAt v (pos 0 +ℤ by)
  reached_at v by walk = leads_kept own AtEnd onward backward_too (block number) (object v) (pos 0) by walk (refl, refl)

  -- ---- no object ends after the greatest end

  tie_of : (k : ℕ) (member : Member) → slice_get members k ≡ Some member → HasTie (length (sizes_of objects)) names (sizes_of objects) (take k members) member member_ties k
  tie_of k member there = tie_at (length (sizes_of objects)) names (sizes_of objects) [] members member_ties are k member there

  tie_kept : (k : ℕ) (tie : Tie) → slice_get member_ties k ≡ Some tie → slice_get kept k ≡ Some tie
  tie_kept k tie there = ap (λ (ties : List Tie). slice_get ties k) kept_is ∙ front member_ties k there
    where
      front : (ties : List Tie) (j : ℕ) → slice_get ties j ≡ Some tie → slice_get (ties ++ given) j ≡ Some tie
      front [] j here = absurd (cc here)
      front (first ∷ rest) zero here = here
      front (first ∷ rest) (suc j) here = front rest j here

  last_is : (k : ℕ) (member : Member) (tie : Tie) → IsMemberTie (length (sizes_of objects)) names (sizes_of objects) (take k members) member tie
      → last_of class offset size tie ≡ start k member + (get_or size (get_or class member.object 0) 0 - get_or offset member.object 0)
  last_is k member tie is =
      ap (λ (n : ℕ). n + (get_or size (get_or class tie.b 0) 0 - get_or offset tie.b 0)) is.at_a
      ∙ ap (λ (b : ℕ). start k member + (get_or size (get_or class b 0) 0 - get_or offset b 0)) is.b

  units_within : (v : ℕ) → get_or (sizes_of objects) v 0 ≤ get_or (sizes_of objects ++ block_sizes) v 0
  units_within v = by_case (nat_lt v (length (sizes_of objects))) refl
    where
      by_case : (b : Bool) → nat_lt v (length (sizes_of objects)) ≡ b → get_or (sizes_of objects) v 0 ≤ get_or (sizes_of objects ++ block_sizes) v 0
      by_case true e = let same = get_or_append_left (sizes_of objects) block_sizes 0 v (ltb-true v (length (sizes_of objects)) e) in omega (arith, same)
      by_case false e = let none : get_or (sizes_of objects) v 0 ≡ 0 = get_or_past (sizes_of objects) v 0 (ltb-false v (length (sizes_of objects)) e) in omega (arith, none)

  module _ (end : ℕ) (greatest : IsGreatest members kept class offset size (length members) number scope end) where
    within : (v : ℕ) (by : ℤ) → Leads own (block number) (object v) by → (by +ℤ pos (get_or (sizes_of objects) v 0)) ≤ℤ pos end
    within v by walk =
        let at = reached_at v by walk in
        let t = tie_of at.k at.member at.there in
        let last : last_of class offset size t.tie ≡ start at.k at.member + (get_or size (get_or class at.member.object 0) 0 - get_or offset at.member.object 0) = last_is at.k at.member t.tie t.is in
        let most : last_of class offset size t.tie ≤ end =
        greatest.within at.k (last_of class offset size t.tie) (slice_get_within members at.k at.member at.there)
        (record { member = at.member; tie = t.tie; there = at.there; tie_there = tie_kept at.k t.tie t.there; of_block = at.of_block; in_scope = at.of_scope; last = refl }) in
        let inner : get_or offset v 0 + get_or (sizes_of objects ++ block_sizes) v 0 ≤ get_or size (get_or class v 0) 0 = found.ends.within v at.inside in
        let same : get_or size (get_or class at.member.object 0) 0 ≡ get_or size (get_or class v 0) 0 = ap (λ (n : ℕ). get_or size n 0) at.together in
        let units = units_within v in
        let member_inner : get_or offset at.member.object 0 + get_or (sizes_of objects ++ block_sizes) at.member.object 0 ≤ get_or size (get_or class at.member.object 0) 0 = found.ends.within at.member.object (member_inside at.k at.member at.there) in
        let away : pos 0 +ℤ by ≡ pos (start at.k at.member) +ℤ (pos (get_or offset v 0) -ℤ pos (get_or offset at.member.object 0)) = at.away in
        close (start at.k at.member) (get_or size (get_or class at.member.object 0) 0) (get_or offset at.member.object 0) (get_or offset v 0) (get_or (sizes_of objects) v 0) end by away
        (omega (arith, last, most)) (omega (arith, inner, same, units)) (omega (arith, member_inner))

    -- ---- where there is a member, an object ends there

    abbrev InScope : Thing → ℤ → Type 0
    InScope (block other) at = ⊥
    InScope (object v) at = IsObjectOf objects scope v

    from_a : (tie : Tie) → Contains given tie → IsObjectOf objects scope tie.a → IsObjectOf objects scope tie.b
    from_a tie there is = sym (All-contains (IsTieOf objects) given tie tied there).scope ∙ is

    from_b : (tie : Tie) → Contains given tie → IsObjectOf objects scope tie.b → IsObjectOf objects scope tie.a
    from_b tie there is = (All-contains (IsTieOf objects) given tie tied there).scope ∙ is

    own_tie : (tie : Tie) → Contains given tie → IsObjectOf objects scope tie.a → Contains own (tie_link tie)
    own_tie tie there is =
        Contains-append_right (list_links (sizes_of objects) (there_in scope members)) (tie_links own_ties) (tie_link tie)
        (tie_there own_ties tie (kept_to (is_tie_in objects scope) given tie there (of_scope_too scope (slice_get objects tie.a) is)))

    abbrev Stays : ℕ → Thing → ℤ → Type 0
    Stays first thing at = Leads own (object first) thing at × InScope thing at

    stays : (first : ℕ) → IsObjectOf objects scope first → (v : ℕ) (by : ℤ) → Leads (tie_links given) (object first) (object v) by → Stays first (object v) by
    stays first home_first v by walk =
        subst (λ (d : ℤ). Stays first (object v) d) (none_more by)
        (leads_kept (tie_links given) (Stays first)
        (λ link in_ties at. (let f = tie_from given link in_ties in subst (λ (l : Link). Stays first l.from at → Stays first l.to (at +ℤ l.by)) f.2 (forward_tie f.0 f.1 at)))
        (λ link in_ties at. (let f = tie_from given link in_ties in subst (λ (l : Link). Stays first l.to at → Stays first l.from (at +ℤ neg_ℤ l.by)) f.2 (backward_tie f.0 f.1 at)))
        (object first) (object v) (pos 0) by walk (leads_nowhere own (object first), home_first))
      where
        none_more : (by : ℤ) → pos 0 +ℤ by ≡ by
        none_more by = omega (arith, ints)

        forward_tie : (tie : Tie) → Contains given tie → (at : ℤ) → Stays first (object tie.a) at → Stays first (object tie.b) (at +ℤ (pos tie.at_a -ℤ pos tie.at_b))
        forward_tie tie there at here = (
          leads_on own (object first) (object tie.a) (object tie.b) at (pos tie.at_a -ℤ pos tie.at_b) here.0 (leads_forward own (tie_link tie) (own_tie tie there here.1)),
          from_a tie there here.1,
        )

        backward_tie : (tie : Tie) → Contains given tie → (at : ℤ) → Stays first (object tie.b) at → Stays first (object tie.a) (at +ℤ neg_ℤ (pos tie.at_a -ℤ pos tie.at_b))
        backward_tie tie there at here = (
          leads_on own (object first) (object tie.b) (object tie.a) at (neg_ℤ (pos tie.at_a -ℤ pos tie.at_b)) here.0 (leads_backward own (tie_link tie) (own_tie tie there (from_b tie there here.1))),
          from_b tie there here.1,
        )

    reached : (end ≡ 0) ⊎ ((v : ℕ) × Leads own (block number) (object v) (pos end -ℤ pos (get_or (sizes_of objects) v 0)))
    reached = by_case greatest.reached
      where
        at_member : (k : ℕ) → IsEndOf members kept class offset size number scope k end → (v : ℕ) × Leads own (block number) (object v) (pos end -ℤ pos (get_or (sizes_of objects) v 0))
        at_member k is =
            let t = tie_of k is.member is.there in
            let one : t.tie ≡ is.tie = same_Some t.tie is.tie (sym (tie_kept k t.tie t.there) ∙ is.tie_there) in
            let last : last_of class offset size t.tie ≡ start k is.member + (get_or size (get_or class is.member.object 0) 0 - get_or offset is.member.object 0) = last_is k is.member t.tie t.is in
            let end_is : last_of class offset size t.tie ≡ end = ap (last_of class offset size) one ∙ is.last in
            let from = member_inside k is.member is.there in
            let far = found.ends.reached (get_or class is.member.object 0) (found.ends.known is.member.object from) in
            let walk = (found.classes.joined is.member.object far.0 from far.1).1 (sym far.2) in
            let member_home : IsObjectOf objects scope is.member.object = subst (λ (s : ℕ). IsObjectOf objects s is.member.object) is.in_scope (home k is.member is.there) in
            let stay = stays is.member.object member_home far.0 walk.0 walk.1 in
            let there = there_too objects far.0 scope stay.1 in
            let same : length (sizes_of objects) ≡ length objects = length-map objects (λ (o : Object). o.units) in
            let units : get_or (sizes_of objects ++ block_sizes) far.0 0 ≡ get_or (sizes_of objects) far.0 0 = get_or_append_left (sizes_of objects) block_sizes 0 far.0 (omega (arith, there, same)) in
            let away : pos (get_or offset far.0 0) ≡ pos (get_or offset is.member.object 0) +ℤ walk.0 = found.offsets.apart is.member.object far.0 walk.0 from far.1 walk.1 in
            let out : Leads own (block is.member.block) (object is.member.object) (pos (start k is.member)) =
            leads_forward own (link_at (sizes_of objects) [] members k is.member)
            (Contains-append_left (list_links (sizes_of objects) (there_in scope members)) (tie_links own_ties) (link_at (sizes_of objects) [] members k is.member)
            (scope_link (sizes_of objects) scope [] [] members refl k is.member is.there is.in_scope)) in
            let whole = leads_on own (block is.member.block) (object is.member.object) (object far.0) (pos (start k is.member)) walk.0 out stay.0 in
            let member_inner : get_or offset is.member.object 0 + get_or (sizes_of objects ++ block_sizes) is.member.object 0 ≤ get_or size (get_or class is.member.object 0) 0 = found.ends.within is.member.object from in (
              far.0,
              leads_by own (block number) (object far.0) (pos (start k is.member) +ℤ walk.0) (pos end -ℤ pos (get_or (sizes_of objects) far.0 0))
                  (subst (λ (b : ℕ). Leads own (block b) (object far.0) (pos (start k is.member) +ℤ walk.0)) is.of_block whole)
                  (closed (start k is.member) (get_or size (get_or class is.member.object 0) 0) (get_or offset is.member.object 0) (get_or offset far.0 0) (get_or (sizes_of objects) far.0 0) end walk.0 away
                  (sym last ∙ end_is) (ap (λ (n : ℕ). get_or offset far.0 0 + n) (sym units) ∙ far.3) (omega (arith, member_inner))),
            )

        by_case : (end ≡ 0) ⊎ ((at : ℕ) × (at < length members) × IsEndOf members kept class offset size number scope at end)
            → (end ≡ 0) ⊎ ((v : ℕ) × Leads own (block number) (object v) (pos end -ℤ pos (get_or (sizes_of objects) v 0)))
        by_case (inl none) = inl none
        by_case (inr at) = inr (at_member at.0 at.2)

    -- the block ends there
    pub ends_there : IsEnd (sizes_of objects) (links_in objects members given scope) number end
    ends_there = record { within = within; reached = reached }
