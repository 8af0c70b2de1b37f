-- Where no tie extends a block and no two blocks are joined, the first unit of a block is the first of its sequence.
use Rattle.std.proofs.Common.{zero, ◌≡◌, ℕ, ℤ, pos, neg_ℤ, ◌+ℤ◌, ◌<ℤ◌, List, [], ◌∷◌, ◌++◌, Bool, true, false, Contains, map, filter, sum, nat_eq, get_or, refl, sym, ◌∙◌, subst, ap, arith}
use Rattle.std.proofs.lemmas.Int.{ints}
use Rattle.std.proofs.lemmas.Bool.Decides.{nat_tests}
use Rattle.std.proofs.lemmas.List.Elements.{Contains-append_left, Contains-append_right, Contains-append_cases, filter-append}
use Rattle.std.proofs.lemmas.List.{append-nil}
use Rattle.std.proofs.lemmas.Bool.{eqb-true, eq-eqb}
use Rattle.ftn_base.specs.declared.entity.Tie.{Tie}
use Rattle.ftn_base.specs.Storage.{Thing, Link, object, block, member_link, tie_links, Leads}
use Rattle.ftn_base.proofs.WalkLaws.{leads_kept, leads_nowhere, leads_on, leads_by, leads_forward, leads_backward}
use Rattle.ftn_base.specs.declared.storage.Member.{Member}
use Rattle.ftn_base.specs.StorageMembers.{is_in, units_in, start_after, links_after, list_links, links}
use Rattle.ftn_base.specs.StorageFaults.{IsExtended, AreBlocksJoined}
use Rattle.storage_layout.proofs.Potential.{either, cons_cases, cons_more}

abbrev pub of_block : ℕ → Member → Bool
of_block number member = nat_eq member.block number

abbrev pub kept : ℕ → List Member → List Member
kept number members = filter (of_block number) members

pub clash : (b : Bool) → b ≡ true → b ≡ false → ⊥
clash b is is_not = cc (is, is_not)

pub filter_twice : {X : Type 0} (p q : X → Bool) → ((x : X) → q x ≡ true → p x ≡ true) → (xs : List X) → filter q (filter p xs) ≡ filter q xs
filter_twice p q more [] = refl
filter_twice p q more (x ∷ xs) = by_case (filter_twice p q more xs) (p x) (q x) refl refl
  where
    by_case : filter q (filter p xs) ≡ filter q xs → (a b : Bool) → p x ≡ a → q x ≡ b → filter q (filter p (x ∷ xs)) ≡ filter q (x ∷ xs)
    by_case later true true e f = grind arith
    by_case later true false e f = grind arith
    by_case later false true e f = absurd (clash (p x) (more x f) e)
    by_case later false false e f = grind arith

in_block : (number scope : ℕ) (member : Member) → is_in number scope member ≡ true → of_block number member ≡ true
in_block number scope member e = grind (arith, nat_tests)

-- members of other blocks take no part in where a member begins
units_kept : (sizes : List ℕ) (number scope : ℕ) (members : List Member) → units_in sizes (kept number members) number scope ≡ units_in sizes members number scope
units_kept sizes number scope members = ap (λ (ms : List Member). sum (map (λ member. get_or sizes member.object 0) ms)) (filter_twice (of_block number) (is_in number scope) (in_block number scope) members)

pub filter_first : {X : Type 0} (p : X → Bool) (x : X) (xs : List X) → p x ≡ true → filter p (x ∷ xs) ≡ x ∷ filter p xs
filter_first p x xs e = grind arith

pub filter_other : {X : Type 0} (p : X → Bool) (x : X) (xs : List X) → p x ≡ false → filter p (x ∷ xs) ≡ filter p xs
filter_other p x xs e = grind arith

one_block : (a b : ℕ) → block a ≡ block b → a ≡ b
one_block a b e = cc e

pub start_same : (sizes : List ℕ) (number : ℕ) (before after : List Member) (member : Member) → after ≡ kept number before → member.block ≡ number → start_after sizes after member ≡ start_after sizes before member
start_same sizes number before after member same e =
    ap (λ (ms : List Member). units_in sizes ms member.block member.scope) same
    ∙ subst (λ (b : ℕ). units_in sizes (kept b before) member.block member.scope ≡ units_in sizes before member.block member.scope) e (units_kept sizes member.block member.scope before)

pub kept_with : (number : ℕ) (before after : List Member) (member : Member) → after ≡ kept number before → nat_eq member.block number ≡ true → after ++ member ∷ [] ≡ kept number (before ++ member ∷ [])
kept_with number before after member same e =
    ap (λ (ms : List Member). ms ++ member ∷ []) same ∙ ap (λ (ms : List Member). kept number before ++ ms) (sym (filter_first (of_block number) member [] e)) ∙ sym (filter-append (of_block number) before (member ∷ []))

pub kept_without : (number : ℕ) (before after : List Member) (member : Member) → after ≡ kept number before → nat_eq member.block number ≡ false → after ≡ kept number (before ++ member ∷ [])
kept_without number before after member same e =
    same ∙ sym (append-nil (kept number before)) ∙ ap (λ (ms : List Member). kept number before ++ ms) (sym (filter_other (of_block number) member [] e)) ∙ sym (filter-append (of_block number) before (member ∷ []))

-- a link of the block is among the links of that block's lists alone
pub link_kept : (sizes : List ℕ) (number : ℕ) (before after members : List Member) → after ≡ kept number before
    → (link : Link) → Contains (links_after sizes before members) link → link.from ≡ block number → Contains (links_after sizes after (kept number members)) link
link_kept sizes number before after [] same link there from = absurd (omega (arith, there.1))
link_kept sizes number before after (member ∷ rest) same link there from =
    by_block
    (λ kept_too. link_kept sizes number (before ++ member ∷ []) (after ++ member ∷ []) rest kept_too link)
    (λ left_out. link_kept sizes number (before ++ member ∷ []) after rest left_out link)
    (of_block number member) refl
  where
    this : Link
    this = member_link member.block member.object (start_after sizes before member)

    start_same : member.block ≡ number → start_after sizes after member ≡ start_after sizes before member
    start_same e = ap (λ (ms : List Member). units_in sizes ms member.block member.scope) same
        ∙ subst (λ (b : ℕ). units_in sizes (kept b before) member.block member.scope ≡ units_in sizes before member.block member.scope) e (units_kept sizes member.block member.scope before)

    by_block : (after ++ member ∷ [] ≡ kept number (before ++ member ∷ []) → Contains (links_after sizes (before ++ member ∷ []) rest) link → link.from ≡ block number → Contains (links_after sizes (after ++ member ∷ []) (kept number rest)) link)
        → (after ≡ kept number (before ++ member ∷ []) → Contains (links_after sizes (before ++ member ∷ []) rest) link → link.from ≡ block number → Contains (links_after sizes after (kept number rest)) link)
        → (b : Bool) → of_block number member ≡ b → Contains (links_after sizes after (kept number (member ∷ rest))) link
    by_block with_it without_it true e =
        let first : kept number (member ∷ rest) ≡ member ∷ kept number rest = filter_first (of_block number) member rest e in
        let more : after ++ member ∷ [] ≡ kept number (before ++ member ∷ []) =
        ap (λ (ms : List Member). ms ++ member ∷ []) same ∙ ap (λ (ms : List Member). kept number before ++ ms) (sym (filter_first (of_block number) member [] e)) ∙ sym (filter-append (of_block number) before (member ∷ [])) in
        let number_is : member.block ≡ number = eqb-true member.block number e in
        subst (λ (ms : List Member). Contains (links_after sizes after ms) link) (sym first)
        (either
        (λ is. (zero, (omega arith), ap (member_link member.block member.object) (start_same number_is) ∙ is))
        (λ later. cons_more (member_link member.block member.object (start_after sizes after member)) (links_after sizes (after ++ member ∷ []) (kept number rest)) link (with_it more later from))
        (cons_cases this (links_after sizes (before ++ member ∷ []) rest) link there))
    by_block with_it without_it false e =
        let others : kept number (member ∷ rest) ≡ kept number rest = filter_other (of_block number) member rest e in
        let more : after ≡ kept number (before ++ member ∷ []) =
        same ∙ sym (append-nil (kept number before)) ∙ ap (λ (ms : List Member). kept number before ++ ms) (sym (filter_other (of_block number) member [] e)) ∙ sym (filter-append (of_block number) before (member ∷ [])) in
        subst (λ (ms : List Member). Contains (links_after sizes after ms) link) (sym others)
        (either
        (λ is. absurd (clash (nat_eq member.block number) (eq-eqb member.block number (one_block member.block number (ap (λ (l : Link). l.from) is ∙ from))) e))
        (λ later. without_it more later from)
        (cons_cases this (links_after sizes (before ++ member ∷ []) rest) link there))

from_block : (sizes : List ℕ) (before members : List Member) (link : Link) → Contains (links_after sizes before members) link → (number : ℕ) × (link.from ≡ block number)
from_block sizes before [] link there = absurd (omega (arith, there.1))
from_block sizes before (member ∷ rest) link there =
    either (λ e. (member.block, ap (λ (l : Link). l.from) (sym e))) (λ later. from_block sizes (before ++ member ∷ []) rest link later)
    (cons_cases (member_link member.block member.object (start_after sizes before member)) (links_after sizes (before ++ member ∷ []) rest) link there)

module _ (sizes : List ℕ) (members : List Member) (ties : List Tie) (apart : AreBlocksJoined sizes members ties → ⊥) (number : ℕ) where
  abbrev all : List Link
  all = links sizes members ties

  abbrev own : List Link
  own = links sizes (kept number members) ties

  -- a walk from the block passes through no other one
  pub only_block : (other : ℕ) (by : ℤ) → Leads all (block number) (block other) by → number ≡ other
  only_block other by walk = by_case (nat_eq number other) refl
    where
      by_case : (b : Bool) → nat_eq number other ≡ b → number ≡ other
      by_case true e = eqb-true number other e
      by_case false e = absurd (apart (record { one = number; other = other; apart = λ same. clash (nat_eq number other) (eq-eqb number other same) e; walk = (by, walk) }))

  -- a link that such a walk meets at its block is one of the block's own lists, or a tie
  link_own : (link : Link) → Contains all link → ((other : ℕ) → link.from ≡ block other → number ≡ other) → Contains own link
  link_own link there same =
      either
      (λ in_list. (let from = from_block sizes [] members link in_list in
      Contains-append_left (list_links sizes (kept number members)) (tie_links ties) link
      (link_kept sizes number [] [] members refl link in_list (from.1 ∙ ap block (sym (same from.0 from.1))))))
      (λ in_ties. Contains-append_right (list_links sizes (kept number members)) (tie_links ties) link in_ties)
      (Contains-append_cases (list_links sizes members) (tie_links ties) link there)

  abbrev Both : Thing → ℤ → Type 0
  Both thing at = Leads own (block number) thing at × Leads all (block number) thing at

  onward : (link : Link) → Contains all link → (at : ℤ) → Both link.from at → Both link.to (at +ℤ link.by)
  onward link there at both =
      let mine = link_own link there (λ other e. only_block other at (subst (λ (t : Thing). Leads all (block number) t at) e both.1)) in (
        leads_on own (block number) link.from link.to at link.by both.0 (leads_forward own link mine),
        leads_on all (block number) link.from link.to at link.by both.1 (leads_forward all link there),
      )

  backward_too : (link : Link) → Contains all link → (at : ℤ) → Both link.to at → Both link.from (at +ℤ neg_ℤ link.by)
  backward_too link there at both =
      let before = leads_on all (block number) link.to link.from at (neg_ℤ link.by) both.1 (leads_backward all link there) in
      let mine = link_own link there (λ other e. only_block other (at +ℤ neg_ℤ link.by) (subst (λ (t : Thing). Leads all (block number) t (at +ℤ neg_ℤ link.by)) e before)) in
      (leads_on own (block number) link.to link.from at (neg_ℤ link.by) both.0 (leads_backward own link mine), before)

  pub own_walk : (thing : Thing) (by : ℤ) → Leads all (block number) thing by → Leads own (block number) thing by
  own_walk thing by walk =
      let both : Both thing (pos 0 +ℤ by) = leads_kept all Both onward backward_too (block number) thing (pos 0) by walk (leads_nowhere own (block number), leads_nowhere all (block number)) in
      leads_by own (block number) thing (pos 0 +ℤ by) by both.0 (omega (arith, ints))

  -- no object of the block's sequence begins before the block
  pub none_before : (IsExtended sizes members ties → ⊥) → (v : ℕ) (by : ℤ) → Leads all (block number) (object v) by → by <ℤ pos 0 → ⊥
  none_before not_extended v by walk less = not_extended (record { number = number; reached = v; by = by; before = less; walk = own_walk (object v) by walk })
