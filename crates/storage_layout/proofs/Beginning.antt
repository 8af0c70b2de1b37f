-- Without a tie, or without a member, no fault is there.
use Rattle.std.proofs.Common.{zero, ◌≡◌, ◌≢◌, ℕ, ◌<◌, ℤ, pos, neg_ℤ, ◌+ℤ◌, ◌<ℤ◌, List, [], ◌∷◌, ◌++◌, ◌⊎◌, inl, inr, Bool, true, false, Contains, AllPairs, filter, nat_eq, nat_lt, length, get_or, refl, sym, ◌∙◌, subst, ap, arith}
use Rattle.std.proofs.lemmas.Int.{ints}
use Rattle.std.proofs.lemmas.List.{get_or_default, append-nil}
use Rattle.std.proofs.lemmas.List.Kept.{AllPairs-filter}
use Rattle.std.proofs.lemmas.Bool.{ltb-true, ltb-false}
use Rattle.ftn_base.specs.Storage.{Thing, Link, object, block, member_link, Leads, AreOneUnit}
use Rattle.ftn_base.proofs.WalkLaws.{leads_kept}
use Rattle.ftn_base.specs.declared.storage.Object.{Object}
use Rattle.ftn_base.specs.declared.storage.Member.{Member}
use Rattle.ftn_base.specs.StorageMembers.{start_after, links_after, list_links, links}
use Rattle.ftn_base.specs.StorageFaults.{IsExtended, AreBlocksJoined, AreMixed}
use Rattle.storage_layout.specs.declared.things.Things.{Things}
use Rattle.storage_layout.specs.declared.kind.Kind.{Kind}
use Rattle.storage_layout.specs.declared.kind.Kind.TheVariants as kind
use Rattle.storage_layout.specs.steps.Kept.{AreKept, sizes_in}
use Rattle.storage_layout.specs.steps.Held.{Holds}
use Rattle.storage_layout.proofs.Potential.{either, cons_cases, cons_more, place_in, walk_places}
use Rattle.storage_layout.proofs.Laid.{no_object, one_block}

no_tie : (sizes : List ℕ) (members : List Member) → links sizes members [] ≡ list_links sizes members
no_tie sizes members = append-nil (list_links sizes members)

module _ (sizes : List ℕ) (members : List Member) (once : AllPairs (λ earlier later. earlier.object ≢ later.object) members) where
  pub none_extended : IsExtended sizes members [] → ⊥
  none_extended it =
      let own : List Member = filter (λ member. nat_eq member.block it.number) members in
      let walk : Leads (list_links sizes (filter (λ member. nat_eq member.block it.number) members)) (block it.number) (object it.reached) it.by =
      subst (λ (list : List Link). Leads list (block it.number) (object it.reached) it.by) (no_tie sizes (filter (λ member. nat_eq member.block it.number) members)) it.walk in
      let at : pos (place_in sizes [] (filter (λ member. nat_eq member.block it.number) members) it.reached) ≡ pos 0 +ℤ it.by =
      walk_places sizes (filter (λ member. nat_eq member.block it.number) members) (AllPairs-filter (λ earlier later. earlier.object ≢ later.object) (λ member. nat_eq member.block it.number) members once) (block it.number) (object it.reached) it.by walk in
      let before : it.by <ℤ pos 0 = it.before in
      absurd (omega (arith, ints, at, before))

  -- ---- each object is of one block

  at_place : (k : ℕ) (m : Member) → get_or members k m ≡ m → (d : Member) → k < length members → get_or members k d ≡ m
  at_place k m e d lt = get_or_default members k d m lt ∙ e

  same_member : (one other : Member) → Contains members one → Contains members other → one.object ≡ other.object → one ≡ other
  same_member one other (k, lt_k, at_k) (j, lt_j, at_j) same = by_case (nat_lt k j) (nat_lt j k) refl refl
    where
      first : get_or members k one ≡ one
      first = at_k

      second : get_or members j one ≡ other
      second = at_place j other at_j one lt_j

      by_case : (a b : Bool) → nat_lt k j ≡ a → nat_lt j k ≡ b → one ≡ other
      by_case true b less o = absurd (once k j one (ltb-true k j less) lt_j (ap (λ (m : Member). m.object) first ∙ same ∙ sym (ap (λ (m : Member). m.object) second)))
      by_case false true o less = absurd (once j k one (ltb-true j k less) lt_k (ap (λ (m : Member). m.object) second ∙ sym same ∙ sym (ap (λ (m : Member). m.object) first)))
      by_case false false o p = let low = ltb-false k j o in let high = ltb-false j k p in let e : k ≡ j = omega (arith, low, high) in sym first ∙ ap (λ (i : ℕ). get_or members i one) e ∙ second

list_link : (sizes : List ℕ) (before members : List Member) (link : Link) → Contains (links_after sizes before members) link → (m : Member) × Contains members m × (link.from ≡ block m.block) × (link.to ≡ object m.object)
list_link sizes before [] link there = absurd (omega (arith, there.1))
list_link sizes before (member ∷ rest) link there =
    either
    (λ e. (member, (zero, (omega arith), refl), ap (λ (l : Link). l.from) (sym e), ap (λ (l : Link). l.to) (sym e)))
    (λ later. (let found = list_link sizes (before ++ member ∷ []) rest link later in (found.0, cons_more member rest found.0 found.1, found.2, found.3)))
    (cons_cases (member_link member.block member.object (start_after sizes before member)) (links_after sizes (before ++ member ∷ []) rest) link there)

one_object : (a b : ℕ) → object a ≡ object b → a ≡ b
one_object a b e = cc e

module _ (sizes : List ℕ) (members : List Member) (once : AllPairs (λ earlier later. earlier.object ≢ later.object) members) (number : ℕ) where
  abbrev IsOf : Thing → ℤ → Type 0
  IsOf thing at = (thing ≡ block number) ⊎ ((m : Member) × Contains members m × (thing ≡ object m.object) × (m.block ≡ number))

  onward : (link : Link) → Contains (list_links sizes members) link → (at : ℤ) → IsOf link.from at → IsOf link.to (at +ℤ link.by)
  onward link there at here =
      let is = list_link sizes [] members link there in
      either
      (λ e. inr (is.0, is.1, is.3, one_block is.0.block number (sym is.2 ∙ e)))
      (λ m. absurd (no_object m.0.object is.0.block (sym m.2 ∙ is.2)))
      here

  backward : (link : Link) → Contains (list_links sizes members) link → (at : ℤ) → IsOf link.to at → IsOf link.from (at +ℤ neg_ℤ link.by)
  backward link there at here =
      let is = list_link sizes [] members link there in
      either
      (λ e. absurd (no_object is.0.object number (sym is.3 ∙ e)))
      (λ m. inl (is.2 ∙ ap block (ap (λ (one : Member). one.block) (same_member sizes members once is.0 m.0 is.1 m.1 (one_object is.0.object m.0.object (sym is.3 ∙ m.2))) ∙ m.3)))
      here

  pub one_of : (other : ℕ) (by : ℤ) → Leads (list_links sizes members) (block number) (block other) by → number ≡ other
  one_of other by walk =
      either (λ e. sym (one_block other number e)) (λ m. absurd (no_object m.0.object other (sym m.2)))
      (leads_kept (list_links sizes members) IsOf onward backward (block number) (block other) (pos 0) by walk (inl refl))

pub none_joined : (sizes : List ℕ) (members : List Member) → AllPairs (λ earlier later. earlier.object ≢ later.object) members → AreBlocksJoined sizes members [] → ⊥
none_joined sizes members once it =
    it.apart (one_of sizes members once it.one it.other it.walk.0 (subst (λ (list : List Link). Leads list (block it.one) (block it.other) it.walk.0) (no_tie sizes members) it.walk.1))

pub none_mixed : (objects : List Object) (sizes : List ℕ) (members : List Member) → AreMixed objects (list_links sizes members) (links sizes members []) → ⊥
none_mixed objects sizes members it =
    it.before (subst (λ (list : List Link). AreOneUnit list (object it.v) it.i (object it.w) it.j) (no_tie sizes members) it.now)

pub none_held : (objects : List Object) (things : Things) (k : Kind) → AreKept things → Holds objects things k 0 → ⊥
none_held objects things kind.Before kept it = none_extended (sizes_in things) things.members.items kept.members.once it
none_held objects things kind.Twins kept it = none_joined (sizes_in things) things.members.items kept.members.once it
none_held objects things kind.Mixed kept it = none_mixed objects (sizes_in things) things.members.items it
none_held objects things kind.MixedLists kept it = it.before it.now
