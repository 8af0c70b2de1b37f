-- Two blocks are joined exactly where their numbers have one class.
use Rattle.std.proofs.Common.{◌≡◌, ◌≢◌, ℕ, ◌+◌, ◌<◌, ℤ, pos, neg_ℤ, List, [], ◌++◌, ◌⊎◌, inl, inr, Contains, All, nat_eq, length, get_or, refl, sym, ◌∙◌, subst, ap}
use Rattle.std.specs.List.{position_or_len}
use Rattle.std.proofs.lemmas.List.Elements.{Contains-append_cases}
use Rattle.std.proofs.lemmas.List.Sums.{passes_at_first}
use Rattle.std.proofs.lemmas.Bool.{eqb-true}
use Rattle.ftn_base.specs.declared.entity.Tie.{Tie}
use Rattle.ftn_base.specs.Storage.{Thing, Link, object, block, tie_links, Leads, AreJoined}
use Rattle.ftn_base.proofs.WalkLaws.{leads_kept, leads_back}
use Rattle.ftn_base.specs.declared.storage.Member.{Member}
use Rattle.ftn_base.specs.StorageMembers.{list_links, links}
use Rattle.ftn_base.specs.StorageFaults.{AreBlocksJoined}
use Rattle.storage_layout.specs.steps.Numbered.{named, AreMemberTies}
use Rattle.storage_layout.proofs.Potential.{either}
use Rattle.storage_layout.proofs.Carried.{walk_on, walk_back, block_named, tie_from}
use Rattle.storage_layout.proofs.Laid.{no_object, one_block, known_from, to_object}

-- two blocks whose kept numbers a walk joins
pub record AreTwins (count : ℕ) (names : List ℕ) (ties : List Tie) : Type 0 where
  pub i : ℕ
  pub j : ℕ
  pub one : i < length names
  pub other : j < length names
  pub apart : i ≢ j
  pub walk : AreJoined (tie_links ties) (object (count + i)) (object (count + j))

module _ (names sizes : List ℕ) (members : List Member) (given member_ties : List Tie)
    (are : AreMemberTies (length sizes) names sizes [] members member_ties)
    (known : All (λ tie. (tie.a < length sizes) × (tie.b < length sizes)) given) (there : (member : Member) → Contains members member → member.object < length sizes) where
  abbrev all : List Link
  all = links sizes members given

  pub twins_join : ((i j : ℕ) → i < length names → j < length names → get_or names i 0 ≡ get_or names j 0 → i ≡ j) → AreTwins (length sizes) names (member_ties ++ given) → AreBlocksJoined sizes members given
  twins_join once it = record {
    one = get_or names it.i 0;
    other = get_or names it.j 0;
    apart = λ same. it.apart (once it.i it.j it.one it.other same);
    walk = (
      it.walk.0,
      subst (λ (x : Thing). Leads all x (block (get_or names it.j 0)) it.walk.0) (block_named (length sizes) it.i names)
          (subst (λ (y : Thing). Leads all (named (length sizes) names (object (length sizes + it.i))) y it.walk.0) (block_named (length sizes) it.j names)
          (walk_back names sizes members given member_ties are known there (object (length sizes + it.i)) (object (length sizes + it.j)) it.walk.0 it.walk.1)),
    );
  }

  from_known : (b : ℕ) (link : Link) → Contains all link → link.from ≡ block b → position_or_len (nat_eq b) names < length names
  from_known b link in_links from =
      either
      (λ in_list. known_from (length sizes) names sizes [] members member_ties are link in_list b from)
      (λ in_ties. (let tie = tie_from given link in_ties in absurd (no_object tie.0.a b (ap (λ (l : Link). l.from) tie.2 ∙ from))))
      (Contains-append_cases (list_links sizes members) (tie_links given) link in_links)

  no_block : (b : ℕ) (link : Link) → Contains all link → link.to ≡ block b → ⊥
  no_block b link in_links to =
      either
      (λ in_list. (let m = to_object sizes [] members link in_list in no_object m.0 b (sym m.1 ∙ to)))
      (λ in_ties. (let tie = tie_from given link in_ties in no_object tie.0.b b (ap (λ (l : Link). l.to) tie.2 ∙ to)))
      (Contains-append_cases (list_links sizes members) (tie_links given) link in_links)

  abbrev HasNumber : ℕ → Thing → ℤ → Type 0
  HasNumber b thing at = (thing ≡ block b) ⊎ (position_or_len (nat_eq b) names < length names)

  number_known : (b other : ℕ) (by : ℤ) → b ≢ other → Leads all (block b) (block other) by → position_or_len (nat_eq b) names < length names
  number_known b other by apart walk =
      either
      (λ e. absurd (apart (sym (one_block other b e)))) (λ lt. lt)
      (leads_kept all (HasNumber b)
      (λ link in_links at p. either (λ from. inr (from_known b link in_links from)) (λ lt. inr lt) p)
      (λ link in_links at p. either (λ to. absurd (no_block b link in_links to)) (λ lt. inr lt) p)
      (block b) (block other) (pos 0) by walk (inl refl))

  name_is : (b : ℕ) → position_or_len (nat_eq b) names < length names → get_or names (position_or_len (nat_eq b) names) 0 ≡ b
  name_is b lt = sym (eqb-true b (get_or names (position_or_len (nat_eq b) names) 0) (passes_at_first (nat_eq b) names 0 lt))

  pub join_twins : AreBlocksJoined sizes members given → AreTwins (length sizes) names (member_ties ++ given)
  join_twins it =
      let one = number_known it.one it.other it.walk.0 it.apart it.walk.1 in
      let other = number_known it.other it.one (neg_ℤ it.walk.0) (λ same. it.apart (sym same)) (leads_back all (block it.one) (block it.other) it.walk.0 it.walk.1) in
      record {
        i = position_or_len (nat_eq it.one) names;
        j = position_or_len (nat_eq it.other) names;
        one = one;
        other = other;
        apart = λ same. it.apart (sym (name_is it.one one) ∙ ap (λ (k : ℕ). get_or names k 0) same ∙ name_is it.other other);
        walk = (it.walk.0, walk_on names sizes members given member_ties are known there (block it.one) (block it.other) it.walk.0 it.walk.1);
      }
