-- Ties that are some of others agree where the others do, and classes of them may be asked for.
use Rattle.std.proofs.Common.{◌≡◌, ℕ, ◌+◌, ◌-◌, ◌<◌, ◌≤◌, ◌^◌, List, ◌++◌, Contains, All, take, drop, length, get_or, sym, subst, arith}
use Rattle.std.proofs.lemmas.Option.{slice_get_within}
use Rattle.std.proofs.lemmas.List.{take-append-drop}
use Rattle.std.proofs.lemmas.List.Elements.{Contains-append_left, Contains-append_right, Contains-get_or, All-weaker, All-contains}
use Rattle.ftn_base.specs.declared.entity.Tie.{Tie}
use Rattle.ftn_base.specs.Storage.{IsContradicted, tie_links}
use Rattle.ftn_base.proofs.WalkLaws.{leads_more}
use Rattle.ftn_base.specs.Storage.{IsWithin}
use Rattle.ftn_base.specs.declared.storage.Member.{Member}
use Rattle.ftn_base.specs.StorageMembers.{links}
use Rattle.ftn_base.specs.StorageFaults.{IsFirst}
use Rattle.equiv_class.specs.Conflicts.{IsConflict}
use Rattle.storage_layout.specs.steps.Numbered.{AreThings}
use Rattle.storage_layout.specs.steps.Kept.{AreMembers, AreLinkable}
pub use Rattle.storage_layout.proofs.Growing.{AreAmong, links_among}
use Rattle.storage_layout.proofs.Conflict.{conflict}

pub take_among : {X : Type 0} (n : ℕ) (xs : List X) → AreAmong (take n xs) xs
take_among {X} n xs x there = subst (λ (all : List X). Contains all x) (take-append-drop n xs) (Contains-append_left (take n xs) (drop n xs) x there)

pub drop_among : {X : Type 0} (n : ℕ) (xs : List X) → AreAmong (drop n xs) xs
drop_among {X} n xs x there = subst (λ (all : List X). Contains all x) (take-append-drop n xs) (Contains-append_right (take n xs) (drop n xs) x there)

pub among_on : {X : Type 0} (some more all : List X) → AreAmong some more → AreAmong more all → AreAmong some all
among_on some more all one other x there = other x (one x there)

pub agree_among : (some all : List Tie) → AreAmong some all → (IsContradicted (tie_links all) → ⊥) → IsContradicted (tie_links some) → ⊥
agree_among some all among agree bad = agree (record {
  thing = bad.thing;
  by = bad.by;
  apart = bad.apart;
  back = leads_more (tie_links some) (tie_links all) bad.thing bad.thing bad.by (links_among some all among) bad.back;
})

pub all_among : {X : Type 0} (P : X → Type 0) (some all : List X) → AreAmong some all → All P all → All P some
all_among P some all among p k d lt = All-contains P all (get_or some k d) p (among (get_or some k d) (Contains-get_or some k d lt))

pub linkable_among : (sizes : List ℕ) (some all : List Tie) → AreAmong some all → length some ≤ length all → AreLinkable sizes all → AreLinkable sizes some
linkable_among sizes some all among fewer is = record {
  few = is.few;
  few_ties = (let few : length all < 2 ^ 32 = is.few_ties in omega arith);
  within = all_among (IsWithin sizes) some all among is.within;
  small = is.small;
}

-- ---- the first tie that contradicts those before it

pub objects_known : (sizes : List ℕ) (ties : List Tie) → All (IsWithin sizes) ties → All (λ tie. (tie.a < length sizes) × (tie.b < length sizes)) ties
objects_known sizes ties within = All-weaker (IsWithin sizes) (λ tie. (tie.a < length sizes) × (tie.b < length sizes)) (λ tie is. (is.a, is.b)) ties within

pub members_known : (sizes : List ℕ) (members : List Member) → AreMembers sizes members → (member : Member) → Contains members member → member.object < length sizes
members_known sizes members are member there = All-contains (λ m. m.object < length sizes) members member are.there there

module _ (sizes : List ℕ) (members : List Member) (given : List Tie) (kept_sizes names : List ℕ) (entries : ℕ) (kept : List Tie)
    (are : AreThings sizes members given kept_sizes names entries kept) (members_are : AreMembers sizes members) (within : All (IsWithin sizes) given) where
  pub tie_conflict : (number one other : ℕ) → IsConflict kept number one other → (entries ≤ number) × IsFirst (λ some. IsContradicted (links sizes members some)) given (number - entries)
  tie_conflict number one other clash =
      let ties_are : kept ≡ are.member_ties ++ given = are.ties_are in
      let lt : number < length kept = slice_get_within kept number clash.tie clash.entry in
      let told = conflict names sizes members given are.member_ties are.members_are (objects_known sizes given within) (members_known sizes members members_are) members_are.once number
      (subst (λ (ties : List Tie). number < length ties) ties_are lt)
      (subst (λ (ties : List Tie). IsContradicted (tie_links (take number ties)) → ⊥) ties_are clash.before)
      (subst (λ (ties : List Tie). IsContradicted (tie_links (take (number + 1) ties))) ties_are clash.here) in
      subst (λ (n : ℕ). (n ≤ number) × IsFirst (λ some. IsContradicted (links sizes members some)) given (number - n)) (sym are.entries_are) told
