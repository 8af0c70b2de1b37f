-- What is found with the links that are kept is told of the lists and ties given.
use Rattle.std.proofs.Common.{◌≡◌, ℕ, ◌+◌, ◌<◌, List, [], ◌++◌, All, Option, Some, None, Result, Ok, Err, take, length, sym, subst, ap, arith, take_all}
use Rattle.std.specs.Prelude.{IfErr}
use Rattle.ftn_base.specs.declared.entity.Tie.{Tie}
use Rattle.ftn_base.specs.Storage.{IsContradicted, tie_links}
use Rattle.ftn_base.specs.declared.storage.Object.{Object}
use Rattle.ftn_base.specs.declared.storage.BlockList.{BlockList}
use Rattle.ftn_base.specs.declared.storage.Member.{Member}
use Rattle.ftn_base.specs.StorageMembers.{all_members, sizes_of, list_links, links}
use Rattle.ftn_base.specs.StorageFaults.{IsFirst, IsExtended, AreBlocksJoined, AreMixed}
use Rattle.ftn_base.specs.StorageGiven.{IsObjectOf, IsTieOf}
use Rattle.ftn_base.specs.StorageFaults.{IsPlace, TieTold, MemberTold, IsApart}
use Rattle.equiv_class.specs.Sound as classes
use Rattle.storage_layout.specs.declared.things.Things.{Things}
use Rattle.storage_layout.specs.declared.kind.Kind.{Kind}
use Rattle.storage_layout.specs.declared.kind.Kind.TheVariants as kind
use Rattle.storage_layout.specs.declared.fault.LayoutFault.{LayoutFault}
use Rattle.storage_layout.specs.declared.fault.LayoutFault.TheVariants as fault
use Rattle.storage_layout.specs.steps.Numbered.{AreMemberTies}
use Rattle.storage_layout.specs.steps.Ends.{IsReady, FindsOdd, OddTold}
use Rattle.storage_layout.specs.steps.Kept.{AreKept, given_of, sizes_in}
use Rattle.storage_layout.specs.steps.Held.{IsFirstWith}
use Rattle.storage_layout.specs.Faults.{IsTrueFault}
use Rattle.storage_layout.proofs.Carried.{contradicts_on}
use Rattle.storage_layout.proofs.Growing.{is_first, extended_more, joined_more, mixed_more, mixed_members_more}
use Rattle.storage_layout.proofs.Parts.{objects_known, members_known}
use Rattle.storage_layout.proofs.OddLists.{ready, odd_told}

-- the fault is there with so many of these links
abbrev HoldsIn : List Object → List ℕ → List Member → List Tie → Kind → ℕ → Type 0
HoldsIn objects sizes members given kind.Before count = IsExtended sizes members (take count given)
HoldsIn objects sizes members given kind.Twins count = AreBlocksJoined sizes members (take count given)
HoldsIn objects sizes members given kind.Mixed count = AreMixed objects (list_links sizes members) (links sizes members (take count given))
HoldsIn objects sizes members given kind.MixedLists count = AreMixed objects [] (list_links sizes (take count members))

pub all_taken : {X : Type 0} (xs : List X) → take (length xs) xs ≡ xs
all_taken xs = take_all (length xs) xs (omega arith)

module _ (objects : List Object) (blocks : List BlockList) (things : Things) (sizes_is : sizes_in things ≡ sizes_of objects) (members_is : things.members.items ≡ all_members blocks) where
  abbrev given : List Tie
  given = given_of things

  moved : (k : Kind) (count : ℕ) → HoldsIn objects (sizes_in things) things.members.items (given_of things) k count → HoldsIn objects (sizes_of objects) (all_members blocks) (given_of things) k count
  moved k count held = subst (λ (sizes : List ℕ). HoldsIn objects sizes (all_members blocks) (given_of things) k count) sizes_is
      (subst (λ (members : List Member). HoldsIn objects (sizes_in things) members (given_of things) k count) members_is held)

  moved_back : (k : Kind) (count : ℕ) → HoldsIn objects (sizes_of objects) (all_members blocks) (given_of things) k count → HoldsIn objects (sizes_in things) things.members.items (given_of things) k count
  moved_back k count held = subst (λ (members : List Member). HoldsIn objects (sizes_in things) members (given_of things) k count) (sym members_is)
      (subst (λ (sizes : List ℕ). HoldsIn objects sizes (all_members blocks) (given_of things) k count) (sym sizes_is) held)

  -- ---- blocks extended

  pub first_extended : (number : ℕ) → IsFirstWith objects things kind.Before (Some number) → IsFirst (IsExtended (sizes_of objects) (all_members blocks)) (given_of things) number
  first_extended number told = is_first (IsExtended (sizes_of objects) (all_members blocks)) (given_of things) number (λ m n le. extended_more (sizes_of objects) (all_members blocks) (given_of things) m n le)
      told.0 (moved kind.Before (number + 1) told.1) (λ held. told.2 (moved_back kind.Before number held))

  pub none_extended : IsFirstWith objects things kind.Before None → IsExtended (sizes_of objects) (all_members blocks) (given_of things) → ⊥
  none_extended told held = told (moved_back kind.Before (length (given_of things)) (subst (IsExtended (sizes_of objects) (all_members blocks)) (sym (all_taken (given_of things))) held))

  -- ---- blocks joined

  pub first_joined : (number : ℕ) → IsFirstWith objects things kind.Twins (Some number) → IsFirst (AreBlocksJoined (sizes_of objects) (all_members blocks)) (given_of things) number
  first_joined number told = is_first (AreBlocksJoined (sizes_of objects) (all_members blocks)) (given_of things) number (λ m n le. joined_more (sizes_of objects) (all_members blocks) (given_of things) m n le)
      told.0 (moved kind.Twins (number + 1) told.1) (λ held. told.2 (moved_back kind.Twins number held))

  pub none_joined : IsFirstWith objects things kind.Twins None → AreBlocksJoined (sizes_of objects) (all_members blocks) (given_of things) → ⊥
  none_joined told held = told (moved_back kind.Twins (length (given_of things)) (subst (AreBlocksJoined (sizes_of objects) (all_members blocks)) (sym (all_taken (given_of things))) held))

  -- ---- units of both sorts

  pub tie_told : (tie : Option ℕ) → IsFirstWith objects things kind.Mixed tie → TieTold objects blocks (given_of things) tie
  tie_told None told = λ held. told (moved_back kind.Mixed (length (given_of things))
      (subst (λ (ties : List Tie). AreMixed objects (list_links (sizes_of objects) (all_members blocks)) (links (sizes_of objects) (all_members blocks) ties)) (sym (all_taken (given_of things))) held))
  tie_told (Some number) told =
      is_first (λ some. AreMixed objects (list_links (sizes_of objects) (all_members blocks)) (links (sizes_of objects) (all_members blocks) some)) (given_of things) number
      (λ m n le. mixed_more (sizes_of objects) (all_members blocks) (given_of things) m n le objects (list_links (sizes_of objects) (all_members blocks)))
      told.0 (moved kind.Mixed (number + 1) told.1) (λ held. told.2 (moved_back kind.Mixed number held))

  taken_members : (count : ℕ) → take count things.members.items ≡ take count (all_members blocks)
  taken_members count = ap (take count) members_is

  pub no_member : IsFirstWith objects things kind.MixedLists None → MemberTold objects blocks (given_of things) None
  no_member told = λ held. told (moved_back kind.MixedLists (length things.members.items)
      (subst (λ (members : List Member). AreMixed objects [] (list_links (sizes_of objects) members)) (sym (take_all (length things.members.items) (all_members blocks) (let same : length things.members.items ≡ length (all_members blocks) = ap length members_is in omega (arith, same)))) held))

  pub member_told : (number list position : ℕ) → IsFirstWith objects things kind.MixedLists (Some number) → IsPlace blocks number list position → MemberTold objects blocks (given_of things) (Some (list, position))
  member_told number list position told place = (
    number,
    place,
    is_first (λ some. AreMixed objects [] (list_links (sizes_of objects) some)) (all_members blocks) number (λ m n le. mixed_members_more objects [] (sizes_of objects) (all_members blocks) m n le)
        (let lt : number < length things.members.items = told.0 in let same : length things.members.items ≡ length (all_members blocks) = ap length members_is in omega (arith, lt, same))
        (moved kind.MixedLists (number + 1) told.1) (λ held. told.2 (moved_back kind.MixedLists number held)),
  )

  pub member_inside : (number : ℕ) → IsFirstWith objects things kind.MixedLists (Some number) → number < length (all_members blocks)
  member_inside number told = let lt : number < length things.members.items = told.0 in let same : length things.members.items ≡ length (all_members blocks) = ap length members_is in omega (arith, lt, same)

pub mismatch_told : (objects : List Object) (blocks : List BlockList) (ties : List Tie) (A : Type 0) (result : Result A LayoutFault) (tie : Option ℕ) (member : Option (ℕ × ℕ))
    → IfErr result (λ found. (found ≡ fault.SortMismatch tie member) × ((tie ≡ None) × (member ≡ None) → ⊥)) → IsApart objects blocks ties → TieTold objects blocks ties tie → MemberTold objects blocks ties member
    → IfErr result (IsTrueFault objects blocks ties)
mismatch_told objects blocks ties A (Ok made) tie member is apart tie_is member_is = tt
mismatch_told objects blocks ties A (Err found) tie member is apart tie_is member_is = subst (IsTrueFault objects blocks ties) (sym is.0) (apart, tie_is, member_is, is.1)

-- lists and ties do not contradict each other where the kept ties do not
pub agreed : (objects : List Object) (blocks : List BlockList) (things : Things) → sizes_in things ≡ sizes_of objects → things.members.items ≡ all_members blocks → AreKept things
    → (IsContradicted (tie_links things.ties.items) → ⊥) → IsContradicted (links (sizes_of objects) (all_members blocks) (given_of things)) → ⊥
agreed objects blocks things sizes_is members_is kept agree bad =
    let here : IsContradicted (links (sizes_in things) things.members.items (given_of things)) =
    subst (λ (members : List Member). IsContradicted (links (sizes_in things) members (given_of things))) (sym members_is)
    (subst (λ (sizes : List ℕ). IsContradicted (links sizes (all_members blocks) (given_of things))) (sym sizes_is) bad) in
    agree (subst (λ (ties : List Tie). IsContradicted (tie_links ties)) (sym kept.are.ties_are)
    (contradicts_on things.names.items (sizes_in things) things.members.items (given_of things) kept.are.member_ties kept.are.members_are
    (objects_known (sizes_in things) (given_of things) kept.given) (members_known (sizes_in things) things.members.items kept.members) here))

-- what is told of the list that ends elsewhere, by classes of all ties alone
module _ (objects : List Object) (blocks : List BlockList) (things : Things) (sizes_is : sizes_in things ≡ sizes_of objects) (members_is : things.members.items ≡ all_members blocks) (kept : AreKept things)
    (class offset size : List ℕ) (found : classes.IsSound things.sizes.items (tie_links (given_of things)) class offset size) where
  block_sizes : List ℕ
  block_sizes = kept.are.block_sizes

  member_ties : List Tie
  member_ties = kept.are.member_ties

  are_given : AreMemberTies (length (sizes_of objects)) things.names.items (sizes_of objects) [] (all_members blocks) kept.are.member_ties
  are_given = subst (λ (members : List Member). AreMemberTies (length (sizes_of objects)) things.names.items (sizes_of objects) [] members kept.are.member_ties) members_is
      (subst (λ (sizes : List ℕ). AreMemberTies (length sizes) things.names.items sizes [] things.members.items kept.are.member_ties) sizes_is kept.are.members_are)

  found_given : classes.IsSound (sizes_of objects ++ kept.are.block_sizes) (tie_links (given_of things)) class offset size
  found_given = subst (λ (sizes : List ℕ). classes.IsSound (sizes ++ kept.are.block_sizes) (tie_links (given_of things)) class offset size) sizes_is
      (subst (λ (sizes : List ℕ). classes.IsSound sizes (tie_links (given_of things)) class offset size) kept.are.sizes_are found)

  module _ (homes : All (λ (member : Member). IsObjectOf objects member.scope member.object) (all_members blocks)) where
    pub is_ready : IsReady things.members.items things.ties.items class offset size
    is_ready = subst (λ (members : List Member). IsReady members things.ties.items class offset size) (sym members_is)
        (ready objects kept.are.block_sizes (all_members blocks) (given_of things) class offset size found_given homes things.names.items things.ties.items kept.are.member_ties are_given kept.are.ties_are)

    pub list_told : All (IsTieOf objects) (given_of things) → (IsContradicted (links (sizes_of objects) (all_members blocks) (given_of things)) → ⊥)
        → (AreBlocksJoined (sizes_of objects) (all_members blocks) (given_of things) → ⊥) → (list : Option ℕ) → FindsOdd blocks things.members.items things.ties.items class offset size list → OddTold objects blocks (given_of things) list
    list_told tied agree apart list finds =
        odd_told objects kept.are.block_sizes blocks (given_of things) class offset size found_given homes tied agree apart things.names.items things.ties.items kept.are.member_ties are_given kept.are.ties_are list
        (subst (λ (members : List Member). FindsOdd blocks members things.ties.items class offset size list) members_is finds)
