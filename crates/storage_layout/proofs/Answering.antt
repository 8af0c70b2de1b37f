-- The layout of the things that are kept is that of the objects, lists and ties given.
use Rattle.std.proofs.Common.{◌≡◌, ℕ, List, [], ◌++◌, All, Option, take, length, sym, ◌∙◌, subst, ap}
use Rattle.ftn_base.specs.declared.entity.Tie.{Tie}
use Rattle.ftn_base.specs.Storage.{tie_links}
use Rattle.ftn_base.specs.Storage.{IsWithin}
use Rattle.ftn_base.specs.declared.storage.Object.{Object}
use Rattle.ftn_base.specs.declared.storage.BlockList.{BlockList}
use Rattle.ftn_base.specs.declared.storage.Member.{Member}
use Rattle.ftn_base.specs.StorageMembers.{all_members, sizes_of, links}
use Rattle.ftn_base.specs.StorageFaults.{IsExtended, AreBlocksJoined}
use Rattle.ftn_base.specs.StorageLayout.{IsSound}
use Rattle.equiv_class.specs.Sound as classes
use Rattle.storage_layout.specs.declared.things.Things.{Things}
use Rattle.storage_layout.specs.steps.Numbered.{AreNames, AreMemberTies, AreBlocksOf}
use Rattle.storage_layout.specs.steps.Kept.{AreMembers, AreKept, given_of, sizes_in}
use Rattle.storage_layout.proofs.Keeping.{sizes_counted}
use Rattle.storage_layout.proofs.Parts.{objects_known, members_known}
use Rattle.storage_layout.proofs.Laid.{sound}

module _ (objects : List Object) (blocks : List BlockList) (things : Things) (sizes_is : sizes_in things ≡ sizes_of objects) (members_is : things.members.items ≡ all_members blocks) (kept : AreKept things)
    (class offset size : List ℕ) (found : classes.IsSound things.sizes.items (tie_links things.ties.items) class offset size)
    (not_extended : IsExtended (sizes_of objects) (all_members blocks) (given_of things) → ⊥) (apart : AreBlocksJoined (sizes_of objects) (all_members blocks) (given_of things) → ⊥)
    (of_area : List (Option ℕ)) (noted : AreBlocksOf things.objects things.names.items class size of_area) where
  ties_are : AreMemberTies (length (sizes_of objects)) things.names.items (sizes_of objects) [] (all_members blocks) kept.are.member_ties
  ties_are = subst (λ (members : List Member). AreMemberTies (length (sizes_of objects)) things.names.items (sizes_of objects) [] members kept.are.member_ties) members_is
      (subst (λ (sizes : List ℕ). AreMemberTies (length sizes) things.names.items sizes [] things.members.items kept.are.member_ties) sizes_is kept.are.members_are)

  names_are : AreNames (sizes_of objects) (all_members blocks) things.names.items kept.are.block_sizes
  names_are = subst (λ (members : List Member). AreNames (sizes_of objects) members things.names.items kept.are.block_sizes) members_is
      (subst (λ (sizes : List ℕ). AreNames sizes things.members.items things.names.items kept.are.block_sizes) sizes_is kept.are.names_are)

  members_are : AreMembers (sizes_of objects) (all_members blocks)
  members_are = subst (λ (members : List Member). AreMembers (sizes_of objects) members) members_is (subst (λ (sizes : List ℕ). AreMembers sizes things.members.items) sizes_is kept.members)

  given_are : All (IsWithin (sizes_of objects)) (given_of things)
  given_are = subst (λ (sizes : List ℕ). All (IsWithin sizes) (given_of things)) sizes_is kept.given

  classes_are : classes.IsSound (sizes_of objects ++ kept.are.block_sizes) (tie_links (kept.are.member_ties ++ given_of things)) class offset size
  classes_are = subst (λ (ties : List Tie). classes.IsSound (sizes_of objects ++ kept.are.block_sizes) (tie_links ties) class offset size) kept.are.ties_are
      (subst (λ (sizes : List ℕ). classes.IsSound sizes (tie_links things.ties.items) class offset size) (kept.are.sizes_are ∙ ap (λ (sizes : List ℕ). sizes ++ kept.are.block_sizes) sizes_is) found)

  noted_are : AreBlocksOf (length (sizes_of objects)) things.names.items class size of_area
  noted_are = subst (λ (count : ℕ). AreBlocksOf count things.names.items class size of_area) (sym kept.count ∙ ap length sizes_is) noted

  pub answer_sound : IsSound (sizes_of objects) (links (sizes_of objects) (all_members blocks) (given_of things)) (take (length objects) class) (take (length objects) offset) size of_area
  answer_sound = subst (λ (count : ℕ). IsSound (sizes_of objects) (links (sizes_of objects) (all_members blocks) (given_of things)) (take count class) (take count offset) size of_area) (sizes_counted objects)
      (sound (sizes_of objects) things.names.items kept.are.block_sizes (all_members blocks) (given_of things) kept.are.member_ties ties_are names_are
      (objects_known (sizes_of objects) (given_of things) given_are) (members_known (sizes_of objects) (all_members blocks) members_are) class offset size classes_are not_extended apart of_area noted_are)
