-- The first fault of a project's storage (Fortran 90, 5.2.9, 5.5.1, 5.5.2): the first of its kind, where no fault of an earlier kind is there; and its
-- place. The order of the kinds, and the two limits, are this project's own.
use Rattle.std.specs.Prelude.{ℕ, ◌≡◌, if◌then◌else◌, List, map, slice_get, Option, Some, None}
use Rattle.std.specs.Option.{option_map, option_and_then}
use Rattle.ftn_base.specs.declared.entity.Tie.{Tie}
use Rattle.ftn_base.specs.declared.fault.FaultKind.{FaultKind}
use Rattle.ftn_base.specs.declared.fault.FaultKind.TheVariants as kind
use Rattle.ftn_base.specs.declared.storage.BlockList.{BlockList}
use Rattle.ftn_base.specs.declared.storage.Object.{Object}
use Rattle.ftn_base.specs.StorageMembers.{sizes_of}
use Rattle.ftn_base.specs.StorageFaults.{AreSmall, Contradicts, Extends, IsApart, IsBegun, IsConsistent, IsEven, IsFirst, IsFirstOdd, IsFirstTooLarge, IsSorted, JoinsBlocks, MemberTold, TieTold}
use Rattle.ftn_tree.specs.declared.unit.FileTree.{FileTree}
use Rattle.ftn_tree.specs.GlobalNames.{Place, before}
use Rattle.ftn_tree.specs.DeclarationFaults.{Finding, found, found_with}
use Rattle.ftn_tree.specs.NameFaults.{key_place}
use Rattle.ftn_tree.specs.StorageObjects.{object_keys, objects_of}
use Rattle.ftn_tree.specs.CommonLists.{common_lists, list_place, member_places, row_of, rows_listed}
use Rattle.ftn_tree.specs.EquivalenceTies.{all_tied, tied_place, ties_of}
use Rattle.ftn_tree.specs.InitialFaults.{IsGivenTwice, IsFirstTwice}

-- ---- places

-- an object's name, where it begins in its scoping unit
abbrev pub object_place : List FileTree → ℕ → Option Place
object_place files number = option_map (key_place files) (slice_get (object_keys files) number)

abbrev pub tie_place : List FileTree → ℕ → Option Place
tie_place files number = option_map tied_place (slice_get (all_tied files) number)

abbrev pub row_place : List FileTree → ℕ → Option Place
row_place files number = option_map (list_place files) (slice_get (common_lists files) number)

abbrev pub member_place : List FileTree → ℕ × ℕ → Option Place
member_place files (list, position) = option_and_then (λ listed. slice_get (member_places listed) position) (slice_get (common_lists files) list)

-- the earlier of two places, as far as they are there
abbrev pub earlier : Option Place → Option Place → Option Place
earlier None other = other
earlier one None = one
earlier (Some one) (Some other) = if before other one then Some other else Some one

-- ---- the kinds

-- what is given to be laid out are the project's lists
abbrev pub AreLists : List FileTree → List BlockList → Type 0
AreLists files blocks = map row_of blocks ≡ rows_listed files

-- that is the first of its kind, and no fault of an earlier kind is there
abbrev pub IsFaultAt : List FileTree → List Object → List BlockList → List Tie → FaultKind → Place → Type 0
IsFaultAt files objects blocks ties kind.TooLarge at = (number : ℕ) × IsFirstTooLarge (sizes_of objects) number × (object_place files number ≡ Some at)
IsFaultAt files objects blocks ties kind.Conflict at =
    AreSmall (sizes_of objects) × ((tie : ℕ) × IsFirst (Contradicts objects blocks ties) ties tie × (tie_place files tie ≡ Some at))
IsFaultAt files objects blocks ties kind.BeforeStart at =
    IsConsistent objects blocks ties × ((tie : ℕ) × IsFirst (Extends objects blocks ties) ties tie × (tie_place files tie ≡ Some at))
IsFaultAt files objects blocks ties kind.TwoBlocks at =
    IsBegun objects blocks ties × ((tie : ℕ) × IsFirst (JoinsBlocks objects blocks ties) ties tie × (tie_place files tie ≡ Some at))
IsFaultAt files objects blocks ties kind.SortMismatch at =
    IsApart objects blocks ties × ((tie : Option ℕ) × (member : Option (ℕ × ℕ)) × TieTold objects blocks ties tie × MemberTold objects blocks ties member
    × (earlier (option_and_then (tie_place files) tie) (option_and_then (member_place files) member) ≡ Some at))
IsFaultAt files objects blocks ties kind.CommonSize at =
    IsSorted objects blocks ties × ((list : ℕ) × IsFirstOdd objects blocks ties list × (row_place files list ≡ Some at))
IsFaultAt files objects blocks ties other at = ⊥

-- a project's first fault of storage
pub data IsStorageFinding (files : List FileTree) : Finding → Type 0 where
  laid : (blocks : List BlockList) → AreLists files blocks → (kind : FaultKind) (at : Place)
      → IsFaultAt files (objects_of files) blocks (ties_of files) kind at → IsStorageFinding files (found kind at)
  given : (blocks : List BlockList) → AreLists files blocks → IsEven (objects_of files) blocks (ties_of files)
      → (one other : Place) → IsFirstTwice files one other → IsStorageFinding files (found_with kind.InitialTwice other one)

-- its storage has no fault
pub record IsStored (files : List FileTree) : Type 0 where
  pub blocks : List BlockList
  pub lists : AreLists files blocks
  pub even : IsEven (objects_of files) blocks (ties_of files)
  pub once : (one other : Place) → IsGivenTwice files one other → ⊥
