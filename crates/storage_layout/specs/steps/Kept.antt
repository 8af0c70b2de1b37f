-- What the code keeps of objects, members and ties, for the proofs of the code.
use Rattle.std.specs.Prelude.{ℕ, ◌≤◌, ◌<◌, ◌^◌, ◌≡◌, ◌≢◌, List, [], length, sum, take, drop, slice_index, All, AllPairs}
use Rattle.ftn_base.specs.Limits.{most_units_of_all}
use Rattle.ftn_base.specs.declared.entity.Tie.{Tie}
use Rattle.ftn_base.specs.Storage.{IsWithin}
use Rattle.ftn_base.specs.Storage.{IsContradicted}
use Rattle.ftn_base.specs.declared.storage.Member.{Member}
use Rattle.ftn_base.specs.StorageMembers.{links}
use Rattle.ftn_base.specs.StorageFaults.{IsFirst}
use Rattle.storage_layout.specs.declared.things.Things.{Things}
use Rattle.storage_layout.specs.declared.fault.LayoutFault.{LayoutFault}
use Rattle.storage_layout.specs.declared.fault.LayoutFault.TheVariants as fault
use Rattle.storage_layout.specs.steps.Numbered.{AreNames, AreMemberTies, AreThings}

-- each member is an object that is there, and stands once; each object takes units, and all take few
pub record AreMembers (sizes : List ℕ) (members : List Member) : Type 0 where
  pub there : All (λ member. member.object < length sizes) members
  pub once : AllPairs (λ earlier later. earlier.object ≢ later.object) members
  pub filled : (v : ℕ) → v < length sizes → 1 ≤ slice_index sizes v
  pub small : sum sizes ≤ most_units_of_all

-- blocks are numbered, and each member is tied to its block
pub record AreTied (sizes : List ℕ) (members : List Member) (names block_sizes : List ℕ) (ties : List Tie) : Type 0 where
  pub names_are : AreNames sizes members names block_sizes
  pub ties_are : AreMemberTies (length sizes) names sizes [] members ties

-- what classes of things by these ties ask for
pub record AreLinkable (sizes : List ℕ) (ties : List Tie) : Type 0 where
  pub few : length sizes < 2 ^ 32
  pub few_ties : length ties < 2 ^ 32
  pub within : All (IsWithin sizes) ties
  pub small : sum sizes < 2 ^ 31

-- the units of each object
abbrev pub sizes_in : Things → List ℕ
sizes_in things = take things.objects things.sizes.items

-- the ties of EQUIVALENCE
abbrev pub given_of : Things → List Tie
given_of things = drop (length things.members.items) things.ties.items

-- the lists that are kept fit each other, and classes of things may be asked for
pub record AreKept (things : Things) : Type 0 where
  pub count : length (sizes_in things) ≡ things.objects
  pub are : AreThings (sizes_in things) things.members.items (given_of things) things.sizes.items things.names.items (length things.members.items) things.ties.items
  pub members : AreMembers (sizes_in things) things.members.items
  pub given : All (IsWithin (sizes_in things)) (given_of things)
  pub linkable : AreLinkable things.sizes.items things.ties.items

-- the first tie of EQUIVALENCE that contradicts those before it and the lists, or want of memory
abbrev pub IsTieFault : Things → LayoutFault → Type 0
IsTieFault things (fault.Conflict tie) = IsFirst (λ some. IsContradicted (links (sizes_in things) things.members.items some)) (given_of things) tie
IsTieFault things fault.NoMemory = Unit
IsTieFault things (fault.TooLarge number) = ⊥
IsTieFault things (fault.BeforeStart tie) = ⊥
IsTieFault things (fault.TwoBlocks tie) = ⊥
IsTieFault things (fault.SortMismatch tie member) = ⊥
IsTieFault things (fault.CommonSize list) = ⊥
