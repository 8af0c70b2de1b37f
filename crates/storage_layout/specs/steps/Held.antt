-- Faults by kinds, with so many of the links that the code keeps, for the proofs of the code.
use Rattle.std.specs.Prelude.{ℕ, ◌+◌, ◌<◌, ◌≡◌, ◌≢◌, List, [], length, take, slice_index, Option, Some, None}
use Rattle.ftn_base.specs.declared.storage.Object.{Object}
use Rattle.ftn_base.specs.StorageMembers.{list_links, links}
use Rattle.ftn_base.specs.StorageFaults.{IsExtended, AreBlocksJoined, AreMixed}
use Rattle.storage_layout.specs.declared.things.Things.{Things}
use Rattle.storage_layout.specs.declared.kind.Kind.{Kind}
use Rattle.storage_layout.specs.declared.kind.Kind.TheVariants as kind
use Rattle.storage_layout.specs.steps.Kept.{given_of, sizes_in}

-- two places of a list have one number
pub record HasTwins (list : List ℕ) : Type 0 where
  pub i : ℕ
  pub j : ℕ
  pub one : i < length list
  pub other : j < length list
  pub apart : i ≢ j
  pub same : slice_index list i ≡ slice_index list j

-- how many links there are of those that the kind counts
abbrev pub count_of : Things → Kind → ℕ
count_of things kind.Before = length (given_of things)
count_of things kind.Twins = length (given_of things)
count_of things kind.Mixed = length (given_of things)
count_of things kind.MixedLists = length things.members.items

-- the fault is there with so many links
abbrev pub Holds : List Object → Things → Kind → ℕ → Type 0
Holds objects things kind.Before count = IsExtended (sizes_in things) things.members.items (take count (given_of things))
Holds objects things kind.Twins count = AreBlocksJoined (sizes_in things) things.members.items (take count (given_of things))
Holds objects things kind.Mixed count = AreMixed objects (list_links (sizes_in things) things.members.items) (links (sizes_in things) things.members.items (take count (given_of things)))
Holds objects things kind.MixedLists count = AreMixed objects [] (list_links (sizes_in things) (take count things.members.items))

-- the fault is there with the links up to and with this one and not with those before it; or it is not there
abbrev pub IsFirstWith : List Object → Things → Kind → Option ℕ → Type 0
IsFirstWith objects things kind None = Holds objects things kind (count_of things kind) → ⊥
IsFirstWith objects things kind (Some number) = (number < count_of things kind) × Holds objects things kind (number + 1) × (Holds objects things kind number → ⊥)
