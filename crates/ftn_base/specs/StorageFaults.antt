-- What is wrong with lists and ties (Fortran 90, 5.5.1, 5.5.2.3, 5.5.2.4).
use Rattle.std.specs.Prelude.{ℕ, ◌+◌, ◌≤◌, ◌<◌, ◌≡◌, ◌≢◌, ◌⊎◌, ℤ, pos, ◌+ℤ◌, ◌-ℤ◌, ◌<ℤ◌, ◌≤ℤ◌, Bool, true, false, List, [], length, filter, sum, take, nat_eq, slice_get, slice_index, Some, None, Option}
use Rattle.ftn_base.specs.declared.entity.Tie.{Tie}
use Rattle.ftn_base.specs.Storage.{Link, object, block, Leads, AreJoined, AreOneUnit, IsContradicted}
use Rattle.ftn_base.specs.declared.storage.Object.{Object}
use Rattle.ftn_base.specs.declared.storage.BlockList.{BlockList}
use Rattle.ftn_base.specs.Limits.{most_units_of_one, most_units_of_all}
use Rattle.ftn_base.specs.StorageMembers.{Member, all_members, sizes_of, list_links, links}

-- ---- too many units

-- the object takes more units than one may, or all up to it take more than all may
abbrev pub IsPastLimit : List ℕ → ℕ → Type 0
IsPastLimit sizes number = (most_units_of_one < slice_index sizes number) ⊎ (most_units_of_all < sum (take (number + 1) sizes))

pub record IsFirstTooLarge (sizes : List ℕ) (number : ℕ) : Type 0 where
  pub there : number < length sizes
  pub here : IsPastLimit sizes number
  pub before : (earlier : ℕ) → earlier < number → IsPastLimit sizes earlier → ⊥

abbrev pub AreSmall : List ℕ → Type 0
AreSmall sizes = (number : ℕ) → number < length sizes → IsPastLimit sizes number → ⊥

-- ---- the first entry of a list with which something holds

-- with the entries up to and with this one, and with no fewer
pub record IsFirst {X : Type 0} (Holds : List X → Type 0) (entries : List X) (number : ℕ) : Type 0 where
  pub there : number < length entries
  pub here : Holds (take (number + 1) entries)
  pub before : (fewer : ℕ) → fewer ≤ number → Holds (take fewer entries) → ⊥

-- ---- ties

-- a walk from a block through no other block leads to an object that begins before the block's first unit
pub record IsExtended (sizes : List ℕ) (members : List Member) (ties : List Tie) : Type 0 where
  pub number : ℕ
  pub reached : ℕ
  pub by : ℤ
  pub before : by <ℤ pos 0
  pub walk : Leads (links sizes (filter (λ member. nat_eq member.block number) members) ties) (block number) (object reached) by

-- a walk leads from one block to another
pub record AreBlocksJoined (sizes : List ℕ) (members : List Member) (ties : List Tie) : Type 0 where
  pub one : ℕ
  pub other : ℕ
  pub apart : one ≢ other
  pub walk : AreJoined (links sizes members ties) (block one) (block other)

-- a unit of a numeric object and a unit of a character object
pub record IsPair (objects : List Object) (v i w j : ℕ) : Type 0 where
  pub one : Object
  pub other : Object
  pub one_there : slice_get objects v ≡ Some one
  pub other_there : slice_get objects w ≡ Some other
  pub one_unit : i < one.units
  pub other_unit : j < other.units
  pub apart : one.sort ≢ other.sort

-- units of both sorts are one by these links, and were not by those
pub record AreMixed (objects : List Object) (those these : List Link) : Type 0 where
  pub v : ℕ
  pub i : ℕ
  pub w : ℕ
  pub j : ℕ
  pub pair : IsPair objects v i w j
  pub now : AreOneUnit these (object v) i (object w) j
  pub before : AreOneUnit those (object v) i (object w) j → ⊥

-- ---- ends of blocks

abbrev pub is_of : ℕ → Option Object → Bool
is_of scope None = false
is_of scope (Some found) = nat_eq found.scope scope

-- the tie is one of the scoping unit, by its first object
abbrev pub is_tie_in : List Object → ℕ → Tie → Bool
is_tie_in objects scope tie = is_of scope (slice_get objects tie.a)

-- the links of one scoping unit's lists and ties
abbrev pub links_in : List Object → List Member → List Tie → ℕ → List Link
links_in objects members ties scope = links (sizes_of objects) (filter (λ member. nat_eq member.scope scope) members) (filter (is_tie_in objects scope) ties)

-- the block ends there: it is the greatest end of the objects that walks from it over these links lead to, or 0
-- where there is none
pub record IsEnd (sizes : List ℕ) (some : List Link) (number end : ℕ) : Type 0 where
  pub within : (v : ℕ) (by : ℤ) → Leads some (block number) (object v) by → (by +ℤ pos (slice_index sizes v)) ≤ℤ pos end
  pub reached : (end ≡ 0) ⊎ ((v : ℕ) × Leads some (block number) (object v) (pos end -ℤ pos (slice_index sizes v)))

-- the list is of a named block, which ends elsewhere in the list's scoping unit than in that of the block's first list
pub record IsOdd (objects : List Object) (blocks : List BlockList) (ties : List Tie) (number : ℕ) : Type 0 where
  pub list : BlockList
  pub first : BlockList
  pub there : slice_get blocks number ≡ Some list
  pub first_there : slice_get (filter (λ other. nat_eq other.block list.block) blocks) 0 ≡ Some first
  pub named : list.named ≡ true
  pub here : ℕ
  pub first_here : ℕ
  pub ends : IsEnd (sizes_of objects) (links_in objects (all_members blocks) ties list.scope) list.block here
  pub first_ends : IsEnd (sizes_of objects) (links_in objects (all_members blocks) ties first.scope) list.block first_here
  pub apart : here ≢ first_here

pub record IsFirstOdd (objects : List Object) (blocks : List BlockList) (ties : List Tie) (number : ℕ) : Type 0 where
  pub odd : IsOdd objects blocks ties number
  pub before : (earlier : ℕ) → earlier < number → IsOdd objects blocks ties earlier → ⊥

-- ---- which entry is the first of each fault, and what holds where a fault is not there

-- the position in the list of the member with that number among all members
pub record IsPlace (blocks : List BlockList) (number list position : ℕ) : Type 0 where
  pub found : BlockList
  pub there : slice_get blocks list ≡ Some found
  pub inside : position < length found.members.items
  pub place : number ≡ length (all_members (take list blocks)) + position

module _ (objects : List Object) (blocks : List BlockList) (ties : List Tie) where
  abbrev pub sizes : List ℕ
  sizes = sizes_of objects

  abbrev pub members : List Member
  members = all_members blocks

  -- with these ties two different units of one thing would be one
  abbrev pub Contradicts : List Tie → Type 0
  Contradicts some = IsContradicted (links sizes members some)

  abbrev pub Extends : List Tie → Type 0
  Extends some = IsExtended sizes members some

  abbrev pub JoinsBlocks : List Tie → Type 0
  JoinsBlocks some = AreBlocksJoined sizes members some

  -- these ties make units of both sorts one that the lists alone do not
  abbrev pub Mixes : List Tie → Type 0
  Mixes some = AreMixed objects (list_links sizes members) (links sizes members some)

  -- these members alone make units of both sorts one
  abbrev pub MixesAlone : List Member → Type 0
  MixesAlone some = AreMixed objects [] (list_links sizes some)

  abbrev pub TieTold : Option ℕ → Type 0
  TieTold None = Mixes ties → ⊥
  TieTold (Some tie) = IsFirst Mixes ties tie

  abbrev pub MemberTold : Option (ℕ × ℕ) → Type 0
  MemberTold None = MixesAlone members → ⊥
  MemberTold (Some place) = (number : ℕ) × IsPlace blocks number place.0 place.1 × IsFirst MixesAlone members number

  -- ---- what holds where no fault of an earlier kind is there

  abbrev pub IsConsistent : Type 0
  IsConsistent = AreSmall sizes × (Contradicts ties → ⊥)

  abbrev pub IsBegun : Type 0
  IsBegun = IsConsistent × (Extends ties → ⊥)

  abbrev pub IsApart : Type 0
  IsApart = IsBegun × (JoinsBlocks ties → ⊥)

  abbrev pub IsSorted : Type 0
  IsSorted = IsApart × (Mixes ties → ⊥) × (MixesAlone members → ⊥)

  abbrev pub IsEven : Type 0
  IsEven = IsSorted × ((number : ℕ) → IsOdd objects blocks ties number → ⊥)
