-- Objects and blocks by the numbers under which the code keeps them, for the proofs of the code.
use Rattle.std.specs.Prelude.{ℕ, ◌+◌, ◌-◌, ◌<◌, ◌≤◌, ◌≡◌, ◌≢◌, List, [], ◌∷◌, ◌++◌, Option, Some, None, length, sum, map, slice_index, slice_get, nat_eq, nat_lt, if◌then◌else◌, AllPairs, Contains}
use Rattle.std.specs.List.{position_or_len}
use Rattle.ftn_base.specs.declared.entity.Tie.{Tie}
use Rattle.ftn_base.specs.Storage.{Thing, object, block}
use Rattle.ftn_base.specs.declared.storage.Member.{Member}
use Rattle.ftn_base.specs.StorageMembers.{start_after, units_in}

-- objects have their own numbers, and blocks come after them
abbrev pub numbered : ℕ → List ℕ → Thing → Thing
numbered count names (object number) = object number
numbered count names (block number) = object (count + position_or_len (nat_eq number) names)

abbrev pub named : ℕ → List ℕ → Thing → Thing
named count names (object number) = if nat_lt number count then object number else block (slice_index names (number - count))
named count names (block number) = block number

-- the tie makes the block's unit at which the member begins the member's first one
pub record IsMemberTie (count : ℕ) (names sizes : List ℕ) (before : List Member) (member : Member) (tie : Tie) : Type 0 where
  pub known : position_or_len (nat_eq member.block) names < length names
  pub a : tie.a ≡ count + position_or_len (nat_eq member.block) names
  pub at_a : tie.at_a ≡ start_after sizes before member
  pub b : tie.b ≡ member.object
  pub at_b : tie.at_b ≡ 0

abbrev pub AreMemberTies : ℕ → List ℕ → List ℕ → List Member → List Member → List Tie → Type 0
AreMemberTies count names sizes before [] [] = Unit
AreMemberTies count names sizes before [] (tie ∷ ties) = ⊥
AreMemberTies count names sizes before (member ∷ rest) [] = ⊥
AreMemberTies count names sizes before (member ∷ rest) (tie ∷ ties) = IsMemberTie count names sizes before member tie × AreMemberTies count names sizes (before ++ member ∷ []) rest ties

-- the blocks that have members, once each, with the units of their longest lists of one scoping unit
pub record AreNames (sizes : List ℕ) (members : List Member) (names block_sizes : List ℕ) : Type 0 where
  pub sized : length block_sizes ≡ length names
  pub once : AllPairs (λ earlier later. earlier ≢ later) names
  pub used : (i : ℕ) → i < length names → (member : Member) × Contains members member × (member.block ≡ slice_index names i)
  pub longest : (i scope : ℕ) → i < length names → units_in sizes members (slice_index names i) scope ≤ slice_index block_sizes i
  pub reached : (i : ℕ) → i < length names → (scope : ℕ) × (units_in sizes members (slice_index names i) scope ≡ slice_index block_sizes i)
  pub filled : (i : ℕ) → i < length names → 1 ≤ slice_index block_sizes i
  pub small : sum block_sizes ≤ sum (map (λ member. slice_index sizes member.object) members)

-- the kept lists are those of objects, members and ties
pub record AreThings (sizes : List ℕ) (members : List Member) (given : List Tie) (kept_sizes names : List ℕ) (entries : ℕ) (kept : List Tie) : Type 0 where
  pub block_sizes : List ℕ
  pub names_are : AreNames sizes members names block_sizes
  pub sizes_are : kept_sizes ≡ sizes ++ block_sizes
  pub member_ties : List Tie
  pub members_are : AreMemberTies (length sizes) names sizes [] members member_ties
  pub entries_are : entries ≡ length member_ties
  pub ties_are : kept ≡ member_ties ++ given

-- the block of an area is one whose class the area is, where there is one
abbrev pub IsBlockOf : ℕ → List ℕ → List ℕ → ℕ → Option ℕ → Type 0
IsBlockOf count names class area None = (i : ℕ) → i < length names → slice_index class (count + i) ≢ area
IsBlockOf count names class area (Some number) = (i : ℕ) × (i < length names) × (slice_index class (count + i) ≡ area) × (slice_index names i ≡ number)

pub record AreBlocksOf (count : ℕ) (names class size : List ℕ) (of_area : List (Option ℕ)) : Type 0 where
  pub all : length of_area ≡ length size
  pub each : (area : ℕ) → area < length size → (found : Option ℕ) × (slice_get of_area area ≡ Some found) × IsBlockOf count names class area found
