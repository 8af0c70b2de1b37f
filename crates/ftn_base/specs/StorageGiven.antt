-- What may be asked to be laid out.
use Rattle.std.specs.Prelude.{ℕ, ◌+◌, ◌≤◌, ◌<◌, ◌^◌, ◌≡◌, ◌≢◌, List, length, slice_get, Some, option_map, All, AllPairs}
use Rattle.ftn_base.specs.declared.entity.Tie.{Tie}
use Rattle.ftn_base.specs.Storage.{IsWithin}
use Rattle.ftn_base.specs.declared.storage.Object.{Object}
use Rattle.ftn_base.specs.declared.storage.BlockList.{BlockList}
use Rattle.ftn_base.specs.StorageMembers.{all_members, sizes_of}

-- the object is there, and belongs to that scoping unit
abbrev pub IsObjectOf : List Object → ℕ → ℕ → Type 0
IsObjectOf objects scope object = option_map (λ found. found.scope) (slice_get objects object) ≡ Some scope

-- the tie names units of objects that are there, and both belong to one scoping unit
pub record IsTieOf (objects : List Object) (tie : Tie) : Type 0 where
  pub within : IsWithin (sizes_of objects) tie
  pub scope : option_map (λ found. found.scope) (slice_get objects tie.a) ≡ option_map (λ found. found.scope) (slice_get objects tie.b)

-- objects that take units, members that stand once each in lists of their own scoping unit, blocks each with a name
-- or each without one, and ties within a scoping unit; lists are fewer than 2^32, and so are members and ties together
pub record AreGiven (objects : List Object) (blocks : List BlockList) (ties : List Tie) : Type 0 where
  pub few_lists : length blocks < 2 ^ 32
  pub few_ties : length (all_members blocks) + length ties < 2 ^ 32
  pub filled : All (λ object. 1 ≤ object.units) objects
  pub once : AllPairs (λ earlier later. earlier.object ≢ later.object) (all_members blocks)
  pub members : All (λ member. IsObjectOf objects member.scope member.object) (all_members blocks)
  pub names : AllPairs (λ earlier later. earlier.block ≡ later.block → earlier.named ≡ later.named) blocks
  pub tied : All (IsTieOf objects) ties
