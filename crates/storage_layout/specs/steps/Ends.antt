-- Where blocks end in scoping units, by the members there and the classes of their ties, for the proofs of the code.
use Rattle.std.specs.Prelude.{ℕ, ◌+◌, ◌-◌, ◌<◌, ◌≤◌, ◌≡◌, ◌≢◌, ◌⊎◌, List, length, slice_index, slice_get, Option, Some, None, filter, nat_eq, true, option_map}
use Rattle.ftn_base.specs.declared.entity.Tie.{Tie}
use Rattle.ftn_base.specs.declared.storage.Object.{Object}
use Rattle.ftn_base.specs.declared.storage.BlockList.{BlockList}
use Rattle.ftn_base.specs.StorageFaults.{IsOdd, IsFirstOdd}
use Rattle.ftn_base.specs.declared.storage.Member.{Member}

-- where the class of the tie's second thing ends, from the tie's unit of its first thing
abbrev pub last_of : List ℕ → List ℕ → List ℕ → Tie → ℕ
last_of class offset size tie = tie.at_a + (slice_index size (slice_index class tie.b) - slice_index offset tie.b)

-- that member of the block in the scoping unit has a tie whose class ends there
pub record IsEndOf (members : List Member) (ties : List Tie) (class offset size : List ℕ) (number scope at end : ℕ) : Type 0 where
  pub member : Member
  pub tie : Tie
  pub there : slice_get members at ≡ Some member
  pub tie_there : slice_get ties at ≡ Some tie
  pub of_block : member.block ≡ number
  pub in_scope : member.scope ≡ scope
  pub last : last_of class offset size tie ≡ end

-- of the first members the classes of those of the block in the scoping unit end there at most, and there is one that
-- does, or none at all
pub record IsGreatest (members : List Member) (ties : List Tie) (class offset size : List ℕ) (count number scope end : ℕ) : Type 0 where
  pub within : (at last : ℕ) → at < count → IsEndOf members ties class offset size number scope at last → last ≤ end
  pub reached : (end ≡ 0) ⊎ ((at : ℕ) × (at < count) × IsEndOf members ties class offset size number scope at end)

-- each member has a tie of which the classes tell
pub record IsReady (members : List Member) (ties : List Tie) (class offset size : List ℕ) : Type 0 where
  pub tied : length members ≤ length ties
  pub known : (at : ℕ) (tie : Tie) → at < length members → slice_get ties at ≡ Some tie
      → (tie.b < length class) × (tie.b < length offset) × (slice_index class tie.b < length size) × (slice_index offset tie.b ≤ slice_index size (slice_index class tie.b))

-- ---- lists whose block ends elsewhere than in its first scoping unit

abbrev pub lists_of : ℕ → List BlockList → List BlockList
lists_of number blocks = filter (λ list. nat_eq list.block number) blocks

-- the scoping unit of the block's first list
abbrev pub first_of : ℕ → List BlockList → Option ℕ
first_of number blocks = option_map (λ list. list.scope) (slice_get (lists_of number blocks) 0)

pub record IsUneven (blocks : List BlockList) (end : ℕ → ℕ → ℕ) (number : ℕ) : Type 0 where
  pub list : BlockList
  pub first : BlockList
  pub there : slice_get blocks number ≡ Some list
  pub first_there : slice_get (lists_of list.block blocks) 0 ≡ Some first
  pub named : list.named ≡ true
  pub apart : end list.block list.scope ≢ end list.block first.scope

-- the first such list, or none
abbrev pub FindsUneven : List BlockList → (ℕ → ℕ → ℕ) → Option ℕ → Type 0
FindsUneven blocks end None = (number : ℕ) → IsUneven blocks end number → ⊥
FindsUneven blocks end (Some number) = IsUneven blocks end number × ((earlier : ℕ) → earlier < number → IsUneven blocks end earlier → ⊥)

-- as far as these members tell, with some numbers for the ends
abbrev pub FindsOdd : List BlockList → List Member → List Tie → List ℕ → List ℕ → List ℕ → Option ℕ → Type 0
FindsOdd blocks members ties class offset size found =
    (end : ℕ → ℕ → ℕ) × ((number scope : ℕ) → IsGreatest members ties class offset size (length members) number scope (end number scope)) × FindsUneven blocks end found

-- the first list of a named block that ends elsewhere than in the scoping unit of its first list, or none
abbrev pub OddTold : List Object → List BlockList → List Tie → Option ℕ → Type 0
OddTold objects blocks ties None = (number : ℕ) → IsOdd objects blocks ties number → ⊥
OddTold objects blocks ties (Some number) = IsFirstOdd objects blocks ties number
