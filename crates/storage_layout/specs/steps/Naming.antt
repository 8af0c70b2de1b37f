-- Numbers of blocks and ends of their lists, while members are taken in, for the proofs of the code.
use Rattle.std.specs.Prelude.{ℕ, ◌+◌, ◌≤◌, ◌≡◌, ◌≢◌, ◌&&◌, Bool, List, length, sum, max, slice_index, nat_eq, if◌then◌else◌}
use Rattle.std.specs.Option.{unwrap_or}
use Rattle.std.specs.List.{position_or_len}
use Rattle.indexmap.specs.IndexMap.{IndexMap, get}
use Rattle.ftn_base.specs.declared.storage.Member.{Member}
use Rattle.ftn_base.specs.StorageMembers.{is_in, units_in}
use Rattle.storage_layout.specs.steps.Numbered.{AreNames}

-- one block and one scoping unit
abbrev pub is_same : ℕ × ℕ → ℕ × ℕ → Bool
is_same one other = nat_eq one.0 other.0 && nat_eq one.1 other.1

-- how many units the lists of the block in the scoping unit take
abbrev pub end_in : {H : Type 0} → IndexMap (ℕ × ℕ) ℕ H → ℕ → ℕ → ℕ
end_in ends number scope = unwrap_or (get is_same ends (number, scope)) 0

-- the member's units are added to its lists' end
abbrev pub AreLonger : {H : Type 0} → IndexMap (ℕ × ℕ) ℕ H → Member → ℕ → IndexMap (ℕ × ℕ) ℕ H → Type 0
AreLonger ends member units new = (number scope : ℕ) → end_in new number scope ≡ (if is_in number scope member then end_in ends number scope + units else end_in ends number scope)

-- the number at that place is at least so large, and the others are as before
pub record IsRaised (list : List ℕ) (place least : ℕ) (new : List ℕ) : Type 0 where
  pub len : length new ≡ max (length list) (place + 1)
  pub here : slice_index new place ≡ max (slice_index list place) least
  pub elsewhere : (other : ℕ) → other ≢ place → slice_index new other ≡ slice_index list other
  pub total : sum new + slice_index list place ≡ sum list + slice_index new place

-- the kept names, sizes and ends are those of these members
pub record IsNaming (sizes : List ℕ) (members : List Member) (names block_sizes : List ℕ) (end : ℕ → ℕ → ℕ) : Type 0 where
  pub names_are : AreNames sizes members names block_sizes
  pub ends : (number scope : ℕ) → end number scope ≡ units_in sizes members number scope
  pub others : (number scope : ℕ) → length names ≤ position_or_len (nat_eq number) names → units_in sizes members number scope ≡ 0
