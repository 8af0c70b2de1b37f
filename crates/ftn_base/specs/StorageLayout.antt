-- Areas of objects that walks join, offsets in them and their sizes (Fortran 90, 5.5.1, 5.5.2, 14.6.3).
use Rattle.std.specs.Prelude.{ℕ, ◌+◌, ◌<◌, ◌≤◌, ◌≡◌, ◌↔◌, ◌⊎◌, ℤ, pos, ◌+ℤ◌, List, length, slice_index, slice_get, Option, Some, None}
use Rattle.ftn_base.specs.Storage.{Link, object, block, Leads, AreJoined}

-- objects have one area exactly where a walk joins them
pub record AreAreas (count : ℕ) (links : List Link) (area : List ℕ) : Type 0 where
  pub all : length area ≡ count
  pub joined : (v w : ℕ) → v < count → w < count → AreJoined links (object v) (object w) ↔ (slice_index area v ≡ slice_index area w)

-- before the first object of an area stands an object of each area of a lesser number
abbrev pub AreNumbered : ℕ → List ℕ → Type 0
AreNumbered count area = (v number : ℕ) → v < count → number < slice_index area v → (earlier : ℕ) × (earlier < v) × (slice_index area earlier ≡ number)

-- the area is that of a block exactly where a walk joins the block to its objects
pub record AreBlocks (count : ℕ) (links : List Link) (area : List ℕ) (of_area : List (Option ℕ)) : Type 0 where
  pub named : (v number : ℕ) → v < count → AreJoined links (block number) (object v) ↔ (slice_get of_area (slice_index area v) ≡ Some (Some number))
  pub unnamed : (v : ℕ) → v < count → (slice_get of_area (slice_index area v) ≡ Some None) ⊎ ((number : ℕ) × (slice_get of_area (slice_index area v) ≡ Some (Some number)))

-- two offsets differ by a walk's displacement
abbrev pub AreApart : ℕ → List Link → List ℕ → Type 0
AreApart count links offset = (v w : ℕ) (by : ℤ) → v < count → w < count → Leads links (object v) (object w) by → pos (slice_index offset w) ≡ pos (slice_index offset v) +ℤ by

-- offset 0 is the first unit of the area's block, or the least offset of its objects where it has none
pub record AreBegun (count : ℕ) (links : List Link) (area offset : List ℕ) : Type 0 where
  pub from_block : (v number : ℕ) (by : ℤ) → v < count → Leads links (block number) (object v) by → pos (slice_index offset v) ≡ by
  pub least : (v : ℕ) → v < count → ((number : ℕ) → AreJoined links (block number) (object v) → ⊥) → (first : ℕ) × (first < count) × (slice_index area first ≡ slice_index area v) × (slice_index offset first ≡ 0)

-- the size of an area is the greatest end of its objects
pub record AreEnds (sizes area offset size : List ℕ) : Type 0 where
  pub within : (v : ℕ) → v < length sizes → slice_index offset v + slice_index sizes v ≤ slice_index size (slice_index area v)
  pub reached : (number : ℕ) → number < length size → (last : ℕ) × (last < length sizes) × (slice_index area last ≡ number) × (slice_index offset last + slice_index sizes last ≡ slice_index size number)

pub record IsSound (sizes : List ℕ) (links : List Link) (area offset size : List ℕ) (of_area : List (Option ℕ)) : Type 0 where
  pub areas : AreAreas (length sizes) links area
  pub numbered : AreNumbered (length sizes) area
  pub apart : AreApart (length sizes) links offset
  pub begun : AreBegun (length sizes) links area offset
  pub ends : AreEnds sizes area offset size
  pub of_blocks : AreBlocks (length sizes) links area of_area
  pub counted : length offset ≡ length sizes
  pub blocks_counted : length of_area ≡ length size
