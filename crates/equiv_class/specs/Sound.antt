-- Classes of objects that walks join, offsets in them, and their sizes (Fortran 90, 5.5.1, 14.6.3).
use Rattle.std.specs.Prelude.{ℕ, ◌+◌, ◌<◌, ◌≤◌, ◌≡◌, ◌↔◌, pos, ◌+ℤ◌, ℤ, List, length, slice_index}
use Rattle.ftn_base.specs.Storage.{Link, object, Leads, AreJoined, AreOneUnit}

-- objects have one class exactly where a walk joins them; before the first object of a class stands an object of
-- each class of a lesser number
pub record AreClasses (count : ℕ) (links : List Link) (class : List ℕ) : Type 0 where
  pub all : length class ≡ count
  pub joined : (v w : ℕ) → v < count → w < count → AreJoined links (object v) (object w) ↔ (slice_index class v ≡ slice_index class w)
  pub rising : (v number : ℕ) → v < count → number < slice_index class v → (earlier : ℕ) × (earlier < v) × (slice_index class earlier ≡ number)

-- two offsets differ by a walk's displacement; the least one of each class is 0
pub record AreOffsets (count : ℕ) (links : List Link) (class offset : List ℕ) : Type 0 where
  pub all : length offset ≡ count
  pub apart : (v w : ℕ) (by : ℤ) → v < count → w < count → Leads links (object v) (object w) by → pos (slice_index offset w) ≡ pos (slice_index offset v) +ℤ by
  pub least : (v : ℕ) → v < count → (first : ℕ) × (first < count) × (slice_index class first ≡ slice_index class v) × (slice_index offset first ≡ 0)

-- the size of each class is the greatest end of its objects
pub record AreSizes (sizes class offset size : List ℕ) : Type 0 where
  pub known : (v : ℕ) → v < length sizes → slice_index class v < length size
  pub within : (v : ℕ) → v < length sizes → slice_index offset v + slice_index sizes v ≤ slice_index size (slice_index class v)
  pub reached : (number : ℕ) → number < length size → (last : ℕ) × (last < length sizes) × (slice_index class last ≡ number) × (slice_index offset last + slice_index sizes last ≡ slice_index size number)

-- two units are one exactly where they have one class and one place in it
abbrev pub ShareUnits : ℕ → List Link → List ℕ → List ℕ → Type 0
ShareUnits count links class offset =
    (v i w j : ℕ) → v < count → w < count
    → AreOneUnit links (object v) i (object w) j ↔ ((slice_index class v ≡ slice_index class w) × (slice_index offset v + i ≡ slice_index offset w + j))

pub record IsSound (sizes : List ℕ) (links : List Link) (class offset size : List ℕ) : Type 0 where
  pub classes : AreClasses (length sizes) links class
  pub offsets : AreOffsets (length sizes) links class offset
  pub ends : AreSizes sizes class offset size
  pub units : ShareUnits (length sizes) links class offset
