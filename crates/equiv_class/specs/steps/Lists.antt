-- The lists that the code keeps while it takes ties in, for the proofs of the code.
use Rattle.std.specs.Prelude.{ℕ, ◌+◌, ◌<◌, ◌≤◌, ◌^◌, ◌≡◌, ◌≢◌, List, [], ◌∷◌, Vec, map, length, slice_index, slice_index_or, AllPairs, Contains}
use Rattle.ftn_base.specs.declared.entity.Tie.{Tie}
use Rattle.equiv_class.specs.declared.sequences.Sequences.{Sequences}
use Rattle.equiv_class.specs.declared.sequences.TheConstants.{MIDDLE}

-- the sequence of each object and where the object begins, and of each sequence its objects and how far it
-- reaches
pub record Lists : Type 0 where
  pub label : List ℕ
  pub place : List ℕ
  pub members : List (List ℕ)
  pub below : List ℕ
  pub above : List ℕ

-- the lists of objects, without where they lie in memory
abbrev pub member_lists : {A : Type 0} → List (Vec ℕ A) → List (List ℕ)
member_lists lists = map (λ list. list.items) lists

abbrev pub lists_of : Sequences → Lists
lists_of s = record { label = s.label.items; place = s.place.items; members = member_lists s.members.items; below = s.below.items; above = s.above.items }

abbrev pub members_of : List (List ℕ) → ℕ → List ℕ
members_of members label = slice_index_or members label []

-- the objects of the list have that label now, and their places are moved; the others are as before
pub record IsMoved (label place moved : List ℕ) (to up down : ℕ) (new_label new_place : List ℕ) : Type 0 where
  pub labels : length new_label ≡ length label
  pub places : length new_place ≡ length place
  pub label_there : (object : ℕ) → Contains moved object → slice_index new_label object ≡ to
  pub place_there : (object : ℕ) → Contains moved object → slice_index new_place object + down ≡ slice_index place object + up
  pub label_elsewhere : (object : ℕ) → (Contains moved object → ⊥) → slice_index new_label object ≡ slice_index label object
  pub place_elsewhere : (object : ℕ) → (Contains moved object → ⊥) → slice_index new_place object ≡ slice_index place object

-- each object is a sequence of its own
pub record IsAlone (sizes : List ℕ) (s : Lists) : Type 0 where
  pub labels : length s.label ≡ length sizes
  pub places : length s.place ≡ length sizes
  pub lists : length s.members ≡ length sizes
  pub belows : length s.below ≡ length sizes
  pub label : (object : ℕ) → object < length sizes → slice_index s.label object ≡ object
  pub place : (object : ℕ) → object < length sizes → slice_index s.place object ≡ MIDDLE
  pub members : (object : ℕ) → object < length sizes → members_of s.members object ≡ object ∷ []
  pub below : (object : ℕ) → slice_index s.below object ≡ 0
  pub above : s.above ≡ sizes

-- the lists fit each other
pub record IsListed (s : Lists) : Type 0 where
  pub places : length s.place ≡ length s.label
  pub lists : length s.members ≡ length s.label
  pub belows : length s.below ≡ length s.label
  pub aboves : length s.above ≡ length s.label
  pub known : (object : ℕ) → object < length s.label → slice_index s.label object < length s.label
  pub listed : (label object : ℕ) → Contains (members_of s.members label) object → (object < length s.label) × (slice_index s.label object ≡ label)
  pub among : (object : ℕ) → object < length s.label → Contains (members_of s.members (slice_index s.label object)) object
  pub once : (label : ℕ) → AllPairs (λ earlier later. earlier ≢ later) (members_of s.members label)

-- the numbers are small enough for the tie to be taken in
pub record IsReady (s : Lists) (tie : Tie) : Type 0 where
  pub listed : IsListed s
  pub a : tie.a < length s.label
  pub b : tie.b < length s.label
  pub low : (object : ℕ) → object < length s.label → MIDDLE ≤ slice_index s.place object + slice_index s.below (slice_index s.label object)
  pub high : (object : ℕ) → object < length s.label → slice_index s.place object ≤ MIDDLE + slice_index s.above (slice_index s.label object)
  pub unit_a : slice_index s.place tie.a + tie.at_a ≤ MIDDLE + slice_index s.above (slice_index s.label tie.a)
  pub unit_b : slice_index s.place tie.b + tie.at_b ≤ MIDDLE + slice_index s.above (slice_index s.label tie.b)
  pub small : (label : ℕ) → slice_index s.below label + slice_index s.above label < 2 ^ 31

-- where the object begins, counted so that the first object of its sequence begins at the middle
abbrev pub begin_of : Lists → ℕ → ℕ
begin_of s object = slice_index s.place object + slice_index s.below (slice_index s.label object)

-- how many units the sequence has
abbrev pub reach_of : Lists → ℕ → ℕ
reach_of s label = slice_index s.below label + slice_index s.above label

-- offsets and sizes are small numbers
pub record IsMeasured (s : Lists) : Type 0 where
  pub places : length s.place ≡ length s.label
  pub belows : length s.below ≡ length s.label
  pub aboves : length s.above ≡ length s.label
  pub known : (object : ℕ) → object < length s.label → slice_index s.label object < length s.label
  pub low : (object : ℕ) → object < length s.label → MIDDLE ≤ begin_of s object
  pub high : (object : ℕ) → object < length s.label → begin_of s object < MIDDLE + 2 ^ 32
  pub small : (label : ℕ) → reach_of s label < 2 ^ 31
