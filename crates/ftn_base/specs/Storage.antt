-- Storage association (Fortran 90, 14.6.3): links between sequences of storage units, and walks over them.
use Rattle.std.specs.Prelude.{ℕ, ◌<◌, ◌≡◌, ◌≢◌, ℤ, pos, neg_ℤ, ◌+ℤ◌, ◌-ℤ◌, ◌≤ℤ◌, List, [], ◌∷◌, length, map, slice_index, Contains}
use Rattle.ftn_base.specs.declared.entity.Tie.{Tie}

-- what takes a sequence of storage units (14.6.3.1): a data object or a common block, by its number
pub data Thing : Type 0 where
  object : ℕ → Thing
  block : ℕ → Thing

-- a link says that unit `by` of the first thing is unit 0 of the second; it may lie before the first's unit 0
pub record Link : Type 0 where
  pub from : Thing
  pub to : Thing
  pub by : ℤ

-- the tie names units of objects that are there
pub record IsWithin (sizes : List ℕ) (tie : Tie) : Type 0 where
  pub a : tie.a < length sizes
  pub b : tie.b < length sizes
  pub at_a : tie.at_a < slice_index sizes tie.a
  pub at_b : tie.at_b < slice_index sizes tie.b

-- EQUIVALENCE (5.5.1) makes unit i of one object unit j of another, so the other begins at unit i - j
abbrev pub tie_link : Tie → Link
tie_link tie = record { from = object tie.a; to = object tie.b; by = pos tie.at_a -ℤ pos tie.at_b }

abbrev pub tie_links : List Tie → List Link
tie_links ties = map tie_link ties

-- a member of a common block begins at a unit of the block (5.5.2.1)
abbrev pub member_link : ℕ → ℕ → ℕ → Link
member_link number member start = record { from = block number; to = object member; by = pos start }

-- a link taken forward, or backward with the sign changed
pub data Step : Type 0 where
  forward : Link → Step
  backward : Link → Step

abbrev pub link_of : Step → Link
link_of (forward link) = link
link_of (backward link) = link

abbrev pub start_of : Step → Thing
start_of (forward link) = link.from
start_of (backward link) = link.to

abbrev pub end_of : Step → Thing
end_of (forward link) = link.to
end_of (backward link) = link.from

abbrev pub shift_of : Step → ℤ
shift_of (forward link) = link.by
shift_of (backward link) = neg_ℤ link.by

-- the steps lead over these links from the one thing to the other, each from where the one before it ends
abbrev pub IsWalk : List Link → Thing → List Step → Thing → Type 0
IsWalk links first [] last = first ≡ last
IsWalk links first (step ∷ steps) last = Contains links (link_of step) × (first ≡ start_of step) × IsWalk links (end_of step) steps last

abbrev pub displacement : List Step → ℤ
displacement [] = pos 0
displacement (step ∷ steps) = shift_of step +ℤ displacement steps

-- a walk leads from the one thing to the other, with that displacement
pub record Leads (links : List Link) (first last : Thing) (by : ℤ) : Type 0 where
  pub steps : List Step
  pub walk : IsWalk links first steps last
  pub sum : displacement steps ≡ by

-- some walk leads from the one to the other: both lie in one sequence
abbrev pub AreJoined : List Link → Thing → Thing → Type 0
AreJoined links first last = (by : ℤ) × Leads links first last by

-- unit i of the first is unit j of the last
abbrev pub AreOneUnit : List Link → Thing → ℕ → Thing → ℕ → Type 0
AreOneUnit links first i last j = Leads links first last (pos i -ℤ pos j)

-- two different units of one thing would be one
pub record IsContradicted (links : List Link) : Type 0 where
  pub thing : Thing
  pub by : ℤ
  pub apart : by ≢ pos 0
  pub back : Leads links thing thing by

-- where a thing begins in the sequence that the links make, whose first thing begins at 0
pub record IsOffset (links : List Link) (thing : Thing) (offset : ℕ) : Type 0 where
  pub none_before : (other : Thing) (by : ℤ) → Leads links thing other by → pos 0 ≤ℤ (pos offset +ℤ by)
  pub first : (other : Thing) × Leads links thing other (neg_ℤ (pos offset))
