-- What the kept lists say of the ties taken in so far, for the proofs of the code.
use Rattle.std.specs.Prelude.{ℕ, ◌+◌, ◌<◌, ◌≤◌, ◌≡◌, pos, ◌-ℤ◌, List, length, slice_index, sum, All}
use Rattle.ftn_base.specs.declared.entity.Tie.{Tie}
use Rattle.ftn_base.specs.Storage.{object, Leads, tie_links}
use Rattle.equiv_class.specs.declared.sequences.TheConstants.{MIDDLE}
use Rattle.equiv_class.specs.steps.Lists.{Lists, IsListed}
use Rattle.equiv_class.specs.steps.Joins.{IsMet}

-- the two units of each tie are one, and objects of one label are joined by a walk
pub record IsTied (ties : List Tie) (s : Lists) : Type 0 where
  pub met : All (IsMet s) ties
  pub led : (v w : ℕ) → v < length s.label → w < length s.label → slice_index s.label v ≡ slice_index s.label w
      → Leads (tie_links ties) (object v) (object w) (pos (slice_index s.place w) -ℤ pos (slice_index s.place v))

-- each sequence reaches from its first unit to its last, and all together have no more units than the objects
pub record IsSpanned (sizes : List ℕ) (s : Lists) : Type 0 where
  pub counted : length s.label ≡ length sizes
  pub low : (v : ℕ) → v < length s.label → MIDDLE ≤ slice_index s.place v + slice_index s.below (slice_index s.label v)
  pub high : (v : ℕ) → v < length s.label → slice_index s.place v + slice_index sizes v ≤ MIDDLE + slice_index s.above (slice_index s.label v)
  pub least : (v : ℕ) → v < length s.label
      → (u : ℕ) × (u < length s.label) × (slice_index s.label u ≡ slice_index s.label v) × (slice_index s.place u + slice_index s.below (slice_index s.label v) ≡ MIDDLE)
  pub greatest : (v : ℕ) → v < length s.label
      → (u : ℕ) × (u < length s.label) × (slice_index s.label u ≡ slice_index s.label v) × (slice_index s.place u + slice_index sizes u ≡ MIDDLE + slice_index s.above (slice_index s.label v))
  pub small : sum s.below + sum s.above ≤ sum sizes

pub record IsJoined (sizes : List ℕ) (ties : List Tie) (s : Lists) : Type 0 where
  pub listed : IsListed s
  pub spanned : IsSpanned sizes s
  pub tied : IsTied ties s
