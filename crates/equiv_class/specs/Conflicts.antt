-- The first tie that contradicts those before it (Fortran 90, 5.5.1).
use Rattle.std.specs.Prelude.{ℕ, ◌+◌, ◌≡◌, ◌≢◌, List, take, Some, slice_get}
use Rattle.ftn_base.specs.declared.entity.Tie.{Tie}
use Rattle.ftn_base.specs.Storage.{Link, Thing, object, AreJoined, IsContradicted, IsOffset, tie_links}
use Rattle.equiv_class.specs.declared.fault.TieFault.{TieFault}
use Rattle.equiv_class.specs.declared.fault.TieFault.TheVariants as fault

-- the unit of the thing has that offset in the sequence that the links make
pub record IsPlaceOf (links : List Link) (thing : Thing) (unit offset : ℕ) : Type 0 where
  pub begin : ℕ
  pub thing_begins : IsOffset links thing begin
  pub place : offset ≡ begin + unit

-- with this tie, and not without it, two different units of one thing would be one; the tie's own two units stand
-- at two offsets of the sequence that the ties before it make
pub record IsConflict (ties : List Tie) (number one other : ℕ) : Type 0 where
  pub tie : Tie
  pub entry : slice_get ties number ≡ Some tie
  pub before : IsContradicted (tie_links (take number ties)) → ⊥
  pub here : IsContradicted (tie_links (take (number + 1) ties))
  pub joined : AreJoined (tie_links (take number ties)) (object tie.a) (object tie.b)
  pub place_a : IsPlaceOf (tie_links (take number ties)) (object tie.a) tie.at_a one
  pub place_b : IsPlaceOf (tie_links (take number ties)) (object tie.b) tie.at_b other
  pub apart : one ≢ other

-- a fault is want of memory, or tells that tie
abbrev pub IsTrueFault : List Tie → TieFault → Type 0
IsTrueFault ties (fault.Conflict tie one other) = IsConflict ties tie one other
IsTrueFault ties fault.NoMemory = Unit
