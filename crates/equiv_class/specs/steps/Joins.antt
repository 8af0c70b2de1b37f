-- What taking in one tie does to the lists, for the proofs of the code.
use Rattle.std.specs.Prelude.{ℕ, ◌+◌, ◌-◌, max, ◌≡◌, ◌≢◌, ◌⊎◌, [], ◌++◌, Option, Some, None, slice_index, slice_set}
use Rattle.ftn_base.specs.declared.entity.Tie.{Tie}
use Rattle.equiv_class.specs.declared.sequences.TheConstants.{MIDDLE}
use Rattle.equiv_class.specs.steps.Lists.{Lists, IsMoved, members_of}

-- the same tie, told from its other object
abbrev pub turned : Tie → Tie
turned tie = record { a = tie.b; at_a = tie.at_b; b = tie.a; at_b = tie.at_a }

abbrev pub label_a : Lists → Tie → ℕ
label_a s tie = slice_index s.label tie.a

abbrev pub label_b : Lists → Tie → ℕ
label_b s tie = slice_index s.label tie.b

abbrev pub unit_a : Lists → Tie → ℕ
unit_a s tie = slice_index s.place tie.a + tie.at_a

abbrev pub unit_b : Lists → Tie → ℕ
unit_b s tie = slice_index s.place tie.b + tie.at_b

-- the sequence of the second object is moved into that of the first, so that the two units are one
pub record IsAbsorbed (s : Lists) (tie : Tie) (new : Lists) : Type 0 where
  pub apart : label_b s tie ≢ label_a s tie
  pub moved : IsMoved s.label s.place (members_of s.members (label_b s tie)) (label_a s tie) (unit_a s tie) (unit_b s tie) new.label new.place
  pub lists : new.members ≡ slice_set (slice_set s.members (label_b s tie) []) (label_a s tie) (members_of s.members (label_a s tie) ++ members_of s.members (label_b s tie))
  pub below : new.below ≡ slice_set (slice_set s.below (label_a s tie) (max (slice_index s.below (label_a s tie)) (slice_index s.below (label_b s tie) + unit_b s tie - unit_a s tie))) (label_b s tie) 0
  pub above : new.above ≡ slice_set (slice_set s.above (label_a s tie) (max (slice_index s.above (label_a s tie)) (slice_index s.above (label_b s tie) + unit_a s tie - unit_b s tie))) (label_b s tie) 0

-- the two units of the tie are one already
pub record IsMet (s : Lists) (tie : Tie) : Type 0 where
  pub label : label_a s tie ≡ label_b s tie
  pub unit : unit_a s tie ≡ unit_b s tie

-- they are two units of one sequence
pub record IsClash (s : Lists) (tie : Tie) (one other : ℕ) : Type 0 where
  pub label : label_a s tie ≡ label_b s tie
  pub offset_a : one + MIDDLE ≡ unit_a s tie + slice_index s.below (label_a s tie)
  pub offset_b : other + MIDDLE ≡ unit_b s tie + slice_index s.below (label_a s tie)
  pub apart : one ≢ other

-- what is found of two units of one sequence
abbrev pub Finds : Lists → Tie → Option (ℕ × ℕ) → Type 0
Finds s tie None = IsMet s tie
Finds s tie (Some found) = IsClash s tie found.0 found.1

-- two sequences are made one, from the one side or the other
abbrev pub IsMerged : Lists → Tie → Lists → Type 0
IsMerged s tie new = IsAbsorbed s tie new ⊎ IsAbsorbed s (turned tie) new

abbrev pub Joins : Lists → Tie → Option (ℕ × ℕ) → Lists → Type 0
Joins s tie None new = (IsMet s tie × (new ≡ s)) ⊎ IsMerged s tie new
Joins s tie (Some found) new = IsClash s tie found.0 found.1
