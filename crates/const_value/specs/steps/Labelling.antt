-- Labels of numbers that lead to one another, given from the last finished number on. It serves the proof alone.
use Rattle.std.specs.Prelude.{◌≡◌, ◌⊎◌, ℕ, ◌+◌, ◌<◌, true, if◌then◌else◌, List, [], ◌∷◌, ◌++◌, length, slice_index_or, Option, Some, None, All, Contains}
use Rattle.std.specs.Option.{is_some}
use Rattle.ftn_base.specs.ModuleUses.{Uses, used_by}
use Rattle.const_value.specs.steps.Components.{Leads, IsFinishOrder}

abbrev pub label_at : List (Option ℕ) → ℕ → Option ℕ
label_at labels number = slice_index_or labels number None

abbrev pub IsLabelled : List (Option ℕ) → ℕ → Type 0
IsLabelled labels number = is_some (label_at labels number) ≡ true

-- of each number, those that use it
pub record AreUsers (uses users : List (List ℕ)) : Type 0 where
  pub sized : length users ≡ length uses
  pub all : (user used : ℕ) → Uses uses user used → Uses users used user
  pub only : (user used : ℕ) → Uses users used user → Uses uses user used

-- the user was put on the list of each of these, and nothing else was
pub record AreAdded (list : List ℕ) (user : ℕ) (before after : List (List ℕ)) : Type 0 where
  pub sized : length after ≡ length before
  pub kept : (used other : ℕ) → Uses before used other → Uses after used other
  pub here : All (λ used. Uses after used user) list
  pub only : (used other : ℕ) → Uses after used other → Uses before used other ⊎ ((other ≡ user) × Contains list used)

-- how many have no label
abbrev pub unlabelled : List (Option ℕ) → ℕ
unlabelled [] = 0
unlabelled (label ∷ labels) = (if is_some label then 0 else 1) + unlabelled labels

-- those of the list that had no label got this one, and were put on the stack
pub record AreSpread (list : List ℕ) (label : ℕ) (before : List (Option ℕ)) (stack : List ℕ) (after : List (Option ℕ)) (more : List ℕ) : Type 0 where
  pub sized : length after ≡ length before
  pub kept : (number : ℕ) → IsLabelled before number → label_at after number ≡ label_at before number
  pub here : All (IsLabelled after) list
  pub stack_kept : (number : ℕ) → Contains stack number → Contains more number
  pub new : (number : ℕ) → IsLabelled after number → IsLabelled before number ⊎ ((label_at after number ≡ Some label) × Contains list number × Contains more number)
  pub stacked : (number : ℕ) → Contains more number → Contains stack number ⊎ ((label_at after number ≡ Some label) × Contains list number)

-- a number in the order leads to all from that one on up to itself
pub record Reaches (uses : List (List ℕ)) (order : List ℕ) (root number : ℕ) : Type 0 where
  pub before : List ℕ
  pub between : List ℕ
  pub split : order ≡ before ++ number ∷ between
  pub all : All (Leads uses root) (number ∷ between)

-- labels that are spread from a root: the order ends with it, and what is behind it had labels before
pub record IsSpreading (uses users : List (List ℕ)) (order : List ℕ) (root : ℕ) (first labels : List (Option ℕ)) (stack : List ℕ) : Type 0 where
  pub sized : length labels ≡ length uses
  pub kept : (number : ℕ) → IsLabelled first number → label_at labels number ≡ label_at first number
  pub root_labelled : label_at labels root ≡ Some root
  pub found : (number : ℕ) → IsLabelled labels number → IsLabelled first number ⊎ ((label_at labels number ≡ Some root) × Leads uses number root × Reaches uses order root number)
  pub open_new : (number : ℕ) → Contains stack number → (number < length uses) × Leads uses number root × Reaches uses order root number
  pub closed : (number : ℕ) → IsLabelled labels number → IsLabelled first number ⊎ (Contains stack number ⊎ All (IsLabelled labels) (used_by users number))

-- labels so far: of all numbers that lead to one another, or of none
pub record AreSound (uses : List (List ℕ)) (labels : List (Option ℕ)) : Type 0 where
  pub sized : length labels ≡ length uses
  pub sound : (number label : ℕ) → label_at labels number ≡ Some label → Leads uses number label × Leads uses label number × (label_at labels label ≡ Some label)
  pub whole : (number other label : ℕ) → label_at labels number ≡ Some label → other < length uses → Leads uses number other → Leads uses other number → label_at labels other ≡ Some label

-- a root from which labels are to be spread, with what is before it in the order and what is behind it
pub record IsRoot (uses lists : List (List ℕ)) (front : List ℕ) (root : ℕ) (behind : List ℕ) (labels : List (Option ℕ)) : Type 0 where
  pub finish : IsFinishOrder uses ((front ++ root ∷ []) ++ behind)
  pub users : AreUsers uses lists
  pub sound : AreSound uses labels
  pub new : label_at labels root ≡ None
  pub past : All (IsLabelled labels) behind

-- the same label for two exactly where each leads to the other
pub record AreLabels (uses : List (List ℕ)) (labels : List (Option ℕ)) : Type 0 where
  pub sized : length labels ≡ length uses
  pub alike : (one other : ℕ) → one < length uses → other < length uses → label_at labels one ≡ label_at labels other → Leads uses one other × Leads uses other one
  pub whole : (one other : ℕ) → one < length uses → other < length uses → Leads uses one other → Leads uses other one → label_at labels one ≡ label_at labels other
