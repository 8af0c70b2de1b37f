-- The search that finishes each number after those that it uses. It serves the proof alone.
use Rattle.std.specs.Prelude.{◌≡◌, ◌⊎◌, ℕ, ◌+◌, ◌-◌, ◌<◌, Bool, true, false, if◌then◌else◌, List, [], ◌∷◌, map, length, slice_index_or, All, Contains}
use Rattle.ftn_base.specs.ModuleUses.{used_by}
use Rattle.const_value.specs.declared.components.Open.{Open}
use Rattle.const_value.specs.steps.Components.{Leads, IsHeld, AreApart}

abbrev pub IsMarked : List Bool → ℕ → Type 0
IsMarked marks number = slice_index_or marks number false ≡ true

-- one that is opened, of whose uses none was gone through
abbrev pub open_at : ℕ → Open
open_at number = record { node = number; next = 0 }

abbrev pub node_of : Open → ℕ
node_of o = o.node

abbrev pub nodes : List Open → List ℕ
nodes stack = map node_of stack

-- each leads to all that were opened after it
abbrev pub LeadDown : List (List ℕ) → List ℕ → Type 0
LeadDown uses [] = Unit {0}
LeadDown uses (x ∷ rest) = All (Leads uses x) rest × LeadDown uses rest

-- the uses of it that were gone through are seen
abbrev pub IsPassed : List (List ℕ) → List Bool → Open → Type 0
IsPassed uses seen o = (k : ℕ) → k < o.next → k < length (used_by uses o.node) → IsMarked seen (slice_index_or (used_by uses o.node) k 0)

-- the numbers that are open, each leading to the next, and those that are finished
pub record IsVisited (uses : List (List ℕ)) (seen : List Bool) (stack : List ℕ) (order : List ℕ) : Type 0 where
  pub sized : length seen ≡ length uses
  pub open_known : All (λ number. number < length uses) stack
  pub order_known : All (λ number. number < length uses) order
  pub open_seen : All (IsMarked seen) stack
  pub order_seen : All (IsMarked seen) order
  pub all : (number : ℕ) → IsMarked seen number → Contains order number ⊎ Contains stack number
  pub open_apart : AreApart stack
  pub order_apart : AreApart order
  pub fresh : (number : ℕ) → Contains order number → Contains stack number → ⊥
  pub chain : LeadDown uses stack
  pub done : All (λ x. All (IsMarked seen) (used_by uses x)) order
  pub held : IsHeld uses [] order

pub record IsSearch (uses : List (List ℕ)) (seen : List Bool) (stack : List Open) (order : List ℕ) : Type 0 where
  pub visited : IsVisited uses seen (nodes stack) order
  pub passed : All (IsPassed uses seen) stack

-- what was seen stays seen
abbrev pub Stays : List Bool → List Bool → Type 0
Stays before after = (number : ℕ) → IsMarked before number → IsMarked after number

-- ---- how much is left to do

abbrev pub unseen : List (List ℕ) → List Bool → ℕ
unseen [] seen = 0
unseen (list ∷ uses) [] = 0
unseen (list ∷ uses) (b ∷ seen) = (if b then 0 else length list + 1) + unseen uses seen

abbrev pub left_of : List (List ℕ) → Open → ℕ
left_of uses o = length (used_by uses o.node) - o.next + 1

abbrev pub left_in : List (List ℕ) → List Open → ℕ
left_in uses [] = 0
left_in uses (o ∷ stack) = left_of uses o + left_in uses stack

abbrev pub left_all : List (List ℕ) → List Bool → List Open → ℕ
left_all uses seen stack = unseen uses seen + left_in uses stack
