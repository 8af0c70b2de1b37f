-- Walks along uses, depth first: the path holds an entry of the list of each module on it, and all modules
-- that were reached have marks. For the proofs of the code.
use Rattle.std.specs.Prelude.{ℕ, ◌-◌, ◌<◌, ◌≡◌, ◌++◌, Bool, true, List, [], ◌∷◌, Option, Some, None, map, length, take, slice_index, slice_set, All}
use Rattle.ftn_base.specs.ModuleUses.{Uses, used_by}
use Rattle.module_graph.specs.steps.Marks.{IsMarked, IsUnmarked}
use Rattle.module_graph.specs.declared.entries.Entry.{Entry}

abbrev pub modules_of : List Entry → List ℕ
modules_of path = map (λ entry. entry.user) path

-- the module reached last
abbrev pub last_of : List ℕ → ℕ
last_of path = slice_index path (length path - 1)

-- on to a module without a mark, which gets one
pub record GoesOn (uses : List (List ℕ)) (marks : List Bool) (path : List Entry) (new_marks : List Bool) (new_path : List Entry) : Type 0 where
  pub next : ℕ
  pub known : next < length uses
  pub used : Uses uses (last_of (modules_of path)) next
  pub no_mark : IsUnmarked marks next
  pub marks_then : new_marks ≡ slice_set marks next true
  pub path_then : modules_of new_path ≡ modules_of path ++ next ∷ []

-- back from a module, when all that it uses have marks
pub record GoesBack (uses : List (List ℕ)) (marks : List Bool) (path : List Entry) (new_marks : List Bool) (new_path : List Entry) : Type 0 where
  pub done : All (IsMarked marks) (used_by uses (last_of (modules_of path)))
  pub marks_then : new_marks ≡ marks
  pub path_then : modules_of new_path ≡ take (length (modules_of path) - 1) (modules_of path)

abbrev pub IsStep : List (List ℕ) → List Bool → List Entry → List Bool → List Entry → Option ℕ → Type 0
IsStep uses marks path new_marks new_path None = GoesOn uses marks path new_marks new_path
IsStep uses marks path new_marks new_path (Some left) = GoesBack uses marks path new_marks new_path
