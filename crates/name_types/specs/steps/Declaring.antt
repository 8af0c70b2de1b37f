-- What is declared under the names of scoping units, by what is kept of them. It serves the proof alone.
use Rattle.std.specs.Prelude.{◌≡◌, ℕ, ◌-◌, nat_lt, Bool, false, not, ◌&&◌, if◌then◌else◌, List, length, slice_get, Option, None}
use Rattle.std.specs.Option.{option_map, option_map_or, option_and_then, unwrap_or}
use Rattle.ftn_base.specs.declared.entity.Letter.{Letter}
use Rattle.ftn_base.specs.declared.entity.Letter.TheVariants as letter
use Rattle.ftn_tree.specs.declared.table.Bound.{Bound}
use Rattle.ftn_tree.specs.declared.table.Scope.{Scope}
use Rattle.ftn_tree.specs.declared.unit.FileTree.{FileTree}
use Rattle.ftn_tree.specs.KeyKinds.{Kind, kind, letter_sort}
use Rattle.ftn_tree.specs.Sorts.{Sort}
use Rattle.const_value.specs.declared.name_numbers.Owned.{Owned}
use Rattle.const_value.specs.declared.project.Project.{Project}
use Rattle.const_value.specs.steps.Gathered.{IsGathered}
use Rattle.const_value.specs.steps.Names as names
use Rattle.const_value.specs.steps.Projects as projects
use Rattle.name_types.specs.declared.declared.Declared.{Declared}

abbrev pub letter_of : List ℕ → ℕ
letter_of name = names.letter_of name

-- the number of a name of a scoping unit
abbrev pub number_by : Declared → ℕ → List ℕ → Option ℕ
number_by d scope name = names.number_at d.numbers.items scope name

-- the type by the first letter
abbrev pub letter_by : Bound → ℕ → List ℕ → Letter
letter_by bound scope name = unwrap_or (option_and_then (λ (s : Scope). slice_get s.letters (letter_of name - 97)) (slice_get bound.tables.scopes scope)) letter.Nothing

abbrev pub sort_numbered : Project → ℕ → Option Sort
sort_numbered p number =
    if nat_lt number (length p.names.items) && nat_lt number (length p.written.items) then projects.sort_of p.bound.now p.names.items p.written.items number else None

abbrev pub rank_numbered : Project → ℕ → ℕ
rank_numbered p number = if nat_lt number (length p.written.items) then projects.rank_of p.written.items number else 0

abbrev pub sort_by : Declared → ℕ → List ℕ → Option Sort
sort_by d scope name = option_map_or (sort_numbered d.project.now) (number_by d scope name) (letter_sort (letter_by d.project.now.bound.now scope name))

abbrev pub rank_by : Declared → ℕ → List ℕ → ℕ
rank_by d scope name = option_map_or (rank_numbered d.project.now) (number_by d scope name) 0

abbrev pub kind_by : Declared → ℕ → List ℕ → Option Kind
kind_by d scope name = option_map (λ sort. kind sort (rank_by d scope name)) (sort_by d scope name)

-- what is said of a name
abbrev pub owned_by : Declared → ℕ → List ℕ → Option Owned
owned_by d scope name = option_and_then (slice_get d.project.now.names.items) (number_by d scope name)

abbrev pub is_given : Owned → Bool
is_given o = o.said.given

abbrev pub is_out : Owned → Bool
is_out o = not o.said.given && o.said.defined

abbrev pub is_given_by : Declared → ℕ → List ℕ → Bool
is_given_by d scope name = option_map_or is_given (owned_by d scope name) false

abbrev pub is_out_by : Declared → ℕ → List ℕ → Bool
is_out_by d scope name = option_map_or is_out (owned_by d scope name) false

-- ---- what is kept is right

pub record AreDeclared (files : List FileTree) (d : Declared) : Type 0 where
  pub gathered : IsGathered files d.project.now
  pub numbers : (scope : ℕ) (name : List ℕ) → number_by d scope name ≡ names.number_of (names.all_said files) scope name
