-- A storage unit that two initial values reach (Fortran 90, 5.2.9): the fault of the later name, with the earlier one.
use Rattle.std.specs.Prelude.{ℕ, ◌+◌, ◌*◌, ◌<◌, ◌≤◌, ◌≡◌, true, List, Contains, Some}
use Rattle.std.specs.Option.{option_map_or}
use Rattle.ftn_base.specs.declared.entity.Shape.{Shape}
use Rattle.ftn_base.specs.Storage.{Link, object, AreOneUnit}
use Rattle.ftn_base.specs.StorageMembers.{sizes_of, links}
use Rattle.ftn_tree.specs.declared.unit.FileTree.{FileTree}
use Rattle.ftn_tree.specs.GlobalNames.{Place, before}
use Rattle.ftn_tree.specs.Givens.{Given, givens_of, units_of}
use Rattle.ftn_tree.specs.Shapes.{shape_of}
use Rattle.ftn_tree.specs.StorageObjects.{objects_of, object_number}
use Rattle.ftn_tree.specs.CommonLists.{members_of}
use Rattle.ftn_tree.specs.EquivalenceTies.{ties_of}

-- the links that the project's COMMON and EQUIVALENCE make
abbrev pub project_links : List FileTree → List Link
project_links files = links (sizes_of (objects_of files)) (members_of files) (ties_of files)

-- the units of an object that an initial value reaches
abbrev pub element_units : List FileTree → Given → ℕ
element_units files g = option_map_or (λ (s : Shape). units_of s.ty) (shape_of files g.key) 1

pub record Reaches (files : List FileTree) (g : Given) (number unit : ℕ) : Type 0 where
  pub there : object_number files g.key ≡ Some number
  pub from : g.first ≤ unit
  pub to : unit < g.first + g.count * element_units files g

-- by a name at one place and by a name after it
pub record IsGivenTwice (files : List FileTree) (earlier later : Place) : Type 0 where
  pub one : Given
  pub other : Given
  pub one_given : Contains (givens_of files) one
  pub other_given : Contains (givens_of files) other
  pub one_at : one.at ≡ earlier
  pub other_at : other.at ≡ later
  pub turn : before earlier later ≡ true
  pub v : ℕ
  pub i : ℕ
  pub w : ℕ
  pub j : ℕ
  pub one_reaches : Reaches files one v i
  pub other_reaches : Reaches files other w j
  pub met : AreOneUnit (project_links files) (object v) i (object w) j

-- the first name that gives a value to a unit which has one, and the first of the names that gave it one
pub record IsFirstTwice (files : List FileTree) (earlier later : Place) : Type 0 where
  pub here : IsGivenTwice files earlier later
  pub no_later : (one other : Place) → before other later ≡ true → IsGivenTwice files one other → ⊥
  pub no_earlier : (one : Place) → before one earlier ≡ true → IsGivenTwice files one later → ⊥
