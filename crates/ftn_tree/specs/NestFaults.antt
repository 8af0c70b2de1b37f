-- The first fault in the nesting of statements.
use Rattle.std.specs.Prelude.{◌≡◌, ◌⊎◌, ℕ, Bool, true, false, ◌&&◌, ◌||◌, nat_le, not, if◌then◌else◌, List, [], ◌∷◌, ◌++◌, length, map, slice_get, Option, Some, None}
use Rattle.std.specs.Str.{bytes_eq}
use Rattle.ftn_base.specs.Limits.{most_constructs}
use Rattle.ftn_base.specs.declared.fault.FaultKind.{FaultKind}
use Rattle.ftn_base.specs.declared.fault.FaultKind.TheVariants.{Misplaced, OutOfProfile, TooDeep}
use Rattle.ftn_tree.specs.declared.token.Token.{Token}
use Rattle.ftn_tree.specs.declared.token.Tokens.{Tokens}
use Rattle.ftn_tree.specs.declared.unit.Statement.{Statement}
use Rattle.ftn_tree.specs.declared.unit.Unit.{Unit as UnitTree}
use Rattle.ftn_tree.specs.declared.mark.Title.{Title}
use Rattle.ftn_tree.specs.declared.mark.Mark.{Mark}
use Rattle.ftn_tree.specs.declared.mark.Mark.TheVariants as mark
use Rattle.ftn_tree.specs.declared.mark.Region.{Region}
use Rattle.ftn_tree.specs.declared.mark.Region.TheVariants as region
use Rattle.ftn_tree.specs.Marks.{mark_of, opens_construct, is_implicit, is_characteristic}
use Rattle.ftn_tree.specs.Regions.{region_of, depth}
use Rattle.ftn_tree.specs.Nesting.{Row, spelled, IsNested, Nested, Begins}

-- ---- what the statements leave open

-- the openings without an ending, the innermost first, each with its number
abbrev pub Path : Type 0
Path = List (ℕ × Title)

abbrev pub titles : Path → List Title
titles path = map (λ one. one.1) path

abbrev pub innermost : Path → Option ℕ
innermost [] = None
innermost (one ∷ around) = Some one.0

-- the statements leave the path open: a row of whole ones, and after each opening, from the outermost on, a row that is whole in it
abbrev pub LeavesOpen : (ℕ → ℕ → Bool) → Path → List Mark → Type 0
LeavesOpen same [] front = (row : Row) × IsNested same [] row × (spelled row ≡ front)
LeavesOpen same (one ∷ around) front =
    (before : List Mark) × (row : Row) × (front ≡ before ++ mark.Open one.1 ∷ spelled row) × (one.0 ≡ length before)
    × IsNested same (one.1 ∷ titles around) row × LeavesOpen same around before

-- ---- the fault

abbrev pub is_body : Region → Bool
is_body region.Body = true
is_body _ = false

-- what is wrong with a statement that can't stand there. An interface body holds IMPLICIT, type declarations, DIMENSION and INTENT; more
-- is this project's profile and not the standard's, and so is the limit of constructs
abbrev pub kind_in : List Title → Mark → FaultKind
kind_in path m =
    if is_body (region_of path) && not (is_implicit m || is_characteristic m) then OutOfProfile
    else (if opens_construct m && nat_le most_constructs (depth path) then TooDeep else Misplaced)

-- the statements before it begin a file, but not with it
pub record IsRefused (same : ℕ → ℕ → Bool) (marks : List Mark) (kind : FaultKind) (at : ℕ) : Type 0 where
  pub front : List Mark
  pub refused : Mark
  pub rest : List Mark
  pub whole : marks ≡ front ++ refused ∷ rest
  pub place : at ≡ length front
  pub before : Begins same front
  pub after : Begins same (front ++ refused ∷ []) → ⊥
  pub path : Path
  pub leaves : LeavesOpen same path front
  pub kind_is : kind ≡ kind_in (titles path) refused

-- they begin a file and are none: the innermost opening has no ending
pub record IsUnfinished (same : ℕ → ℕ → Bool) (marks : List Mark) (kind : FaultKind) (at : ℕ) : Type 0 where
  pub begins : Begins same marks
  pub unfinished : (units : List UnitTree) → Nested same marks units → ⊥
  pub path : Path
  pub leaves : LeavesOpen same path marks
  pub place : innermost path ≡ Some at
  pub kind_is : kind ≡ Misplaced

-- the first fault in nesting, by its kind and the number of the statement
abbrev pub IsNestFault : (ℕ → ℕ → Bool) → List Mark → FaultKind → ℕ → Type 0
IsNestFault same marks kind at = IsRefused same marks kind at ⊎ IsUnfinished same marks kind at

-- ---- the statements of a file

-- two tokens hold the same name, letters being folded
abbrev pub same_value : Option Token → Option Token → Bool
same_value (Some one) (Some other) = bytes_eq one.value other.value
same_value _ _ = false

abbrev pub same_name : Tokens → ℕ → ℕ → Bool
same_name tokens one other = same_value (slice_get tokens.items one) (slice_get tokens.items other)

abbrev pub marks_of : List Statement → List Mark
marks_of statements = map (λ statement. mark_of statement.form) statements
