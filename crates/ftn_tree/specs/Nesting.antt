-- How statements nest (Fortran 90, 2.3.1, 8.1, 11, 12.3.2.1, 12.5.2).
use Rattle.std.specs.Prelude.{◌≡◌, ℕ, ◌+◌, Bool, true, false, not, nat_le, if◌then◌else◌, List, [], ◌∷◌, ◌++◌, length}
use Rattle.ftn_base.specs.Limits.{most_constructs}
use Rattle.ftn_tree.specs.declared.parts.EndWord.TheVariants as word
use Rattle.ftn_tree.specs.declared.mark.Title.{Title}
use Rattle.ftn_tree.specs.declared.mark.Mark.{Mark}
use Rattle.ftn_tree.specs.declared.mark.Mark.TheVariants as mark
use Rattle.ftn_tree.specs.declared.unit.Unit.{Unit as UnitTree, roll-Unit}
use Rattle.ftn_tree.specs.declared.unit.Block.{Block}
use Rattle.ftn_tree.specs.declared.unit.Block.TheVariants.{Plain, Nest}
use Rattle.ftn_tree.specs.declared.unit.Arm.{Arm, roll-Arm}
use Rattle.ftn_tree.specs.Marks.{same_word, is_construct, begins_arm}
use Rattle.ftn_tree.specs.Regions.{region_of, depth, in_main, in_loop, ends, sections_in, in_order}

-- a row of statements: each stands by itself, or opens what holds a row of its own up to its ending
pub data Row : Type 0 where
  none : Row
  stands : (statement : Mark) → (rest : Row) → Row
  nest : (opening : Title) → (inside : Row) → (ending : Mark) → (rest : Row) → Row

-- all statements of a row
abbrev pub spelled : Row → List Mark
spelled none = []
spelled (stands m rest) = m ∷ spelled rest
spelled (nest what inside end rest) = mark.Open what ∷ (spelled inside ++ end ∷ spelled rest)

-- those that stand in no inner row, with each opening for what it opens
abbrev pub heads : Row → List Mark
heads none = []
heads (stands m rest) = m ∷ heads rest
heads (nest what inside end rest) = mark.Open what ∷ heads rest

-- EXIT and CYCLE stand in a DO, and RETURN isn't a main program's (8.1.4.4, 12.5.2.5); openings and endings don't stand by themselves
abbrev pub may_stand : (ℕ → ℕ → Bool) → List Title → Mark → Bool
may_stand same path (mark.Leave name) = in_loop same name path
may_stand same path mark.Return = not (in_main path)
may_stand same path (mark.Open what) = false
may_stand same path mark.PlainEnd = false
may_stand same path (mark.End by) = false
may_stand same path _ = true

-- each statement of the row may stand where it does, and what is opened is in order and ends as it was opened. At most 100 constructs are
-- open, which is this project's limit
abbrev pub IsNested : (ℕ → ℕ → Bool) → List Title → Row → Type 0
IsNested same path none = Unit {0}
IsNested same path (stands m rest) = (may_stand same path m ≡ true) × IsNested same path rest
IsNested same path (nest what inside end rest) =
    (nat_le (depth (what ∷ path)) most_constructs ≡ true)
    × (in_order (sections_in (region_of (what ∷ path))) (heads inside) ≡ true)
    × IsNested same (what ∷ path) inside
    × (ends same (region_of (what ∷ path)) what end ≡ true)
    × IsNested same path rest

-- a file of program units
pub record IsFile (same : ℕ → ℕ → Bool) (row : Row) : Type 0 where
  pub order : in_order (sections_in (region_of [])) (heads row) ≡ true
  pub nested : IsNested same [] row

-- ---- the trees, in which each statement is a number

-- what a row holds: its units and interface blocks; its other statements and constructs, up to the first that begins an arm; and the arms
pub record Held : Type 0 where
  pub units : List UnitTree
  pub blocks : List Block
  pub arms : List Arm

abbrev pub arm : ℕ → List Block → Arm
arm head body = roll-Arm (record { head = head; body = body })

abbrev pub unit : ℕ → ℕ → Held → UnitTree
unit opening ending inside = roll-Unit (record { opening = opening; ending = ending; inner = inside.units; body = inside.blocks })

-- the first arm of an IF or a DO begins at the opening
abbrev pub arms_of : ℕ → Title → Held → List Arm
arms_of opening what inside = if same_word what.word word.Select then inside.arms else arm opening inside.blocks ∷ inside.arms

abbrev pub with_statement : ℕ → Mark → Held → Held
with_statement at m after =
    if begins_arm m
    then record { units = after.units; blocks = []; arms = arm at after.blocks ∷ after.arms }
    else record { units = after.units; blocks = Plain at ∷ after.blocks; arms = after.arms }

abbrev pub with_nest : ℕ → Title → Held → ℕ → Held → Held
with_nest opening what inside ending after =
    if is_construct what.word
    then record { units = after.units; blocks = Nest opening (arms_of opening what inside) ending ∷ after.blocks; arms = after.arms }
    else record { units = unit opening ending inside ∷ after.units; blocks = after.blocks; arms = after.arms }

-- the statements are numbered from `at` on
abbrev pub held : ℕ → Row → Held
held at none = record { units = []; blocks = []; arms = [] }
held at (stands m rest) = with_statement at m (held (at + 1) rest)
held at (nest what inside end rest) =
    with_nest at what (held (at + 1) inside) (at + 1 + length (spelled inside)) (held (at + 1 + length (spelled inside) + 1) rest)

-- the statements are a file, and the units are its program units
abbrev pub Nested : (ℕ → ℕ → Bool) → List Mark → List UnitTree → Type 0
Nested same marks units = (row : Row) × IsFile same row × (spelled row ≡ marks) × ((held 0 row).units ≡ units)

-- the statements begin a file
abbrev pub Begins : (ℕ → ℕ → Bool) → List Mark → Type 0
Begins same front = (row : Row) × (rest : List Mark) × IsFile same row × (spelled row ≡ front ++ rest)
