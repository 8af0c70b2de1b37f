-- What is held by what is open. It serves the proof of the code.
use Rattle.std.specs.Prelude.{ℕ, not, ◌&&◌, if◌then◌else◌, List, [], ◌∷◌, ◌++◌, Option, Some, None}
use Rattle.ftn_tree.specs.declared.parts.EndWord.TheVariants as word
use Rattle.ftn_tree.specs.declared.mark.Mark.{Mark}
use Rattle.ftn_tree.specs.declared.mark.Region.{Region}
use Rattle.ftn_tree.specs.declared.mark.Title.{Title}
use Rattle.ftn_tree.specs.declared.unit.Block.{Block}
use Rattle.ftn_tree.specs.declared.unit.Block.TheVariants.{Plain, Nest}
use Rattle.ftn_tree.specs.declared.unit.Arm.{Arm}
use Rattle.ftn_tree.specs.declared.unit.Unit.{Unit as UnitTree, roll-Unit}
use Rattle.ftn_tree.specs.Marks.{same_word, is_construct, begins_arm}
use Rattle.ftn_tree.specs.Nesting.{arm}
use Rattle.unit_parse.specs.declared.level.Level.{Level}

abbrev pub fresh : Region → Option ℕ → Level
fresh region head = record { region = region; stage = 0; units = []; blocks = []; head = head; arms = [] }

abbrev pub first_head : ℕ → Title → Option ℕ
first_head number what = if is_construct what.word && not (same_word what.word word.Select) then Some number else None

-- the arm in hand
abbrev pub last_arm : Option ℕ → List Block → List Arm
last_arm None body = []
last_arm (Some head) body = arm head body ∷ []

abbrev pub all_arms : Level → List Arm
all_arms level = level.arms ++ last_arm level.head level.blocks

abbrev pub turn_to : Level → Option ℕ → Level
turn_to level head = record level { blocks = []; head = head; arms = all_arms level }

abbrev pub with_block : Level → Block → Level
with_block level block = record level { blocks = level.blocks ++ block ∷ [] }

abbrev pub with_unit : Level → UnitTree → Level
with_unit level tree = record level { units = level.units ++ tree ∷ [] }

abbrev pub add_statement : Level → ℕ → Mark → Level
add_statement level number m = if begins_arm m then turn_to level (Some number) else with_block level (Plain number)

abbrev pub unit_of : ℕ → Level → ℕ → UnitTree
unit_of opening inside ending = roll-Unit (record { opening = opening; ending = ending; inner = inside.units; body = inside.blocks })

abbrev pub add_nest : Level → ℕ → Title → Level → ℕ → Level
add_nest level opening what inside ending =
    if is_construct what.word
    then with_block level (Nest opening (all_arms inside) ending)
    else with_unit level (unit_of opening inside ending)
