-- The units around a statement, and all statements that a unit holds (this project's own). The first of the units around a statement,
-- where it is no interface block, is its scoping unit (Fortran 90, 2.2).
use Rattle.std.specs.Prelude.{ℕ, ◌&&◌, ◌==◌, nat_le, if◌then◌else◌, List, [], ◌∷◌, ◌++◌}
use Rattle.std.specs.List.{flat_map}
use Rattle.ftn_tree.specs.declared.unit.Unit.{Unit as UnitTree, fold-Unit}
use Rattle.ftn_tree.specs.declared.unit.Unit.TheOpen.{Unit-F}
use Rattle.ftn_tree.specs.declared.unit.Block.{Block, fold-Block}
use Rattle.ftn_tree.specs.declared.unit.Block.TheOpen.{Block-F, Arm-F}
use Rattle.ftn_tree.specs.declared.unit.Arm.{Arm, fold-Arm}

-- ---- the units around a statement

-- a unit is around its statements from the opening to the ending; what is around them inside it comes first
abbrev pub around_step : ℕ → Unit-F (List ℕ) → List ℕ
around_step k here =
    if nat_le here.opening k && nat_le k here.ending then flat_map (λ inner. inner) here.inner ++ here.opening ∷ [] else []

abbrev pub around : ℕ → UnitTree → List ℕ
around k = fold-Unit (List ℕ) (around_step k)

-- the openings of the program units, procedures, interface blocks and bodies that hold that statement, the innermost first
abbrev pub units_around : List UnitTree → ℕ → List ℕ
units_around units k = flat_map (around k) units

-- ---- all statements that a unit holds

-- the first arm of an IF or a DO begins at the opening, which counts once
abbrev pub with_opening : ℕ → List ℕ → List ℕ
with_opening opening [] = opening ∷ []
with_opening opening (first ∷ more) = if first == opening then first ∷ more else opening ∷ first ∷ more

abbrev pub block_step : Block-F (List ℕ) (List ℕ) → List ℕ
block_step (Block-F.Plain number) = number ∷ []
block_step (Block-F.Nest opening arms ending) = with_opening opening (flat_map (λ arm. arm) arms) ++ ending ∷ []

abbrev pub arm_step : Arm-F (List ℕ) (List ℕ) → List ℕ
arm_step here = here.head ∷ flat_map (λ block. block) here.body

abbrev pub numbers_of_block : Block → List ℕ
numbers_of_block = fold-Block (List ℕ) (List ℕ) block_step arm_step

abbrev pub numbers_of_arm : Arm → List ℕ
numbers_of_arm = fold-Arm (List ℕ) (List ℕ) block_step arm_step

abbrev pub unit_step : Unit-F (List ℕ) → List ℕ
unit_step here = here.opening ∷ ((flat_map (λ inner. inner) here.inner ++ flat_map numbers_of_block here.body) ++ here.ending ∷ [])

-- its opening, those of its inner units, of its statements and constructs, and its ending
abbrev pub numbers_of : UnitTree → List ℕ
numbers_of = fold-Unit (List ℕ) unit_step
