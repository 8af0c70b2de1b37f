-- The numbers of the statements that trees hold, by what the trees are made of.
use Rattle.std.proofs.Common.{◌≡◌, ℕ, List, [], ◌∷◌, ◌++◌, sym, ◌∙◌, ap}
use Rattle.std.specs.List.{flat_map}
use Rattle.std.proofs.lemmas.List.Folds.{flat_map-map}
use Rattle.ftn_tree.specs.declared.unit.Arm.{Arm}
use Rattle.ftn_tree.specs.declared.unit.Block.{Block}
use Rattle.ftn_tree.specs.declared.unit.Block.TheFolds.{fold-roll-Arm, fold-roll-Block}
use Rattle.ftn_tree.specs.declared.unit.Block.TheOpen.{Block-F}
use Rattle.ftn_tree.specs.declared.unit.Block.TheVariants.{Plain, Nest, rolls-Plain, rolls-Nest}
use Rattle.ftn_tree.specs.declared.unit.Unit.TheFolds.{fold-roll-Unit}
use Rattle.ftn_tree.specs.Nesting.{Held, arm, unit}
use Rattle.ftn_tree.specs.Around.{with_opening, block_step, arm_step, unit_step, numbers_of_block, numbers_of_arm, numbers_of}

pub unit_numbers : (opening ending : ℕ) (h : Held)
    → numbers_of (unit opening ending h) ≡ opening ∷ ((flat_map numbers_of h.units ++ flat_map numbers_of_block h.blocks) ++ ending ∷ [])
unit_numbers opening ending h =
    fold-roll-Unit (List ℕ) unit_step (record { opening = opening; ending = ending; inner = h.units; body = h.blocks })
    ∙ ap (λ (l : List ℕ). opening ∷ ((l ++ flat_map numbers_of_block h.blocks) ++ ending ∷ [])) (flat_map-map (λ (inner : List ℕ). inner) numbers_of h.units)

pub plain_numbers : (number : ℕ) → numbers_of_block (Plain number) ≡ number ∷ []
plain_numbers number = ap numbers_of_block (sym (rolls-Plain number)) ∙ fold-roll-Block (List ℕ) (List ℕ) block_step arm_step (Block-F.Plain number)

pub nest_numbers : (opening : ℕ) (arms : List Arm) (ending : ℕ) → numbers_of_block (Nest opening arms ending) ≡ with_opening opening (flat_map numbers_of_arm arms) ++ ending ∷ []
nest_numbers opening arms ending =
    ap numbers_of_block (sym (rolls-Nest opening arms ending))
    ∙ fold-roll-Block (List ℕ) (List ℕ) block_step arm_step (Block-F.Nest opening arms ending)
    ∙ ap (λ (l : List ℕ). with_opening opening l ++ ending ∷ []) (flat_map-map (λ (arm : List ℕ). arm) numbers_of_arm arms)

pub arm_numbers : (head : ℕ) (body : List Block) → numbers_of_arm (arm head body) ≡ head ∷ flat_map numbers_of_block body
arm_numbers head body =
    fold-roll-Arm (List ℕ) (List ℕ) block_step arm_step (record { head = head; body = body })
    ∙ ap (λ (l : List ℕ). head ∷ l) (flat_map-map (λ (block : List ℕ). block) numbers_of_block body)
