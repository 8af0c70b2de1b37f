-- The constructs of a unit, by what it is made of.
use Rattle.std.proofs.Common.{◌≡◌, ℕ, List, [], ◌∷◌, ◌++◌, map, Option, refl, sym, ap, ap₂, ◌∙◌}
use Rattle.std.specs.List.{flat_map}
use Rattle.std.proofs.lemmas.List.Concat.{flat_map-append}
use Rattle.std.proofs.lemmas.List.Folds.{flat_map-map}
use Rattle.ftn_tree.specs.declared.unit.Arm.{Arm, fold-Arm, out-Arm}
use Rattle.ftn_tree.specs.declared.unit.Block.{Block}
use Rattle.ftn_tree.specs.declared.unit.Block.TheFolds.{fold-roll-Block, fold_out-Arm}
use Rattle.ftn_tree.specs.declared.unit.Block.TheOpen.{Block-F}
use Rattle.ftn_tree.specs.declared.unit.Block.TheVariants.{Plain, Nest, rolls-Plain, rolls-Nest}
use Rattle.ftn_tree.specs.declared.unit.Unit.{Unit as UnitTree, out-Unit}
use Rattle.ftn_tree.specs.declared.unit.Unit.TheFolds.{fold_out-Unit}
use Rattle.ftn_tree.specs.DeclarationFaults.{Finding}
use Rattle.const_value.specs.steps.Findings.{gathered}
use Rattle.const_value.proofs.FirstFindings.{gathered_both}
use Rattle.ftn_tree.specs.Cases.{Construct, block_step, arm_step, constructs_in, unit_step, constructs_of}

abbrev arm_constructs : Arm → ℕ × List Construct
arm_constructs = fold-Arm (List Construct) (ℕ × List Construct) block_step arm_step

abbrev pub head_of : Arm → ℕ
head_of arm = (out-Arm arm).head

abbrev pub within : Arm → List Construct
within arm = flat_map constructs_in (out-Arm arm).body

arm_is : (arm : Arm) → arm_constructs arm ≡ (head_of arm, within arm)
arm_is arm =
    fold_out-Arm (List Construct) (ℕ × List Construct) block_step arm_step arm
    ∙ ap (λ (more : List Construct). (head_of arm, more)) (flat_map-map (λ (block : List Construct). block) constructs_in (out-Arm arm).body)

heads_are : (arms : List Arm) → map (λ (arm : ℕ × List Construct). arm.0) (map arm_constructs arms) ≡ map head_of arms
heads_are [] = refl
heads_are (arm ∷ arms) = ap₂ (λ (x : ℕ) (xs : List ℕ). x ∷ xs) (ap (λ (a : ℕ × List Construct). a.0) (arm_is arm)) (heads_are arms)

bodies_are : (arms : List Arm) → flat_map (λ (arm : ℕ × List Construct). arm.1) (map arm_constructs arms) ≡ flat_map within arms
bodies_are [] = refl
bodies_are (arm ∷ arms) = ap₂ (λ (xs ys : List Construct). xs ++ ys) (ap (λ (a : ℕ × List Construct). a.1) (arm_is arm)) (bodies_are arms)

pub plain_constructs : (number : ℕ) → constructs_in (Plain number) ≡ []
plain_constructs number =
    ap constructs_in (sym (rolls-Plain number)) ∙ fold-roll-Block (List Construct) (ℕ × List Construct) block_step arm_step (Block-F.Plain number)

abbrev pub construct : ℕ → List ℕ → Construct
construct opening heads = record { opening = opening; heads = heads }

pub nest_constructs : (opening : ℕ) (arms : List Arm) (ending : ℕ) → constructs_in (Nest opening arms ending) ≡ construct opening (map head_of arms) ∷ flat_map within arms
nest_constructs opening arms ending =
    ap constructs_in (sym (rolls-Nest opening arms ending))
    ∙ fold-roll-Block (List Construct) (ℕ × List Construct) block_step arm_step (Block-F.Nest opening arms ending)
    ∙ ap₂ (λ (heads : List ℕ) (more : List Construct). construct opening heads ∷ more) (heads_are arms) (bodies_are arms)

pub unit_constructs : (u : UnitTree) → constructs_of u ≡ flat_map constructs_in (out-Unit u).body ++ flat_map constructs_of (out-Unit u).inner
unit_constructs u =
    fold_out-Unit (List Construct) unit_step u
    ∙ ap (λ (more : List Construct). flat_map constructs_in (out-Unit u).body ++ more) (flat_map-map (λ (inner : List Construct). inner) constructs_of (out-Unit u).inner)

-- ---- what is told of them, one after the other

module _ (told : Construct → List Finding) where
  pub plain_noted : (block : Block) (number : ℕ) (first : Option Finding) → block ≡ Plain number → first ≡ gathered first (flat_map told (constructs_in block))
  plain_noted block number first is = ap (λ cs. gathered first (flat_map told cs)) (sym (ap constructs_in is ∙ plain_constructs number))

  pub nest_noted : (block : Block) (opening : ℕ) (arms heads bodies : List Arm) (ending : ℕ) (first mid last : Option Finding) → block ≡ Nest opening arms ending → heads ≡ arms → bodies ≡ arms
      → mid ≡ gathered first (told (construct opening (map head_of heads))) → last ≡ gathered mid (flat_map told (flat_map within bodies)) → last ≡ gathered first (flat_map told (constructs_in block))
  nest_noted block opening arms heads bodies ending first mid last is one other begun more =
      more ∙ ap (λ o. gathered o (flat_map told (flat_map within bodies))) begun
      ∙ ap₂ (λ hs bs. gathered (gathered first (told (construct opening (map head_of hs)))) (flat_map told (flat_map within bs))) one other
      ∙ sym (gathered_both first (told (construct opening (map head_of arms))) (flat_map told (flat_map within arms)))
      ∙ ap (λ cs. gathered first (flat_map told cs)) (sym (ap constructs_in is ∙ nest_constructs opening arms ending))

  pub unit_noted : (u : UnitTree) (body : List Block) (inner : List UnitTree) (first mid last : Option Finding) → body ≡ (out-Unit u).body → inner ≡ (out-Unit u).inner
      → mid ≡ gathered first (flat_map told (flat_map constructs_in body)) → last ≡ gathered mid (flat_map told (flat_map constructs_of inner)) → last ≡ gathered first (flat_map told (constructs_of u))
  unit_noted u body inner first mid last one other begun more =
      more ∙ ap (λ o. gathered o (flat_map told (flat_map constructs_of inner))) begun
      ∙ ap₂ (λ bs us. gathered (gathered first (flat_map told (flat_map constructs_in bs))) (flat_map told (flat_map constructs_of us))) one other
      ∙ sym (gathered_both first (flat_map told (flat_map constructs_in (out-Unit u).body)) (flat_map told (flat_map constructs_of (out-Unit u).inner)))
      ∙ ap (gathered first) (sym (flat_map-append told (flat_map constructs_in (out-Unit u).body) (flat_map constructs_of (out-Unit u).inner)))
      ∙ ap (λ cs. gathered first (flat_map told cs)) (sym (unit_constructs u))
