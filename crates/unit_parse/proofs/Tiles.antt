-- The units of a file hold each of its statements once.
use Rattle.std.proofs.Common.{◌≡◌, ℕ, ◌+◌, ◌<◌, ◌≤◌, ◌==◌, Bool, true, false, nat_le, if◌then◌else◌, List, [], ◌∷◌, ◌++◌, length, refl, sym, ◌∙◌, ap, subst, arith, suc}
use Rattle.std.specs.List.{flat_map}
use Rattle.std.proofs.lemmas.Bool.{le-leb}
use Rattle.std.proofs.lemmas.Bool.Decides.{nat_tests}
use Rattle.ftn_tree.specs.declared.parts.EndWord.TheVariants as word
use Rattle.ftn_tree.specs.declared.mark.Mark.{Mark}
use Rattle.ftn_tree.specs.declared.mark.Title.{Title}
use Rattle.ftn_tree.specs.declared.unit.Arm.{Arm}
use Rattle.ftn_tree.specs.declared.unit.Block.{Block}
use Rattle.ftn_tree.specs.declared.unit.Block.TheVariants.{Plain, Nest}
use Rattle.ftn_tree.specs.declared.unit.Unit.{Unit as UnitTree}
use Rattle.ftn_tree.specs.Marks.{same_word, is_construct, begins_arm}
use Rattle.ftn_tree.specs.Regions.{region_of}
use Rattle.ftn_tree.specs.Nesting.{Row, none, stands, nest, spelled, heads, IsNested, Held, held, arm, unit, arms_of, Nested}
use Rattle.ftn_tree.specs.Around.{with_opening, numbers_of_block, numbers_of_arm, numbers_of, around, units_around}
use Rattle.ftn_tree.proofs.AroundLemmas.{around_unit}
use Rattle.ftn_tree.proofs.UnitNumbers.{unit_numbers, plain_numbers, nest_numbers, arm_numbers}
use Rattle.unit_parse.specs.Tiling.{AreTiled}
use Rattle.unit_parse.proofs.Complete.{numbers}
use Rattle.unit_parse.proofs.Counts.{times, one, times_more, times_single, times_joined, span, spans_joined, span_before, span_within, span_after, itself}
use Rattle.unit_parse.proofs.Heads.{Free}
use Rattle.unit_parse.proofs.HeldTrees.{arm_first, block_first, unit_first, nest_unit, unit_arms, construct_units, select_blocks, opens_none, file_heads, no_construct, stands_none, file_blocks, file_arms}

-- ---- how often they have a number

abbrev in_units : ℕ → List UnitTree → ℕ
in_units k units = times k (flat_map numbers_of units)

abbrev in_blocks : ℕ → List Block → ℕ
in_blocks k blocks = times k (flat_map numbers_of_block blocks)

abbrev in_arms : ℕ → List Arm → ℕ
in_arms k arms = times k (flat_map numbers_of_arm arms)

abbrev total : ℕ → Held → ℕ
total k h = in_units k h.units + in_blocks k h.blocks + in_arms k h.arms

arm_times : (k head : ℕ) (body : List Block) → times k (numbers_of_arm (arm head body)) ≡ one head k + in_blocks k body
arm_times k head body = ap (times k) (arm_numbers head body) ∙ times_more k head (flat_map numbers_of_block body)

statement_total : (b : Bool) (k at : ℕ) (after : Held) → total k (if b then arm_first at after else block_first (Plain at) after) ≡ one at k + total k after
statement_total true k at after =
    let first : times k (numbers_of_arm (arm at after.blocks)) ≡ one at k + in_blocks k after.blocks = arm_times k at after.blocks in
    let arms : in_arms k (arm at after.blocks ∷ after.arms) ≡ times k (numbers_of_arm (arm at after.blocks)) + in_arms k after.arms =
    times_joined k (numbers_of_arm (arm at after.blocks)) (flat_map numbers_of_arm after.arms) in
    omega (arith, first, arms)
statement_total false k at after =
    let first : times k (numbers_of_block (Plain at)) ≡ one at k = ap (times k) (plain_numbers at) ∙ times_single k at in
    let blocks : in_blocks k (Plain at ∷ after.blocks) ≡ times k (numbers_of_block (Plain at)) + in_blocks k after.blocks =
    times_joined k (numbers_of_block (Plain at)) (flat_map numbers_of_block after.blocks) in
    omega (arith, first, blocks)

nest_total : (b : Bool) (k n : ℕ) (block : Block) (tree : UnitTree) (after : Held) → (b ≡ true → times k (numbers_of_block block) ≡ n) → (b ≡ false → times k (numbers_of tree) ≡ n)
    → total k (if b then block_first block after else unit_first tree after) ≡ n + total k after
nest_total true k n block tree after is isnt =
    let first : times k (numbers_of_block block) ≡ n = is refl in
    let blocks : in_blocks k (block ∷ after.blocks) ≡ times k (numbers_of_block block) + in_blocks k after.blocks =
    times_joined k (numbers_of_block block) (flat_map numbers_of_block after.blocks) in
    omega (arith, first, blocks)
nest_total false k n block tree after is isnt =
    let first : times k (numbers_of tree) ≡ n = isnt refl in
    let units : in_units k (tree ∷ after.units) ≡ times k (numbers_of tree) + in_units k after.units =
    times_joined k (numbers_of tree) (flat_map numbers_of after.units) in
    omega (arith, first, units)

-- ---- what is opened

unit_times : (k opening ending : ℕ) (h : Held) → h.arms ≡ [] → times k (numbers_of (unit opening ending h)) ≡ one opening k + total k h + one ending k
unit_times k opening ending h armless =
    let inner = flat_map numbers_of h.units in
    let body = flat_map numbers_of_block h.blocks in
    let all : times k (numbers_of (unit opening ending h)) ≡ one opening k + times k ((inner ++ body) ++ ending ∷ []) =
    ap (times k) (unit_numbers opening ending h) ∙ times_more k opening ((inner ++ body) ++ ending ∷ []) in
    let held : times k ((inner ++ body) ++ ending ∷ []) ≡ times k (inner ++ body) + times k (ending ∷ []) = times_joined k (inner ++ body) (ending ∷ []) in
    let parts : times k (inner ++ body) ≡ in_units k h.units + in_blocks k h.blocks = times_joined k inner body in
    let last : times k (ending ∷ []) ≡ one ending k = times_single k ending in
    let arms : in_arms k h.arms ≡ 0 = ap (in_arms k) armless in
    omega (arith, all, held, parts, last, arms)

one_itself : (n : ℕ) → one n n ≡ 1
one_itself n = rw (itself n) refl

-- the opening is none of the numbers
opening_new : (k opening : ℕ) (numbers : List ℕ) → times opening numbers ≡ 0 → times k (with_opening opening numbers) ≡ one opening k + times k numbers
opening_new k opening [] new = times_more k opening []
opening_new k opening (first ∷ more) new = by (first == opening) refl
  where
    by : (b : Bool) → (first == opening) ≡ b → times k (if first == opening then first ∷ more else opening ∷ first ∷ more) ≡ one opening k + times k (first ∷ more)
    by true is =
        let here : one first opening ≡ 1 = rw is refl in
        let all : times opening (first ∷ more) ≡ one first opening + times opening more = times_more opening first more in
        absurd (omega (arith, here, all, new))
    by false is = rw is (times_more k opening (first ∷ more))

-- or it is the first of them
opening_first : (k opening : ℕ) (more : List ℕ) → times k (with_opening opening (opening ∷ more)) ≡ one opening k + times k more
opening_first k opening more = rw (itself opening) (times_more k opening more)

arms_times : (select : Bool) (k at : ℕ) (h : Held) → h.units ≡ [] → (select ≡ true → h.blocks ≡ []) → total at h ≡ 0
    → times k (with_opening at (flat_map numbers_of_arm (if select then h.arms else arm at h.blocks ∷ h.arms))) ≡ one at k + total k h
arms_times true k at h no_units no_blocks new =
    let units : in_units k h.units ≡ 0 = ap (in_units k) no_units in
    let blocks : in_blocks k h.blocks ≡ 0 = ap (in_blocks k) (no_blocks refl) in
    let opening : in_arms at h.arms ≡ 0 = omega (arith, new) in
    let all : times k (with_opening at (flat_map numbers_of_arm h.arms)) ≡ one at k + in_arms k h.arms = opening_new k at (flat_map numbers_of_arm h.arms) opening in
    omega (arith, units, blocks, all)
arms_times false k at h no_units no_blocks new =
    let body = flat_map numbers_of_block h.blocks in
    let arms = flat_map numbers_of_arm h.arms in
    let units : in_units k h.units ≡ 0 = ap (in_units k) no_units in
    let first : times k (with_opening at (numbers_of_arm (arm at h.blocks) ++ arms)) ≡ times k (with_opening at (at ∷ (body ++ arms))) =
    ap (λ (l : List ℕ). times k (with_opening at (l ++ arms))) (arm_numbers at h.blocks) in
    let all : times k (with_opening at (at ∷ (body ++ arms))) ≡ one at k + times k (body ++ arms) = opening_first k at (body ++ arms) in
    let parts : times k (body ++ arms) ≡ in_blocks k h.blocks + in_arms k h.arms = times_joined k body arms in
    omega (arith, units, first, all, parts)

block_times : (k at ending : ℕ) (what : Title) (h : Held) → h.units ≡ [] → (same_word what.word word.Select ≡ true → h.blocks ≡ []) → total at h ≡ 0
    → times k (numbers_of_block (Nest at (arms_of at what h) ending)) ≡ one at k + total k h + one ending k
block_times k at ending what h no_units no_blocks new =
    let all = with_opening at (flat_map numbers_of_arm (arms_of at what h)) in
    let nest : times k (numbers_of_block (Nest at (arms_of at what h) ending)) ≡ times k all + times k (ending ∷ []) =
    ap (times k) (nest_numbers at (arms_of at what h) ending) ∙ times_joined k all (ending ∷ []) in
    let arms : times k all ≡ one at k + total k h = arms_times (same_word what.word word.Select) k at h no_units no_blocks new in
    let last : times k (ending ∷ []) ≡ one ending k = times_single k ending in
    omega (arith, nest, arms, last)

module _ (same : ℕ → ℕ → Bool) where
  -- ---- a row holds each of its statements once

  held_once : (row : Row) (path : List Title) (at k : ℕ) → IsNested same path row → total k (held at row) ≡ span at (spelled row) k
  held_once none path at k is = refl
  held_once (stands m rest) path at k is =
      statement_total (begins_arm m) k at (held (at + 1) rest) ∙ ap (λ (n : ℕ). one at k + n) (held_once rest path (at + 1) k is.1)
  held_once (nest what inside end rest) path at k is =
      let h = held (at + 1) inside in
      let ending = at + 1 + length (spelled inside) in
      let after = held (ending + 1) rest in
      let new : total at h ≡ 0 = held_once inside (what ∷ path) (at + 1) at is.2 ∙ span_before (spelled inside) (at + 1) at (omega arith) in
      let here = nest_total (is_construct what.word) k (one at k + total k h + one ending k) (Nest at (arms_of at what h) ending) (unit at ending h) after
      (λ yes. block_times k at ending what h (construct_units (region_of path) what inside (at + 1) yes is.1)
      (λ select. select_blocks (region_of path) what.word what.name inside (at + 1) select is.1) new)
      (λ isnt. unit_times k at ending h (unit_arms (region_of path) what inside (at + 1) isnt is.1)) in
      let inner : total k h ≡ span (at + 1) (spelled inside) k = held_once inside (what ∷ path) (at + 1) k is.2 in
      let outer : total k after ≡ span (ending + 1) (spelled rest) k = held_once rest path (ending + 1) k is.4 in
      let all : span (at + 1) (spelled inside ++ end ∷ spelled rest) k ≡ span (at + 1) (spelled inside) k + (one ending k + span (ending + 1) (spelled rest) k) =
      spans_joined (spelled inside) (end ∷ spelled rest) (at + 1) k in
      here ∙ omega (arith, inner, outer, all)

  file_once : (row : Row) (k : ℕ) → IsNested same [] row → Free opens_none (heads row) → in_units k (held 0 row).units ≡ span 0 (spelled row) k
  file_once row k is are =
      let all : total k (held 0 row) ≡ span 0 (spelled row) k = held_once row [] 0 k is in
      let blocks : in_blocks k (held 0 row).blocks ≡ 0 = ap (in_blocks k) (file_blocks same [] row 0 is are) in
      let arms : in_arms k (held 0 row).arms ≡ 0 = ap (in_arms k) (file_arms same [] row 0 is are) in
      omega (arith, all, blocks, arms)

  -- ---- and a unit is around each of them

  not_none : (n : ℕ) (some more : List ℕ) → (some ++ n ∷ []) ++ more ≡ [] → ⊥
  not_none n [] more e = cc e
  not_none n (x ∷ some) more e = cc e

  none_after : (some more : List ℕ) → some ++ more ≡ [] → more ≡ []
  none_after [] more e = e
  none_after (x ∷ some) more e = absurd (cc e)

  past : (k ending : ℕ) → nat_le k ending ≡ false → ending + 1 ≤ k
  past k ending e = grind (arith, nat_tests)

  file_around : (row : Row) (path : List Title) (at k : ℕ) → IsNested same path row → Free opens_none (heads row) → at ≤ k → k < at + length (spelled row)
      → units_around (held at row).units k ≡ [] → ⊥
  file_around none path at k is are low high e = omega (arith, low, high)
  file_around (stands m rest) path at k is are low high e = stands_none same path m is.0 are.0
  file_around (nest what inside end rest) path at k is are low high e = by (nat_le k ending) refl (file_around rest path (ending + 1) k is.4 are.1)
    where
      ending : ℕ
      ending = at + 1 + length (spelled inside)

      h : Held
      h = held (at + 1) inside

      after : Held
      after = held (ending + 1) rest

      units : around k (unit at ending h) ++ units_around after.units k ≡ []
      units =
          ap (λ (l : List UnitTree). units_around l k)
          (sym (nest_unit (is_construct what.word) (Nest at (arms_of at what h) ending) (unit at ending h) after (no_construct what are.0)))
          ∙ e

      by : (b : Bool) → nat_le k ending ≡ b → (ending + 1 ≤ k → k < ending + 1 + length (spelled rest) → units_around after.units k ≡ [] → ⊥) → ⊥
      by true inside_it again =
          not_none at (units_around h.units k) (units_around after.units k)
          (ap (λ (l : List ℕ). l ++ units_around after.units k)
          (sym (around_unit k (record { opening = at; ending = ending; inner = h.units; body = h.blocks }) (le-leb at k low) inside_it))
          ∙ units)
      by false past_it again =
          let long : at + 1 + length (spelled inside) + 1 + length (spelled rest) ≡ at + suc (length (spelled inside ++ end ∷ spelled rest)) = numbers (spelled inside) end (spelled rest) at in
          again (past k ending past_it) (omega (arith, high, long)) (none_after (around k (unit at ending h)) (units_around after.units k) units)

  -- ---- the law

  row_tiled : (row : Row) → IsNested same [] row → Free opens_none (heads row) → AreTiled (spelled row) (held 0 row).units
  row_tiled row is are = record {
    once = λ k low. file_once row k is are ∙ span_within (spelled row) 0 k (omega arith) (omega (arith, low));
    no_other = λ k high. file_once row k is are ∙ span_after (spelled row) 0 k (omega (arith, high));
    around = λ k low. file_around row [] 0 k is are (omega arith) (omega (arith, low));
  }

  pub units_tile : (marks : List Mark) (units : List UnitTree) → Nested same marks units → AreTiled marks units
  units_tile marks units is =
      subst (λ (l : List Mark). AreTiled l units) is.2
      (subst (λ (l : List UnitTree). AreTiled (spelled is.0) l) is.3 (row_tiled is.0 is.1.nested (file_heads is.0 is.1.order)))
