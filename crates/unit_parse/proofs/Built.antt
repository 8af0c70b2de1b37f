-- What the stack builds is what the row holds.
use Rattle.std.proofs.Common.{◌≡◌, ℕ, ◌+◌, Bool, true, false, not, ◌&&◌, if◌then◌else◌, List, [], ◌∷◌, ◌++◌, length, Option, Some, None, refl, sym, ◌∙◌, ap, subst, append_assoc, append-nil, true≢false}
use Rattle.ftn_tree.specs.declared.parts.EndWord.TheVariants as word
use Rattle.ftn_tree.specs.declared.mark.Mark.{Mark}
use Rattle.ftn_tree.specs.declared.mark.Mark.TheVariants as mark
use Rattle.ftn_tree.specs.declared.mark.Region.{Region}
use Rattle.ftn_tree.specs.declared.mark.Title.{Title}
use Rattle.ftn_tree.specs.declared.unit.Arm.{Arm}
use Rattle.ftn_tree.specs.declared.unit.Block.{Block}
use Rattle.ftn_tree.specs.declared.unit.Block.TheVariants.{Plain, Nest}
use Rattle.ftn_tree.specs.declared.unit.Unit.{Unit as UnitTree}
use Rattle.ftn_tree.specs.Marks.{same_word, is_construct, begins_arm}
use Rattle.ftn_tree.specs.Regions.{region_of, opened, sections_in}
use Rattle.ftn_tree.specs.Nesting.{Row, none, stands, nest, spelled, heads, IsNested, Held, held, arm, unit, arms_of}
use Rattle.unit_parse.specs.declared.level.Level.{Level}
use Rattle.unit_parse.specs.Levels.{fresh, first_head, last_arm, all_arms, turn_to, with_block, with_unit, unit_of, add_statement, add_nest}
use Rattle.unit_parse.proofs.Levels.{moved, level_after, statement_region, nest_region}
use Rattle.unit_parse.proofs.NoArms.{NoArms, no_arms, unit_plain}

abbrev with_first : Option ℕ → List Block → List Arm → List Arm
with_first None body arms = arms
with_first (Some head) body arms = arm head body ∷ arms

-- the last level is the first one with what is held; blocks are told where no arm begins
pub record Adds (first : Level) (h : Held) (last : Level) (Whole : Type 0) : Type 0 where
  pub units : last.units ≡ first.units ++ h.units
  pub arms : all_arms last ≡ first.arms ++ with_first first.head (first.blocks ++ h.blocks) h.arms
  pub blocks : Whole → last.blocks ≡ first.blocks ++ h.blocks

nothing_more : (head : Option ℕ) (before : List Arm) (blocks : List Block) → before ++ last_arm head blocks ≡ before ++ with_first head (blocks ++ []) []
nothing_more None before blocks = refl
nothing_more (Some n) before blocks = ap (λ (body : List Block). before ++ arm n body ∷ []) (sym (append-nil blocks))

turned : (head : Option ℕ) (before : List Arm) (blocks : List Block) (more : List Arm) → (before ++ last_arm head blocks) ++ more ≡ before ++ with_first head (blocks ++ []) more
turned None before blocks more = ap (λ (arms : List Arm). arms ++ more) (append-nil before)
turned (Some n) before blocks more =
    append_assoc before (arm n blocks ∷ []) more ∙ ap (λ (body : List Block). before ++ arm n body ∷ more) (sym (append-nil blocks))

-- the stage plays no part
less_told : (first last : Level) (m : Mark) (h : Held) (V W : Type 0) → (V → W) → Adds (moved first m) h last W → Adds first h last V
less_told first last m h V W of adds = record { units = adds.units; arms = adds.arms; blocks = λ v. adds.blocks (of v) }

one_statement : (b : Bool) (level : Level) (at : ℕ) (after : Held) (last : Level) (Whole : Type 0)
    → Adds (if b then turn_to level (Some at) else with_block level (Plain at)) after last Whole
    → Adds level (if b then record { units = after.units; blocks = []; arms = arm at after.blocks ∷ after.arms } else record { units = after.units; blocks = Plain at ∷ after.blocks; arms = after.arms }) last
    ((b ≡ false) × Whole)
one_statement true level at after last Whole adds = record {
  units = adds.units;
  arms = adds.arms ∙ turned level.head level.arms level.blocks (arm at after.blocks ∷ after.arms);
  blocks = λ w. absurd (true≢false w.0);
}
one_statement false level at after last Whole adds = record {
  units = adds.units;
  arms = adds.arms ∙ ap (λ (body : List Block). level.arms ++ with_first level.head body after.arms) (append_assoc level.blocks (Plain at ∷ []) after.blocks);
  blocks = λ w. adds.blocks w.1 ∙ append_assoc level.blocks (Plain at ∷ []) after.blocks;
}

one_nest : (b : Bool) (level : Level) (block : Block) (tree : UnitTree) (after : Held) (last : Level) (Whole : Type 0)
    → Adds (if b then with_block level block else with_unit level tree) after last Whole
    → Adds level (if b then record { units = after.units; blocks = block ∷ after.blocks; arms = after.arms } else record { units = tree ∷ after.units; blocks = after.blocks; arms = after.arms }) last Whole
one_nest true level block tree after last Whole adds = record {
  units = adds.units;
  arms = adds.arms ∙ ap (λ (body : List Block). level.arms ++ with_first level.head body after.arms) (append_assoc level.blocks (block ∷ []) after.blocks);
  blocks = λ w. adds.blocks w ∙ append_assoc level.blocks (block ∷ []) after.blocks;
}
one_nest false level block tree after last Whole adds = record {
  units = adds.units ∙ append_assoc level.units (tree ∷ []) after.units;
  arms = adds.arms;
  blocks = adds.blocks;
}

-- the arms of a construct: an IF or a DO has its first one from the opening on
arms_built : (construct select : Bool) (at : ℕ) (h : Held) → construct ≡ true
    → with_first (if construct && not select then Some at else None) h.blocks h.arms ≡ (if select then h.arms else arm at h.blocks ∷ h.arms)
arms_built true true at h e = refl
arms_built true false at h e = refl
arms_built false select at h e = absurd (true≢false (sym e))

-- what was opened and is held by `inner` becomes the tree of what it holds
same_nest : (b : Bool) (level : Level) (at : ℕ) (inner : Level) (h : Held) (ending : ℕ) (arms : List Arm)
    → (b ≡ true → all_arms inner ≡ arms) → (b ≡ false → inner.units ≡ h.units) → (b ≡ false → inner.blocks ≡ h.blocks)
    → (if b then with_block level (Nest at (all_arms inner) ending) else with_unit level (unit_of at inner ending))
    ≡ (if b then with_block level (Nest at arms ending) else with_unit level (unit at ending h))
same_nest true level at inner h ending arms one two three = ap (λ (arms : List Arm). with_block level (Nest at arms ending)) (one refl)
same_nest false level at inner h ending arms one two three = rw (two refl, three refl) refl

module _ (same : ℕ → ℕ → Bool) where
  pub built : (row : Row) (path : List Title) (level : Level) (at : ℕ) → IsNested same path row → level.region ≡ region_of path
      → Adds level (held at row) (level_after level at row) (NoArms (heads row))
  built none path level at nested region = record {
    units = sym (append-nil level.units);
    arms = nothing_more level.head level.arms level.blocks;
    blocks = λ w. sym (append-nil level.blocks);
  }
  built (stands m rest) path level at nested region =
      let next = add_statement (moved level m) at m in
      less_told level (level_after next (at + 1) rest) m (held at (stands m rest)) (NoArms (heads (stands m rest))) (NoArms (heads (stands m rest))) (λ w. w)
      (one_statement (begins_arm m) (moved level m) at (held (at + 1) rest) (level_after next (at + 1) rest) (NoArms (heads rest))
      (built rest path next (at + 1) nested.1 (statement_region (moved level m) at m ∙ region)))
  built (nest what inside end rest) path level at nested region =
      let outside = moved level (mark.Open what) in
      let first = fresh (opened level.region what) (first_head at what) in
      let inner = level_after first (at + 1) inside in
      let h = held (at + 1) inside in
      let ending = at + 1 + length (spelled inside) in
      let next = add_nest outside at what inner ending in
      let last = level_after next (ending + 1) rest in
      let after = held (ending + 1) rest in
      let held_in : Adds first h inner (NoArms (heads inside)) = built inside (what ∷ path) first (at + 1) nested.2 (ap (λ (r : Region). opened r what) region) in
      let trees : next ≡ (if is_construct what.word then with_block outside (Nest at (arms_of at what h) ending) else with_unit outside (unit at ending h)) =
      same_nest (is_construct what.word) outside at inner h ending (arms_of at what h)
      (λ is. held_in.arms ∙ arms_built (is_construct what.word) (same_word what.word word.Select) at h is)
      (λ isnt. held_in.units)
      (λ isnt. held_in.blocks (no_arms (heads inside) (sections_in (opened (region_of path) what)) (unit_plain (region_of path) what isnt) nested.1)) in
      less_told level last (mark.Open what) (held at (nest what inside end rest)) (NoArms (heads (nest what inside end rest))) (NoArms (heads rest)) (λ w. w.1)
      (one_nest (is_construct what.word) outside (Nest at (arms_of at what h) ending) (unit at ending h) after last (NoArms (heads rest))
      (subst (λ (l : Level). Adds l after last (NoArms (heads rest))) trees (built rest path next (ending + 1) nested.4 (nest_region outside at what inner ending ∙ region))))
