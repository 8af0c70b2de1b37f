-- What a row doesn't hold: a unit no arms, a construct no units, SELECT CASE no statement before its arms, and a file units alone.
use Rattle.std.proofs.Common.{◌≡◌, ℕ, ◌+◌, Bool, true, false, not, if◌then◌else◌, List, [], ◌∷◌, Option, refl, sym, ◌∙◌, ap, true≢false}
use Rattle.std.proofs.lemmas.Bool.{not-false}
use Rattle.std.proofs.Math.Bool.{or-false}
use Rattle.ftn_tree.specs.declared.parts.EndWord.{EndWord}
use Rattle.ftn_tree.specs.declared.parts.EndWord.TheVariants as word
use Rattle.ftn_tree.specs.declared.mark.Content.{Content}
use Rattle.ftn_tree.specs.declared.mark.Content.TheVariants as content
use Rattle.ftn_tree.specs.declared.mark.Mark.{Mark}
use Rattle.ftn_tree.specs.declared.mark.Mark.TheVariants as mark
use Rattle.ftn_tree.specs.declared.mark.Region.{Region}
use Rattle.ftn_tree.specs.declared.mark.Region.TheVariants as region
use Rattle.ftn_tree.specs.declared.mark.Title.{Title}
use Rattle.ftn_tree.specs.declared.unit.Block.{Block}
use Rattle.ftn_tree.specs.declared.unit.Unit.{Unit as UnitTree}
use Rattle.ftn_tree.specs.Marks.{belongs, begins_arm, is_construct, is_unit, opens_unit, same_word}
use Rattle.ftn_tree.specs.Regions.{in_order, opened, opened_by, region_of, sections_in}
use Rattle.ftn_tree.specs.Nesting.{Row, none, stands, nest, heads, Held, held, arm, IsNested, may_stand}
use Rattle.unit_parse.proofs.Heads.{Free, all_fit, free}
use Rattle.unit_parse.proofs.NoArms.{NoArms, no_arms, unit_plain}

-- ---- one statement or nest more

abbrev pub arm_first : ℕ → Held → Held
arm_first at after = record { units = after.units; blocks = []; arms = arm at after.blocks ∷ after.arms }

abbrev pub block_first : Block → Held → Held
block_first block after = record { units = after.units; blocks = block ∷ after.blocks; arms = after.arms }

abbrev pub unit_first : UnitTree → Held → Held
unit_first tree after = record { units = tree ∷ after.units; blocks = after.blocks; arms = after.arms }

statement_arms : (b : Bool) (at : ℕ) (block : Block) (after : Held) → b ≡ false → (if b then arm_first at after else block_first block after).arms ≡ after.arms
statement_arms true at block after e = absurd (true≢false e)
statement_arms false at block after e = refl

statement_units : (b : Bool) (at : ℕ) (block : Block) (after : Held) → (if b then arm_first at after else block_first block after).units ≡ after.units
statement_units true at block after = refl
statement_units false at block after = refl

nest_arms : (b : Bool) (block : Block) (tree : UnitTree) (after : Held) → (if b then block_first block after else unit_first tree after).arms ≡ after.arms
nest_arms true block tree after = refl
nest_arms false block tree after = refl

nest_units : (b : Bool) (block : Block) (tree : UnitTree) (after : Held) → not b ≡ false → (if b then block_first block after else unit_first tree after).units ≡ after.units
nest_units true block tree after e = refl
nest_units false block tree after e = absurd (true≢false e)

pub nest_unit : (b : Bool) (block : Block) (tree : UnitTree) (after : Held) → b ≡ false → (if b then block_first block after else unit_first tree after).units ≡ tree ∷ after.units
nest_unit true block tree after e = absurd (true≢false e)
nest_unit false block tree after e = refl

nest_blocks : (b : Bool) (block : Block) (tree : UnitTree) (after : Held) → b ≡ false → (if b then block_first block after else unit_first tree after).blocks ≡ after.blocks
nest_blocks true block tree after e = absurd (true≢false e)
nest_blocks false block tree after e = refl

-- ---- a unit holds no arms

arms_held : (row : Row) (at : ℕ) → NoArms (heads row) → (held at row).arms ≡ []
arms_held none at are = refl
arms_held (stands m rest) at are = statement_arms (begins_arm m) at _ (held (at + 1) rest) are.0 ∙ arms_held rest (at + 1) are.1
arms_held (nest what inside end rest) at are = nest_arms (is_construct what.word) _ _ _ ∙ arms_held rest _ are.1

pub unit_arms : (around : Region) (what : Title) (inside : Row) (at : ℕ) → is_construct what.word ≡ false → in_order (sections_in (opened around what)) (heads inside) ≡ true
    → (held at inside).arms ≡ []
unit_arms around what inside at isnt order = arms_held inside at (no_arms (heads inside) (sections_in (opened around what)) (unit_plain around what isnt) order)

-- ---- a construct holds no units

abbrev opens_whole : Mark → Bool
opens_whole (mark.Open what) = not (is_construct what.word)
opens_whole _ = false

abbrev in_construct : Content → Bool
in_construct content.Executable = true
in_construct content.ElseIf = true
in_construct content.Else = true
in_construct content.AnyCase = true
in_construct content.Case = true
in_construct content.Default = true
in_construct _ = false

construct_mark : (m : Mark) (p : Content) → in_construct p ≡ true → belongs p m ≡ true → opens_whole m ≡ false
construct_mark (mark.Open what) content.Executable h e = ap not e
construct_mark (mark.Open what) content.ElseIf h e = ap not (sym (or-false (is_construct what.word)) ∙ e)
construct_mark (mark.Open what) content.Else h e = absurd (true≢false (sym e))
construct_mark (mark.Open what) content.AnyCase h e = absurd (true≢false (sym e))
construct_mark (mark.Open what) content.Case h e = ap not (sym (or-false (is_construct what.word)) ∙ e)
construct_mark (mark.Open what) content.Default h e = absurd (true≢false (sym e))
construct_mark (mark.Open what) p h e = absurd (true≢false (sym h))
construct_mark m p h e = refl

construct_fits : (around : Region) (which : EndWord) (name : Option ℕ) → is_construct which ≡ true → all_fit in_construct (sections_in (opened_by around which name)) ≡ true
construct_fits around word.If name e = refl
construct_fits around word.Do name e = refl
construct_fits around word.Select name e = refl
construct_fits around which name e = absurd (true≢false (sym e))

units_held : (row : Row) (at : ℕ) → Free opens_whole (heads row) → (held at row).units ≡ []
units_held none at are = refl
units_held (stands m rest) at are = statement_units (begins_arm m) at _ (held (at + 1) rest) ∙ units_held rest (at + 1) are.1
units_held (nest what inside end rest) at are = nest_units (is_construct what.word) _ _ _ are.0 ∙ units_held rest _ are.1

pub construct_units : (around : Region) (what : Title) (inside : Row) (at : ℕ) → is_construct what.word ≡ true → in_order (sections_in (opened around what)) (heads inside) ≡ true
    → (held at inside).units ≡ []
construct_units around what inside at is order =
    units_held inside at (free opens_whole in_construct construct_mark (heads inside) (sections_in (opened around what)) (construct_fits around what.word what.name is) order)

-- ---- SELECT CASE begins with an arm

first_arm : (inside : Row) (at : ℕ) → in_order (sections_in region.Select) (heads inside) ≡ true → (held at inside).blocks ≡ []
first_arm none at e = refl
first_arm (stands mark.Case rest) at e = refl
first_arm (stands mark.Default rest) at e = refl
first_arm (stands m rest) at e = absurd (true≢false (sym e))
first_arm (nest what inside end rest) at e = absurd (true≢false (sym e))

pub select_blocks : (around : Region) (which : EndWord) (name : Option ℕ) (inside : Row) (at : ℕ) → same_word which word.Select ≡ true
    → in_order (sections_in (opened_by around which name)) (heads inside) ≡ true → (held at inside).blocks ≡ []
select_blocks around word.Select name inside at is e = first_arm inside at e
select_blocks around which name inside at is e = absurd (true≢false (sym is))

-- ---- a file holds units alone

abbrev pub opens_none : Mark → Bool
opens_none m = not (opens_unit m)

abbrev only_unit : Content → Bool
only_unit content.Unit = true
only_unit _ = false

unit_mark : (m : Mark) (p : Content) → only_unit p ≡ true → belongs p m ≡ true → opens_none m ≡ false
unit_mark m content.Unit h e = ap not e
unit_mark m p h e = absurd (true≢false (sym h))

pub file_heads : (row : Row) → in_order (sections_in (region_of [])) (heads row) ≡ true → Free opens_none (heads row)
file_heads row order = free opens_none only_unit unit_mark (heads row) (sections_in region.File) refl order

unit_word : (which : EndWord) → is_unit which ≡ true → is_construct which ≡ false
unit_word word.If e = absurd (true≢false (sym e))
unit_word word.Do e = absurd (true≢false (sym e))
unit_word word.Select e = absurd (true≢false (sym e))
unit_word which e = refl

pub no_construct : (what : Title) → opens_none (mark.Open what) ≡ false → is_construct what.word ≡ false
no_construct what e = unit_word what.word (not-false (is_unit what.word) e)

module _ (same : ℕ → ℕ → Bool) (path : List Title) where
  pub stands_none : (m : Mark) → may_stand same path m ≡ true → opens_none m ≡ false → ⊥
  stands_none (mark.Open what) may e = true≢false (sym may)
  stands_none m may e = true≢false e

  pub file_blocks : (row : Row) (at : ℕ) → IsNested same path row → Free opens_none (heads row) → (held at row).blocks ≡ []
  file_blocks none at is are = refl
  file_blocks (stands m rest) at is are = absurd (stands_none m is.0 are.0)
  file_blocks (nest what inside end rest) at is are = nest_blocks (is_construct what.word) _ _ _ (no_construct what are.0) ∙ file_blocks rest _ is.4 are.1

  pub file_arms : (row : Row) (at : ℕ) → IsNested same path row → Free opens_none (heads row) → (held at row).arms ≡ []
  file_arms none at is are = refl
  file_arms (stands m rest) at is are = absurd (stands_none m is.0 are.0)
  file_arms (nest what inside end rest) at is are = nest_arms (is_construct what.word) _ _ _ ∙ file_arms rest _ is.4 are.1
