-- What is held by what is open, after a row of statements.
use Rattle.std.proofs.Common.{◌≡◌, ℕ, ◌+◌, Bool, true, false, if◌then◌else◌, List, length, drop, Option, Some, None, refl}
use Rattle.ftn_tree.specs.declared.mark.Mark.{Mark}
use Rattle.ftn_tree.specs.declared.mark.Mark.TheVariants as mark
use Rattle.ftn_tree.specs.declared.mark.Section.{Section}
use Rattle.ftn_tree.specs.declared.mark.Title.{Title}
use Rattle.ftn_tree.specs.Marks.{is_construct, begins_arm}
use Rattle.ftn_tree.specs.Regions.{opened, sections_in}
use Rattle.ftn_tree.specs.Nesting.{Row, none, stands, nest, spelled}
use Rattle.unit_parse.specs.declared.level.Level.{Level}
use Rattle.unit_parse.specs.steps.Following.{follow}
use Rattle.unit_parse.specs.Levels.{fresh, first_head, add_statement, add_nest}

-- the sections that are left
abbrev pub left : Level → List Section
left level = drop level.stage (sections_in level.region)

abbrev pub or_stay : ℕ → Option ℕ → ℕ
or_stay stage None = stage
or_stay stage (Some next) = next

-- the same with the stage that a statement brings it to
abbrev pub moved : Level → Mark → Level
moved level m = record level { stage = or_stay level.stage (follow (left level) level.stage m) }

abbrev pub level_after : Level → ℕ → Row → Level
level_after level at none = level
level_after level at (stands m rest) = level_after (add_statement (moved level m) at m) (at + 1) rest
level_after level at (nest what inside end rest) =
    level_after
    (add_nest (moved level (mark.Open what)) at what (level_after (fresh (opened level.region what) (first_head at what)) (at + 1) inside) (at + 1 + length (spelled inside)))
    (at + 1 + length (spelled inside) + 1) rest

-- ---- where it stands does not depend on what it holds

pub either : {A : Type 0} (b : Bool) (x y : Level) (f : Level → A) (a : A) → f x ≡ a → f y ≡ a → f (if b then x else y) ≡ a
either true x y f a e g = e
either false x y f a e g = g

pub statement_region : (level : Level) (n : ℕ) (m : Mark) → (add_statement level n m).region ≡ level.region
statement_region level n m = either (begins_arm m) _ _ (λ (l : Level). l.region) level.region refl refl

pub statement_stage : (level : Level) (n : ℕ) (m : Mark) → (add_statement level n m).stage ≡ level.stage
statement_stage level n m = either (begins_arm m) _ _ (λ (l : Level). l.stage) level.stage refl refl

pub nest_region : (level : Level) (n : ℕ) (what : Title) (inside : Level) (ending : ℕ) → (add_nest level n what inside ending).region ≡ level.region
nest_region level n what inside ending = either (is_construct what.word) _ _ (λ (l : Level). l.region) level.region refl refl

pub nest_stage : (level : Level) (n : ℕ) (what : Title) (inside : Level) (ending : ℕ) → (add_nest level n what inside ending).stage ≡ level.stage
nest_stage level n what inside ending = either (is_construct what.word) _ _ (λ (l : Level). l.stage) level.stage refl refl
