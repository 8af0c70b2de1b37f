-- The stack takes every row that nests.
use Rattle.std.proofs.Common.{◌≡◌, ℕ, ◌+◌, Bool, true, List, ◌∷◌, ◌++◌, length, drop, Ok, refl, sym, ◌∙◌, ap, append_assoc, add-zero, length-append, suc, arith}
use Rattle.ftn_tree.specs.declared.mark.Mark.{Mark}
use Rattle.ftn_tree.specs.declared.mark.Mark.TheVariants as mark
use Rattle.ftn_tree.specs.declared.mark.Region.{Region}
use Rattle.ftn_tree.specs.declared.mark.Section.{Section}
use Rattle.ftn_tree.specs.Regions.{region_of, ends, in_order, opened, sections_in}
use Rattle.ftn_tree.specs.Nesting.{Row, none, stands, nest, spelled, heads, IsNested}
use Rattle.unit_parse.specs.declared.level.Level.{Level}
use Rattle.unit_parse.specs.declared.frames.Frame.{Frame}
use Rattle.unit_parse.specs.Levels.{fresh, first_head, add_statement, add_nest}
use Rattle.unit_parse.specs.Taking.{State, Outcome, path_of, go_on, take, take_all}
use Rattle.unit_parse.proofs.Levels.{left, moved, level_after, statement_region, statement_stage, nest_region, nest_stage}
use Rattle.unit_parse.proofs.Steps.{state, has_section, order_moved, take_stands, take_open, take_end}

pub region_after : (row : Row) (level : Level) (at : ℕ) → (level_after level at row).region ≡ level.region
region_after none level at = refl
region_after (stands m rest) level at = region_after rest (add_statement (moved level m) at m) (at + 1) ∙ statement_region (moved level m) at m
region_after (nest what inside end rest) level at =
    region_after rest _ _
    ∙ nest_region (moved level (mark.Open what)) at what (level_after (fresh (opened level.region what) (first_head at what)) (at + 1) inside) (at + 1 + length (spelled inside))

-- what is left is told by the region and the stage
pub left_same : (one other : Level) → one.region ≡ other.region → one.stage ≡ other.stage → left one ≡ left other
left_same one other r s = ap (λ (k : ℕ). drop k (sections_in one.region)) s ∙ ap (λ (r : Region). drop other.stage (sections_in r)) r

pub numbers : (inside : List Mark) (end : Mark) (rest : List Mark) (at : ℕ) → at + 1 + length inside + 1 + length rest ≡ at + suc (length (inside ++ end ∷ rest))
numbers inside end rest at = let e : length (inside ++ end ∷ rest) ≡ length inside + suc (length rest) = length-append inside (end ∷ rest) in omega arith

module _ (same : ℕ → ℕ → Bool) where
  -- one statement that is taken, and then the rest
  went : (s next : State) (at : ℕ) (m : Mark) (marks : List Mark) → take same s at m ≡ Ok next → take_all same s at (m ∷ marks) ≡ take_all same next (at + 1) marks
  went s next at m marks e = ap (λ (o : Outcome). go_on o at (λ s. take_all same s (at + 1) marks)) e

  pub complete : (row : Row) (here : Level) (frames : List Frame) (at : ℕ) (more : List Mark) → here.region ≡ region_of (path_of frames)
      → IsNested same (path_of frames) row → in_order (left here) (heads row) ≡ true
      → take_all same (state here frames) at (spelled row ++ more) ≡ take_all same (state (level_after here at row) frames) (at + length (spelled row)) more
  complete none here frames at more region nested order = ap (λ (k : ℕ). take_all same (state here frames) k more) (sym (add-zero at))
  complete (stands m rest) here frames at more region nested order =
      let one = has_section here m (heads rest) order in
      let next = add_statement (moved here m) at m in
      went (state here frames) (state next frames) at m (spelled rest ++ more) (take_stands same here frames at m one.next one.found nested.0)
      ∙ complete rest next frames (at + 1) more
      (statement_region (moved here m) at m ∙ region) nested.1
      (ap (λ (s : List Section). in_order s (heads rest)) (left_same next (moved here m) (statement_region (moved here m) at m) (statement_stage (moved here m) at m)) ∙ order_moved here m (heads rest) one)
      ∙ ap (λ (k : ℕ). take_all same (state (level_after next (at + 1) rest) frames) k more) (omega arith)
  complete (nest what inside end rest) here frames at more region nested order =
      let one = has_section here (mark.Open what) (heads rest) order in
      let outside = moved here (mark.Open what) in
      let frame : Frame = record { opening = at; what = what; outside = outside } in
      let first = fresh (opened here.region what) (first_head at what) in
      let inner = level_after first (at + 1) inside in
      let ending = at + 1 + length (spelled inside) in
      let next = add_nest outside at what inner ending in
      let in_region : opened here.region what ≡ region_of (what ∷ path_of frames) = ap (λ (r : Region). opened r what) region in
      went (state here frames) (state first (frame ∷ frames)) at (mark.Open what) ((spelled inside ++ end ∷ spelled rest) ++ more) (take_open same here frames at what one.next one.found nested.0)
      ∙ ap (λ (marks : List Mark). take_all same (state first (frame ∷ frames)) (at + 1) marks) (append_assoc (spelled inside) (end ∷ spelled rest) more)
      ∙ complete inside first (frame ∷ frames) (at + 1) (end ∷ (spelled rest ++ more)) in_region nested.2
      (ap (λ (r : Region). in_order (sections_in r) (heads inside)) in_region ∙ nested.1)
      ∙ went (state inner (frame ∷ frames)) (state next frames) ending end (spelled rest ++ more)
      (take_end same inner frame frames ending end (ap (λ (r : Region). ends same r what end) (region_after inside first (at + 1) ∙ in_region) ∙ nested.3))
      ∙ complete rest next frames (ending + 1) more
      (nest_region outside at what inner ending ∙ region) nested.4
      (ap (λ (s : List Section). in_order s (heads rest)) (left_same next outside (nest_region outside at what inner ending) (nest_stage outside at what inner ending)) ∙ order_moved here (mark.Open what) (heads rest) one)
      ∙ ap (λ (k : ℕ). take_all same (state (level_after next (ending + 1) rest) frames) k more) (numbers (spelled inside) end (spelled rest) at)
