-- What one statement does to the stack.
use Rattle.std.proofs.Common.{◌≡◌, ℕ, Bool, true, false, not, ◌&&◌, nat_le, if◌then◌else◌, List, ◌∷◌, drop, Option, Some, None, option_map, Ok, Err, refl, sym, ◌∙◌, ap, true≢false, suc, arith}
use Rattle.std.proofs.lemmas.Bool.Decides.{nat_tests}
use Rattle.std.proofs.lemmas.Option.{none-some}
use Rattle.ftn_base.specs.Limits.{most_constructs}
use Rattle.ftn_tree.specs.declared.mark.Mark.{Mark}
use Rattle.ftn_tree.specs.declared.mark.Mark.TheVariants as mark
use Rattle.ftn_tree.specs.declared.mark.Section.{Section}
use Rattle.ftn_tree.specs.declared.mark.Title.{Title}
use Rattle.ftn_tree.specs.Marks.{is_construct}
use Rattle.ftn_tree.specs.Regions.{depth, ends, in_order, sections_in}
use Rattle.ftn_tree.specs.Nesting.{may_stand}
use Rattle.unit_parse.specs.declared.level.Level.{Level}
use Rattle.unit_parse.specs.declared.frames.Frame.{Frame}
use Rattle.unit_parse.specs.steps.Following.{follow}
use Rattle.unit_parse.specs.Levels.{add_statement, add_nest}
use Rattle.unit_parse.specs.Taking.{State, path_of, allows, add, open_nest, placed, place, refused_kind, shut, take}
use Rattle.unit_parse.proofs.Orders.{continues, order_step, followed}
use Rattle.unit_parse.proofs.Levels.{left, or_stay, moved}

abbrev pub state : Level → List Frame → State
state here frames = record { here = here; frames = frames }

-- ---- a statement in its order has a section

pub record Followed (here : Level) (m : Mark) (marks : List Mark) : Type 0 where
  pub next : ℕ
  pub found : follow (left here) here.stage m ≡ Some next
  pub order : in_order (drop next (sections_in here.region)) marks ≡ true

pub has_section : (here : Level) (m : Mark) (marks : List Mark) → in_order (left here) (m ∷ marks) ≡ true → Followed here m marks
has_section here m marks e =
    found (follow (left here) here.stage m) refl
    (sym (order_step (left here) m marks ∙ ap (λ (o : Option (List Section)). continues o marks) (followed (sections_in here.region) (left here) here.stage m refl)) ∙ e)
  where
    found : (f : Option ℕ) → follow (left here) here.stage m ≡ f → continues (option_map (λ j. drop j (sections_in here.region)) f) marks ≡ true → Followed here m marks
    found None is holds = absurd (true≢false (sym holds))
    found (Some next) is holds = record { next = next; found = is; order = holds }

pub order_moved : (here : Level) (m : Mark) (marks : List Mark) (one : Followed here m marks) → in_order (left (moved here m)) marks ≡ true
order_moved here m marks one = ap (λ (f : Option ℕ). in_order (drop (or_stay here.stage f) (sections_in here.region)) marks) one.found ∙ one.order

-- ---- what is allowed and in its order is taken

module _ (same : ℕ → ℕ → Bool) where
  with_stage : (here : Level) (frames : List Frame) (n : ℕ) (m : Mark) (f : Option ℕ) (k : ℕ) → f ≡ Some k
      → placed same (state here frames) n m f
      ≡ (if allows same (state here frames) m then Ok (add (state (record here { stage = or_stay here.stage f }) frames) n m) else Err (refused_kind (state here frames) m))
  with_stage here frames n m None k e = absurd (none-some k e)
  with_stage here frames n m (Some j) k e = refl

  place_ok : (here : Level) (frames : List Frame) (n : ℕ) (m : Mark) (k : ℕ) → follow (left here) here.stage m ≡ Some k → allows same (state here frames) m ≡ true
      → place same (state here frames) n m ≡ Ok (add (state (moved here m) frames) n m)
  place_ok here frames n m k e may =
      with_stage here frames n m (follow (left here) here.stage m) k e
      ∙ ap (λ (b : Bool). if b then Ok (add (state (moved here m) frames) n m) else Err (refused_kind (state here frames) m)) may

  pub take_stands : (here : Level) (frames : List Frame) (n : ℕ) (m : Mark) (k : ℕ) → follow (left here) here.stage m ≡ Some k → may_stand same (path_of frames) m ≡ true
      → take same (state here frames) n m ≡ Ok (state (add_statement (moved here m) n m) frames)
  take_stands here frames n (mark.Open what) k e may = absurd (true≢false (sym may))
  take_stands here frames n mark.PlainEnd k e may = absurd (true≢false (sym may))
  take_stands here frames n (mark.End by) k e may = absurd (true≢false (sym may))
  take_stands here frames n m k e may = place_ok here frames n m k e may

  not_deep : (b : Bool) (d : ℕ) → nat_le (if b then suc d else 0) most_constructs ≡ true → not (b && nat_le most_constructs d) ≡ true
  not_deep true d e = grind (arith, nat_tests)
  not_deep false d e = refl

  pub take_open : (here : Level) (frames : List Frame) (n : ℕ) (what : Title) (k : ℕ) → follow (left here) here.stage (mark.Open what) ≡ Some k
      → nat_le (depth (what ∷ path_of frames)) most_constructs ≡ true
      → take same (state here frames) n (mark.Open what) ≡ Ok (open_nest (state (moved here (mark.Open what)) frames) n what)
  take_open here frames n what k e fits = place_ok here frames n (mark.Open what) k e (not_deep (is_construct what.word) (depth (path_of frames)) fits)

  pub take_end : (here : Level) (frame : Frame) (frames : List Frame) (n : ℕ) (m : Mark) → ends same here.region frame.what m ≡ true
      → take same (state here (frame ∷ frames)) n m ≡ Ok (state (add_nest frame.outside frame.opening frame.what here n) frames)
  take_end here frame frames n mark.PlainEnd e =
      ap (λ (b : Bool). if b then Ok (shut (state here (frame ∷ frames)) n) else Err (refused_kind (state here (frame ∷ frames)) mark.PlainEnd)) e
  take_end here frame frames n (mark.End by) e =
      ap (λ (b : Bool). if b then Ok (shut (state here (frame ∷ frames)) n) else Err (refused_kind (state here (frame ∷ frames)) (mark.End by))) e
  take_end here frame frames n m e = absurd (true≢false (sym e))
