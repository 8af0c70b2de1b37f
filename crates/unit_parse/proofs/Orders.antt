-- The order of statements, one statement after another.
use Rattle.std.proofs.Common.{◌≡◌, ℕ, ◌+◌, Bool, true, false, if◌then◌else◌, List, [], ◌∷◌, drop, Option, Some, None, option_map, refl, sym, ◌∙◌, ap, one-add}
use Rattle.std.proofs.lemmas.List.{drop-drop}
use Rattle.std.specs.List.{prefix_len}
use Rattle.ftn_tree.specs.declared.mark.Mark.{Mark}
use Rattle.ftn_tree.specs.declared.mark.Section.{Section}
use Rattle.ftn_tree.specs.declared.mark.Section.TheVariants as section
use Rattle.ftn_tree.specs.Marks.{belongs}
use Rattle.ftn_tree.specs.Regions.{in_order}
use Rattle.unit_parse.specs.steps.Following.{follow}

-- what may stand after a statement
abbrev pub after : List Section → Mark → Option (List Section)
after [] m = None
after (section.Any p ∷ sections) m = if belongs p m then Some (section.Any p ∷ sections) else after sections m
after (section.Once p ∷ sections) m = if belongs p m then Some sections else None
after (section.First p ∷ sections) m = if belongs p m then after sections m else None

abbrev pub continues : Option (List Section) → List Mark → Bool
continues None marks = false
continues (Some sections) marks = in_order sections marks

pub order_step : (sections : List Section) (m : Mark) (marks : List Mark) → in_order sections (m ∷ marks) ≡ continues (after sections m) marks
order_step [] m marks = refl
order_step (section.Any p ∷ sections) m marks = here (belongs p m) refl (order_step sections m marks)
  where
    here : (b : Bool) → belongs p m ≡ b → in_order sections (m ∷ marks) ≡ continues (after sections m) marks → in_order (section.Any p ∷ sections) (m ∷ marks) ≡ continues (after (section.Any p ∷ sections) m) marks
    here true e again = rw e (ap (λ (k : ℕ). in_order sections (drop k (m ∷ marks))) (one-add (prefix_len (belongs p) marks)))
    here false e again = rw e again
order_step (section.Once p ∷ sections) m marks = here (belongs p m) refl
  where
    here : (b : Bool) → belongs p m ≡ b → in_order (section.Once p ∷ sections) (m ∷ marks) ≡ continues (after (section.Once p ∷ sections) m) marks
    here true e = rw e refl
    here false e = rw e refl
order_step (section.First p ∷ sections) m marks = here (belongs p m) refl (order_step sections m marks)
  where
    here : (b : Bool) → belongs p m ≡ b → in_order sections (m ∷ marks) ≡ continues (after sections m) marks → in_order (section.First p ∷ sections) (m ∷ marks) ≡ continues (after (section.First p ∷ sections) m) marks
    here true e again = rw e again
    here false e again = rw e refl

pub order_none : (sections : List Section) → in_order sections [] ≡ true
order_none [] = refl
order_none (section.Any p ∷ sections) = order_none sections
order_none (section.Once p ∷ sections) = refl
order_none (section.First p ∷ sections) = refl

-- what is left of all sections after the first of them
left_next : (whole sections : List Section) (one : Section) (k : ℕ) → drop k whole ≡ one ∷ sections → drop (k + 1) whole ≡ sections
left_next whole sections one k e = sym (drop-drop 1 k whole) ∙ ap (λ (l : List Section). drop 1 l) e

pub followed : (whole sections : List Section) (k : ℕ) (m : Mark) → drop k whole ≡ sections → after sections m ≡ option_map (λ j. drop j whole) (follow sections k m)
followed whole [] k m e = refl
followed whole (section.Any p ∷ sections) k m e =
    here (belongs p m) refl (followed whole sections (k + 1) m (left_next whole sections (section.Any p) k e))
  where
    here : (b : Bool) → belongs p m ≡ b → after sections m ≡ option_map (λ j. drop j whole) (follow sections (k + 1) m) → after (section.Any p ∷ sections) m ≡ option_map (λ j. drop j whole) (follow (section.Any p ∷ sections) k m)
    here true is again = rw is (ap (λ (l : List Section). Some l) (sym e))
    here false is again = rw is again
followed whole (section.Once p ∷ sections) k m e = here (belongs p m) refl
  where
    here : (b : Bool) → belongs p m ≡ b → after (section.Once p ∷ sections) m ≡ option_map (λ j. drop j whole) (follow (section.Once p ∷ sections) k m)
    here true is = rw is (ap (λ (l : List Section). Some l) (sym (left_next whole sections (section.Once p) k e)))
    here false is = rw is refl
followed whole (section.First p ∷ sections) k m e =
    here (belongs p m) refl (followed whole sections (k + 1) m (left_next whole sections (section.First p) k e))
  where
    here : (b : Bool) → belongs p m ≡ b → after sections m ≡ option_map (λ j. drop j whole) (follow sections (k + 1) m) → after (section.First p ∷ sections) m ≡ option_map (λ j. drop j whole) (follow (section.First p ∷ sections) k m)
    here true is again = rw is again
    here false is again = rw is refl
