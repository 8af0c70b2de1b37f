-- The frames are the openings without an ending.
use Rattle.std.proofs.Common.{◌≡◌, ℕ, ◌+◌, Bool, true, false, if◌then◌else◌, List, [], ◌∷◌, drop, map, Option, Some, None, Ok, Err, refl, sym, ◌∙◌, ap}
use Rattle.ftn_base.specs.declared.fault.FaultKind.{FaultKind}
use Rattle.ftn_tree.specs.declared.mark.Mark.{Mark}
use Rattle.ftn_tree.specs.declared.mark.Mark.TheVariants as mark
use Rattle.ftn_tree.specs.declared.mark.Title.{Title}
use Rattle.ftn_tree.specs.NestFaults.{Path, titles}
use Rattle.unit_parse.specs.declared.level.Level.{Level}
use Rattle.unit_parse.specs.declared.frames.Frame.{Frame}
use Rattle.unit_parse.specs.steps.Following.{follow}
use Rattle.unit_parse.specs.Taking.{State, Outcome, Answer, path_of, allows, add, at_stage, placed, place, refused_kind, shut, ends_first, close, take, go_on, take_all}
use Rattle.unit_parse.specs.steps.Unclosed.{unclosed_from}
use Rattle.unit_parse.proofs.Levels.{left}
use Rattle.unit_parse.proofs.Steps.{state}

-- the openings of frames with their numbers
abbrev pub openings : List Frame → Path
openings frames = map (λ frame. (frame.opening, frame.what)) frames

pub path_openings : (frames : List Frame) → titles (openings frames) ≡ path_of frames
path_openings [] = refl
path_openings (frame ∷ frames) = ap (λ (l : List Title). frame.what ∷ l) (path_openings frames)

ok_is : (s last : State) → ◌≡◌ {A = Answer} (Ok s) (Ok last) → s ≡ last
ok_is s last e = cc e

module _ (same : ℕ → ℕ → Bool) where
  chosen : (b : Bool) (x : State) (kind : FaultKind) (y : State) → (if b then Ok x else Err kind) ≡ Ok y → x ≡ y
  chosen true x kind y e = cc e
  chosen false x kind y e = absurd (cc e)

  placed_as : (s : State) (n : ℕ) (m : Mark) (f : Option ℕ) (next : State) → placed same s n m f ≡ Ok next → (stage : ℕ) × (add (at_stage s stage) n m ≡ next)
  placed_as s n m None next e = absurd (cc e)
  placed_as s n m (Some stage) next e = (stage, chosen (allows same s m) (add (at_stage s stage) n m) (refused_kind s m) next e)

  unended_stands : (s next : State) (n : ℕ) (m : Mark) → place same s n m ≡ Ok next → ((t : State) → (add t n m).frames ≡ t.frames) → openings s.frames ≡ openings next.frames
  unended_stands s next n m e keeps =
      let one = placed_as s n m (follow (left s.here) s.here.stage m) next e in
      ap (λ (frames : List Frame). openings frames) (sym (keeps (at_stage s one.0)) ∙ ap (λ (t : State). t.frames) one.1)

  unended_opens : (s next : State) (n : ℕ) (what : Title) → place same s n (mark.Open what) ≡ Ok next → (n, what) ∷ openings s.frames ≡ openings next.frames
  unended_opens s next n what e =
      let one = placed_as s n (mark.Open what) (follow (left s.here) s.here.stage (mark.Open what)) next e in
      ap (λ (t : State). openings t.frames) one.1

  unended_ends : (here : Level) (frames : List Frame) (next : State) (n : ℕ) (m : Mark) → close same (state here frames) n m ≡ Ok next → drop 1 (openings frames) ≡ openings next.frames
  unended_ends here [] next n m e = absurd (cc e)
  unended_ends here (frame ∷ frames) next n m e =
      ap (λ (t : State). openings t.frames)
      (chosen (ends_first same here.region (frame ∷ frames) m) (shut (state here (frame ∷ frames)) n) (refused_kind (state here (frame ∷ frames)) m) next e)

  -- what a statement leaves open
  one_more : (s next : State) (n : ℕ) (m : Mark) (rest : List Mark) → take same s n m ≡ Ok next
      → unclosed_from (openings s.frames) n (m ∷ rest) ≡ unclosed_from (openings next.frames) (n + 1) rest
  one_more s next n (mark.Open what) rest e = ap (λ (path : Path). unclosed_from path (n + 1) rest) (unended_opens s next n what e)
  one_more s next n mark.PlainEnd rest e = ap (λ (path : Path). unclosed_from path (n + 1) rest) (unended_ends s.here s.frames next n mark.PlainEnd e)
  one_more s next n (mark.End by) rest e = ap (λ (path : Path). unclosed_from path (n + 1) rest) (unended_ends s.here s.frames next n (mark.End by) e)
  one_more s next n m rest e = ap (λ (path : Path). unclosed_from path (n + 1) rest) (unended_stands s next n m e (λ t. refl))

  unended_on : (s last : State) (n : ℕ) (m : Mark) (rest : List Mark) (o : Outcome) → take same s n m ≡ o → go_on o n (λ s. take_all same s (n + 1) rest) ≡ Ok last
      → ((next : State) → take_all same next (n + 1) rest ≡ Ok last → unclosed_from (openings next.frames) (n + 1) rest ≡ openings last.frames)
      → unclosed_from (openings s.frames) n (m ∷ rest) ≡ openings last.frames
  unended_on s last n m rest (Ok next) is e again = one_more s next n m rest is ∙ again next e
  unended_on s last n m rest (Err kind) is e again = absurd (cc e)

  pub unended : (rest : List Mark) (s last : State) (n : ℕ) → take_all same s n rest ≡ Ok last → unclosed_from (openings s.frames) n rest ≡ openings last.frames
  unended [] s last n e = ap (λ (t : State). openings t.frames) (ok_is s last e)
  unended (m ∷ rest) s last n e = unended_on s last n m rest (take same s n m) refl e (λ next is. unended rest next last (n + 1) is)
