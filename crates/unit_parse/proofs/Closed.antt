-- What was taken can be ended.
use Rattle.std.proofs.Common.{◌≡◌, ℕ, Bool, true, List, [], ◌∷◌, ◌++◌, None, refl, sym, ◌∙◌, ap, subst, append_assoc, append-nil}
use Rattle.ftn_tree.specs.declared.parts.EndWord.{EndWord}
use Rattle.ftn_tree.specs.declared.parts.EndWord.TheVariants as word
use Rattle.ftn_tree.specs.declared.mark.Mark.{Mark}
use Rattle.ftn_tree.specs.declared.mark.Mark.TheVariants as mark
use Rattle.ftn_tree.specs.declared.mark.Region.{Region}
use Rattle.ftn_tree.specs.declared.mark.Title.{Title}
use Rattle.ftn_tree.specs.Marks.{title, same_word}
use Rattle.ftn_tree.specs.Regions.{region_of, ends}
use Rattle.ftn_tree.specs.Nesting.{Row, none, nest, spelled, Begins}
use Rattle.unit_parse.specs.declared.level.Level.{Level}
use Rattle.unit_parse.specs.declared.frames.Frame.{Frame}
use Rattle.unit_parse.specs.Taking.{State, path_of}
use Rattle.unit_parse.proofs.Rows.{joined}
use Rattle.unit_parse.proofs.Reached.{IsLevel, Below, Reached, closes, whole_order, level_closed}

-- the END with the word and no name
abbrev end_of : Title → Mark
end_of what = mark.End (title what.word None)

same_itself : (which : EndWord) → same_word which which ≡ true
same_itself word.Program = refl
same_itself _ = refl

module _ (same : ℕ → ℕ → Bool) where
  ends_itself : (within : Region) (what : Title) → ends same within what (end_of what) ≡ true
  ends_itself within what = rw (same_itself what.word) refl

  pub begins_less : (front more : List Mark) → Begins same (front ++ more) → Begins same front
  begins_less front more is = (is.0, more ++ is.1, is.2, is.3 ∙ append_assoc front more is.1)

  closed : (frames : List Frame) (front : List Mark) (row : Row) (level : Level) → IsLevel same (path_of frames) row [] level → Below same front frames → Begins same (front ++ spelled row)
  closed [] front row level is below =
      (row, [], record { order = whole_order same [] row level is; nested = is.nested }, ap (λ (l : List Mark). l ++ spelled row) (sym below) ∙ sym (append-nil (front ++ spelled row)))
  closed (frame ∷ frames) front row level is below =
      let inner = below.1 in
      let end = end_of frame.what in
      let outer = joined inner.1 (nest frame.what row end none) in
      let around : IsLevel same (path_of frames) outer [] frame.outside =
      level_closed same (path_of frames) frame.what row inner.1 level frame.outside frame.outside end is inner.3 below.0 (ends_itself (region_of (frame.what ∷ path_of frames)) frame.what) refl refl in
      begins_less (front ++ spelled row) (end ∷ [])
      (subst (λ (l : List Mark). Begins same l)
      (sym (ap (λ (l : List Mark). (l ++ spelled row) ++ end ∷ []) inner.2 ∙ closes same inner.0 inner.1 row frame.what end))
      (closed frames inner.0 outer frame.outside around inner.4))

  pub begins : (marks : List Mark) (s : State) → Reached same marks s → Begins same marks
  begins marks s was = subst (λ (l : List Mark). Begins same l) (sym was.whole) (closed s.frames was.front was.row s.here was.level was.below)
