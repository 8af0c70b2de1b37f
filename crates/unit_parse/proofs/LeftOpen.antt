-- Statements leave one path open, which is the one that the stack finds.
use Rattle.std.proofs.Common.{◌≡◌, ℕ, ◌+◌, Bool, true, List, [], ◌∷◌, ◌++◌, length, drop, Ok, refl, sym, ◌∙◌, ap, subst, append_assoc, append-nil, add-zero, zero-add, true≢false, arith}
use Rattle.ftn_tree.specs.declared.mark.Mark.{Mark}
use Rattle.ftn_tree.specs.declared.mark.Mark.TheVariants as mark
use Rattle.ftn_tree.specs.declared.mark.Region.{Region}
use Rattle.ftn_tree.specs.declared.mark.Title.{Title}
use Rattle.ftn_tree.specs.Regions.{region_of, ends}
use Rattle.ftn_tree.specs.Nesting.{Row, none, stands, nest, spelled, IsNested, may_stand}
use Rattle.ftn_tree.specs.NestFaults.{Path, titles, LeavesOpen}
use Rattle.unit_parse.specs.declared.frames.Frame.{Frame}
use Rattle.unit_parse.specs.Taking.{State, start, path_of, take_all}
use Rattle.unit_parse.specs.steps.Unclosed.{unclosed_from, unclosed}
use Rattle.unit_parse.proofs.Complete.{numbers}
use Rattle.unit_parse.proofs.Reached.{Below, reached, reached_none}
use Rattle.unit_parse.proofs.Unended.{openings, unended}

goes_on : (front more : List Mark) (around : Path) (at : ℕ) → unclosed_from around at (front ++ more) ≡ unclosed_from (unclosed_from around at front) (at + length front) more
goes_on [] more around at = ap (λ (k : ℕ). unclosed_from around k more) (sym (add-zero at))
goes_on (mark.Open what ∷ front) more around at =
    goes_on front more ((at, what) ∷ around) (at + 1) ∙ ap (λ (k : ℕ). unclosed_from (unclosed_from ((at, what) ∷ around) (at + 1) front) k more) (omega arith)
goes_on (mark.PlainEnd ∷ front) more around at =
    goes_on front more (drop 1 around) (at + 1) ∙ ap (λ (k : ℕ). unclosed_from (unclosed_from (drop 1 around) (at + 1) front) k more) (omega arith)
goes_on (mark.End by ∷ front) more around at =
    goes_on front more (drop 1 around) (at + 1) ∙ ap (λ (k : ℕ). unclosed_from (unclosed_from (drop 1 around) (at + 1) front) k more) (omega arith)
goes_on (m ∷ front) more around at =
    goes_on front more around (at + 1) ∙ ap (λ (k : ℕ). unclosed_from (unclosed_from around (at + 1) front) k more) (omega arith)

module _ (same : ℕ → ℕ → Bool) where
  -- ---- a row that is whole leaves open what was open

  standing : (path : List Title) (m : Mark) (around : Path) (at : ℕ) (marks : List Mark) → may_stand same path m ≡ true
      → unclosed_from around at (m ∷ marks) ≡ unclosed_from around (at + 1) marks
  standing path (mark.Open what) around at marks may = absurd (true≢false (sym may))
  standing path mark.PlainEnd around at marks may = absurd (true≢false (sym may))
  standing path (mark.End by) around at marks may = absurd (true≢false (sym may))
  standing path m around at marks may = refl

  ending : (within : Region) (what : Title) (m : Mark) (around : Path) (at : ℕ) (marks : List Mark) → ends same within what m ≡ true
      → unclosed_from around at (m ∷ marks) ≡ unclosed_from (drop 1 around) (at + 1) marks
  ending within what mark.PlainEnd around at marks e = refl
  ending within what (mark.End by) around at marks e = refl
  ending within what m around at marks e = absurd (true≢false (sym e))

  passes : (row : Row) (path : List Title) (around : Path) (at : ℕ) (more : List Mark) → IsNested same path row
      → unclosed_from around at (spelled row ++ more) ≡ unclosed_from around (at + length (spelled row)) more
  passes none path around at more is = ap (λ (k : ℕ). unclosed_from around k more) (sym (add-zero at))
  passes (stands m rest) path around at more is =
      standing path m around at (spelled rest ++ more) is.0 ∙ passes rest path around (at + 1) more is.1 ∙ ap (λ (k : ℕ). unclosed_from around k more) (omega arith)
  passes (nest what inside end rest) path around at more is =
      ap (λ (l : List Mark). unclosed_from ((at, what) ∷ around) (at + 1) l) (append_assoc (spelled inside) (end ∷ spelled rest) more)
      ∙ passes inside (what ∷ path) ((at, what) ∷ around) (at + 1) (end ∷ (spelled rest ++ more)) is.2
      ∙ ending (region_of (what ∷ path)) what end ((at, what) ∷ around) (at + 1 + length (spelled inside)) (spelled rest ++ more) is.3
      ∙ passes rest path around (at + 1 + length (spelled inside) + 1) more is.4
      ∙ ap (λ (k : ℕ). unclosed_from around k more) (numbers (spelled inside) end (spelled rest) at)

  whole : (row : Row) (path : List Title) (around : Path) (at : ℕ) → IsNested same path row → unclosed_from around at (spelled row) ≡ around
  whole row path around at is = ap (λ (l : List Mark). unclosed_from around at l) (sym (append-nil (spelled row))) ∙ passes row path around at [] is

  -- ---- so the path is found

  pub path_found : (path : Path) (front : List Mark) → LeavesOpen same path front → path ≡ unclosed front
  path_found [] front is = sym (ap (λ (l : List Mark). unclosed l) (sym is.2) ∙ whole is.0 [] [] 0 is.1)
  path_found (one ∷ around) front (before, row, is, place, nested, leaves) =
      ap (λ (k : ℕ). (k, one.1) ∷ around) (place ∙ sym (zero-add (length before)))
      ∙ ap (λ (path : Path). (0 + length before, one.1) ∷ path) (path_found around before leaves)
      ∙ sym (ap (λ (l : List Mark). unclosed l) is
      ∙ goes_on before (mark.Open one.1 ∷ spelled row) [] 0
      ∙ whole row (one.1 ∷ titles around) ((0 + length before, one.1) ∷ unclosed before) (0 + length before + 1) nested)

  pub one_path : (path : Path) (front : List Mark) (s : State) → LeavesOpen same path front → take_all same start 0 front ≡ Ok s → path ≡ openings s.frames
  one_path path front s is was = path_found path front is ∙ unended same front start s 0 was

  -- ---- and what was taken leaves a path open

  record Leaves (frames : List Frame) (marks : List Mark) : Type 0 where
    pub path : Path
    pub named : titles path ≡ path_of frames
    pub leaves : LeavesOpen same path marks

  leaves : (frames : List Frame) (front : List Mark) (row : Row) → IsNested same (path_of frames) row → Below same front frames → Leaves frames (front ++ spelled row)
  leaves [] front row nested below = record { path = []; named = refl; leaves = (row, nested, sym (ap (λ (l : List Mark). l ++ spelled row) below)) }
  leaves (frame ∷ frames) front row nested below =
      let inner = below.1 in
      let more = leaves frames inner.0 inner.1 inner.3.nested inner.4 in
      record {
        path = (length (inner.0 ++ spelled inner.1), frame.what) ∷ more.path;
        named = ap (λ (l : List Title). frame.what ∷ l) more.named;
        leaves = (
          inner.0 ++ spelled inner.1,
          row,
          ap (λ (l : List Mark). l ++ spelled row) inner.2
              ∙ append_assoc inner.0 (spelled inner.1 ++ mark.Open frame.what ∷ []) (spelled row)
              ∙ ap (λ (l : List Mark). inner.0 ++ l) (append_assoc (spelled inner.1) (mark.Open frame.what ∷ []) (spelled row))
              ∙ sym (append_assoc inner.0 (spelled inner.1) (mark.Open frame.what ∷ spelled row)),
          refl,
          subst (λ (l : List Title). IsNested same (frame.what ∷ l) row) (sym more.named) nested,
          more.leaves,
        );
      }

  pub leaves_open : (front : List Mark) (s : State) → take_all same start 0 front ≡ Ok s → LeavesOpen same (openings s.frames) front
  leaves_open front s was =
      let is = reached same front [] start s 0 (reached_none same) was in
      let all = leaves s.frames is.front is.row is.level.nested is.below in
      let left : LeavesOpen same all.path front = subst (λ (l : List Mark). LeavesOpen same all.path l) (sym is.whole) all.leaves in
      subst (λ (path : Path). LeavesOpen same path front) (one_path all.path front s left was) left
