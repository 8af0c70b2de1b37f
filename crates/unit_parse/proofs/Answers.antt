-- The stack's answer is the units that are nested, or the first fault in nesting.
use Rattle.std.proofs.Common.{◌≡◌, ℕ, ◌+◌, Bool, true, false, not, ◌&&◌, ◌||◌, if◌then◌else◌, List, [], ◌∷◌, ◌++◌, length, Option, Some, None, Result, Ok, Err, inl, inr, refl, sym, ◌∙◌, ap, subst, append_assoc, append-nil, arith, suc}
use Rattle.ftn_base.specs.declared.fault.FaultKind.{FaultKind}
use Rattle.ftn_base.specs.declared.fault.FaultKind.TheVariants.{Misplaced, OutOfProfile, TooDeep}
use Rattle.ftn_tree.specs.declared.mark.Mark.{Mark}
use Rattle.ftn_tree.specs.declared.mark.Mark.TheVariants as mark
use Rattle.ftn_tree.specs.declared.mark.Region.{Region}
use Rattle.ftn_tree.specs.declared.mark.Title.{Title}
use Rattle.ftn_tree.specs.declared.unit.Unit.{Unit as UnitTree}
use Rattle.ftn_tree.specs.Marks.{is_implicit, is_characteristic}
use Rattle.ftn_tree.specs.Nesting.{Row, spelled, held, IsFile, Nested, Begins}
use Rattle.ftn_tree.specs.NestFaults.{is_body, titles, kind_in, IsUnfinished, IsNestFault}
use Rattle.unit_parse.specs.declared.level.Level.{Level}
use Rattle.unit_parse.specs.declared.frames.Frame.{Frame}
use Rattle.unit_parse.specs.steps.Following.{follow}
use Rattle.unit_parse.specs.Taking.{State, Outcome, Answer, start, allows, add, at_stage, placed, place, refused_kind, shut, ends_first, take, go_on, take_all, finished, finish_all, nest, is_too_deep, Finishes}
use Rattle.unit_parse.specs.Answers.{Gives}
use Rattle.unit_parse.specs.declared.fault.NestFault.{NestFault}
use Rattle.unit_parse.specs.declared.fault.NestFault.TheVariants as fault
use Rattle.unit_parse.proofs.Levels.{left, level_after}
use Rattle.unit_parse.proofs.Steps.{state}
use Rattle.unit_parse.proofs.Complete.{complete}
use Rattle.unit_parse.proofs.Built.{built}
use Rattle.unit_parse.proofs.Reached.{Reached, reached, reached_none, whole_order}
use Rattle.unit_parse.proofs.Closed.{begins}
use Rattle.unit_parse.proofs.Unended.{openings, path_openings}
use Rattle.unit_parse.proofs.LeftOpen.{leaves_open}

abbrev pub Units : Type 0
Units = Result (List UnitTree) (FaultKind × ℕ)

pub units_err : (one other : FaultKind × ℕ) → ◌≡◌ {A = Units} (Err one) (Err other) → one ≡ other
units_err one other e = cc e

pub units_ok : (one other : List UnitTree) → ◌≡◌ {A = Units} (Ok one) (Ok other) → one ≡ other
units_ok one other e = cc e

pub units_no_err : (one : List UnitTree) (other : FaultKind × ℕ) → ◌≡◌ {A = Units} (Ok one) (Err other) → ⊥
units_no_err one other e = cc e

pub ok_no_err : (one : State) (other : FaultKind × ℕ) → ◌≡◌ {A = Answer} (Ok one) (Err other) → ⊥
ok_no_err one other e = cc e

err_is : (one other : FaultKind × ℕ) → ◌≡◌ {A = Answer} (Err one) (Err other) → one ≡ other
err_is one other e = cc e

module _ (same : ℕ → ℕ → Bool) where
  -- ---- what nests is taken, and gives its units

  pub taken : (row : Row) → IsFile same row → take_all same start 0 (spelled row) ≡ Ok (state (level_after start.here 0 row) [])
  taken row is =
      ap (λ (l : List Mark). take_all same start 0 l) (sym (append-nil (spelled row)))
      ∙ complete same row start.here [] 0 [] refl is.nested is.order

  pub nested_only : (marks : List Mark) (units : List UnitTree) → Nested same marks units → nest same marks ≡ Ok units
  nested_only marks units is =
      ap (λ (l : List Mark). nest same l) (sym is.2)
      ∙ ap (λ (a : Answer). finish_all a) (taken is.0 is.1)
      ∙ ap (λ (l : List UnitTree). Ok l) ((built same is.0 [] start.here 0 is.1.nested refl).units ∙ is.3)

  -- ---- what is taken whole nests

  ended : (here : Level) (frames : List Frame) (units : List UnitTree) → finished here frames ≡ Ok units → frames ≡ []
  ended here [] units e = refl
  ended here (frame ∷ frames) units e = absurd (cc e)

  file : (marks : List Mark) (s : State) → Reached same marks s → s.frames ≡ [] → (row : Row) × IsFile same row × (spelled row ≡ marks)
  file marks s was e = on_frames s.here s.frames marks was e
    where
      on_frames : (here : Level) (frames : List Frame) (marks : List Mark) → Reached same marks (state here frames) → frames ≡ [] → (row : Row) × IsFile same row × (spelled row ≡ marks)
      on_frames here [] marks was e =
          (was.row, record { order = whole_order same [] was.row here was.level; nested = was.level.nested }, ap (λ (l : List Mark). l ++ spelled was.row) (sym was.below) ∙ sym was.whole)
      on_frames here (frame ∷ frames) marks was e = absurd (cc e)

  same_units : (marks : List Mark) (units : List UnitTree) → nest same marks ≡ Ok units → (row : Row) × IsFile same row × (spelled row ≡ marks) → Nested same marks units
  same_units marks units e found =
      let other : nest same marks ≡ Ok (held 0 found.0).units = nested_only marks (held 0 found.0).units (found.0, found.1, found.2, refl) in
      (found.0, found.1, found.2, cc (sym other ∙ e))

  on_answer : (marks : List Mark) (units : List UnitTree) (a : Answer) → take_all same start 0 marks ≡ a → finish_all a ≡ Ok units → (row : Row) × IsFile same row × (spelled row ≡ marks)
  on_answer marks units (Ok s) is e = file marks s (reached same marks [] start s 0 (reached_none same) is) (ended s.here s.frames units e)
  on_answer marks units (Err found) is e = absurd (cc e)

  pub nested_ok : (marks : List Mark) (units : List UnitTree) → nest same marks ≡ Ok units → Nested same marks units
  nested_ok marks units e = same_units marks units e (on_answer marks units (take_all same start 0 marks) refl e)

  -- ---- what is refused

  record Stopped (s : State) (n : ℕ) (marks : List Mark) (kind : FaultKind) (at : ℕ) : Type 0 where
    pub front : List Mark
    pub refused : Mark
    pub rest : List Mark
    pub last : State
    pub whole : marks ≡ front ++ refused ∷ rest
    pub place : at ≡ n + length front
    pub before : take_all same s n front ≡ Ok last
    pub stops : take same last at refused ≡ Err kind

  stopped_on : (s : State) (n : ℕ) (m : Mark) (rest : List Mark) (kind : FaultKind) (at : ℕ) (o : Outcome) → take same s n m ≡ o → go_on o n (λ s. take_all same s (n + 1) rest) ≡ Err (kind, at)
      → ((next : State) → take_all same next (n + 1) rest ≡ Err (kind, at) → Stopped next (n + 1) rest kind at)
      → Stopped s n (m ∷ rest) kind at
  stopped_on s n m rest kind at (Ok next) is e again =
      let more = again next e in
      let place : at ≡ n + 1 + length more.front = more.place in
      record {
        front = m ∷ more.front;
        refused = more.refused;
        rest = more.rest;
        last = more.last;
        whole = ap (λ (l : List Mark). m ∷ l) more.whole;
        place = omega arith;
        before = ap (λ (o : Outcome). go_on o n (λ s. take_all same s (n + 1) more.front)) is ∙ more.before;
        stops = more.stops;
      }
  stopped_on s n m rest kind at (Err other) is e again =
      let parts : (other, n) ≡ (kind, at) = err_is (other, n) (kind, at) e in
      record {
        front = [];
        refused = m;
        rest = rest;
        last = s;
        whole = refl;
        place = sym (ap (λ (p : FaultKind × ℕ). p.1) parts) ∙ omega arith;
        before = refl;
        stops = subst (λ (k : ℕ). take same s k m ≡ Err kind) (ap (λ (p : FaultKind × ℕ). p.1) parts) (is ∙ ap (λ (k : FaultKind). Err k) (ap (λ (p : FaultKind × ℕ). p.0) parts));
      }

  stopped : (marks : List Mark) (s : State) (n : ℕ) (kind : FaultKind) (at : ℕ) → take_all same s n marks ≡ Err (kind, at) → Stopped s n marks kind at
  stopped [] s n kind at e = absurd (cc e)
  stopped (m ∷ rest) s n kind at e = stopped_on s n m rest kind at (take same s n m) refl e (λ next is. stopped rest next (n + 1) kind at is)

  -- statements that were taken, and one that was refused, begin nothing
  pub goes_through : (front : List Mark) (s last : State) (n : ℕ) (rest : List Mark) → take_all same s n front ≡ Ok last → take_all same s n (front ++ rest) ≡ take_all same last (n + length front) rest
  goes_through [] s last n rest e = ap (λ (k : ℕ). take_all same s k rest) (omega arith) ∙ ap (λ (t : State). take_all same t (n + 0) rest) (cc e)
  goes_through (m ∷ front) s last n rest e = on (take same s n m) refl e (λ next is. goes_through front next last (n + 1) rest is)
    where
      on : (o : Outcome) → take same s n m ≡ o → go_on o n (λ s. take_all same s (n + 1) front) ≡ Ok last
          → ((next : State) → take_all same next (n + 1) front ≡ Ok last → take_all same next (n + 1) (front ++ rest) ≡ take_all same last (n + 1 + length front) rest)
          → take_all same s n (m ∷ (front ++ rest)) ≡ take_all same last (n + suc (length front)) rest
      on (Ok next) is e again =
          ap (λ (o : Outcome). go_on o n (λ s. take_all same s (n + 1) (front ++ rest))) is ∙ again next e ∙ ap (λ (k : ℕ). take_all same last k rest) (omega arith)
      on (Err kind) is e again = absurd (cc e)

  pub takes_none : (front : List Mark) (refused : Mark) (last : State) (at : ℕ) (kind : FaultKind) → at ≡ 0 + length front → take_all same start 0 front ≡ Ok last → take same last at refused ≡ Err kind
      → Begins same (front ++ refused ∷ []) → ⊥
  takes_none front refused last at kind place before stops is =
      ok_no_err (state (level_after start.here 0 is.0) []) (kind, 0 + length front)
      (sym (taken is.0 is.2)
      ∙ ap (λ (l : List Mark). take_all same start 0 l) (is.3 ∙ append_assoc front (refused ∷ []) is.1)
      ∙ goes_through front start last 0 (refused ∷ is.1) before
      ∙ ap (λ (o : Outcome). go_on o (0 + length front) (λ s. take_all same s (0 + length front + 1) is.1)) (subst (λ (k : ℕ). take same last k refused ≡ Err kind) place stops))

  -- ---- the kind of the fault

  chosen : (b : Bool) (x : State) (kind other : FaultKind) → (if b then Ok x else Err kind) ≡ Err other → kind ≡ other
  chosen true x kind other e = absurd (cc e)
  chosen false x kind other e = cc e

  placed_err : (s : State) (n : ℕ) (m : Mark) (f : Option ℕ) (kind : FaultKind) → placed same s n m f ≡ Err kind → refused_kind s m ≡ kind
  placed_err s n m None kind e = cc e
  placed_err s n m (Some stage) kind e = chosen (allows same s m) (add (at_stage s stage) n m) (refused_kind s m) kind e

  refused_as : (s : State) (n : ℕ) (m : Mark) (kind : FaultKind) → take same s n m ≡ Err kind → refused_kind s m ≡ kind
  refused_as s n mark.PlainEnd kind e = chosen (ends_first same s.here.region s.frames mark.PlainEnd) (shut s n) (refused_kind s mark.PlainEnd) kind e
  refused_as s n (mark.End by) kind e = chosen (ends_first same s.here.region s.frames (mark.End by)) (shut s n) (refused_kind s (mark.End by)) kind e
  refused_as s n m kind e = placed_err s n m (follow (left s.here) s.here.stage m) kind e

  pub kind_is : (front : List Mark) (last : State) (n : ℕ) (m : Mark) (kind : FaultKind) → take_all same start 0 front ≡ Ok last → take same last n m ≡ Err kind → kind ≡ kind_in (titles (openings last.frames)) m
  kind_is front last n m kind before stops =
      let was = reached same front [] start last 0 (reached_none same) before in
      sym (refused_as last n m kind stops)
      ∙ ap (λ (r : Region). if is_body r && not (is_implicit m || is_characteristic m) then OutOfProfile else (if is_too_deep last m then TooDeep else Misplaced)) was.level.region
      ∙ ap (λ (path : List Title). kind_in path m) (sym (path_openings last.frames))

  -- ---- the fault

  pub unfinished_at : (marks : List Mark) (kind : FaultKind) (at : ℕ) (here : Level) (frames : List Frame) → nest same marks ≡ Err (kind, at)
      → take_all same start 0 marks ≡ Ok (state here frames) → finished here frames ≡ Err (kind, at) → IsUnfinished same marks kind at
  unfinished_at marks kind at here [] fails is e = absurd (cc e)
  unfinished_at marks kind at here (frame ∷ frames) fails is e = record {
    begins = begins same marks (state here (frame ∷ frames)) (reached same marks [] start (state here (frame ∷ frames)) 0 (reached_none same) is);
    unfinished = λ units nested. units_no_err units (kind, at) (sym (nested_only marks units nested) ∙ fails);
    path = openings (frame ∷ frames);
    leaves = leaves_open same marks (state here (frame ∷ frames)) is;
    place = ap (λ (p : FaultKind × ℕ). Some p.1) (units_err (Misplaced, frame.opening) (kind, at) e);
    kind_is = ap (λ (p : FaultKind × ℕ). p.0) (sym (units_err (Misplaced, frame.opening) (kind, at) e));
  }

  fault_on : (marks : List Mark) (kind : FaultKind) (at : ℕ) (a : Answer) → nest same marks ≡ Err (kind, at) → take_all same start 0 marks ≡ a → finish_all a ≡ Err (kind, at) → IsNestFault same marks kind at
  fault_on marks kind at (Ok s) fails is e = inr (unfinished_at marks kind at s.here s.frames fails is e)
  fault_on marks kind at (Err found) fails is e =
      let one = stopped marks start 0 kind at (is ∙ ap (λ (p : FaultKind × ℕ). Err p) (units_err found (kind, at) e)) in
      inl (record {
        front = one.front;
        refused = one.refused;
        rest = one.rest;
        whole = one.whole;
        place = one.place ∙ omega arith;
        before = begins same one.front one.last (reached same one.front [] start one.last 0 (reached_none same) one.before);
        after = takes_none one.front one.refused one.last at kind one.place one.before one.stops;
        path = openings one.last.frames;
        leaves = leaves_open same one.front one.last one.before;
        kind_is = kind_is one.front one.last at one.refused kind one.before one.stops;
      })

  pub nest_fault : (marks : List Mark) (kind : FaultKind) (at : ℕ) → nest same marks ≡ Err (kind, at) → IsNestFault same marks kind at
  nest_fault marks kind at e = fault_on marks kind at (take_all same start 0 marks) e refl e

  -- ---- what the code answers

  pub given : (marks : List Mark) (result : Result (List UnitTree) NestFault) → Finishes (nest same marks) result → Gives same marks result
  given marks (Ok units) e = (nested_ok marks units e, λ others is. units_ok others units (sym (nested_only marks others is) ∙ e))
  given marks (Err (fault.At kind statement)) e = nest_fault marks kind statement e
  given marks (Err fault.NoMemory) e = tt
