-- What the statements taken so far are: rows, of which all but the innermost go on with an opening.
use Rattle.std.proofs.Common.{◌≡◌, ℕ, ◌+◌, Bool, true, false, not, ◌&&◌, nat_le, if◌then◌else◌, List, [], ◌∷◌, ◌++◌, drop, Option, Some, None, option_map, Ok, Err, refl, sym, ◌∙◌, ap, subst, append_assoc, append-nil, suc, arith}
use Rattle.std.proofs.lemmas.Bool.Decides.{nat_tests}
use Rattle.ftn_base.specs.Limits.{most_constructs}
use Rattle.ftn_base.specs.declared.fault.FaultKind.{FaultKind}
use Rattle.ftn_tree.specs.declared.mark.Mark.{Mark}
use Rattle.ftn_tree.specs.declared.mark.Mark.TheVariants as mark
use Rattle.ftn_tree.specs.declared.mark.Region.{Region}
use Rattle.ftn_tree.specs.declared.mark.Section.{Section}
use Rattle.ftn_tree.specs.declared.mark.Title.{Title}
use Rattle.ftn_tree.specs.Marks.{is_construct}
use Rattle.ftn_tree.specs.Regions.{region_of, depth, ends, in_order, opened, sections_in}
use Rattle.ftn_tree.specs.Nesting.{Row, none, stands, nest, spelled, heads, IsNested, may_stand}
use Rattle.unit_parse.specs.declared.level.Level.{Level}
use Rattle.unit_parse.specs.declared.frames.Frame.{Frame}
use Rattle.unit_parse.specs.steps.Following.{follow}
use Rattle.unit_parse.specs.Levels.{add_statement, add_nest}
use Rattle.unit_parse.specs.Taking.{State, Outcome, start, path_of, allows, add, at_stage, placed, place, refused_kind, shut, close, take, go_on, take_all}
use Rattle.unit_parse.proofs.Orders.{continues, order_step, order_none, followed}
use Rattle.unit_parse.proofs.Levels.{left, statement_region, statement_stage, nest_region, nest_stage}
use Rattle.unit_parse.proofs.Steps.{state}
use Rattle.unit_parse.proofs.Complete.{left_same}
use Rattle.unit_parse.proofs.Rows.{joined, spelled_joined, heads_joined, nested_joined}

module _ (same : ℕ → ℕ → Bool) where
  -- the row nests, and what may follow it and the statements after it is what the level has left
  pub record IsLevel (path : List Title) (row : Row) (next : List Mark) (level : Level) : Type 0 where
    pub region : level.region ≡ region_of path
    pub nested : IsNested same path row
    pub order : (marks : List Mark) → in_order (sections_in level.region) (heads row ++ (next ++ marks)) ≡ in_order (left level) marks

  -- the statements before the innermost row are the rows around it, each with its opening
  abbrev pub Below : List Mark → List Frame → Type 0
  Below front [] = front ≡ []
  Below front (frame ∷ frames) =
      (nat_le (depth (frame.what ∷ path_of frames)) most_constructs ≡ true)
      × ((before : List Mark) × (outer : Row) × (front ≡ before ++ (spelled outer ++ mark.Open frame.what ∷ []))
      × IsLevel (path_of frames) outer (mark.Open frame.what ∷ []) frame.outside × Below before frames)

  pub record Reached (marks : List Mark) (s : State) : Type 0 where
    pub front : List Mark
    pub row : Row
    pub whole : marks ≡ front ++ spelled row
    pub level : IsLevel (path_of s.frames) row [] s.here
    pub below : Below front s.frames

  pub reached_none : Reached [] start
  reached_none = record { front = []; row = none; whole = refl; level = record { region = refl; nested = tt; order = λ marks. refl }; below = refl }

  -- ---- what was taken had a section and was allowed

  chosen : (b : Bool) (x : State) (kind : FaultKind) (y : State) → (if b then Ok x else Err kind) ≡ Ok y → (b ≡ true) × (x ≡ y)
  chosen true x kind y e = (refl, cc e)
  chosen false x kind y e = absurd (cc e)

  record WasPlaced (s : State) (n : ℕ) (m : Mark) (f : Option ℕ) (next : State) : Type 0 where
    pub stage : ℕ
    pub found : f ≡ Some stage
    pub allowed : allows same s m ≡ true
    pub made : add (at_stage s stage) n m ≡ next

  was_placed : (s : State) (n : ℕ) (m : Mark) (f : Option ℕ) (next : State) → placed same s n m f ≡ Ok next → WasPlaced s n m f next
  was_placed s n m None next e = absurd (cc e)
  was_placed s n m (Some stage) next e =
      let both = chosen (allows same s m) (add (at_stage s stage) n m) (refused_kind s m) next e in
      record { stage = stage; found = refl; allowed = both.0; made = both.1 }

  order_next : (level : Level) (m : Mark) (k : ℕ) (marks : List Mark) → follow (left level) level.stage m ≡ Some k
      → in_order (left level) (m ∷ marks) ≡ in_order (drop k (sections_in level.region)) marks
  order_next level m k marks e =
      order_step (left level) m marks
      ∙ ap (λ (o : Option (List Section)). continues o marks) (followed (sections_in level.region) (left level) level.stage m refl ∙ ap (λ (f : Option ℕ). option_map (λ j. drop j (sections_in level.region)) f) e)

  -- ---- a statement by itself

  level_more : (path : List Title) (row : Row) (level next : Level) (m : Mark) (k : ℕ) → IsLevel path row [] level → follow (left level) level.stage m ≡ Some k
      → may_stand same path m ≡ true → next.region ≡ level.region → next.stage ≡ k → IsLevel path (joined row (stands m none)) [] next
  level_more path row level next m k is found may r s = record {
    region = r ∙ is.region;
    nested = nested_joined same path row (stands m none) is.nested (may, tt);
    order = λ marks.
        ap (λ (r : Region). in_order (sections_in r) (heads (joined row (stands m none)) ++ marks)) r
        ∙ ap (λ (h : List Mark). in_order (sections_in level.region) (h ++ marks)) (heads_joined row (stands m none))
        ∙ ap (λ (h : List Mark). in_order (sections_in level.region) h) (append_assoc (heads row) (m ∷ []) marks)
        ∙ is.order (m ∷ marks)
        ∙ order_next level m k marks found
        ∙ ap (λ (j : ℕ). in_order (drop j (sections_in level.region)) marks) (sym s)
        ∙ ap (λ (r : Region). in_order (drop next.stage (sections_in r)) marks) (sym r);
  }

  stood : (marks : List Mark) (s next : State) (n : ℕ) (m : Mark) → Reached marks s → place same s n m ≡ Ok next
      → (allows same s m ≡ true → may_stand same (path_of s.frames) m ≡ true)
      → ((t : State) → add t n m ≡ state (add_statement t.here n m) t.frames)
      → Reached (marks ++ m ∷ []) next
  stood marks s next n m was e may adds =
      let one = was_placed s n m (follow (left s.here) s.here.stage m) next e in
      let at = record s.here { stage = one.stage } in
      subst (λ (t : State). Reached (marks ++ m ∷ []) t) (sym (adds (at_stage s one.stage)) ∙ one.made) (record {
        front = was.front;
        row = joined was.row (stands m none);
        whole = ap (λ (l : List Mark). l ++ m ∷ []) was.whole ∙ append_assoc was.front (spelled was.row) (m ∷ []) ∙ ap (λ (l : List Mark). was.front ++ l) (sym (spelled_joined was.row (stands m none)));
        level = level_more (path_of s.frames) was.row s.here (add_statement at n m) m one.stage was.level one.found (may one.allowed) (statement_region at n m) (statement_stage at n m);
        below = was.below;
      })

  -- ---- an opening

  fits_depth : (b : Bool) (d : ℕ) → not (b && nat_le most_constructs d) ≡ true → nat_le (if b then suc d else 0) most_constructs ≡ true
  fits_depth true d e = grind (arith, nat_tests)
  fits_depth false d e = refl

  opens_next : (marks : List Mark) (s next : State) (n : ℕ) (what : Title) → Reached marks s → place same s n (mark.Open what) ≡ Ok next → Reached (marks ++ mark.Open what ∷ []) next
  opens_next marks s next n what was e =
      let one = was_placed s n (mark.Open what) (follow (left s.here) s.here.stage (mark.Open what)) next e in
      subst (λ (t : State). Reached (marks ++ mark.Open what ∷ []) t) one.made (record {
        front = was.front ++ (spelled was.row ++ mark.Open what ∷ []);
        row = none;
        whole = ap (λ (l : List Mark). l ++ mark.Open what ∷ []) was.whole ∙ append_assoc was.front (spelled was.row) (mark.Open what ∷ [])
            ∙ sym (append-nil (was.front ++ (spelled was.row ++ mark.Open what ∷ [])));
        level = record { region = ap (λ (r : Region). opened r what) was.level.region; nested = tt; order = λ more. refl };
        below = (
          fits_depth (is_construct what.word) (depth (path_of s.frames)) one.allowed,
          (
            was.front,
            was.row,
            refl,
            record {
              region = was.level.region;
              nested = was.level.nested;
              order = λ more. was.level.order (mark.Open what ∷ more) ∙ order_next s.here (mark.Open what) one.stage more one.found;
            },
            was.below,
          ),
        );
      })

  -- ---- an ending

  pub closes : (before : List Mark) (outer row : Row) (what : Title) (m : Mark) → ((before ++ (spelled outer ++ mark.Open what ∷ [])) ++ spelled row) ++ m ∷ [] ≡ before ++ spelled (joined outer (nest what row m none))
  closes before outer row what m =
      append_assoc (before ++ (spelled outer ++ mark.Open what ∷ [])) (spelled row) (m ∷ [])
      ∙ append_assoc before (spelled outer ++ mark.Open what ∷ []) (spelled row ++ m ∷ [])
      ∙ ap (λ (l : List Mark). before ++ l) (append_assoc (spelled outer) (mark.Open what ∷ []) (spelled row ++ m ∷ []) ∙ sym (spelled_joined outer (nest what row m none)))

  pub whole_order : (path : List Title) (row : Row) (level : Level) → IsLevel path row [] level → in_order (sections_in (region_of path)) (heads row) ≡ true
  whole_order path row level is =
      ap (λ (r : Region). in_order (sections_in r) (heads row)) (sym is.region)
      ∙ ap (λ (h : List Mark). in_order (sections_in level.region) h) (sym (append-nil (heads row)))
      ∙ is.order [] ∙ order_none (left level)

  pub level_closed : (path : List Title) (what : Title) (row outer : Row) (here outside next : Level) (m : Mark)
      → IsLevel (what ∷ path) row [] here → IsLevel path outer (mark.Open what ∷ []) outside → nat_le (depth (what ∷ path)) most_constructs ≡ true
      → ends same (region_of (what ∷ path)) what m ≡ true → next.region ≡ outside.region → next.stage ≡ outside.stage
      → IsLevel path (joined outer (nest what row m none)) [] next
  level_closed path what row outer here outside next m is around deep end r s = record {
    region = r ∙ around.region;
    nested = nested_joined same path outer (nest what row m none) around.nested (deep, whole_order (what ∷ path) row here is, is.nested, end, tt);
    order = λ marks.
        ap (λ (r : Region). in_order (sections_in r) (heads (joined outer (nest what row m none)) ++ marks)) r
        ∙ ap (λ (h : List Mark). in_order (sections_in outside.region) (h ++ marks)) (heads_joined outer (nest what row m none))
        ∙ ap (λ (h : List Mark). in_order (sections_in outside.region) h) (append_assoc (heads outer) (mark.Open what ∷ []) marks)
        ∙ around.order marks
        ∙ ap (λ (l : List Section). in_order l marks) (sym (left_same next outside r s));
  }

  closed_next : (marks : List Mark) (here : Level) (frames : List Frame) (next : State) (n : ℕ) (m : Mark) → Reached marks (state here frames) → close same (state here frames) n m ≡ Ok next
      → Reached (marks ++ m ∷ []) next
  closed_next marks here [] next n m was e = absurd (cc e)
  closed_next marks here (frame ∷ frames) next n m was e =
      let both = chosen (ends same here.region frame.what m) (shut (state here (frame ∷ frames)) n) (refused_kind (state here (frame ∷ frames)) m) next e in
      let inner = was.below.1 in
      subst (λ (t : State). Reached (marks ++ m ∷ []) t) both.1 (record {
        front = inner.0;
        row = joined inner.1 (nest frame.what was.row m none);
        whole = ap (λ (l : List Mark). l ++ m ∷ []) (was.whole ∙ ap (λ (l : List Mark). l ++ spelled was.row) inner.2) ∙ closes inner.0 inner.1 was.row frame.what m;
        level = level_closed (path_of frames) frame.what was.row inner.1 here frame.outside (add_nest frame.outside frame.opening frame.what here n) m was.level inner.3 was.below.0
            (ap (λ (r : Region). ends same r frame.what m) (sym was.level.region) ∙ both.0)
            (nest_region frame.outside frame.opening frame.what here n) (nest_stage frame.outside frame.opening frame.what here n);
        below = inner.4;
      })

  -- ---- all statements

  reached_next : (marks : List Mark) (s next : State) (n : ℕ) (m : Mark) → Reached marks s → take same s n m ≡ Ok next → Reached (marks ++ m ∷ []) next
  reached_next marks s next n (mark.Open what) was e = opens_next marks s next n what was e
  reached_next marks s next n mark.PlainEnd was e = closed_next marks s.here s.frames next n mark.PlainEnd was e
  reached_next marks s next n (mark.End by) was e = closed_next marks s.here s.frames next n (mark.End by) was e
  reached_next marks s next n m was e = stood marks s next n m was e (λ a. a) (λ t. refl)

  reached_on : (marks : List Mark) (s last : State) (n : ℕ) (m : Mark) (rest : List Mark) (o : Outcome) → take same s n m ≡ o → Reached marks s
      → go_on o n (λ s. take_all same s (n + 1) rest) ≡ Ok last
      → ((next : State) → Reached (marks ++ m ∷ []) next → take_all same next (n + 1) rest ≡ Ok last → Reached ((marks ++ m ∷ []) ++ rest) last)
      → Reached (marks ++ m ∷ rest) last
  reached_on marks s last n m rest (Ok next) is was e again =
      subst (λ (l : List Mark). Reached l last) (append_assoc marks (m ∷ []) rest) (again next (reached_next marks s next n m was is) e)
  reached_on marks s last n m rest (Err kind) is was e again = absurd (cc e)

  pub reached : (rest marks : List Mark) (s last : State) (n : ℕ) → Reached marks s → take_all same s n rest ≡ Ok last → Reached (marks ++ rest) last
  reached [] marks s last n was e = rw (append-nil marks) (subst (λ (t : State). Reached marks t) (cc e) was)
  reached (m ∷ rest) marks s last n was e =
      reached_on marks s last n m rest (take same s n m) refl was e (λ next more is. reached rest (marks ++ m ∷ []) next last (n + 1) more is)
