-- The tokens of a file have one first fault, and no tree then.
use Rattle.std.proofs.Common.{◌≡◌, ◌⊎◌, ℕ, Bool, true, List, [], ◌∷◌, ◌++◌, length, slice_get, inl, inr, refl, sym, ◌∙◌, ap, subst, append_assoc, append-nil, true≢false}
use Rattle.std.proofs.lemmas.List.{map-append}
use Rattle.std.proofs.lemmas.Option.{same_Some}
use Rattle.ftn_base.specs.declared.fault.FaultKind.{FaultKind}
use Rattle.ftn_base.specs.declared.fault.FaultKind.TheVariants as kinds
use Rattle.ftn_base.specs.declared.place.Range.{Range}
use Rattle.ftn_tree.specs.declared.mark.Mark.{Mark}
use Rattle.ftn_tree.specs.declared.token.Tokens.{Tokens}
use Rattle.ftn_tree.specs.declared.unit.FileTree.{FileTree}
use Rattle.ftn_tree.specs.declared.unit.Statement.{Statement}
use Rattle.ftn_tree.specs.Marks.{mark_of}
use Rattle.ftn_tree.specs.Nesting.{Nested, Begins}
use Rattle.ftn_tree.specs.NestFaults.{marks_of, same_name, IsRefused, IsUnfinished}
use Rattle.ftn_tree.specs.FileFaults.{IsRead, AreRead, IsMisread, IsFileTree, IsStatementFault, IsEndFault, IsTreeFault, first_bytes}
use Rattle.unit_parse.proofs.Closed.{begins_less}
use Rattle.unit_parse.proofs.Exact.{one_fault}
use Rattle.unit_parse.proofs.NextStatement.{parted, first_read}
use Rattle.unit_parse.proofs.OneTree.{same_statement, same_read}

-- ---- two places in one list

-- they are the same, or one list goes on from the other place
compare : (before other : List Range) (here there : Range) (after behind : List Range) → before ++ here ∷ after ≡ other ++ there ∷ behind
    → ((before ≡ other) × (here ≡ there)) ⊎ (((more : List Range) × (other ≡ before ++ here ∷ more)) ⊎ ((more : List Range) × (before ≡ other ++ there ∷ more)))
compare [] [] here there after behind e = inl (refl, cc e)
compare [] (r ∷ other) here there after behind e = let same : r ≡ here = cc e in inr (inl (other, ap (λ (r : Range). r ∷ other) same))
compare (r ∷ before) [] here there after behind e = let same : r ≡ there = cc e in inr (inr (before, ap (λ (r : Range). r ∷ before) same))
compare (r ∷ before) (s ∷ other) here there after behind e = on (compare before other here there after behind (cc e))
  where
    same : r ≡ s
    same = cc e

    on : ((before ≡ other) × (here ≡ there)) ⊎ (((more : List Range) × (other ≡ before ++ here ∷ more)) ⊎ ((more : List Range) × (before ≡ other ++ there ∷ more)))
        → ((r ∷ before ≡ s ∷ other) × (here ≡ there)) ⊎ (((more : List Range) × (s ∷ other ≡ r ∷ (before ++ here ∷ more))) ⊎ ((more : List Range) × (r ∷ before ≡ s ∷ (other ++ there ∷ more))))
    on (inl is) = inl (ap (λ (r : Range). r ∷ before) same ∙ ap (λ (l : List Range). s ∷ l) is.0, is.1)
    on (inr (inl is)) = inr (inl (is.0, ap (λ (s : Range). s ∷ other) (sym same) ∙ ap (λ (l : List Range). r ∷ l) is.1))
    on (inr (inr is)) = inr (inr (is.0, ap (λ (r : Range). r ∷ before) same ∙ ap (λ (l : List Range). s ∷ l) is.1))

-- ---- what a fault forbids

refused_begins : (same : ℕ → ℕ → Bool) (marks : List Mark) (kind : FaultKind) (at : ℕ) → IsRefused same marks kind at → Begins same marks → ⊥
refused_begins same marks kind at is begins =
    is.after (begins_less same (is.front ++ is.refused ∷ []) is.rest
    (subst (λ (l : List Mark). Begins same l) (is.whole ∙ sym (append_assoc is.front (is.refused ∷ []) is.rest)) begins))

module _ (tokens : Tokens) where
  misread_read : (range : Range) (kind : FaultKind) → IsMisread tokens range kind → (statement : Statement) → IsRead tokens range statement → ⊥
  misread_read range kinds.TooDeep wrong statement read = read.shallow wrong
  misread_read range kinds.OutOfProfile wrong statement read = wrong.1 statement.form read.says
  misread_read range kinds.NotAStatement wrong statement read = wrong.1 statement.form read.says
  misread_read range other wrong statement read = absurd wrong

  same_misread : (range : Range) (kind other : FaultKind) → IsMisread tokens range kind → IsMisread tokens range other → kind ≡ other
  same_misread range kinds.TooDeep kinds.TooDeep one two = refl
  same_misread range kinds.TooDeep kinds.OutOfProfile one two = absurd (two.0 one)
  same_misread range kinds.TooDeep kinds.NotAStatement one two = absurd (two.0 one)
  same_misread range kinds.TooDeep other one two = absurd two
  same_misread range kinds.OutOfProfile kinds.TooDeep one two = absurd (one.0 two)
  same_misread range kinds.OutOfProfile kinds.OutOfProfile one two = refl
  same_misread range kinds.OutOfProfile kinds.NotAStatement one two = absurd (true≢false (sym one.2 ∙ two.2))
  same_misread range kinds.OutOfProfile other one two = absurd two
  same_misread range kinds.NotAStatement kinds.TooDeep one two = absurd (one.0 two)
  same_misread range kinds.NotAStatement kinds.OutOfProfile one two = absurd (true≢false (sym two.2 ∙ one.2))
  same_misread range kinds.NotAStatement kinds.NotAStatement one two = refl
  same_misread range kinds.NotAStatement other one two = absurd two
  same_misread range kind other one two = absurd one

  -- no statements that go on from there begin a file
  stuck : (kind : FaultKind) (bytes : Range) (f : IsStatementFault tokens kind bytes) (more : List Range) (statements : List Statement)
      → AreRead tokens (f.before ++ f.here ∷ more) statements → Begins (same_name tokens) (marks_of statements) → ⊥
  stuck kind bytes f more statements are begins = on f.fault
    where
      parts : (front : List Statement) × (rest : List Statement) × (statements ≡ front ++ rest) × AreRead tokens f.before front × AreRead tokens (f.here ∷ more) rest
      parts = parted tokens f.before statements (f.here ∷ more) are

      next : (statement : Statement) × (rest : List Statement) × (parts.1 ≡ statement ∷ rest) × IsRead tokens f.here statement
      next = first_read tokens f.here more parts.1 parts.4

      on : IsMisread tokens f.here kind
          ⊎ ((statement : Statement) × IsRead tokens f.here statement × IsRefused (same_name tokens) (marks_of (f.statements ++ statement ∷ [])) kind (length f.statements)) → ⊥
      on (inl wrong) = misread_read f.here kind wrong next.0 next.3
      on (inr (s, read, refused)) =
          let whole : statements ≡ (f.statements ++ s ∷ []) ++ next.1 =
          parts.2
          ∙ ap (λ (l : List Statement). l ++ parts.1) (same_read tokens f.before parts.0 f.statements parts.3 f.read)
          ∙ ap (λ (l : List Statement). f.statements ++ l) (next.2 ∙ ap (λ (s : Statement). s ∷ next.1) (same_statement tokens f.here next.0 s next.3 read))
          ∙ sym (append_assoc f.statements (s ∷ []) next.1) in
          let marks : marks_of statements ≡ marks_of (f.statements ++ s ∷ []) ++ marks_of next.1 =
          ap (λ (l : List Statement). marks_of l) whole ∙ map-append (λ (s : Statement). mark_of s.form) (f.statements ++ s ∷ []) next.1 in
          refused_begins (same_name tokens) (marks_of (f.statements ++ s ∷ [])) kind (length f.statements) refused
          (begins_less (same_name tokens) (marks_of (f.statements ++ s ∷ [])) (marks_of next.1) (subst (λ (l : List Mark). Begins (same_name tokens) l) marks begins))

  -- ---- two faults

  abbrev Wrong : Range → List Statement → FaultKind → Type 0
  Wrong range statements kind = IsMisread tokens range kind
      ⊎ ((statement : Statement) × IsRead tokens range statement × IsRefused (same_name tokens) (marks_of (statements ++ statement ∷ [])) kind (length statements))

  same_wrong : (range : Range) (statements : List Statement) (kind other : FaultKind) → Wrong range statements kind → Wrong range statements other → kind ≡ other
  same_wrong range statements kind other (inl wrong) (inl bad) = same_misread range kind other wrong bad
  same_wrong range statements kind other (inl wrong) (inr (t, was, stops)) = absurd (misread_read range kind wrong t was)
  same_wrong range statements kind other (inr (s, read, refused)) (inl bad) = absurd (misread_read range other bad s read)
  same_wrong range statements kind other (inr (s, read, refused)) (inr (t, was, stops)) =
      let again = subst (λ (s : Statement). IsRefused (same_name tokens) (marks_of (statements ++ s ∷ [])) kind (length statements)) (same_statement tokens range s t read was) refused in
      (one_fault (same_name tokens) (marks_of (statements ++ t ∷ [])) kind other (length statements) (length statements) (inl again) (inl stops)).0

  one_stop : (kind other : FaultKind) (bytes place : Range) → IsStatementFault tokens kind bytes → IsStatementFault tokens other place → (kind ≡ other) × (bytes ≡ place)
  one_stop kind other bytes place f g = on (compare f.before g.before f.here g.here f.after g.after (sym f.whole ∙ g.whole))
    where
      on : ((f.before ≡ g.before) × (f.here ≡ g.here)) ⊎ (((more : List Range) × (g.before ≡ f.before ++ f.here ∷ more)) ⊎ ((more : List Range) × (f.before ≡ g.before ++ g.here ∷ more)))
          → (kind ≡ other) × (bytes ≡ place)
      on (inl (before, here)) =
          let statements = same_read tokens g.before f.statements g.statements (subst (λ (l : List Range). AreRead tokens l f.statements) before f.read) g.read in
          let wrong : Wrong g.here g.statements kind =
          subst (λ (l : List Statement). Wrong g.here l kind) statements (subst (λ (r : Range). Wrong r f.statements kind) here f.fault) in
          (same_wrong g.here g.statements kind other wrong g.fault, f.place ∙ ap (λ (r : Range). first_bytes tokens r) here ∙ sym g.place)
      on (inr (inl (more, e))) = absurd (stuck kind bytes f more g.statements (subst (λ (l : List Range). AreRead tokens l g.statements) e g.read) g.begins)
      on (inr (inr (more, e))) = absurd (stuck other place g more f.statements (subst (λ (l : List Range). AreRead tokens l f.statements) e f.read) f.begins)

  one_end : (kind other : FaultKind) (bytes place : Range) → IsEndFault tokens kind bytes → IsEndFault tokens other place → (kind ≡ other) × (bytes ≡ place)
  one_end kind other bytes place f g =
      let statements = same_read tokens tokens.statements f.statements g.statements f.read g.read in
      let unfinished = subst (λ (l : List Statement). IsUnfinished (same_name tokens) (marks_of l) kind f.at) statements f.unfinished in
      let same = one_fault (same_name tokens) (marks_of g.statements) kind other f.at g.at (inr unfinished) (inr g.unfinished) in
      let opening = same_Some f.opening g.opening
      (sym f.opened ∙ ap (λ (l : List Statement). slice_get l f.at) statements ∙ ap (λ (k : ℕ). slice_get g.statements k) same.1 ∙ g.opened) in
      (same.0, f.place ∙ ap (λ (s : Statement). first_bytes tokens s.tokens) opening ∙ sym g.place)

  stop_no_end : (kind other : FaultKind) (bytes place : Range) → IsStatementFault tokens kind bytes → IsEndFault tokens other place → ⊥
  stop_no_end kind other bytes place f g = stuck kind bytes f f.after g.statements (subst (λ (l : List Range). AreRead tokens l g.statements) f.whole g.read) g.unfinished.begins

  pub one_tree_fault : (kind other : FaultKind) (bytes place : Range) → IsTreeFault tokens kind bytes → IsTreeFault tokens other place → (kind ≡ other) × (bytes ≡ place)
  one_tree_fault kind other bytes place (inl f) (inl g) = one_stop kind other bytes place f g
  one_tree_fault kind other bytes place (inl f) (inr g) = absurd (stop_no_end kind other bytes place f g)
  one_tree_fault kind other bytes place (inr f) (inl g) = absurd (stop_no_end other kind place bytes g f)
  one_tree_fault kind other bytes place (inr f) (inr g) = one_end kind other bytes place f g

  pub tree_no_fault : (tree : FileTree) (kind : FaultKind) (bytes : Range) → IsFileTree tokens tree → IsTreeFault tokens kind bytes → ⊥
  tree_no_fault tree kind bytes is (inl f) =
      stuck kind bytes f f.after tree.statements (subst (λ (l : List Range). AreRead tokens l tree.statements) f.whole is.read)
      (is.nested.0, [], is.nested.1, is.nested.2 ∙ sym (append-nil (marks_of tree.statements)))
  tree_no_fault tree kind bytes is (inr f) =
      let statements = same_read tokens tokens.statements tree.statements f.statements is.read f.read in
      f.unfinished.unfinished tree.units (subst (λ (l : List Statement). Nested (same_name tokens) (marks_of l) tree.units) statements is.nested)
