-- CASE statements are read as they are written.
use Rattle.std.proofs.Common.{◌≡◌, refl, sym, ◌∙◌, ap, subst, ℕ, ◌+◌, Bool, true, false, not, ◌||◌, List, [], ◌∷◌, ◌++◌, length, drop, Option, Some, None, if◌then◌else◌, codes, append_assoc, arith, ◌⊎◌, inl, inr, add-zero}
use Rattle.std.proofs.lemmas.Grind.{common_steps}
use Rattle.std.proofs.lemmas.Option.{some_pair_parts}
use Rattle.std.proofs.lemmas.Bool.{not-true, not-false}
use Rattle.std.proofs.lemmas.List.{append-nil}
use Rattle.std.proofs.Math.Bool.{or-true}
use denote.Hole.Carrier
use Rattle.ftn_tree.specs.declared.token.Token.{Token}
use Rattle.ftn_tree.specs.declared.expr.Expr.{Expr}
use Rattle.ftn_tree.specs.declared.form.Form.{out-Form}
use Rattle.ftn_tree.specs.declared.form.Form.TheOpen.{Form-F}
use Rattle.ftn_tree.specs.declared.form.Form.TheVariants as form
use Rattle.ftn_tree.specs.declared.form.Form.TheViews.{roll-Form}
use Rattle.ftn_tree.specs.declared.lexeme.Lexeme.{Lexeme}
use Rattle.ftn_tree.specs.declared.lexeme.Lexeme.TheVariants as lexeme
use Rattle.ftn_tree.specs.declared.parts.CaseRange.{CaseRange}
use Rattle.ftn_tree.specs.declared.parts.CaseRange.TheVariants as range
use Rattle.ftn_tree.specs.Lexemes.{lexeme_of, same_lexeme}
use Rattle.ftn_tree.specs.Phrases.{Phrase, nothing, ◌·◌, word, word_at, mark, in_parens, commas}
use Rattle.ftn_tree.specs.Grammar.{expr}
use Rattle.ftn_tree.specs.ExecutableForms.{case_range, case_of, statement_at}
use Rattle.expr_parse.specs.steps.Input.{Input, input, Reader, Outcome, ◌>>=◌, ◌>>◌, pure, after, after_if, eat, sees, sees_word, expect_word, peek, first_lexeme}
use Rattle.expr_parse.specs.steps.Combinators.{◌<$>◌}
use Rattle.expr_parse.specs.steps.Reading.{expression}
use Rattle.expr_parse.proofs.Pieces.{Piece, Took, Apart, begins, begins_after, bind_some, bind_is, took_both}
use Rattle.expr_parse.proofs.AllKinds.{apart, within}
use Rattle.expr_parse.proofs.Tokens.{only, is_same, word_piece, word_made, word_back, parens}
use Rattle.expr_parse.proofs.Lists.{list, took_mark}
use Rattle.expr_parse.proofs.Operands.{starts, goes_on, ReadsExpressions, expression_piece}
use Rattle.exec_parse.specs.steps.Constructs as read
use Rattle.exec_parse.proofs.Wholes.{Sound, Reads, either_way, all_sound, all_complete, made_sound, made_complete, made_here, then_sound, then_complete, took_all}
use Rattle.exec_parse.proofs.Words.{starts_alone, sees_own, took_word, open_no_word}
use Rattle.expr_parse.proofs.Stops.{starts_no_colon}

-- ---- facts on kinds

-- a range ends with its statement's comma or parenthesis
abbrev pub range_more : Lexeme → Bool
range_more kind = not (only lexeme.Comma kind || only lexeme.Close kind)

abbrev pub range_first : Lexeme → Bool
range_first kind = only lexeme.Colon kind || starts kind

pub comma_range : Apart (only lexeme.Comma) range_more
unfolding same_lexeme
comma_range = apart (only lexeme.Comma) range_more refl

pub close_ranges : Apart (only lexeme.Close) (λ kind. range_more kind || only lexeme.Comma kind)
unfolding same_lexeme
close_ranges = apart (only lexeme.Close) (λ kind. range_more kind || only lexeme.Comma kind) refl

-- what ends a range
abbrev ends : Lexeme → Bool
ends kind = only lexeme.Comma kind || only lexeme.Close kind

ends_expression : Apart ends goes_on
unfolding same_lexeme
ends_expression = apart ends goes_on refl

ends_no_colon : Apart ends (only lexeme.Colon)
unfolding same_lexeme
ends_no_colon = apart ends (only lexeme.Colon) refl

colon_expression : Apart (only lexeme.Colon) goes_on
unfolding same_lexeme
colon_expression = apart (only lexeme.Colon) goes_on refl

ends_told : (kind : Lexeme) → ends kind ≡ true → read.ends_range (Some kind) ≡ true
unfolding same_lexeme
ends_told = within ends (λ kind. read.ends_range (Some kind)) refl

starts_told : (kind : Lexeme) → starts kind ≡ true → not (read.ends_range (Some kind)) ≡ true
starts_told = within starts (λ kind. not (read.ends_range (Some kind))) refl

-- ---- what follows a range

stops_expression : (rest : List Token) → begins range_more rest ≡ false → begins goes_on rest ≡ false
stops_expression [] e = refl
stops_expression (here ∷ rest) e = ends_expression (lexeme_of here) (not-false (ends (lexeme_of here)) e)

no_colon : (rest : List Token) → begins range_more rest ≡ false → begins (only lexeme.Colon) rest ≡ false
no_colon [] e = refl
no_colon (here ∷ rest) e = ends_no_colon (lexeme_of here) (not-false (ends (lexeme_of here)) e)

told_end : (rest : List Token) → begins range_more rest ≡ false → read.ends_range (first_lexeme rest) ≡ true
told_end [] e = refl
told_end (here ∷ rest) e = ends_told (lexeme_of here) (not-false (ends (lexeme_of here)) e)

begun_no_colon : (tokens rest : List Token) → begins starts tokens ≡ true → begins (only lexeme.Colon) (tokens ++ rest) ≡ false
begun_no_colon [] rest e = absurd (cc e)
begun_no_colon (here ∷ tokens) rest e = starts_no_colon (lexeme_of here) e

begun_no_end : (tokens rest : List Token) → begins starts tokens ≡ true → read.ends_range (first_lexeme (tokens ++ rest)) ≡ false
begun_no_end [] rest e = absurd (cc e)
begun_no_end (here ∷ tokens) rest e = not-true (read.ends_range (Some (lexeme_of here))) (starts_told (lexeme_of here) e)

one_colon : (here : Token) (tokens : List Token) → tokens ≡ here ∷ [] → lexeme_of here ≡ lexeme.Colon → begins (only lexeme.Colon) tokens ≡ true
one_colon here tokens is_one is = ap (begins (only lexeme.Colon)) is_one ∙ is_same (lexeme_of here) lexeme.Colon is

module _ (laws : ReadsExpressions) where
  abbrev value : Piece Expr
  value = expression_piece laws

  beginning : (e : Expr) (at : ℕ) (tokens : List Token) → expr e at tokens → begins starts tokens ≡ true
  beginning e at tokens says = strip (value.begun e at tokens says) where
    strip : (begins starts tokens ≡ true) ⊎ ((tokens ≡ []) × (false ≡ true)) → begins starts tokens ≡ true
    strip (inl e) = e
    strip (inr none) = absurd (cc none.1)

  -- ---- after `low :`

  abbrev by_end : Expr → Input → Bool → Outcome CaseRange
  by_end low i last = if last then Some (range.From low, i) else ((λ high. range.Between low high) <$> expression) i

  -- what stands before the range's end
  abbrev high_of : Expr → CaseRange → Phrase
  high_of low (range.From e) at tokens = (e ≡ low) × nothing at tokens
  high_of low (range.Between e high) at tokens = (e ≡ low) × expr high at tokens
  high_of low _ at tokens = ⊥

  from_sound : (low : Expr) (i : Input) (r : CaseRange) (j : Input) → read.range_from low i ≡ Some (r, j) → Took (high_of low r) i j
  unfolding read.range_from
  from_sound low i r j e = either_way (read.ends_range (peek i)) (by_end low i true) (by_end low i false) (Some (r, j)) e
      (λ last e.
      let same = some_pair_parts (range.From low) r i j e in
      subst (λ r. Took (high_of low r) i j) same.0 (subst (λ j. Took (high_of low (range.From low)) i j) same.1
      (record { tokens = []; rest = refl; at = sym (add-zero i.at); says = (refl, refl) })))
      (λ more e.
      let (high, k, found, gives) = bind_some (expression i) (λ high. pure (range.Between low high)) r j e in
      let same = some_pair_parts (range.Between low high) r k j gives in
      let took = laws.sound i high k found in
      subst (λ r. Took (high_of low r) i j) same.0 (subst (λ j. Took (high_of low (range.Between low high)) i j) same.1
      (record { tokens = took.tokens; rest = took.rest; at = took.at; says = (refl, took.says) })))

  from_alone : (low : Expr) (at : ℕ) (rest : List Token) → begins range_more rest ≡ false → read.range_from low (input at rest) ≡ Some (range.From low, input at rest)
  unfolding read.range_from peek
  from_alone low at rest stops = ap (by_end low (input at rest)) (told_end rest stops)

  from_high : (low high : Expr) (at : ℕ) (tokens rest : List Token) → expr high at tokens → begins range_more rest ≡ false
      → read.range_from low (input at (tokens ++ rest)) ≡ Some (range.Between low high, input (at + length tokens) rest)
  unfolding read.range_from peek
  from_high low high at tokens rest says stops =
      ap (by_end low (input at (tokens ++ rest))) (begun_no_end tokens rest (beginning high at tokens says))
      ∙ bind_is (expression (input at (tokens ++ rest))) (λ high. pure (range.Between low high)) high (input (at + length tokens) rest) (Some (range.Between low high, input (at + length tokens) rest))
      (laws.complete high at tokens rest says (stops_expression rest stops)) refl

  -- ---- a range

  abbrev after_low : Expr → Bool → Reader CaseRange
  after_low low wide = if wide then read.range_from low else pure (range.One low)

  abbrev low_first : Reader CaseRange
  low_first = expression >>= (λ low. eat lexeme.Colon >>= after_low low)

  abbrev by_colon : Bool → Reader CaseRange
  by_colon open_below = if open_below then ((λ high. range.To high) <$> expression) else low_first

  from_low : (low : Expr) (r : CaseRange) (at : ℕ) (tokens : List Token) → (expr low · mark lexeme.Colon · high_of low r) at tokens → case_range r at tokens
  from_low low (range.From e) at tokens (before, after, split, says, (middle, last, split_after, colon, (same, none))) = (
    before,
    after,
    split,
    subst (λ e. expr e at before) (sym same) says,
    subst (λ tokens. mark lexeme.Colon (at + length before) tokens) (sym (split_after ∙ ap (λ last. middle ++ last) none ∙ append-nil middle)) colon,
  )
  from_low low (range.Between e high) at tokens (before, after, split, says, (middle, last, split_after, colon, (same, says_high))) =
      (before, after, split, subst (λ e. expr e at before) (sym same) says, (middle, last, split_after, colon, says_high))
  from_low low _ at tokens (before, after, split, says, (middle, last, split_after, colon, none)) = absurd none

  wide_sound : (low : Expr) (i k j : Input) (r : CaseRange) → Took (expr low) i k → (eat lexeme.Colon >>= after_low low) k ≡ Some (r, j) → Took (case_range r) i j
  wide_sound low i k j r took_low e = by (sees lexeme.Colon k) refl where
    by : (wide : Bool) → sees lexeme.Colon k ≡ wide → Took (case_range r) i j
    by true there =
        let next = sym (ap (λ wide. after_low low wide (after_if wide k)) there) ∙ e in
        let took = took_both (expr low) (mark lexeme.Colon · high_of low r) i k j took_low (took_both (mark lexeme.Colon) (high_of low r) k (after k) j (took_mark lexeme.Colon k there) (from_sound low (after k) r j next)) in
        record { tokens = took.tokens; rest = took.rest; at = took.at; says = from_low low r i.at took.tokens took.says }
    by false there =
        let next = sym (ap (λ wide. after_low low wide (after_if wide k)) there) ∙ e in
        let same = some_pair_parts (range.One low) r k j next in
        subst (λ r. Took (case_range r) i j) same.0 (subst (λ j. Took (expr low) i j) same.1 took_low)

  to_sound : (i j : Input) (r : CaseRange) → sees lexeme.Colon i ≡ true → ((λ high. range.To high) <$> expression) (after i) ≡ Some (r, j) → Took (case_range r) i j
  to_sound i j r there e =
      let (high, k, found, gives) = bind_some (expression (after i)) (λ high. pure (range.To high)) r j e in
      let same = some_pair_parts (range.To high) r k j gives in
      let took = took_both (mark lexeme.Colon) (expr high) i (after i) k (took_mark lexeme.Colon i there) (laws.sound (after i) high k found) in
      subst (λ r. Took (case_range r) i j) same.0 (subst (λ j. Took (case_range (range.To high)) i j) same.1 took)

  pub range_sound : (i : Input) (r : CaseRange) (j : Input) → read.case_range i ≡ Some (r, j) → Took (case_range r) i j
  unfolding read.case_range
  range_sound i r j e = by (sees lexeme.Colon i) refl where
    by : (there : Bool) → sees lexeme.Colon i ≡ there → Took (case_range r) i j
    by true there = to_sound i j r there (sym (ap (λ there. by_colon there (after_if there i)) there) ∙ e)
    by false there =
        let (low, k, found, next) = bind_some (expression i) (λ low. eat lexeme.Colon >>= after_low low) r j (sym (ap (λ there. by_colon there (after_if there i)) there) ∙ e) in
        wide_sound low i k j r (laws.sound i low k found) next

  pub range_begun : (r : CaseRange) (at : ℕ) (tokens : List Token) → case_range r at tokens → (begins range_first tokens ≡ true) ⊎ ((tokens ≡ []) × (false ≡ true))
  range_begun r at tokens says = inl (by r says) where
    started : (tokens : List Token) → begins starts tokens ≡ true → begins range_first tokens ≡ true
    started [] e = absurd (cc e)
    started (here ∷ rest) e = ap (λ b. only lexeme.Colon (lexeme_of here) || b) e ∙ or-true (only lexeme.Colon (lexeme_of here))

    coloned : (tokens : List Token) → begins (only lexeme.Colon) tokens ≡ true → begins range_first tokens ≡ true
    coloned [] e = absurd (cc e)
    coloned (here ∷ rest) e = ap (λ b. b || starts (lexeme_of here)) e

    front : (before after : List Token) → tokens ≡ before ++ after → begins range_first before ≡ true → begins range_first tokens ≡ true
    front before after split e = ap (begins range_first) split ∙ begins_after range_first before after e

    by : (r : CaseRange) → case_range r at tokens → begins range_first tokens ≡ true
    by (range.One e) says = started tokens (beginning e at tokens says)
    by (range.From e) (before, after, split, says, colon) = front before after split (started before (beginning e at before says))
    by (range.To e) (before, after, split, (here, is_one, is), says) = front before after split (coloned before (one_colon here before is_one is))
    by (range.Between low high) (before, after, split, says, rest) = front before after split (started before (beginning low at before says))

  abbrev Gives : CaseRange → ℕ → List Token → List Token → Type 0
  Gives r at tokens rest = read.case_range (input at (tokens ++ rest)) ≡ Some (r, input (at + length tokens) rest)

  -- an expression is read first, where one comes first
  low_read : (low : Expr) (r : CaseRange) (at : ℕ) (before after : List Token) (gives : Outcome CaseRange) → expr low at before → begins goes_on after ≡ false
      → (eat lexeme.Colon >>= after_low low) (input (at + length before) after) ≡ gives → read.case_range (input at (before ++ after)) ≡ gives
  unfolding read.case_range sees
  low_read low r at before after gives says stops next =
      ap (λ there. by_colon there (after_if there (input at (before ++ after)))) (begun_no_colon before after (beginning low at before says))
      ∙ bind_is (expression (input at (before ++ after))) (λ low. eat lexeme.Colon >>= after_low low) low (input (at + length before) after) gives (laws.complete low at before after says stops) next

  one_read : (e : Expr) (at : ℕ) (tokens rest : List Token) → expr e at tokens → begins range_more rest ≡ false → Gives (range.One e) at tokens rest
  unfolding sees
  one_read e at tokens rest says stops = low_read e (range.One e) at tokens rest (Some (range.One e, input (at + length tokens) rest)) says (stops_expression rest stops)
      (ap (λ there. after_low e there (after_if there (input (at + length tokens) rest))) (no_colon rest stops))

  -- after an expression and a colon
  colon_read : (low : Expr) (here : Token) (at : ℕ) (rest : List Token) (gives : Outcome CaseRange) → lexeme_of here ≡ lexeme.Colon → read.range_from low (input (at + 1) rest) ≡ gives
      → (eat lexeme.Colon >>= after_low low) (input at (here ∷ rest)) ≡ gives
  unfolding sees
  colon_read low here at rest gives is next = ap (λ there. after_low low there (after_if there (input at (here ∷ rest)))) (is_same (lexeme_of here) lexeme.Colon is) ∙ next

  colon_stops : (here : Token) (rest : List Token) → lexeme_of here ≡ lexeme.Colon → begins goes_on (here ∷ rest) ≡ false
  colon_stops here rest is = colon_expression (lexeme_of here) (is_same (lexeme_of here) lexeme.Colon is)

  from_read : (low : Expr) (here : Token) (at : ℕ) (before rest : List Token) → expr low at before → lexeme_of here ≡ lexeme.Colon → begins range_more rest ≡ false
      → read.case_range (input at (before ++ here ∷ rest)) ≡ Some (range.From low, input (at + length before + 1) rest)
  from_read low here at before rest says is stops = low_read low (range.From low) at before (here ∷ rest) (Some (range.From low, input (at + length before + 1) rest)) says (colon_stops here rest is)
      (colon_read low here (at + length before) rest (Some (range.From low, input (at + length before + 1) rest)) is (from_alone low (at + length before + 1) rest stops))

  between_read : (low high : Expr) (here : Token) (at : ℕ) (before last rest : List Token) → expr low at before → lexeme_of here ≡ lexeme.Colon → expr high (at + length before + 1) last
      → begins range_more rest ≡ false → read.case_range (input at (before ++ here ∷ (last ++ rest))) ≡ Some (range.Between low high, input (at + length before + 1 + length last) rest)
  between_read low high here at before last rest says is says_high stops =
      low_read low (range.Between low high) at before (here ∷ (last ++ rest)) (Some (range.Between low high, input (at + length before + 1 + length last) rest)) says (colon_stops here (last ++ rest) is)
      (colon_read low here (at + length before) (last ++ rest) (Some (range.Between low high, input (at + length before + 1 + length last) rest)) is (from_high low high (at + length before + 1) last rest says_high stops))

  to_read : (high : Expr) (here : Token) (at : ℕ) (last rest : List Token) → lexeme_of here ≡ lexeme.Colon → expr high (at + 1) last → begins range_more rest ≡ false
      → read.case_range (input at (here ∷ (last ++ rest))) ≡ Some (range.To high, input (at + 1 + length last) rest)
  unfolding read.case_range sees
  to_read high here at last rest is says stops =
      ap (λ there. by_colon there (after_if there (input at (here ∷ (last ++ rest))))) (is_same (lexeme_of here) lexeme.Colon is)
      ∙ bind_is (expression (input (at + 1) (last ++ rest))) (λ high. pure (range.To high)) high (input (at + 1 + length last) rest) (Some (range.To high, input (at + 1 + length last) rest))
      (laws.complete high (at + 1) last rest says (stops_expression rest stops)) refl

  -- what was read of tokens that are put together so
  regroup : (r : CaseRange) (at place : ℕ) (tokens rest joined : List Token) → tokens ++ rest ≡ joined → place ≡ at + length tokens
      → read.case_range (input at joined) ≡ Some (r, input place rest) → Gives r at tokens rest
  regroup r at place tokens rest joined is place_is e =
      ap (λ joined. read.case_range (input at joined)) is ∙ e ∙ ap (λ place. Some (r, input place rest)) place_is

  length_of : (at : ℕ) (before : List Token) (here : Token) (last tokens : List Token) → tokens ≡ before ++ here ∷ last → at + length before + 1 + length last ≡ at + length tokens
  length_of at before here last tokens is = subst (λ tokens. at + length before + 1 + length last ≡ at + length tokens) (sym is) (plain at before here last) where
    plain : (at : ℕ) (before : List Token) (here : Token) (last : List Token) → at + length before + 1 + length last ≡ at + length (before ++ here ∷ last)
    plain at before here last = grind (arith, common_steps)

  pub range_complete : (r : CaseRange) (at : ℕ) (tokens rest : List Token) → case_range r at tokens → begins range_more rest ≡ false → Gives r at tokens rest
  range_complete (range.One e) at tokens rest says stops = one_read e at tokens rest says stops
  range_complete (range.From e) at tokens rest (before, after, split, says, (here, is_one, is)) stops =
      let whole = split ∙ ap (λ after. before ++ after) is_one in
      regroup (range.From e) at (at + length before + 1) tokens rest (before ++ here ∷ rest) (ap (λ tokens. tokens ++ rest) whole ∙ append_assoc before (here ∷ []) rest)
      (sym (add-zero (at + length before + 1)) ∙ length_of at before here [] tokens whole) (from_read e here at before rest says is stops)
  range_complete (range.To e) at tokens rest (before, after, split, (here, is_one, is), says) stops =
      let whole = split ∙ ap (λ before. before ++ after) is_one in
      regroup (range.To e) at (at + 1 + length after) tokens rest (here ∷ (after ++ rest)) (ap (λ tokens. tokens ++ rest) whole)
      (ap (λ place. place + 1 + length after) (sym (add-zero at)) ∙ length_of at [] here after tokens whole) (to_read e here at after rest is (subst (λ before. expr e (at + length before) after) is_one says) stops)
  range_complete (range.Between low high) at tokens rest (before, after, split, says, (middle, last, split_after, (here, is_one, is), says_high)) stops =
      let whole = split ∙ ap (λ after. before ++ after) (split_after ∙ ap (λ middle. middle ++ last) is_one) in
      regroup (range.Between low high) at (at + length before + 1 + length last) tokens rest (before ++ here ∷ (last ++ rest)) (ap (λ tokens. tokens ++ rest) whole ∙ append_assoc before (here ∷ last) rest)
      (length_of at before here last tokens whole)
      (between_read low high here at before last rest says is (subst (λ middle. expr high ((at + length before) + length middle) last) is_one says_high) stops)

  abbrev pub range_piece : Piece CaseRange
  range_piece = record {
    phrase = case_range;
    read = read.case_range;
    first = range_first;
    empty = false;
    more = range_more;
    begun = range_begun;
    sound = range_sound;
    complete = range_complete;
  }

  -- ---- DEFAULT or ranges

  abbrev pub ranges_piece : Piece (List CaseRange)
  ranges_piece = parens (list range_piece refl comma_range) close_ranges

  abbrev by_default : Input → Bool → Outcome (Option (List CaseRange))
  by_default i seen = if seen then Some (None, after i) else (Some <$> read.ranges) i

  ranges_sound : Sound (Some <$> read.ranges) case_of
  unfolding read.ranges
  ranges_sound = made_sound ranges_piece.read Some ranges_piece.phrase case_of (all_sound ranges_piece) (λ a at tokens says. says)

  selection_sound : Sound read.selection case_of
  unfolding read.selection
  selection_sound at tokens a j e end = either_way (sees_word (codes "default") (input at tokens)) (by_default (input at tokens) true) (by_default (input at tokens) false) (Some (a, j)) e
      (λ seen e.
      let same = some_pair_parts None a (after (input at tokens)) j e in
      subst (λ a. case_of a at tokens) same.0
      (took_all (word (codes "default")) at tokens (after (input at tokens)) (took_word (codes "default") (input at tokens) seen) (ap (λ i. i.rest) same.1 ∙ end)))
      (λ unseen e. ranges_sound at tokens a j e end)

  default_read : (at : ℕ) (tokens : List Token) → word (codes "default") at tokens → Reads read.selection None at tokens
  unfolding read.selection
  default_read at tokens says =
      let (here, is_one, is) = says in
      ap (by_default (input at tokens)) (sees_own (codes "default") at tokens (starts_alone (codes "default") at tokens says))
      ∙ ap (λ tokens. Some (None, input (at + 1) (drop 1 tokens))) is_one ∙ ap (λ tokens. Some (None, input (at + length tokens) [])) (sym is_one)

  ranges_read : (ranges : List CaseRange) (at : ℕ) (tokens : List Token) → in_parens (commas case_range ranges) at tokens → Reads read.selection (Some ranges) at tokens
  unfolding read.selection read.ranges
  ranges_read ranges at tokens says =
      ap (by_default (input at tokens)) (open_no_word (codes "default") (commas case_range ranges · mark lexeme.Close) at tokens says)
      ∙ made_complete ranges_piece.read Some ranges at tokens (all_complete ranges_piece ranges at tokens says)

  selection_complete : (a : Option (List CaseRange)) (at : ℕ) (tokens : List Token) → case_of a at tokens → Reads read.selection a at tokens
  selection_complete None at tokens says = default_read at tokens says
  selection_complete (Some ranges) at tokens says = ranges_read ranges at tokens says

  -- ---- CASE

  case_says : (a : Option (List CaseRange)) (n at : ℕ) (tokens : List Token) → (word_at n (codes "case") · case_of a) at tokens → statement_at (out-Form (form.Case a)) at tokens
  unfolding out-Form denote.Hole.Carrier.out
  case_says a n at tokens (before, later, split, says, says_a) = (before, later, split, word_made (codes "case") n at before says, says_a)

  pub case_sound : Sound read.case_form (λ f. statement_at (out-Form f))
  unfolding read.case_form
  case_sound at tokens f j e end =
      let (a, k, found, done, is) = made_here (expect_word (codes "case") >> read.selection) (λ found. form.Case found) at tokens f j e end in
      let (n, says) = then_sound (word_piece (codes "case")) (λ n. read.selection) (λ n a. case_of a) (λ n. selection_sound) at tokens a k found done in
      subst (λ f. statement_at (out-Form f) at tokens) is (case_says a n at tokens says)

  pub case_complete : (a : Option (List CaseRange)) (at : ℕ) (tokens : List Token) → statement_at (Form-F.Case a) at tokens → Reads read.case_form (roll-Form (Form-F.Case a)) at tokens
  unfolding read.case_form roll-Form denote.Hole.Carrier.roll
  case_complete a at tokens (before, later, split, says, says_a) =
      let (n, says_n) = word_back (codes "case") at before says in
      let both = then_complete (word_piece (codes "case")) (λ n. read.selection) n a at before later says_n (none_stops later) (selection_complete a (at + length before) later says_a) in
      made_complete (expect_word (codes "case") >> read.selection) (λ found. form.Case found) a at tokens (subst (λ tokens. Reads (expect_word (codes "case") >> read.selection) a at tokens) (sym split) both) where
        none_stops : (rest : List Token) → begins (word_piece (codes "case")).more rest ≡ false
        none_stops [] = refl
        none_stops (here ∷ rest) = refl
