-- Statements of IF constructs and IF statements are read as they are written.
use Rattle.std.proofs.Common.{◌≡◌, refl, sym, ◌∙◌, ap, subst, arith, ℕ, ◌+◌, ◌≤◌, Bool, true, false, not, ◌&&◌, nat_eq, List, [], ◌∷◌, ◌++◌, length, drop, Some, if◌then◌else◌, codes, ◌⊎◌, inl, inr}
use Rattle.std.proofs.lemmas.Grind.{common_steps}
use Rattle.std.proofs.lemmas.Bool.{and_parts, and_right, not-true, ne_eqb}
use Rattle.std.specs.Str.{bytes_eq}
use denote.Hole.Carrier
use Rattle.ftn_tree.specs.declared.token.Token.{Token}
use Rattle.ftn_tree.specs.declared.expr.Expr.{Expr}
use Rattle.ftn_tree.specs.declared.form.Form.{Form, out-Form}
use Rattle.ftn_tree.specs.declared.form.Form.TheOpen.{Form-F}
use Rattle.ftn_tree.specs.declared.form.Form.TheVariants as form
use Rattle.ftn_tree.specs.declared.form.Form.TheViews.{roll-Form, roll-out-Form, outs-If}
use Rattle.ftn_tree.specs.declared.lexeme.Lexeme.{Lexeme}
use Rattle.ftn_tree.specs.declared.lexeme.Lexeme.TheVariants as lexeme
use Rattle.ftn_tree.specs.Layers.{FormLayer}
use Rattle.ftn_tree.specs.Phrases.{Phrase, ◌·◌, word}
use Rattle.ftn_tree.specs.Misfits.{is_name}
use Rattle.ftn_tree.specs.Assignments.{IsAssignment, is_assignment}
use Rattle.ftn_tree.proofs.AssignmentLaws.{told_assignment}
use Rattle.ftn_tree.specs.ExecutableForms.{inner_at, inner_from, condition, statement_at}
use Rattle.ftn_tree.proofs.PhraseLaws.{to_right, to_left}
use Rattle.expr_parse.specs.steps.Input as reading
use Rattle.expr_parse.specs.steps.Input.{Outcome, ◌>>=◌, ◌>>◌, sees_word, expect_word}
use Rattle.expr_parse.specs.steps.Combinators.{◌<$>◌}
use Rattle.expr_parse.proofs.Pieces.{Piece, Apart, begins, seq}
use Rattle.expr_parse.proofs.Tokens.{only, none_of, apart_none, word_piece, word_made, word_back, after_word}
use Rattle.expr_parse.proofs.Operands.{ReadsExpressions, ReadsReferences}
use Rattle.exec_parse.specs.steps.Lists as lists
use Rattle.exec_parse.specs.steps.Actions as actions
use Rattle.exec_parse.specs.steps.Constructs as read
use Rattle.exec_parse.proofs.Wholes.{Sound, Reads, either_way, all_sound, all_complete, made_sound, made_complete, made_here, then_sound, then_complete}
use Rattle.exec_parse.proofs.Words.{starts_alone, sees_own, sees_other, before_word, joined_piece}
use Rattle.exec_parse.proofs.ListPieces.{condition_piece}
use Rattle.exec_parse.proofs.InnerLaws.{Begins, action_begins, construct_words, differs, inner_sound, inner_complete}

pub stops_never : (more : Lexeme → Bool) → ((kind : Lexeme) → more kind ≡ false) → (rest : List Token) → begins more rest ≡ false
stops_never more never [] = refl
stops_never more never (here ∷ rest) = never _

-- ---- THEN, or a statement

abbrev pub rest_at : Expr → FormLayer → Phrase
rest_at e (Form-F.IfThen c) at tokens = (c ≡ e) × word (codes "then") at tokens
rest_at e (Form-F.If c number inner) at tokens = (c ≡ e) × inner_from number inner at tokens
rest_at e _ at tokens = ⊥

then_says : (e : Expr) (at : ℕ) (tokens : List Token) → word (codes "then") at tokens → rest_at e (out-Form (form.IfThen e)) at tokens
unfolding out-Form denote.Hole.Carrier.out
then_says e at tokens says = (refl, says)

if_says : (e : Expr) (inner : Form) (at : ℕ) (tokens : List Token) → inner_at (out-Form inner) at tokens → rest_at e (out-Form (form.If e at inner)) at tokens
if_says e inner at tokens says = subst (λ layer. rest_at e layer at tokens) (sym (outs-If e at inner)) (refl, (refl, says))

joined : (e : Expr) (layer : FormLayer) (at : ℕ) (tokens : List Token) → (word (codes "if") · condition e · rest_at e layer) at tokens → statement_at layer at tokens
joined e (Form-F.IfThen c) at tokens (before, after, split, says, (middle, last, split_after, says_e, (same, says_then))) =
    (before, after, split, says, (middle, last, split_after, subst (λ e. condition e (at + length before) middle) (sym same) says_e, says_then))
joined e (Form-F.If c number inner) at tokens (before, after, split, says, (middle, last, split_after, says_e, (same, says_inner))) =
    (before, after, split, says, (middle, last, split_after, subst (λ e. condition e (at + length before) middle) (sym same) says_e, says_inner))
joined e _ at tokens (before, after, split, says, (middle, last, split_after, says_e, none)) = absurd none

-- one word alone is no assignment
then_is_none : (here : Token) → is_assignment (here ∷ []) ≡ false
unfolding is_assignment
then_is_none here = and_right (is_name here) false refl

sees_then_alone : (at : ℕ) (tokens : List Token) → word (codes "then") at tokens → read.sees_then (reading.input at tokens) ≡ true
unfolding read.sees_then
sees_then_alone at tokens says =
    let (here, is_one, is) = says in
    ap (λ is. not is && sees_word (codes "then") (reading.input at tokens)) (ap is_assignment is_one ∙ then_is_none here) ∙ sees_own (codes "then") at tokens (starts_alone (codes "then") at tokens says)

no_then_before : (at : ℕ) (tokens : List Token) → IsAssignment tokens → read.sees_then (reading.input at tokens) ≡ false
unfolding read.sees_then
no_then_before at tokens is = ap (λ is. not is && sees_word (codes "then") (reading.input at tokens)) (told_assignment tokens is)

own_word : (text other : List ℕ) (others : List (List ℕ)) → differs text (other ∷ others) ≡ true → bytes_eq text other ≡ false
own_word text other others e = not-true (bytes_eq text other) (and_parts (not (bytes_eq text other)) (differs text others) e).0

no_then_action : (at : ℕ) (tokens : List Token) → Begins at tokens → read.sees_then (reading.input at tokens) ≡ false
unfolding read.sees_then
no_then_action at tokens begun =
    and_right (not (is_assignment tokens)) (sees_word (codes "then") (reading.input at tokens))
    (sees_other begun.text (codes "then") at tokens begun.starts (own_word begun.text (codes "then") (drop 1 construct_words) begun.own))

no_then : (layer : FormLayer) (at : ℕ) (tokens : List Token) → inner_at layer at tokens → read.sees_then (reading.input at tokens) ≡ false
no_then (Form-F.Assign target value) at tokens (is, says) = no_then_before at tokens is
no_then other at tokens (none, says) = no_then_action at tokens (action_begins other at tokens says)

module _ (expressions : ReadsExpressions) (references : ReadsReferences) where
  abbrev by_then : Expr → ℕ → List Token → Bool → Outcome Form
  by_then e at tokens seen =
      if seen then ((λ _. form.IfThen e) <$> expect_word (codes "then")) (reading.input at tokens) else ((λ statement. form.If e at statement) <$> actions.inner) (reading.input at tokens)

  after_sound : (e : Expr) → Sound (read.after_condition e) (λ f. rest_at e (out-Form f))
  unfolding read.after_condition
  after_sound e at tokens f j gives end =
      either_way (read.sees_then (reading.input at tokens)) (by_then e at tokens true) (by_then e at tokens false) (Some (f, j)) gives
      (λ seen gives.
      let (n, k, found, done, is) = made_here (word_piece (codes "then")).read (λ _. form.IfThen e) at tokens f j gives end in
      subst (λ f. rest_at e (out-Form f) at tokens) is (then_says e at tokens (word_made (codes "then") n at tokens (all_sound (word_piece (codes "then")) at tokens n k found done))))
      (λ unseen gives.
      let (inner, k, found, done, is) = made_here actions.inner (λ statement. form.If e at statement) at tokens f j gives end in
      subst (λ f. rest_at e (out-Form f) at tokens) is (if_says e inner at tokens (inner_sound expressions references at tokens inner k found done)))

  then_read : (e : Expr) (at : ℕ) (tokens : List Token) → word (codes "then") at tokens → Reads (read.after_condition e) (roll-Form (Form-F.IfThen e)) at tokens
  unfolding read.after_condition roll-Form denote.Hole.Carrier.roll
  then_read e at tokens says =
      let (n, says_n) = word_back (codes "then") at tokens says in
      ap (by_then e at tokens) (sees_then_alone at tokens says)
      ∙ made_complete (word_piece (codes "then")).read (λ _. form.IfThen e) n at tokens (all_complete (word_piece (codes "then")) n at tokens says_n)

  if_read : (e : Expr) (number : ℕ) (inner : Form) (at : ℕ) (tokens : List Token) → inner_from number inner at tokens → Reads (read.after_condition e) (roll-Form (Form-F.If e number inner)) at tokens
  unfolding read.after_condition roll-Form denote.Hole.Carrier.roll
  if_read e number inner at tokens (number_is, says) =
      let reads = subst (λ inner. Reads actions.inner inner at tokens) (roll-out-Form inner) (inner_complete expressions references (out-Form inner) at tokens says) in
      ap (by_then e at tokens) (no_then (out-Form inner) at tokens says)
      ∙ made_complete actions.inner (λ statement. form.If e at statement) inner at tokens reads
      ∙ ap (λ number. Some (form.If e number inner, reading.input (at + length tokens) [])) (sym number_is)

  abbrev if_piece : Piece Expr
  if_piece = after_word (codes "if") (condition_piece expressions)

  pub if_sound : Sound read.if_form (λ f. statement_at (out-Form f))
  unfolding read.if_form lists.condition
  if_sound at tokens f j e end =
      let (c, says) = then_sound if_piece read.after_condition (λ c f. rest_at c (out-Form f)) after_sound at tokens f j e end in
      joined c (out-Form f) at tokens (to_right (word (codes "if")) (condition c) (rest_at c (out-Form f)) at tokens says)

  if_more : (rest : List Token) → begins if_piece.more rest ≡ false
  if_more [] = refl
  if_more (here ∷ rest) = refl

  if_complete_by : (e : Expr) (f : Form) (last : Phrase) (at : ℕ) (tokens : List Token) → (word (codes "if") · condition e · last) at tokens
      → ((at : ℕ) (tokens : List Token) → last at tokens → Reads (read.after_condition e) f at tokens) → Reads read.if_form f at tokens
  unfolding read.if_form lists.condition
  if_complete_by e f last at tokens says reads =
      let (before, after, split, says_e, says_last) = to_left (word (codes "if")) (condition e) last at tokens says in
      subst (λ tokens. Reads read.if_form f at tokens) (sym split)
      (then_complete if_piece read.after_condition e f at before after says_e (if_more after) (reads (at + length before) after says_last))

  pub if_then_complete : (e : Expr) (at : ℕ) (tokens : List Token) → statement_at (Form-F.IfThen e) at tokens → Reads read.if_form (roll-Form (Form-F.IfThen e)) at tokens
  if_then_complete e at tokens says = if_complete_by e (roll-Form (Form-F.IfThen e)) (word (codes "then")) at tokens says (then_read e)

  pub if_complete : (e : Expr) (number : ℕ) (inner : Form) (at : ℕ) (tokens : List Token) → statement_at (Form-F.If e number inner) at tokens → Reads read.if_form (roll-Form (Form-F.If e number inner)) at tokens
  if_complete e number inner at tokens says = if_complete_by e (roll-Form (Form-F.If e number inner)) (inner_from number inner) at tokens says (if_read e number inner)

-- ---- ELSE and ELSE IF

pub word_condition : Apart (only lexeme.Word) none_of
word_condition = apart_none (only lexeme.Word)

made_else : (n at : ℕ) (tokens : List Token) → (word_piece (codes "else")).phrase n at tokens → statement_at (out-Form form.Else) at tokens
unfolding out-Form denote.Hole.Carrier.out
made_else n at tokens says = word_made (codes "else") n at tokens says

else_sound : Sound read.plain_else (λ f. statement_at (out-Form f))
unfolding read.plain_else
else_sound = made_sound (word_piece (codes "else")).read (λ _. form.Else) (word_piece (codes "else")).phrase (λ f. statement_at (out-Form f)) (all_sound (word_piece (codes "else"))) made_else

else_read : (at : ℕ) (tokens : List Token) → word (codes "else") at tokens → Reads read.plain_else (roll-Form Form-F.Else) at tokens
unfolding read.plain_else roll-Form denote.Hole.Carrier.roll
else_read at tokens says =
    let (n, says_n) = word_back (codes "else") at tokens says in
    made_complete (word_piece (codes "else")).read (λ _. form.Else) n at tokens (all_complete (word_piece (codes "else")) n at tokens says_n)

module _ (expressions : ReadsExpressions) where
  no_more : (kind : Lexeme) → only lexeme.Word kind ≡ true → (condition_piece expressions).more kind ≡ false
  no_more kind e = refl

  abbrev else_if_piece : Piece (Bool × Expr)
  else_if_piece = seq (joined_piece (codes "elseif") (codes "else") (codes "if") refl) (before_word (condition_piece expressions) (codes "then") no_more) (λ kind e. refl)

  abbrev else_if_form : Bool × Expr → Form
  else_if_form parts = form.ElseIf parts.0 parts.1

  made_else_if : (a : Bool × Expr) (at : ℕ) (tokens : List Token) → else_if_piece.phrase a at tokens → statement_at (out-Form (else_if_form a)) at tokens
  unfolding out-Form denote.Hole.Carrier.out
  made_else_if a at tokens says = says

  else_if_sound : Sound read.else_if (λ f. statement_at (out-Form f))
  unfolding read.else_if lists.condition
  else_if_sound = made_sound else_if_piece.read else_if_form else_if_piece.phrase (λ f. statement_at (out-Form f)) (all_sound else_if_piece) made_else_if

  else_if_read : (whole : Bool) (e : Expr) (at : ℕ) (tokens : List Token) → statement_at (Form-F.ElseIf whole e) at tokens → Reads read.else_if (roll-Form (Form-F.ElseIf whole e)) at tokens
  unfolding read.else_if lists.condition roll-Form denote.Hole.Carrier.roll
  else_if_read whole e at tokens says = made_complete else_if_piece.read else_if_form (whole, e) at tokens (all_complete else_if_piece (whole, e) at tokens says)

  abbrev by_count : ℕ → List Token → Bool → Outcome Form
  by_count at tokens alone = if alone then read.plain_else (reading.input at tokens) else read.else_if (reading.input at tokens)

  pub else_form_sound : Sound read.else_form (λ f. statement_at (out-Form f))
  unfolding read.else_form
  else_form_sound at tokens f j e end =
      either_way (nat_eq (length tokens) 1) (by_count at tokens true) (by_count at tokens false) (Some (f, j)) e
      (λ alone e. else_sound at tokens f j e end) (λ more e. else_if_sound at tokens f j e end)

  pub else_complete : (at : ℕ) (tokens : List Token) → statement_at Form-F.Else at tokens → Reads read.else_form (roll-Form Form-F.Else) at tokens
  unfolding read.else_form
  else_complete at tokens says = let (here, is_one, is) = says in ap (by_count at tokens) (ap (λ tokens. nat_eq (length tokens) 1) is_one) ∙ else_read at tokens says

  filled : (before tokens : List Token) → begins (only lexeme.Word) before ≡ true → before ≡ tokens → 1 ≤ length tokens
  filled [] tokens e is = absurd (cc e)
  filled (here ∷ rest) tokens e is = subst (λ tokens. 1 ≤ length tokens) is (omega arith)

  two_or_more : (before middle last : List Token) (here : Token) → 1 ≤ length before → last ≡ here ∷ [] → nat_eq (length (before ++ (middle ++ last))) 1 ≡ false
  two_or_more before middle last here some is_one = ne_eqb (length (before ++ (middle ++ last))) 1 (λ one. absurd (too_few before middle last here some is_one one)) where
    too_few : (before middle last : List Token) (here : Token) → 1 ≤ length before → last ≡ here ∷ [] → length (before ++ (middle ++ last)) ≡ 1 → ⊥
    too_few before middle last here some is_one one =
        let long : length last ≡ 1 = ap length is_one in
        grind (arith, common_steps)

  not_alone : (whole : Bool) (e : Expr) (at : ℕ) (tokens : List Token) → statement_at (Form-F.ElseIf whole e) at tokens → nat_eq (length tokens) 1 ≡ false
  not_alone whole e at tokens (before, after, split, says, (middle, last, split_after, says_e, (here, is_one, is))) =
      ap (λ tokens. nat_eq (length tokens) 1) (split ∙ ap (λ after. before ++ after) split_after)
      ∙ two_or_more before middle last here (by ((joined_piece (codes "elseif") (codes "else") (codes "if") refl).begun whole at before says)) is_one where
        by : (begins (only lexeme.Word) before ≡ true) ⊎ ((before ≡ []) × (false ≡ true)) → 1 ≤ length before
        by (inl e) = filled before before e refl
        by (inr none) = absurd (cc none.1)

  pub else_if_complete : (whole : Bool) (e : Expr) (at : ℕ) (tokens : List Token) → statement_at (Form-F.ElseIf whole e) at tokens → Reads read.else_form (roll-Form (Form-F.ElseIf whole e)) at tokens
  unfolding read.else_form
  else_if_complete whole e at tokens says = ap (by_count at tokens) (not_alone whole e at tokens says) ∙ else_if_read whole e at tokens says

  -- ---- SELECT CASE

  abbrev select_piece : Piece (Bool × Expr)
  select_piece = seq (joined_piece (codes "selectcase") (codes "select") (codes "case") refl) (condition_piece expressions) (λ kind e. refl)

  abbrev select_form : Bool × Expr → Form
  select_form parts = form.Select parts.0 parts.1

  made_select : (a : Bool × Expr) (at : ℕ) (tokens : List Token) → select_piece.phrase a at tokens → statement_at (out-Form (select_form a)) at tokens
  unfolding out-Form denote.Hole.Carrier.out
  made_select a at tokens says = says

  pub select_sound : Sound read.select (λ f. statement_at (out-Form f))
  unfolding read.select lists.condition
  select_sound = made_sound select_piece.read select_form select_piece.phrase (λ f. statement_at (out-Form f)) (all_sound select_piece) made_select

  pub select_complete : (whole : Bool) (e : Expr) (at : ℕ) (tokens : List Token) → statement_at (Form-F.Select whole e) at tokens → Reads read.select (roll-Form (Form-F.Select whole e)) at tokens
  unfolding read.select lists.condition roll-Form denote.Hole.Carrier.roll
  select_complete whole e at tokens says = made_complete select_piece.read select_form (whole, e) at tokens (all_complete select_piece (whole, e) at tokens says)
