-- Executable statements are read as they are written.
use Rattle.std.proofs.Common.{◌≡◌, refl, sym, ◌∙◌, ap, subst, ℕ, ◌+◌, Bool, true, false, not, ◌||◌, List, [], ◌∷◌, ◌++◌, length, drop, Option, Some, None, if◌then◌else◌, codes}
use Rattle.std.proofs.lemmas.Bool.{and_parts}
use Rattle.std.specs.Str.{bytes_eq}
use Rattle.ftn_tree.specs.declared.token.Token.{Token}
use Rattle.ftn_tree.specs.declared.expr.Expr.{Expr}
use Rattle.ftn_tree.specs.declared.form.Form.{Form, out-Form}
use Rattle.ftn_tree.specs.declared.form.Form.TheOpen.{Form-F}
use Rattle.ftn_tree.specs.declared.form.Form.TheViews.{roll-Form, roll-out-Form}
use Rattle.ftn_tree.specs.declared.lexeme.Lexeme.TheVariants as lexeme
use Rattle.ftn_tree.specs.declared.parts.CaseRange.{CaseRange}
use Rattle.ftn_tree.specs.Layers.{FormLayer}
use Rattle.ftn_tree.specs.Phrases.{Phrase, ◌·◌, word, mark, name, maybe, in_parens, commas}
use Rattle.ftn_tree.specs.Grammar.{expr}
use Rattle.ftn_tree.specs.Assignments.{IsAssignment, is_assignment}
use Rattle.ftn_tree.proofs.AssignmentLaws.{assignment_told, told_assignment}
use Rattle.ftn_tree.specs.ExecutableForms.{condition, inner_from, comma_if, control, case_range, case_of, action_at, statement_at, executable_at, is_executable}
use Rattle.ftn_tree.proofs.PhraseLaws.{to_right, drop_none}
use Rattle.expr_parse.specs.steps.Input.{Input, input, Reader, Outcome, sees_word, first_lexeme}
use Rattle.expr_parse.proofs.Pieces.{begins, begins_after}
use Rattle.expr_parse.proofs.Tokens.{only}
use Rattle.expr_parse.proofs.Operands.{ReadsExpressions, ReadsReferences}
use Rattle.exec_parse.specs.steps.Actions as actions
use Rattle.exec_parse.specs.steps.Constructs as constructs
use Rattle.exec_parse.specs.steps.Executables as read
use Rattle.exec_parse.proofs.Wholes.{Sound, Reads, Complete, either_way}
use Rattle.exec_parse.proofs.Words.{Starts, starts_with, starts_alone, no_colon, no_colon_alone, begins_otherwise, word_begins, Rows, first_row, rows_sound, differ, picked, passed}
use Rattle.exec_parse.proofs.ActionLaws.{assignment_at, assignment_sound, assignment_complete, action_sound, action_complete}
use Rattle.exec_parse.proofs.InnerLaws.{construct_words, differs, action_begins, not_told, untold}
use Rattle.exec_parse.proofs.IfLaws.{if_sound, if_then_complete, if_complete, else_form_sound, else_complete, else_if_complete, select_sound, select_complete}
use Rattle.exec_parse.proofs.CaseLaws.{case_sound, case_complete}
use Rattle.exec_parse.proofs.LoopLaws.{sees_colon, word_no_colon, do_sound, do_complete, do_while_complete, after_do_first, after_do_while_first}

-- ---- first words

either_word : (a b : Bool) (one other : Outcome Form) → (if a || b then one else other) ≡ (if a then one else (if b then one else other))
either_word true b one other = refl
either_word false b one other = refl

abbrev statement_rows : Rows
statement_rows =
    (codes "if", constructs.if_form) ∷ (codes "else", constructs.else_form) ∷ (codes "elseif", constructs.else_form) ∷ (codes "do", constructs.do_form)
    ∷ (codes "select", constructs.select) ∷ (codes "selectcase", constructs.select) ∷ (codes "case", constructs.case_form) ∷ []

by_rows : (i : Input) → read.statement i ≡ first_row statement_rows actions.action i
unfolding read.statement
by_rows i =
    let select = either_word (sees_word (codes "select") i) (sees_word (codes "selectcase") i) (constructs.select i) (first_row (drop 6 statement_rows) actions.action i) in
    let else_first = either_word (sees_word (codes "else") i) (sees_word (codes "elseif") i) (constructs.else_form i)
    (if sees_word (codes "do") i then constructs.do_form i
    else (if sees_word (codes "select") i || sees_word (codes "selectcase") i then constructs.select i else first_row (drop 6 statement_rows) actions.action i)) in
    ap (λ rest. if sees_word (codes "if") i then constructs.if_form i else rest)
    (else_first
    ∙ ap (λ rest. if sees_word (codes "else") i then constructs.else_form i else (if sees_word (codes "elseif") i then constructs.else_form i else (if sees_word (codes "do") i then constructs.do_form i else rest))) select)

abbrev statement : Form → Phrase
statement f = statement_at (out-Form f)

action_is_statement : (layer : FormLayer) (at : ℕ) (tokens : List Token) → action_at layer at tokens → statement_at layer at tokens
action_is_statement (Form-F.IfThen e) at tokens says = absurd says
action_is_statement (Form-F.ElseIf joined e) at tokens says = absurd says
action_is_statement Form-F.Else at tokens says = absurd says
action_is_statement (Form-F.If e number inner) at tokens says = absurd says
action_is_statement (Form-F.Do named c) at tokens says = absurd says
action_is_statement (Form-F.DoWhile named comma e) at tokens says = absurd says
action_is_statement (Form-F.Select joined e) at tokens says = absurd says
action_is_statement (Form-F.Case ranges) at tokens says = absurd says
action_is_statement _ at tokens says = says

-- ---- second tokens

paren_first : (phrase last : Phrase) (at : ℕ) (tokens : List Token) → (in_parens phrase · last) at tokens → constructs.is_colon (first_lexeme tokens) ≡ false
paren_first phrase last at tokens (both, rest, split, (before, middle, split_both, (here, is_one, is), says), says_last) =
    ap (λ tokens. constructs.is_colon (first_lexeme tokens)) (split ∙ ap (λ both. both ++ rest) (split_both ∙ ap (λ before. before ++ middle) is_one)) ∙ ap (λ kind. constructs.is_colon (Some kind)) is

paren_alone : (phrase : Phrase) (at : ℕ) (tokens : List Token) → in_parens phrase at tokens → constructs.is_colon (first_lexeme tokens) ≡ false
paren_alone phrase at tokens (before, middle, split, (here, is_one, is), says) =
    ap (λ tokens. constructs.is_colon (first_lexeme tokens)) (split ∙ ap (λ before. before ++ middle) is_one) ∙ ap (λ kind. constructs.is_colon (Some kind)) is

word_first : (text : List ℕ) (last : Phrase) (at : ℕ) (tokens : List Token) → (word text · last) at tokens → constructs.is_colon (first_lexeme tokens) ≡ false
word_first text last at tokens (before, rest, split, says, says_last) =
    begins_otherwise (only lexeme.Word) tokens word_no_colon (ap (begins (only lexeme.Word)) split ∙ begins_after (only lexeme.Word) before rest (word_begins text at before says))

word_only : (text : List ℕ) (at : ℕ) (tokens : List Token) → word text at tokens → constructs.is_colon (first_lexeme tokens) ≡ false
word_only text at tokens says = begins_otherwise (only lexeme.Word) tokens word_no_colon (word_begins text at tokens says)

selection_first : (ranges : Option (List CaseRange)) (at : ℕ) (tokens : List Token) → case_of ranges at tokens → constructs.is_colon (first_lexeme tokens) ≡ false
selection_first None at tokens says = word_only (codes "default") at tokens says
selection_first (Some ranges) at tokens says = paren_alone (commas case_range ranges) at tokens says

assigned : (layer : FormLayer) (at : ℕ) (tokens : List Token) → IsAssignment tokens → assignment_at layer at tokens → executable_at layer at tokens
assigned (Form-F.Assign target value) at tokens is says = (is, says)
assigned _ at tokens is says = absurd says

not_assigned : (layer : FormLayer) (at : ℕ) (tokens : List Token) → (IsAssignment tokens → ⊥) → statement_at layer at tokens → executable_at layer at tokens
not_assigned (Form-F.Assign target value) at tokens none says = absurd says
not_assigned _ at tokens none says = (none, says)

module _ (expressions : ReadsExpressions) (references : ReadsReferences) where
  -- ---- what is read is written so

  actions_sound : Sound actions.action statement
  actions_sound at tokens f j e end = action_is_statement (out-Form f) at tokens (action_sound expressions references at tokens f j e end)

  statement_sound : Sound read.statement statement
  statement_sound at tokens f j e end = rows_sound statement_rows actions.action statement
      (if_sound expressions references, (else_form_sound expressions, (else_form_sound expressions, (do_sound expressions, (select_sound expressions, (select_sound expressions, (case_sound expressions, tt)))))))
      actions_sound at tokens f j (sym (by_rows (input at tokens)) ∙ e) end

  abbrev by_label : ℕ → List Token → Bool → Outcome Form
  by_label at tokens labelled = if labelled then constructs.do_form (input at tokens) else read.statement (input at tokens)

  abbrev by_shape : ℕ → List Token → Bool → Outcome Form
  by_shape at tokens is = if is then actions.assignment (input at tokens) else by_label at tokens (constructs.sees_label (input at tokens))

  pub executable_sound : Sound read.executable is_executable
  unfolding read.executable
  executable_sound at tokens f j e end = either_way (is_assignment tokens) (by_shape at tokens true) (by_shape at tokens false) (Some (f, j)) e
      (λ is e. assigned (out-Form f) at tokens (assignment_told tokens is) (assignment_sound expressions references at tokens f j e end))
      (λ none e. not_assigned (out-Form f) at tokens (untold tokens none)
      (either_way (constructs.sees_label (input at tokens)) (by_label at tokens true) (by_label at tokens false) (Some (f, j)) e
      (λ labelled e. do_sound expressions at tokens f j e end) (λ unlabelled e. statement_sound at tokens f j e end)))

  -- ---- what is written so is read

  abbrev Otherwise : Form → ℕ → List Token → Type 0
  Otherwise f at tokens = by_label at tokens (constructs.sees_label (input at tokens)) ≡ Some (f, input (at + length tokens) [])

  row_read : (before later : Rows) (text : List ℕ) (row : Reader Form) (f : Form) (at : ℕ) (tokens : List Token)
      → ((i : Input) → read.statement i ≡ first_row (before ++ (text, row) ∷ later) actions.action i) → Starts text tokens → differ text before ≡ true
      → constructs.sees_label (input at tokens) ≡ false → Reads row f at tokens → Otherwise f at tokens
  row_read before later text row f at tokens is starts apart unlabelled reads =
      ap (by_label at tokens) unlabelled ∙ is (input at tokens) ∙ picked before later text row actions.action at tokens starts apart ∙ reads

  if_row : (e : Expr) (last : Phrase) (f : Form) (at : ℕ) (tokens : List Token) → (word (codes "if") · condition e · last) at tokens → Reads constructs.if_form f at tokens → Otherwise f at tokens
  if_row e last f at tokens says reads = row_read [] (drop 1 statement_rows) (codes "if") constructs.if_form f at tokens by_rows
      (starts_with (codes "if") (condition e · last) at tokens says) refl (no_colon (codes "if") (condition e · last) at tokens says (paren_first (expr e) last)) reads

  abbrev before_else : Rows
  before_else = (codes "if", constructs.if_form) ∷ []

  abbrev before_elseif : Rows
  before_elseif = (codes "if", constructs.if_form) ∷ (codes "else", constructs.else_form) ∷ []

  abbrev before_do : Rows
  before_do = (codes "if", constructs.if_form) ∷ (codes "else", constructs.else_form) ∷ (codes "elseif", constructs.else_form) ∷ []

  abbrev before_select : Rows
  before_select = before_do ++ (codes "do", constructs.do_form) ∷ []

  abbrev before_selectcase : Rows
  before_selectcase = before_select ++ (codes "select", constructs.select) ∷ []

  abbrev before_case : Rows
  before_case = before_selectcase ++ (codes "selectcase", constructs.select) ∷ []

  do_row : (last : Phrase) (f : Form) (at : ℕ) (tokens : List Token) → (word (codes "do") · last) at tokens → ((at : ℕ) (tokens : List Token) → last at tokens → constructs.is_colon (first_lexeme tokens) ≡ false)
      → Reads constructs.do_form f at tokens → Otherwise f at tokens
  do_row last f at tokens says other reads = row_read before_do (drop 4 statement_rows) (codes "do") constructs.do_form f at tokens by_rows
      (starts_with (codes "do") last at tokens says) refl (no_colon (codes "do") last at tokens says other) reads

  labelled_row : (n : ℕ) (last : Phrase) (f : Form) (at : ℕ) (tokens : List Token) → ((name n · mark lexeme.Colon) · last) at tokens → Reads constructs.do_form f at tokens → Otherwise f at tokens
  labelled_row n last f at tokens (before, rest, split, says, says_last) reads =
      ap (by_label at tokens) (ap (λ tokens. constructs.sees_label (input at tokens)) split ∙ sees_colon n at before rest says) ∙ reads

  action_row : (layer : FormLayer) (at : ℕ) (tokens : List Token) → action_at layer at tokens → Otherwise (roll-Form layer) at tokens
  action_row layer at tokens says =
      let begun = action_begins layer at tokens says in
      let own = (and_parts (not (bytes_eq begun.text (codes "then"))) (differs begun.text (drop 1 construct_words)) begun.own).1 in
      ap (by_label at tokens) begun.unlabelled ∙ by_rows (input at tokens) ∙ passed statement_rows actions.action begun.text at tokens begun.starts own ∙ action_complete expressions references layer at tokens says

  otherwise_read : (layer : FormLayer) (at : ℕ) (tokens : List Token) → statement_at layer at tokens → Otherwise (roll-Form layer) at tokens
  otherwise_read (Form-F.IfThen e) at tokens says = if_row e (word (codes "then")) (roll-Form (Form-F.IfThen e)) at tokens says (if_then_complete expressions references e at tokens says)
  otherwise_read (Form-F.If e number inner) at tokens says = if_row e (inner_from number inner) (roll-Form (Form-F.If e number inner)) at tokens says (if_complete expressions references e number inner at tokens says)
  otherwise_read Form-F.Else at tokens says = row_read before_else (drop 2 statement_rows) (codes "else") constructs.else_form (roll-Form Form-F.Else) at tokens by_rows
      (starts_alone (codes "else") at tokens says) refl (no_colon_alone (codes "else") at tokens says) (else_complete expressions at tokens says)
  otherwise_read (Form-F.ElseIf true e) at tokens says = row_read before_elseif (drop 3 statement_rows) (codes "elseif") constructs.else_form (roll-Form (Form-F.ElseIf true e)) at tokens by_rows
      (starts_with (codes "elseif") (condition e · word (codes "then")) at tokens says) refl
      (no_colon (codes "elseif") (condition e · word (codes "then")) at tokens says (paren_first (expr e) (word (codes "then")))) (else_if_complete expressions true e at tokens says)
  otherwise_read (Form-F.ElseIf false e) at tokens says =
      let parts = to_right (word (codes "else")) (word (codes "if")) (condition e · word (codes "then")) at tokens says in
      row_read before_else (drop 2 statement_rows) (codes "else") constructs.else_form (roll-Form (Form-F.ElseIf false e)) at tokens by_rows
      (starts_with (codes "else") (word (codes "if") · condition e · word (codes "then")) at tokens parts) refl
      (no_colon (codes "else") (word (codes "if") · condition e · word (codes "then")) at tokens parts (word_first (codes "if") (condition e · word (codes "then")))) (else_if_complete expressions false e at tokens says)
  otherwise_read (Form-F.Do None c) at tokens says =
      do_row (maybe control c) (roll-Form (Form-F.Do None c)) at tokens (drop_none (word (codes "do") · maybe control c) at tokens says) (after_do_first expressions c) (do_complete expressions None c at tokens says)
  otherwise_read (Form-F.Do (Some n) c) at tokens says = labelled_row n (word (codes "do") · maybe control c) (roll-Form (Form-F.Do (Some n) c)) at tokens says (do_complete expressions (Some n) c at tokens says)
  otherwise_read (Form-F.DoWhile None comma e) at tokens says =
      do_row (comma_if comma · word (codes "while") · condition e) (roll-Form (Form-F.DoWhile None comma e)) at tokens (drop_none (word (codes "do") · comma_if comma · word (codes "while") · condition e) at tokens says)
      (after_do_while_first expressions comma e) (do_while_complete expressions None comma e at tokens says)
  otherwise_read (Form-F.DoWhile (Some n) comma e) at tokens says =
      labelled_row n (word (codes "do") · comma_if comma · word (codes "while") · condition e) (roll-Form (Form-F.DoWhile (Some n) comma e)) at tokens says (do_while_complete expressions (Some n) comma e at tokens says)
  otherwise_read (Form-F.Select true e) at tokens says = row_read before_selectcase (drop 6 statement_rows) (codes "selectcase") constructs.select (roll-Form (Form-F.Select true e)) at tokens by_rows
      (starts_with (codes "selectcase") (condition e) at tokens says) refl (no_colon (codes "selectcase") (condition e) at tokens says (paren_alone (expr e))) (select_complete expressions true e at tokens says)
  otherwise_read (Form-F.Select false e) at tokens says =
      let parts = to_right (word (codes "select")) (word (codes "case")) (condition e) at tokens says in
      row_read before_select (drop 5 statement_rows) (codes "select") constructs.select (roll-Form (Form-F.Select false e)) at tokens by_rows
      (starts_with (codes "select") (word (codes "case") · condition e) at tokens parts) refl
      (no_colon (codes "select") (word (codes "case") · condition e) at tokens parts (word_first (codes "case") (condition e))) (select_complete expressions false e at tokens says)
  otherwise_read (Form-F.Case ranges) at tokens says = row_read before_case [] (codes "case") constructs.case_form (roll-Form (Form-F.Case ranges)) at tokens by_rows
      (starts_with (codes "case") (case_of ranges) at tokens says) refl (no_colon (codes "case") (case_of ranges) at tokens says (selection_first ranges)) (case_complete expressions ranges at tokens says)
  otherwise_read other at tokens says = action_row other at tokens says

  not_assigned_read : (layer : FormLayer) (at : ℕ) (tokens : List Token) → (IsAssignment tokens → ⊥) → statement_at layer at tokens → Reads read.executable (roll-Form layer) at tokens
  unfolding read.executable
  not_assigned_read layer at tokens none says = ap (by_shape at tokens) (not_told tokens none) ∙ otherwise_read layer at tokens says

  layer_read : (layer : FormLayer) (at : ℕ) (tokens : List Token) → executable_at layer at tokens → Reads read.executable (roll-Form layer) at tokens
  unfolding read.executable
  layer_read (Form-F.Assign target value) at tokens (is, says) = ap (by_shape at tokens) (told_assignment tokens is) ∙ assignment_complete expressions references target value at tokens says
  layer_read other at tokens (none, says) = not_assigned_read other at tokens none says

  pub executable_complete : Complete read.executable is_executable
  executable_complete f at tokens says = subst (λ f. Reads read.executable f at tokens) (roll-out-Form f) (layer_read (out-Form f) at tokens says)
