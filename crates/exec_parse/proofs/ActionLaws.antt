-- Statements that may stand in an IF statement are read as they are written.
use Rattle.std.proofs.Common.{◌≡◌, refl, sym, ◌∙◌, ap, ℕ, true, false, ◌||◌, List, [], ◌∷◌, ◌++◌, drop, Option, Some, if◌then◌else◌, codes}
use denote.Hole.Carrier
use Rattle.ftn_tree.specs.declared.token.Token.{Token}
use Rattle.ftn_tree.specs.declared.expr.Expr.{Expr}
use Rattle.ftn_tree.specs.declared.form.Form.{Form, out-Form}
use Rattle.ftn_tree.specs.declared.form.Form.TheOpen.{Form-F}
use Rattle.ftn_tree.specs.declared.form.Form.TheVariants as form
use Rattle.ftn_tree.specs.declared.form.Form.TheViews.{roll-Form}
use Rattle.ftn_tree.specs.declared.lexeme.Lexeme.{Lexeme}
use Rattle.ftn_tree.specs.declared.lexeme.Lexeme.TheVariants as lexeme
use Rattle.ftn_tree.specs.declared.parts.LeaveWord.{LeaveWord}
use Rattle.ftn_tree.specs.declared.parts.LeaveWord.TheVariants as leave_words
use Rattle.ftn_tree.specs.declared.parts.IoStyle.{IoStyle}
use Rattle.ftn_tree.specs.declared.parts.IoStyle.TheVariants as style
use Rattle.ftn_tree.specs.Layers.{FormLayer}
use Rattle.ftn_tree.specs.Lexemes.{same_lexeme}
use Rattle.ftn_tree.specs.Phrases.{Phrase, ◌·◌, word, mark, name, maybe, never, in_parens, commas_or_none, after_commas}
use Rattle.ftn_tree.specs.Grammar.{expr, reference}
use Rattle.ftn_tree.specs.ExecutableForms.{assignment, stop_code, after_stars, output, input, action_at}
use Rattle.expr_parse.specs.steps.Input as reading
use Rattle.expr_parse.specs.steps.Input.{Input, Reader, Outcome, peek_second, first_lexeme}
use Rattle.expr_parse.proofs.Pieces.{Piece, Apart, seq, option}
use Rattle.expr_parse.proofs.AllKinds.{apart, within}
use Rattle.expr_parse.proofs.Tokens.{only, apart_none, word_piece, word_made, word_back, name_piece, after_word, after_mark}
use Rattle.expr_parse.proofs.Ends.{unless_done}
use Rattle.expr_parse.proofs.Operands.{opens, ReadsExpressions, expression_piece, ReadsReferences, reference_piece}
use Rattle.exec_parse.specs.steps.Actions as read
use Rattle.exec_parse.specs.steps.Lists as lists
use Rattle.exec_parse.proofs.Wholes.{Sound, Reads, either_way, all_sound, all_complete, made_sound, made_complete}
use Rattle.exec_parse.proofs.Words.{Starts, starts_with, starts_alone, second_is, Rows, first_row, rows_sound, differ, picked, passed}
use Rattle.exec_parse.proofs.ListPieces.{arguments_piece, items_after_comma, items_to_end, variables_after_comma, variables_to_end, stars_piece, code_piece}

-- ---- facts on kinds

pub equals_reference : Apart (λ kind. only lexeme.Equals kind || false) opens
unfolding same_lexeme
equals_reference = apart (λ kind. only lexeme.Equals kind || false) opens refl

pub open_only : (kind : Lexeme) → (only lexeme.Open kind || false) ≡ true → only lexeme.Open kind ≡ true
unfolding same_lexeme
open_only = within (λ kind. only lexeme.Open kind || false) (only lexeme.Open) refl

-- ---- what the statements say

abbrev pub action : Form → Phrase
action f = action_at (out-Form f)

abbrev pub assignment_at : FormLayer → Phrase
assignment_at (Form-F.Assign target value) = assignment target value
assignment_at _ = never

abbrev pub assigned : Expr × Expr → Form
assigned parts = form.Assign parts.0 parts.1

abbrev pub called : ℕ × Option (List Expr) → Form
called parts = form.Call parts.0 parts.1

-- ---- their pieces

abbrev pub leave_piece : List ℕ → Piece (Option ℕ)
leave_piece text = after_word text (unless_done name_piece refl)

abbrev pub stop_piece : Piece (Option ℕ)
stop_piece = after_word (codes "stop") (unless_done code_piece refl)

module _ (expressions : ReadsExpressions) where
  abbrev pub call_piece : Piece (ℕ × Option (List Expr))
  call_piece = after_word (codes "call") (seq name_piece (option (arguments_piece expressions) lexeme.Open refl open_only) (apart_none (only lexeme.Open)))

  abbrev pub print_piece : Piece (List Expr)
  print_piece = after_word (codes "print") (after_mark lexeme.Times (items_after_comma expressions))

  abbrev pub write_piece : Piece (List Expr)
  write_piece = after_word (codes "write") (stars_piece (items_to_end expressions))

module _ (references : ReadsReferences) where
  abbrev pub read_star_piece : Piece (List Expr)
  read_star_piece = after_word (codes "read") (after_mark lexeme.Times (variables_after_comma references))

  abbrev pub read_paren_piece : Piece (List Expr)
  read_paren_piece = after_word (codes "read") (stars_piece (variables_to_end references))

module _ (expressions : ReadsExpressions) (references : ReadsReferences) where
  abbrev pub assignment_piece : Piece (Expr × Expr)
  assignment_piece = seq (reference_piece references) (after_mark lexeme.Equals (expression_piece expressions)) equals_reference

  -- ---- assignments

  made_assignment : (a : Expr × Expr) (at : ℕ) (tokens : List Token) → assignment a.0 a.1 at tokens → assignment_at (out-Form (assigned a)) at tokens
  unfolding out-Form denote.Hole.Carrier.out
  made_assignment a at tokens says = says

  pub assignment_sound : Sound read.assignment (λ f. assignment_at (out-Form f))
  unfolding read.assignment
  assignment_sound = made_sound assignment_piece.read assigned assignment_piece.phrase (λ f. assignment_at (out-Form f)) (all_sound assignment_piece) made_assignment

  pub assignment_complete : (target value : Expr) (at : ℕ) (tokens : List Token) → assignment target value at tokens → Reads read.assignment (roll-Form (Form-F.Assign target value)) at tokens
  unfolding read.assignment roll-Form denote.Hole.Carrier.roll
  assignment_complete target value at tokens says = made_complete assignment_piece.read assigned (target, value) at tokens (all_complete assignment_piece (target, value) at tokens says)

  -- ---- CALL

  made_call : (a : ℕ × Option (List Expr)) (at : ℕ) (tokens : List Token) → (call_piece expressions).phrase a at tokens → action (called a) at tokens
  unfolding out-Form denote.Hole.Carrier.out
  made_call a at tokens says = says

  call_sound : Sound read.call action
  unfolding read.call lists.arguments
  call_sound = made_sound (call_piece expressions).read called (call_piece expressions).phrase action (all_sound (call_piece expressions)) made_call

  call_complete : (n : ℕ) (args : Option (List Expr)) (at : ℕ) (tokens : List Token) → action_at (Form-F.Call n args) at tokens → Reads read.call (roll-Form (Form-F.Call n args)) at tokens
  unfolding read.call lists.arguments roll-Form denote.Hole.Carrier.roll
  call_complete n args at tokens says = made_complete (call_piece expressions).read called (n, args) at tokens (all_complete (call_piece expressions) (n, args) at tokens says)

  -- ---- EXIT and CYCLE

  made_exit : (a : Option ℕ) (at : ℕ) (tokens : List Token) → (leave_piece (codes "exit")).phrase a at tokens → action (form.Exit leave_words.Exit a) at tokens
  unfolding out-Form denote.Hole.Carrier.out
  made_exit a at tokens says = says

  made_cycle : (a : Option ℕ) (at : ℕ) (tokens : List Token) → (leave_piece (codes "cycle")).phrase a at tokens → action (form.Exit leave_words.Cycle a) at tokens
  unfolding out-Form denote.Hole.Carrier.out
  made_cycle a at tokens says = says

  exit_sound : Sound (read.leave (codes "exit") leave_words.Exit) action
  unfolding read.leave
  exit_sound = made_sound (leave_piece (codes "exit")).read (λ label. form.Exit leave_words.Exit label) (leave_piece (codes "exit")).phrase action (all_sound (leave_piece (codes "exit"))) made_exit

  cycle_sound : Sound (read.leave (codes "cycle") leave_words.Cycle) action
  unfolding read.leave
  cycle_sound = made_sound (leave_piece (codes "cycle")).read (λ label. form.Exit leave_words.Cycle label) (leave_piece (codes "cycle")).phrase action (all_sound (leave_piece (codes "cycle"))) made_cycle

  leave_complete : (text : List ℕ) (which : LeaveWord) (label : Option ℕ) (at : ℕ) (tokens : List Token) → (leave_piece text).phrase label at tokens → Reads (read.leave text which) (roll-Form (Form-F.Exit which label)) at tokens
  unfolding read.leave roll-Form denote.Hole.Carrier.roll
  leave_complete text which label at tokens says = made_complete (leave_piece text).read (λ label. form.Exit which label) label at tokens (all_complete (leave_piece text) label at tokens says)

  -- ---- STOP

  made_stop : (a : Option ℕ) (at : ℕ) (tokens : List Token) → stop_piece.phrase a at tokens → action (form.Stop a) at tokens
  unfolding out-Form denote.Hole.Carrier.out
  made_stop a at tokens says = says

  stop_sound : Sound read.stop action
  unfolding read.stop
  stop_sound = made_sound stop_piece.read (λ code. form.Stop code) stop_piece.phrase action (all_sound stop_piece) made_stop

  stop_complete : (code : Option ℕ) (at : ℕ) (tokens : List Token) → action_at (Form-F.Stop code) at tokens → Reads read.stop (roll-Form (Form-F.Stop code)) at tokens
  unfolding read.stop roll-Form denote.Hole.Carrier.roll
  stop_complete code at tokens says = made_complete stop_piece.read (λ code. form.Stop code) code at tokens (all_complete stop_piece code at tokens says)

  -- ---- RETURN and CONTINUE

  made_return : (n at : ℕ) (tokens : List Token) → (word_piece (codes "return")).phrase n at tokens → action form.Return at tokens
  unfolding out-Form denote.Hole.Carrier.out
  made_return n at tokens says = word_made (codes "return") n at tokens says

  return_sound : Sound read.return_form action
  unfolding read.return_form
  return_sound = made_sound (word_piece (codes "return")).read (λ _. form.Return) (word_piece (codes "return")).phrase action (all_sound (word_piece (codes "return"))) made_return

  return_complete : (at : ℕ) (tokens : List Token) → word (codes "return") at tokens → Reads read.return_form (roll-Form Form-F.Return) at tokens
  unfolding read.return_form roll-Form denote.Hole.Carrier.roll
  return_complete at tokens says =
      let (n, says_n) = word_back (codes "return") at tokens says in
      made_complete (word_piece (codes "return")).read (λ _. form.Return) n at tokens (all_complete (word_piece (codes "return")) n at tokens says_n)

  made_continue : (n at : ℕ) (tokens : List Token) → (word_piece (codes "continue")).phrase n at tokens → action form.Continue at tokens
  unfolding out-Form denote.Hole.Carrier.out
  made_continue n at tokens says = word_made (codes "continue") n at tokens says

  continue_sound : Sound read.continue_form action
  unfolding read.continue_form
  continue_sound = made_sound (word_piece (codes "continue")).read (λ _. form.Continue) (word_piece (codes "continue")).phrase action (all_sound (word_piece (codes "continue"))) made_continue

  continue_complete : (at : ℕ) (tokens : List Token) → word (codes "continue") at tokens → Reads read.continue_form (roll-Form Form-F.Continue) at tokens
  unfolding read.continue_form roll-Form denote.Hole.Carrier.roll
  continue_complete at tokens says =
      let (n, says_n) = word_back (codes "continue") at tokens says in
      made_complete (word_piece (codes "continue")).read (λ _. form.Continue) n at tokens (all_complete (word_piece (codes "continue")) n at tokens says_n)

  -- ---- PRINT and WRITE

  made_print : (a : List Expr) (at : ℕ) (tokens : List Token) → (print_piece expressions).phrase a at tokens → action (form.Print style.Star a) at tokens
  unfolding out-Form denote.Hole.Carrier.out
  made_print a at tokens says = says

  print_sound : Sound read.print action
  unfolding read.print lists.items_after_star
  print_sound = made_sound (print_piece expressions).read (λ found. form.Print style.Star found) (print_piece expressions).phrase action (all_sound (print_piece expressions)) made_print

  print_complete : (items : List Expr) (at : ℕ) (tokens : List Token) → output style.Star items at tokens → Reads read.print (roll-Form (Form-F.Print style.Star items)) at tokens
  unfolding read.print lists.items_after_star roll-Form denote.Hole.Carrier.roll
  print_complete items at tokens says = made_complete (print_piece expressions).read (λ found. form.Print style.Star found) items at tokens (all_complete (print_piece expressions) items at tokens says)

  made_write : (a : List Expr) (at : ℕ) (tokens : List Token) → (write_piece expressions).phrase a at tokens → action (form.Print style.Paren a) at tokens
  unfolding out-Form denote.Hole.Carrier.out
  made_write a at tokens says = says

  write_sound : Sound read.write action
  unfolding read.write lists.items
  write_sound = made_sound (write_piece expressions).read (λ found. form.Print style.Paren found) (write_piece expressions).phrase action (all_sound (write_piece expressions)) made_write

  write_complete : (items : List Expr) (at : ℕ) (tokens : List Token) → output style.Paren items at tokens → Reads read.write (roll-Form (Form-F.Print style.Paren items)) at tokens
  unfolding read.write lists.items roll-Form denote.Hole.Carrier.roll
  write_complete items at tokens says = made_complete (write_piece expressions).read (λ found. form.Print style.Paren found) items at tokens (all_complete (write_piece expressions) items at tokens says)

  -- ---- READ

  made_read_star : (a : List Expr) (at : ℕ) (tokens : List Token) → (read_star_piece references).phrase a at tokens → action (form.Read style.Star a) at tokens
  unfolding out-Form denote.Hole.Carrier.out
  made_read_star a at tokens says = says

  read_star_sound : Sound read.read_star action
  unfolding read.read_star lists.variables_after_star
  read_star_sound = made_sound (read_star_piece references).read (λ found. form.Read style.Star found) (read_star_piece references).phrase action (all_sound (read_star_piece references)) made_read_star

  made_read_paren : (a : List Expr) (at : ℕ) (tokens : List Token) → (read_paren_piece references).phrase a at tokens → action (form.Read style.Paren a) at tokens
  unfolding out-Form denote.Hole.Carrier.out
  made_read_paren a at tokens says = says

  read_paren_sound : Sound read.read_paren action
  unfolding read.read_paren lists.variables
  read_paren_sound = made_sound (read_paren_piece references).read (λ found. form.Read style.Paren found) (read_paren_piece references).phrase action (all_sound (read_paren_piece references)) made_read_paren

  read_sound : Sound read.read action
  unfolding read.read
  read_sound at tokens f j e end =
      either_way (read.is_star (peek_second (reading.input at tokens))) (read.read_star (reading.input at tokens)) (read.read_paren (reading.input at tokens)) (Some (f, j)) e
      (λ star e. read_star_sound at tokens f j e end) (λ paren e. read_paren_sound at tokens f j e end)

  abbrev by_second : ℕ → List Token → Option Lexeme → Outcome Form
  by_second at tokens second = if read.is_star second then read.read_star (reading.input at tokens) else read.read_paren (reading.input at tokens)

  read_complete : (how : IoStyle) (items : List Expr) (at : ℕ) (tokens : List Token) → input how items at tokens → Reads read.read (roll-Form (Form-F.Read how items)) at tokens
  unfolding read.read read.read_star read.read_paren lists.variables lists.variables_after_star roll-Form denote.Hole.Carrier.roll
  read_complete style.Star items at tokens says =
      ap (by_second at tokens) (second_is (codes "read") lexeme.Times (after_commas reference items) at tokens says)
      ∙ made_complete (read_star_piece references).read (λ found. form.Read style.Star found) items at tokens (all_complete (read_star_piece references) items at tokens says)
  read_complete style.Paren items at tokens says =
      ap (by_second at tokens) (second_is (codes "read") lexeme.Open (mark lexeme.Times · mark lexeme.Comma · mark lexeme.Times · mark lexeme.Close · commas_or_none reference items) at tokens says)
      ∙ made_complete (read_paren_piece references).read (λ found. form.Read style.Paren found) items at tokens (all_complete (read_paren_piece references) items at tokens says)

  -- ---- all of them

  abbrev pub action_rows : Rows
  action_rows =
      (codes "call", read.call) ∷ (codes "print", read.print) ∷ (codes "write", read.write) ∷ (codes "read", read.read)
      ∷ (codes "exit", read.leave (codes "exit") leave_words.Exit) ∷ (codes "cycle", read.leave (codes "cycle") leave_words.Cycle)
      ∷ (codes "stop", read.stop) ∷ (codes "return", read.return_form) ∷ []

  pub by_rows : (i : Input) → read.action i ≡ first_row action_rows read.continue_form i
  unfolding read.action
  by_rows i = refl

  pub action_sound : Sound read.action action
  action_sound at tokens f j e end = rows_sound action_rows read.continue_form action
      (call_sound, (print_sound, (write_sound, (read_sound, (exit_sound, (cycle_sound, (stop_sound, (return_sound, tt)))))))) continue_sound at tokens f j (sym (by_rows (reading.input at tokens)) ∙ e) end

  pub row_read : (before after : Rows) (text : List ℕ) (row : Reader Form) (f : Form) (at : ℕ) (tokens : List Token)
      → ((i : Input) → read.action i ≡ first_row (before ++ (text, row) ∷ after) read.continue_form i) → Starts text tokens → differ text before ≡ true → Reads row f at tokens → Reads read.action f at tokens
  row_read before after text row f at tokens is starts apart reads = is (reading.input at tokens) ∙ picked before after text row read.continue_form at tokens starts apart ∙ reads

  abbrev up_to_print : Rows
  up_to_print = (codes "call", read.call) ∷ []

  abbrev up_to_write : Rows
  up_to_write = (codes "call", read.call) ∷ (codes "print", read.print) ∷ []

  abbrev up_to_read : Rows
  up_to_read = (codes "call", read.call) ∷ (codes "print", read.print) ∷ (codes "write", read.write) ∷ []

  abbrev up_to_exit : Rows
  up_to_exit = (codes "call", read.call) ∷ (codes "print", read.print) ∷ (codes "write", read.write) ∷ (codes "read", read.read) ∷ []

  abbrev up_to_cycle : Rows
  up_to_cycle = up_to_exit ++ (codes "exit", read.leave (codes "exit") leave_words.Exit) ∷ []

  abbrev up_to_stop : Rows
  up_to_stop = up_to_cycle ++ (codes "cycle", read.leave (codes "cycle") leave_words.Cycle) ∷ []

  abbrev up_to_return : Rows
  up_to_return = up_to_stop ++ (codes "stop", read.stop) ∷ []

  pub action_complete : (layer : FormLayer) (at : ℕ) (tokens : List Token) → action_at layer at tokens → Reads read.action (roll-Form layer) at tokens
  action_complete (Form-F.Call n args) at tokens says =
      row_read [] (drop 1 action_rows) (codes "call") read.call (roll-Form (Form-F.Call n args)) at tokens by_rows
      (starts_with (codes "call") (name n · maybe (λ args. in_parens (commas_or_none expr args)) args) at tokens says) refl (call_complete n args at tokens says)
  action_complete (Form-F.Print style.Star items) at tokens says =
      row_read up_to_print (drop 2 action_rows) (codes "print") read.print (roll-Form (Form-F.Print style.Star items)) at tokens by_rows
      (starts_with (codes "print") (mark lexeme.Times · after_commas expr items) at tokens says) refl (print_complete items at tokens says)
  action_complete (Form-F.Print style.Paren items) at tokens says =
      row_read up_to_write (drop 3 action_rows) (codes "write") read.write (roll-Form (Form-F.Print style.Paren items)) at tokens by_rows
      (starts_with (codes "write") (after_stars (commas_or_none expr items)) at tokens says) refl (write_complete items at tokens says)
  action_complete (Form-F.Read style.Star items) at tokens says =
      row_read up_to_read (drop 4 action_rows) (codes "read") read.read (roll-Form (Form-F.Read style.Star items)) at tokens by_rows
      (starts_with (codes "read") (mark lexeme.Times · after_commas reference items) at tokens says) refl (read_complete style.Star items at tokens says)
  action_complete (Form-F.Read style.Paren items) at tokens says =
      row_read up_to_read (drop 4 action_rows) (codes "read") read.read (roll-Form (Form-F.Read style.Paren items)) at tokens by_rows
      (starts_with (codes "read") (after_stars (commas_or_none reference items)) at tokens says) refl (read_complete style.Paren items at tokens says)
  action_complete (Form-F.Exit leave_words.Exit label) at tokens says =
      row_read up_to_exit (drop 5 action_rows) (codes "exit") (read.leave (codes "exit") leave_words.Exit) (roll-Form (Form-F.Exit leave_words.Exit label)) at tokens by_rows
      (starts_with (codes "exit") (maybe name label) at tokens says) refl (leave_complete (codes "exit") leave_words.Exit label at tokens says)
  action_complete (Form-F.Exit leave_words.Cycle label) at tokens says =
      row_read up_to_cycle (drop 6 action_rows) (codes "cycle") (read.leave (codes "cycle") leave_words.Cycle) (roll-Form (Form-F.Exit leave_words.Cycle label)) at tokens by_rows
      (starts_with (codes "cycle") (maybe name label) at tokens says) refl (leave_complete (codes "cycle") leave_words.Cycle label at tokens says)
  action_complete (Form-F.Stop code) at tokens says =
      row_read up_to_stop (drop 7 action_rows) (codes "stop") read.stop (roll-Form (Form-F.Stop code)) at tokens by_rows
      (starts_with (codes "stop") (maybe stop_code code) at tokens says) refl (stop_complete code at tokens says)
  action_complete Form-F.Return at tokens says =
      row_read up_to_return [] (codes "return") read.return_form (roll-Form Form-F.Return) at tokens by_rows
      (starts_alone (codes "return") at tokens says) refl (return_complete at tokens says)
  action_complete Form-F.Continue at tokens says =
      by_rows (reading.input at tokens) ∙ passed action_rows read.continue_form (codes "continue") at tokens (starts_alone (codes "continue") at tokens says) refl ∙ continue_complete at tokens says
  action_complete _ at tokens says = absurd says
