-- The statement in an IF statement is read as it is written.
use Rattle.std.proofs.Common.{◌≡◌, refl, sym, ◌∙◌, ap, ℕ, Bool, true, false, not, ◌&&◌, List, [], ◌∷◌, ◌++◌, Option, Some, None, if◌then◌else◌, codes, ◌⊎◌, inl, inr}
use Rattle.std.specs.Str.{bytes_eq}
use Rattle.std.proofs.lemmas.Bool.{cases_Bool}
use Rattle.ftn_tree.specs.declared.token.Token.{Token}
use Rattle.ftn_tree.specs.declared.form.Form.{Form, out-Form}
use Rattle.ftn_tree.specs.declared.form.Form.TheOpen.{Form-F}
use Rattle.ftn_tree.specs.declared.form.Form.TheViews.{roll-Form}
use Rattle.ftn_tree.specs.declared.lexeme.Lexeme.{Lexeme}
use Rattle.ftn_tree.specs.declared.lexeme.Lexeme.TheVariants as lexeme
use Rattle.ftn_tree.specs.declared.parts.LeaveWord.TheVariants as leave_words
use Rattle.ftn_tree.specs.declared.parts.IoStyle.TheVariants as style
use Rattle.ftn_tree.specs.Layers.{FormLayer}
use Rattle.ftn_tree.specs.Lexemes.{lexeme_of}
use Rattle.ftn_tree.specs.Phrases.{Phrase, ◌·◌, word, mark, name, maybe, in_parens, commas_or_none, after_commas}
use Rattle.ftn_tree.specs.Grammar.{expr, reference}
use Rattle.ftn_tree.specs.Assignments.{IsAssignment, is_assignment}
use Rattle.ftn_tree.proofs.AssignmentLaws.{assignment_told, told_assignment}
use Rattle.ftn_tree.specs.ExecutableForms.{stop_code, after_stars, action_at, inner_at}
use Rattle.expr_parse.specs.steps.Input as reading
use Rattle.expr_parse.specs.steps.Input.{Input, Reader, Outcome, first_lexeme}
use Rattle.expr_parse.proofs.Operands.{ReadsExpressions, ReadsReferences}
use Rattle.exec_parse.specs.steps.Actions as read
use Rattle.exec_parse.specs.steps.Constructs.{is_colon, sees_label}
use Rattle.exec_parse.proofs.Wholes.{Sound, Reads, either_way}
use Rattle.exec_parse.proofs.Words.{Starts, starts_with, starts_alone, no_colon, no_colon_alone}
use Rattle.exec_parse.proofs.ActionLaws.{assignment_at, assignment_sound, assignment_complete, action_sound, action_complete}

-- ---- how actions begin

-- the words of the other statements
abbrev pub construct_words : List (List ℕ)
construct_words = codes "then" ∷ codes "if" ∷ codes "else" ∷ codes "elseif" ∷ codes "do" ∷ codes "select" ∷ codes "selectcase" ∷ codes "case" ∷ []

abbrev pub differs : List ℕ → List (List ℕ) → Bool
differs text [] = true
differs text (other ∷ others) = not (bytes_eq text other) && differs text others

pub record Begins (at : ℕ) (tokens : List Token) : Type 0 where
  pub text : List ℕ
  pub starts : Starts text tokens
  pub own : differs text construct_words ≡ true
  pub unlabelled : sees_label (reading.input at tokens) ≡ false

one_kind : (kind : Lexeme) (tokens : List Token) (here : Token) → is_colon (Some kind) ≡ false → tokens ≡ here ∷ [] → lexeme_of here ≡ kind → is_colon (first_lexeme tokens) ≡ false
one_kind kind tokens here other is_one is = ap (λ tokens. is_colon (first_lexeme tokens)) is_one ∙ ap (λ kind. is_colon (Some kind)) is ∙ other

first_kind : (kind : Lexeme) (phrase : Phrase) (at : ℕ) (tokens : List Token) → is_colon (Some kind) ≡ false → (mark kind · phrase) at tokens → is_colon (first_lexeme tokens) ≡ false
first_kind kind phrase at tokens other (before, after, split, (here, is_one, is), says) =
    ap (λ tokens. is_colon (first_lexeme tokens)) (split ∙ ap (λ before. before ++ after) is_one) ∙ ap (λ kind. is_colon (Some kind)) is ∙ other

name_then : (n : ℕ) (phrase : Phrase) (at : ℕ) (tokens : List Token) → (name n · phrase) at tokens → is_colon (first_lexeme tokens) ≡ false
name_then n phrase at tokens (before, after, split, (here, is_one, (number, is)), says) =
    ap (λ tokens. is_colon (first_lexeme tokens)) (split ∙ ap (λ before. before ++ after) is_one) ∙ ap (λ kind. is_colon (Some kind)) is

name_or_end : (label : Option ℕ) (at : ℕ) (tokens : List Token) → maybe name label at tokens → is_colon (first_lexeme tokens) ≡ false
name_or_end None at tokens says = ap (λ tokens. is_colon (first_lexeme tokens)) says
name_or_end (Some n) at tokens (here, is_one, (number, is)) = one_kind lexeme.Word tokens here refl is_one is

code_or_end : (code : Option ℕ) (at : ℕ) (tokens : List Token) → maybe stop_code code at tokens → is_colon (first_lexeme tokens) ≡ false
code_or_end None at tokens says = ap (λ tokens. is_colon (first_lexeme tokens)) says
code_or_end (Some n) at tokens (here, is_one, (number, inl is)) = one_kind lexeme.Whole tokens here refl is_one is
code_or_end (Some n) at tokens (here, is_one, (number, inr is)) = one_kind lexeme.Quoted tokens here refl is_one is

worded : (text : List ℕ) (phrase : Phrase) (at : ℕ) (tokens : List Token) → differs text construct_words ≡ true → (word text · phrase) at tokens
    → ((at : ℕ) (after : List Token) → phrase at after → is_colon (first_lexeme after) ≡ false) → Begins at tokens
worded text phrase at tokens own says next = record { text = text; starts = starts_with text phrase at tokens says; own = own; unlabelled = no_colon text phrase at tokens says next }

worded_alone : (text : List ℕ) (at : ℕ) (tokens : List Token) → differs text construct_words ≡ true → word text at tokens → Begins at tokens
worded_alone text at tokens own says = record { text = text; starts = starts_alone text at tokens says; own = own; unlabelled = no_colon_alone text at tokens says }

abbrev rest_of_stars : Phrase → Phrase
rest_of_stars phrase = mark lexeme.Times · mark lexeme.Comma · mark lexeme.Times · mark lexeme.Close · phrase

pub action_begins : (layer : FormLayer) (at : ℕ) (tokens : List Token) → action_at layer at tokens → Begins at tokens
action_begins (Form-F.Call n args) at tokens says =
    worded (codes "call") (name n · maybe (λ args. in_parens (commas_or_none expr args)) args) at tokens refl says (name_then n (maybe (λ args. in_parens (commas_or_none expr args)) args))
action_begins (Form-F.Print style.Star items) at tokens says =
    worded (codes "print") (mark lexeme.Times · after_commas expr items) at tokens refl says (λ at tokens. first_kind lexeme.Times (after_commas expr items) at tokens refl)
action_begins (Form-F.Print style.Paren items) at tokens says =
    worded (codes "write") (after_stars (commas_or_none expr items)) at tokens refl says (λ at tokens. first_kind lexeme.Open (rest_of_stars (commas_or_none expr items)) at tokens refl)
action_begins (Form-F.Read style.Star items) at tokens says =
    worded (codes "read") (mark lexeme.Times · after_commas reference items) at tokens refl says (λ at tokens. first_kind lexeme.Times (after_commas reference items) at tokens refl)
action_begins (Form-F.Read style.Paren items) at tokens says =
    worded (codes "read") (after_stars (commas_or_none reference items)) at tokens refl says (λ at tokens. first_kind lexeme.Open (rest_of_stars (commas_or_none reference items)) at tokens refl)
action_begins (Form-F.Exit leave_words.Exit label) at tokens says = worded (codes "exit") (maybe name label) at tokens refl says (name_or_end label)
action_begins (Form-F.Exit leave_words.Cycle label) at tokens says = worded (codes "cycle") (maybe name label) at tokens refl says (name_or_end label)
action_begins (Form-F.Stop code) at tokens says = worded (codes "stop") (maybe stop_code code) at tokens refl says (code_or_end code)
action_begins Form-F.Return at tokens says = worded_alone (codes "return") at tokens refl says
action_begins Form-F.Continue at tokens says = worded_alone (codes "continue") at tokens refl says
action_begins _ at tokens says = absurd says

-- ---- assignments and the others

pub not_told : (tokens : List Token) → (IsAssignment tokens → ⊥) → is_assignment tokens ≡ false
not_told tokens none = by (cases_Bool (is_assignment tokens)) where
  by : (is_assignment tokens ≡ true) ⊎ (is_assignment tokens ≡ false) → is_assignment tokens ≡ false
  by (inl e) = absurd (none (assignment_told tokens e))
  by (inr e) = e

pub untold : (tokens : List Token) → is_assignment tokens ≡ false → IsAssignment tokens → ⊥
untold tokens e is = let f : true ≡ false = sym (told_assignment tokens is) ∙ e in cc f

assigned_inner : (layer : FormLayer) (at : ℕ) (tokens : List Token) → IsAssignment tokens → assignment_at layer at tokens → inner_at layer at tokens
assigned_inner (Form-F.Assign target value) at tokens is says = (is, says)
assigned_inner _ at tokens is says = absurd says

other_inner : (layer : FormLayer) (at : ℕ) (tokens : List Token) → (IsAssignment tokens → ⊥) → action_at layer at tokens → inner_at layer at tokens
other_inner (Form-F.Assign target value) at tokens none says = absurd says
other_inner _ at tokens none says = (none, says)

module _ (expressions : ReadsExpressions) (references : ReadsReferences) where
  abbrev by_shape : ℕ → List Token → Bool → Outcome Form
  by_shape at tokens is = if is then read.assignment (reading.input at tokens) else read.action (reading.input at tokens)

  pub inner_sound : Sound read.inner (λ f. inner_at (out-Form f))
  unfolding read.inner
  inner_sound at tokens f j e end =
      either_way (is_assignment tokens) (read.assignment (reading.input at tokens)) (read.action (reading.input at tokens)) (Some (f, j)) e
      (λ is e. assigned_inner (out-Form f) at tokens (assignment_told tokens is) (assignment_sound expressions references at tokens f j e end))
      (λ none e. other_inner (out-Form f) at tokens (untold tokens none) (action_sound expressions references at tokens f j e end))

  other_read : (layer : FormLayer) (at : ℕ) (tokens : List Token) → (IsAssignment tokens → ⊥) → action_at layer at tokens → Reads read.inner (roll-Form layer) at tokens
  unfolding read.inner
  other_read layer at tokens none says = ap (by_shape at tokens) (not_told tokens none) ∙ action_complete expressions references layer at tokens says

  pub inner_complete : (layer : FormLayer) (at : ℕ) (tokens : List Token) → inner_at layer at tokens → Reads read.inner (roll-Form layer) at tokens
  unfolding read.inner
  inner_complete (Form-F.Assign target value) at tokens (is, says) = ap (by_shape at tokens) (told_assignment tokens is) ∙ assignment_complete expressions references target value at tokens says
  inner_complete other at tokens (none, says) = other_read other at tokens none says
