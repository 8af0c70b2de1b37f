-- How executable statements begin: with a word of their own, or with a construct name and a colon.
use Rattle.std.proofs.Common.{◌≡◌, refl, sym, ◌∙◌, ap, ℕ, ◌+◌, Bool, true, false, not, ◌&&◌, ◌||◌, List, [], ◌∷◌, ◌++◌, length, drop, Some, None, codes, ◌⊎◌, inl, inr}
use Rattle.std.specs.Str.{bytes_eq}
use Rattle.std.proofs.lemmas.Bool.{and_parts, not-true, or_cases}
use Rattle.ftn_tree.specs.declared.token.Token.{Token}
use Rattle.ftn_tree.specs.declared.token.TokenKind.{TokenKind}
use Rattle.ftn_tree.specs.declared.token.TokenKind.TheVariants as kinds
use Rattle.ftn_tree.specs.declared.form.Form.{Form, out-Form}
use Rattle.ftn_tree.specs.declared.form.Form.TheOpen.{Form-F}
use Rattle.ftn_tree.specs.declared.lexeme.Lexeme.TheVariants as lexeme
use Rattle.ftn_tree.specs.declared.parts.LeaveWord.TheVariants as leave_words
use Rattle.ftn_tree.specs.declared.parts.IoStyle.TheVariants as style
use Rattle.ftn_tree.specs.Layers.{FormLayer}
use Rattle.ftn_tree.specs.Lexemes.{is_word, is_word_at}
use Rattle.ftn_tree.specs.Phrases.{Phrase, nothing, ◌·◌, word, mark, name, maybe, in_parens, commas_or_none, after_commas}
use Rattle.ftn_tree.specs.Grammar.{expr, reference}
use Rattle.ftn_tree.specs.Assignments.{IsAssignment}
use Rattle.ftn_tree.specs.ExecutableForms.{stop_code, after_stars, condition, inner_from, comma_if, control, case_of, action_at, statement_at, executable_at, is_executable}
use Rattle.ftn_tree.proofs.PhraseLaws.{to_right}
use Rattle.expr_parse.specs.steps.Input.{first_lexeme}
use Rattle.exec_parse.proofs.Words.{Starts, starts_with, starts_alone}
use Rattle.ftn_tree.proofs.Namings.{text_is}

abbrev pub is_among : List ℕ → List (List ℕ) → Bool
is_among text [] = false
is_among text (other ∷ others) = bytes_eq text other || is_among text others

abbrev pub executable_words : List (List ℕ)
executable_words =
    codes "if" ∷ codes "else" ∷ codes "elseif" ∷ codes "do" ∷ codes "select" ∷ codes "selectcase" ∷ codes "case" ∷ codes "call" ∷ codes "print" ∷ codes "write"
    ∷ codes "read" ∷ codes "exit" ∷ codes "cycle" ∷ codes "stop" ∷ codes "return" ∷ codes "continue" ∷ []

-- with a word of a list
abbrev pub StartsAmong : List (List ℕ) → List Token → Type 0
StartsAmong words tokens = (text : List ℕ) × Starts text tokens × (is_among text words ≡ true)

abbrev pub Opens : List Token → Type 0
Opens tokens = StartsAmong executable_words tokens ⊎ (first_lexeme (drop 1 tokens) ≡ Some lexeme.Colon)

action_opens : (layer : FormLayer) (at : ℕ) (tokens : List Token) → action_at layer at tokens → StartsAmong executable_words tokens
action_opens (Form-F.Call n args) at tokens says = (codes "call", starts_with (codes "call") (name n · maybe (λ args. in_parens (commas_or_none expr args)) args) at tokens says, refl)
action_opens (Form-F.Print style.Star items) at tokens says = (codes "print", starts_with (codes "print") (mark lexeme.Times · after_commas expr items) at tokens says, refl)
action_opens (Form-F.Print style.Paren items) at tokens says = (codes "write", starts_with (codes "write") (after_stars (commas_or_none expr items)) at tokens says, refl)
action_opens (Form-F.Read style.Star items) at tokens says = (codes "read", starts_with (codes "read") (mark lexeme.Times · after_commas reference items) at tokens says, refl)
action_opens (Form-F.Read style.Paren items) at tokens says = (codes "read", starts_with (codes "read") (after_stars (commas_or_none reference items)) at tokens says, refl)
action_opens (Form-F.Exit leave_words.Exit label) at tokens says = (codes "exit", starts_with (codes "exit") (maybe name label) at tokens says, refl)
action_opens (Form-F.Exit leave_words.Cycle label) at tokens says = (codes "cycle", starts_with (codes "cycle") (maybe name label) at tokens says, refl)
action_opens (Form-F.Stop code) at tokens says = (codes "stop", starts_with (codes "stop") (maybe stop_code code) at tokens says, refl)
action_opens Form-F.Return at tokens says = (codes "return", starts_alone (codes "return") at tokens says, refl)
action_opens Form-F.Continue at tokens says = (codes "continue", starts_alone (codes "continue") at tokens says, refl)
action_opens _ at tokens says = absurd says

after_nothing : (phrase : Phrase) (text : List ℕ) (at : ℕ) (tokens : List Token) → (nothing · word text · phrase) at tokens → Starts text tokens
after_nothing phrase text at tokens (before, rest, split, none, says) =
    let starts = starts_with text phrase (at + length before) rest says in
    record { first = starts.first; rest = starts.rest; tokens_are = split ∙ ap (λ before. before ++ rest) none ∙ starts.tokens_are; is = starts.is }

after_label : (n : ℕ) (phrase : Phrase) (at : ℕ) (tokens : List Token) → ((name n · mark lexeme.Colon) · phrase) at tokens → first_lexeme (drop 1 tokens) ≡ Some lexeme.Colon
after_label n phrase at tokens (both, rest, split, (before, last, split_both, (here, is_one, named), (colon, is_last, is)), says) =
    ap (λ tokens. first_lexeme (drop 1 tokens)) (split ∙ ap (λ both. both ++ rest) (split_both ∙ ap (λ before. before ++ last) is_one ∙ ap (λ last. here ∷ last) is_last)) ∙ ap Some is

pub statement_opens : (layer : FormLayer) (at : ℕ) (tokens : List Token) → statement_at layer at tokens → Opens tokens
statement_opens (Form-F.IfThen e) at tokens says = inl (codes "if", starts_with (codes "if") (condition e · word (codes "then")) at tokens says, refl)
statement_opens (Form-F.If e number inner) at tokens says = inl (codes "if", starts_with (codes "if") (condition e · inner_from number inner) at tokens says, refl)
statement_opens Form-F.Else at tokens says = inl (codes "else", starts_alone (codes "else") at tokens says, refl)
statement_opens (Form-F.ElseIf true e) at tokens says = inl (codes "elseif", starts_with (codes "elseif") (condition e · word (codes "then")) at tokens says, refl)
statement_opens (Form-F.ElseIf false e) at tokens says =
    inl (codes "else", starts_with (codes "else") (word (codes "if") · condition e · word (codes "then")) at tokens (to_right (word (codes "else")) (word (codes "if")) (condition e · word (codes "then")) at tokens says), refl)
statement_opens (Form-F.Do None c) at tokens says = inl (codes "do", after_nothing (maybe control c) (codes "do") at tokens says, refl)
statement_opens (Form-F.Do (Some n) c) at tokens says = inr (after_label n (word (codes "do") · maybe control c) at tokens says)
statement_opens (Form-F.DoWhile None comma e) at tokens says = inl (codes "do", after_nothing (comma_if comma · word (codes "while") · condition e) (codes "do") at tokens says, refl)
statement_opens (Form-F.DoWhile (Some n) comma e) at tokens says = inr (after_label n (word (codes "do") · comma_if comma · word (codes "while") · condition e) at tokens says)
statement_opens (Form-F.Select true e) at tokens says = inl (codes "selectcase", starts_with (codes "selectcase") (condition e) at tokens says, refl)
statement_opens (Form-F.Select false e) at tokens says =
    inl (codes "select", starts_with (codes "select") (word (codes "case") · condition e) at tokens (to_right (word (codes "select")) (word (codes "case")) (condition e) at tokens says), refl)
statement_opens (Form-F.Case ranges) at tokens says = inl (codes "case", starts_with (codes "case") (case_of ranges) at tokens says, refl)
statement_opens other at tokens says = inl (action_opens other at tokens says)

executable_opens : (layer : FormLayer) (at : ℕ) (tokens : List Token) → executable_at layer at tokens → (IsAssignment tokens → ⊥) → Opens tokens
executable_opens (Form-F.Assign target value) at tokens (is, says) none = absurd (none is)
executable_opens other at tokens (none, says) again = statement_opens other at tokens says

-- an executable statement that is no assignment
pub opens : (f : Form) (at : ℕ) (tokens : List Token) → is_executable f at tokens → (IsAssignment tokens → ⊥) → Opens tokens
opens f at tokens says none = executable_opens (out-Form f) at tokens says none

-- ---- words of two lists that have none in common

abbrev pub are_apart : List (List ℕ) → List (List ℕ) → Bool
are_apart [] others = true
are_apart (word ∷ words) others = not (is_among word others) && are_apart words others

apart_text : (words others : List (List ℕ)) (text : List ℕ) → are_apart words others ≡ true → is_among text words ≡ true → is_among text others ≡ false
apart_text [] others text apart among = absurd (cc among)
apart_text (word ∷ words) others text apart among =
    let parts = and_parts (not (is_among word others)) (are_apart words others) apart in
    by parts.0 (λ among. apart_text words others text parts.1 among) (or_cases (bytes_eq text word) (is_among text words) among) where
      by : not (is_among word others) ≡ true → (is_among text words ≡ true → is_among text others ≡ false) → (bytes_eq text word ≡ true) ⊎ (is_among text words ≡ true) → is_among text others ≡ false
      by none later (inl e) = ap (λ text. is_among text others) (text_is text word e) ∙ not-true (is_among word others) none
      by none later (inr e) = later e

word_value : (kind : TokenKind) (value text other : List ℕ) → is_word_at kind value text ≡ true → is_word_at kind value other ≡ true → text ≡ other
word_value kinds.Word value text other e f = sym (text_is value text e) ∙ text_is value other f
word_value kinds.Whole value text other e f = absurd (cc e)
word_value kinds.RealForm value text other e f = absurd (cc e)
word_value kinds.Quoted value text other e f = absurd (cc e)
word_value kinds.Dotted value text other e f = absurd (cc e)
word_value kinds.Mark value text other e f = absurd (cc e)

abbrev first_of : Token → List Token → Token
first_of default [] = default
first_of default (here ∷ rest) = here

one_word : (text other : List ℕ) (tokens : List Token) → Starts text tokens → Starts other tokens → text ≡ other
one_word text other tokens a b =
    let same : a.first ≡ b.first = ap (first_of a.first) (sym a.tokens_are ∙ b.tokens_are) in
    word_value a.first.kind a.first.value text other a.is (ap (is_word other) same ∙ b.is)

-- tokens begin with no words of both
pub never_both : (words others : List (List ℕ)) (tokens : List Token) → are_apart words others ≡ true → StartsAmong words tokens → StartsAmong others tokens → ⊥
never_both words others tokens apart (text, starts, among) (other, starts_other, among_other) =
    let out = apart_text words others text apart among in
    let there = ap (λ text. is_among text others) (one_word text other tokens starts starts_other) ∙ among_other in
    let clash : false ≡ true = sym out ∙ there in
    cc clash
