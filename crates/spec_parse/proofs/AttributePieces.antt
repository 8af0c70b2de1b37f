-- Attributes are read as they are written.
use Rattle.std.proofs.Common.{◌≡◌, refl, ℕ, Bool, true, false, List, ◌++◌, ◌⊎◌, inl, inr, codes}
use Rattle.ftn_tree.specs.declared.token.Token.{Token}
use Rattle.ftn_tree.specs.declared.parts.AccessWord.{AccessWord}
use Rattle.ftn_tree.specs.declared.parts.AccessWord.TheVariants.{Public, Private}
use Rattle.ftn_tree.specs.declared.parts.ProcedureWord.{ProcedureWord}
use Rattle.ftn_tree.specs.declared.parts.ProcedureWord.TheVariants.{External, Intrinsic}
use Rattle.ftn_tree.specs.declared.parts.IntentMode.{IntentMode}
use Rattle.ftn_tree.specs.declared.parts.IntentMode.TheVariants as mode
use Rattle.ftn_tree.specs.declared.lexeme.Lexeme.TheVariants.{Close}
use Rattle.ftn_tree.specs.Lexemes.{same_lexeme}
use Rattle.ftn_tree.specs.Phrases.{Phrase, never, ◌·◌, word, word_at, whether}
use Rattle.ftn_tree.specs.SpecificationForms as form
use Rattle.ftn_tree.proofs.PhraseLaws.{drop_end, add_end}
use Rattle.expr_parse.specs.steps.Input.{Input, input, sees_word, expect_word}
use Rattle.expr_parse.specs.steps.Combinators.{◌<$>◌}
use Rattle.expr_parse.proofs.Pieces.{Piece, Apart, reread}
use Rattle.expr_parse.proofs.AllKinds.{apart}
use Rattle.expr_parse.proofs.Tokens.{only, none_of, word_piece, word_made, word_back, after_word, parens}
use Rattle.spec_parse.specs.steps.Attributes as spec
use Rattle.spec_parse.specs.steps.Attributes.{access_word, procedure_word, in_or_out, intent_mode}
use Rattle.spec_parse.proofs.Choices.{choice, chosen_plain}
use Rattle.spec_parse.proofs.Flags.{word_flag}
use Rattle.spec_parse.proofs.Seen.{starts_word, starts_word_at, starts_first, shows, hides}

-- ---- PUBLIC and PRIVATE, EXTERNAL and INTRINSIC

abbrev pub access_text : AccessWord → Phrase
access_text access = word (form.access_word access)

pub access_back : (c : AccessWord) (at : ℕ) (tokens : List Token) → access_text c at tokens
    → ((n : ℕ) × (spec.public n ≡ c) × word_at n (codes "public") at tokens) ⊎ ((n : ℕ) × (spec.private n ≡ c) × word_at n (codes "private") at tokens)
access_back Public at tokens says = let (n, says_n) = word_back (codes "public") at tokens says in inl (n, refl, says_n)
access_back Private at tokens says = let (n, says_n) = word_back (codes "private") at tokens says in inr (n, refl, says_n)

abbrev pub access_choice : Piece AccessWord
access_choice = choice (sees_word (codes "public")) (word_piece (codes "public")) spec.public (word_piece (codes "private")) spec.private access_text
    (word_made (codes "public")) (word_made (codes "private")) access_back none_of
    (λ n at tokens rest says stops. shows (codes "public") at tokens rest (starts_word_at n (codes "public") at tokens says))
    (λ n at tokens rest says stops none. hides (codes "private") (codes "public") at tokens rest refl (starts_word_at n (codes "private") at tokens says))

pub access_read : (i : Input) → access_word i ≡ access_choice.read i
unfolding access_word
access_read i = refl

abbrev pub access_piece : Piece AccessWord
access_piece = reread access_choice access_word access_read

abbrev pub procedure_text : ProcedureWord → Phrase
procedure_text procedure = word (form.procedure_word procedure)

pub procedure_back : (c : ProcedureWord) (at : ℕ) (tokens : List Token) → procedure_text c at tokens
    → ((n : ℕ) × (spec.external_word n ≡ c) × word_at n (codes "external") at tokens) ⊎ ((n : ℕ) × (spec.intrinsic_word n ≡ c) × word_at n (codes "intrinsic") at tokens)
procedure_back External at tokens says = let (n, says_n) = word_back (codes "external") at tokens says in inl (n, refl, says_n)
procedure_back Intrinsic at tokens says = let (n, says_n) = word_back (codes "intrinsic") at tokens says in inr (n, refl, says_n)

abbrev pub procedure_choice : Piece ProcedureWord
procedure_choice = choice (sees_word (codes "external")) (word_piece (codes "external")) spec.external_word (word_piece (codes "intrinsic")) spec.intrinsic_word procedure_text
    (word_made (codes "external")) (word_made (codes "intrinsic")) procedure_back none_of
    (λ n at tokens rest says stops. shows (codes "external") at tokens rest (starts_word_at n (codes "external") at tokens says))
    (λ n at tokens rest says stops none. hides (codes "intrinsic") (codes "external") at tokens rest refl (starts_word_at n (codes "intrinsic") at tokens says))

pub procedure_read : (i : Input) → procedure_word i ≡ procedure_choice.read i
unfolding procedure_word
procedure_read i = refl

abbrev pub procedure_piece : Piece ProcedureWord
procedure_piece = reread procedure_choice procedure_word procedure_read

-- ---- IN, OUT, INOUT and IN OUT

abbrev pub in_text : IntentMode → Phrase
in_text mode.In = word (codes "in")
in_text mode.Out = word (codes "out")
in_text (mode.InOut true) = never
in_text (mode.InOut false) = word (codes "in") · word (codes "out")

abbrev pub in_piece : Piece Bool
in_piece = after_word (codes "in") (word_flag (codes "out"))

pub in_made : (b : Bool) (at : ℕ) (tokens : List Token) → in_piece.phrase b at tokens → in_text (spec.in_or_inout b) at tokens
in_made true at tokens says = says
in_made false at tokens says = drop_end (word (codes "in")) at tokens says

pub in_back : (c : IntentMode) (at : ℕ) (tokens : List Token) → in_text c at tokens
    → ((b : Bool) × (spec.in_or_inout b ≡ c) × in_piece.phrase b at tokens) ⊎ ((n : ℕ) × (spec.out n ≡ c) × word_at n (codes "out") at tokens)
in_back mode.In at tokens says = inl (false, refl, add_end (word (codes "in")) at tokens says)
in_back mode.Out at tokens says = let (n, says_n) = word_back (codes "out") at tokens says in inr (n, refl, says_n)
in_back (mode.InOut true) at tokens says = absurd says
in_back (mode.InOut false) at tokens says = inl (true, refl, says)

abbrev pub in_choice : Piece IntentMode
in_choice = choice (sees_word (codes "in")) in_piece spec.in_or_inout (word_piece (codes "out")) spec.out in_text
    in_made (word_made (codes "out")) in_back none_of
    (λ b at tokens rest says stops. shows (codes "in") at tokens rest (starts_first (codes "in") (whether b (word (codes "out"))) at tokens says))
    (λ n at tokens rest says stops none. hides (codes "out") (codes "in") at tokens rest refl (starts_word_at n (codes "out") at tokens says))

pub in_read : (i : Input) → in_or_out i ≡ in_choice.read i
unfolding in_or_out
in_read i = refl

abbrev pub in_or_out_piece : Piece IntentMode
in_or_out_piece = reread in_choice in_or_out in_read

pub mode_made : (c : IntentMode) (at : ℕ) (tokens : List Token) → in_text c at tokens → form.intent_mode c at tokens
mode_made mode.In at tokens says = says
mode_made mode.Out at tokens says = says
mode_made (mode.InOut true) at tokens says = absurd says
mode_made (mode.InOut false) at tokens says = says

pub mode_back : (c : IntentMode) (at : ℕ) (tokens : List Token) → form.intent_mode c at tokens
    → ((n : ℕ) × (spec.inout n ≡ c) × word_at n (codes "inout") at tokens) ⊎ ((b : IntentMode) × (b ≡ c) × in_text b at tokens)
mode_back mode.In at tokens says = inr (mode.In, refl, says)
mode_back mode.Out at tokens says = inr (mode.Out, refl, says)
mode_back (mode.InOut true) at tokens says = let (n, says_n) = word_back (codes "inout") at tokens says in inl (n, refl, says_n)
mode_back (mode.InOut false) at tokens says = inr (mode.InOut false, refl, says)

pub no_inout : (b : IntentMode) (at : ℕ) (tokens rest : List Token) → in_text b at tokens → sees_word (codes "inout") (input at (tokens ++ rest)) ≡ false
no_inout mode.In at tokens rest says = hides (codes "in") (codes "inout") at tokens rest refl (starts_word (codes "in") at tokens says)
no_inout mode.Out at tokens rest says = hides (codes "out") (codes "inout") at tokens rest refl (starts_word (codes "out") at tokens says)
no_inout (mode.InOut true) at tokens rest says = absurd says
no_inout (mode.InOut false) at tokens rest says = hides (codes "in") (codes "inout") at tokens rest refl (starts_first (codes "in") (word (codes "out")) at tokens says)

abbrev pub mode_choice : Piece IntentMode
mode_choice = choice (sees_word (codes "inout")) (word_piece (codes "inout")) spec.inout in_or_out_piece (λ c. c) form.intent_mode
    (word_made (codes "inout")) mode_made mode_back none_of
    (λ n at tokens rest says stops. shows (codes "inout") at tokens rest (starts_word_at n (codes "inout") at tokens says))
    (λ b at tokens rest says stops none. no_inout b at tokens rest says)

pub mode_read : (i : Input) → intent_mode i ≡ mode_choice.read i
unfolding intent_mode
mode_read i = chosen_plain (sees_word (codes "inout")) (spec.inout <$> expect_word (codes "inout")) in_or_out i

abbrev pub mode_piece : Piece IntentMode
mode_piece = reread mode_choice intent_mode mode_read

pub close_no_mode : Apart (only Close) mode_piece.more
unfolding same_lexeme
close_no_mode = apart (only Close) mode_piece.more refl

-- in parentheses
abbrev pub paren_mode_piece : Piece IntentMode
paren_mode_piece = parens mode_piece close_no_mode
