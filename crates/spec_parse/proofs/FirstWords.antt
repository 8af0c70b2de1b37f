-- Which row a first word leads to.
use Rattle.std.proofs.Common.{◌≡◌, sym, ◌∙◌, ap, subst, ℕ, ◌+◌, true, List, [], ◌∷◌, ◌++◌, length, Some}
use Rattle.ftn_tree.specs.declared.token.Token.{Token}
use Rattle.ftn_tree.specs.declared.token.TokenKind.{TokenKind}
use Rattle.ftn_tree.specs.declared.token.TokenKind.TheVariants as kinds
use Rattle.ftn_tree.specs.declared.form.Form.{Form}
use Rattle.ftn_tree.specs.Lexemes.{is_word, is_word_at}
use Rattle.ftn_tree.specs.Phrases.{Phrase, ◌·◌, word}
use Rattle.expr_parse.specs.steps.Input.{input}
use Rattle.spec_parse.specs.declared.rows.Row.{Row}
use Rattle.spec_parse.specs.steps.Rows.{find_row, row_by, row_at_front, row_reader, read_by, statement}
use Rattle.spec_parse.proofs.Wholes.{GivesForm}
use Rattle.ftn_tree.proofs.Namings.{text_is}

by_kind : (kind : TokenKind) (value text : List ℕ) → is_word_at kind value text ≡ true → row_by kind value ≡ Some (find_row text)
by_kind kinds.Word value text e = ap (λ text. Some (find_row text)) (text_is value text e)
by_kind kinds.Whole value text e = absurd (cc e)
by_kind kinds.RealForm value text e = absurd (cc e)
by_kind kinds.Quoted value text e = absurd (cc e)
by_kind kinds.Dotted value text e = absurd (cc e)
by_kind kinds.Mark value text e = absurd (cc e)

-- a token that is that word
pub word_leads : (text : List ℕ) (here : Token) (rest : List Token) → is_word text here ≡ true → row_at_front (here ∷ rest) ≡ Some (find_row text)
word_leads text here rest e = by_kind here.kind here.value text e

pub alone_leads : (text : List ℕ) (at : ℕ) (tokens : List Token) → word text at tokens → row_at_front tokens ≡ Some (find_row text)
alone_leads text at tokens (here, split, is) = subst (λ tokens. row_at_front tokens ≡ Some (find_row text)) (sym split) (word_leads text here [] is)

pub more_after : (before after : List Token) (row : Row) → row_at_front before ≡ Some row → row_at_front (before ++ after) ≡ Some row
more_after [] after row e = absurd (cc e)
more_after (here ∷ before) after row e = e

-- tokens that begin with that word
pub phrase_leads : (text : List ℕ) (phrase : Phrase) (at : ℕ) (tokens : List Token) → (word text · phrase) at tokens → row_at_front tokens ≡ Some (find_row text)
phrase_leads text phrase at tokens (before, after, split, says, says_rest) =
    subst (λ tokens. row_at_front tokens ≡ Some (find_row text)) (sym split) (more_after before after (find_row text) (alone_leads text at before says))

-- what the row's reader gives the statement gives
pub by_row : (row : Row) (at : ℕ) (tokens : List Token) (form : Form) → row_at_front tokens ≡ Some row → GivesForm (row_reader row) at tokens form → statement (input at tokens) ≡ Some (form, input (at + length tokens) [])
unfolding statement
by_row row at tokens form leads gives = ap (λ found. read_by found (input at tokens)) leads ∙ gives
