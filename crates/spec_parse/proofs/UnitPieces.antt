-- The parts of the statements that begin program units, procedures and interface blocks.
use Rattle.std.proofs.Common.{◌≡◌, refl, ℕ, ◌+◌, Bool, true, false, ◌||◌, List, length, Option, ◌⊎◌, inl, inr, codes}
use Rattle.ftn_tree.specs.declared.token.Token.{Token}
use Rattle.ftn_tree.specs.declared.lexeme.Lexeme.{Lexeme}
use Rattle.ftn_tree.specs.declared.lexeme.Lexeme.TheVariants.{Word, Open, Close, Comma}
use Rattle.ftn_tree.specs.Lexemes.{same_lexeme}
use Rattle.ftn_tree.specs.Phrases.{word_at}
use Rattle.ftn_tree.specs.UnitForms.{block_data}
use Rattle.expr_parse.specs.steps.Input.{Input, sees_word}
use Rattle.expr_parse.proofs.Pieces.{Piece, Apart, seq, option, reread}
use Rattle.expr_parse.proofs.AllKinds.{apart, within}
use Rattle.expr_parse.proofs.Tokens.{only, none_of, apart_none, name_piece, word_piece, word_made, word_back, after_word, parens}
use Rattle.expr_parse.proofs.Lists.{list}
use Rattle.expr_parse.proofs.Parens.{parenthesized_list}
use Rattle.spec_parse.specs.steps.Units as spec
use Rattle.spec_parse.proofs.Choices.{choice}
use Rattle.spec_parse.proofs.Seen.{shows, hides, starts_word_at, starts_first}

pub name_close : Apart name_piece.first (only Close)
unfolding same_lexeme
name_close = apart name_piece.first (only Close) refl

pub close_names : Apart (only Close) (λ kind. name_piece.more kind || only Comma kind)
unfolding same_lexeme
close_names = apart (only Close) (λ kind. name_piece.more kind || only Comma kind) refl

abbrev pub dummies_piece : Piece (List ℕ)
dummies_piece = parenthesized_list name_piece refl (apart_none (only Comma)) name_close close_names

abbrev pub names_piece : Piece (List ℕ)
names_piece = list name_piece refl (apart_none (only Comma))

pub open_only : (kind : Lexeme) → dummies_piece.first kind ≡ true → only Open kind ≡ true
unfolding same_lexeme
open_only = within dummies_piece.first (only Open) refl

abbrev pub program_parts : Piece ℕ
program_parts = after_word (codes "program") name_piece

abbrev pub module_parts : Piece ℕ
module_parts = after_word (codes "module") name_piece

abbrev pub procedure_parts : Piece (List ℕ)
procedure_parts = after_word (codes "module") (after_word (codes "procedure") names_piece)

abbrev pub subroutine_parts : Piece (ℕ × Option (List ℕ))
subroutine_parts = after_word (codes "subroutine") (seq name_piece (option dummies_piece Open refl open_only) (apart_none _))

abbrev pub result_piece : Piece ℕ
result_piece = after_word (codes "result") (parens name_piece (apart_none (only Close)))

pub word_only : (kind : Lexeme) → result_piece.first kind ≡ true → only Word kind ≡ true
unfolding same_lexeme
word_only = within result_piece.first (only Word) refl

pub word_dummies : Apart (only Word) dummies_piece.more
unfolding same_lexeme
word_dummies = apart (only Word) dummies_piece.more refl

abbrev pub function_parts : Piece (ℕ × (List ℕ × Option ℕ))
function_parts = after_word (codes "function") (seq name_piece (seq dummies_piece (option result_piece Word refl word_only) word_dummies) (apart_none _))

abbrev pub contains_parts : Piece ℕ
contains_parts = word_piece (codes "contains")

pub name_only : (kind : Lexeme) → name_piece.first kind ≡ true → only Word kind ≡ true
unfolding same_lexeme
name_only = within name_piece.first (only Word) refl

abbrev pub interface_parts : Piece (Option ℕ)
interface_parts = after_word (codes "interface") (option name_piece Word refl name_only)

-- ---- BLOCK DATA

abbrev parted_words : Piece ℕ
parted_words = after_word (codes "block") (word_piece (codes "data"))

pub words_made : (n at : ℕ) (tokens : List Token) → parted_words.phrase n at tokens → block_data false at tokens
words_made n at tokens (before, after, split, says, says_data) = (before, after, split, says, word_made (codes "data") n (at + length before) after says_data)

pub words_back : (c : Bool) (at : ℕ) (tokens : List Token) → block_data c at tokens
    → ((n : ℕ) × (spec.joined n ≡ c) × word_at n (codes "blockdata") at tokens) ⊎ ((n : ℕ) × (spec.parted n ≡ c) × parted_words.phrase n at tokens)
words_back true at tokens says = let (n, says_n) = word_back (codes "blockdata") at tokens says in inl (n, refl, says_n)
words_back false at tokens (before, after, split, says, says_data) = let (n, says_n) = word_back (codes "data") (at + length before) after says_data in inr (n, refl, (before, after, split, says, says_n))

abbrev words_choice : Piece Bool
words_choice = choice (sees_word (codes "blockdata")) (word_piece (codes "blockdata")) spec.joined parted_words spec.parted block_data
    (word_made (codes "blockdata")) words_made words_back none_of
    (λ n at tokens rest says stops. shows (codes "blockdata") at tokens rest (starts_word_at n (codes "blockdata") at tokens says))
    (λ n at tokens rest says stops none. hides (codes "block") (codes "blockdata") at tokens rest refl (starts_first (codes "block") (word_at n (codes "data")) at tokens says))

pub words_read : (i : Input) → spec.block_words i ≡ words_choice.read i
unfolding spec.block_words
words_read i = refl

abbrev pub block_words_piece : Piece Bool
block_words_piece = reread words_choice spec.block_words words_read

pub word_no_words : Apart (only Word) block_words_piece.more
word_no_words kind e = refl

abbrev pub block_data_parts : Piece (Bool × Option ℕ)
block_data_parts = seq block_words_piece (option name_piece Word refl name_only) word_no_words
