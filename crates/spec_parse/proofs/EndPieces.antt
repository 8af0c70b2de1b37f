-- The parts of END statements.
use Rattle.std.proofs.Common.{◌≡◌, refl, sym, ◌∙◌, ap, subst, ℕ, Bool, true, false, List, [], ◌∷◌, ◌++◌, Option, Some, None, codes, if◌then◌else◌}
use Rattle.ftn_tree.specs.declared.token.Token.{Token}
use Rattle.ftn_tree.specs.declared.token.TokenKind.{TokenKind}
use Rattle.ftn_tree.specs.declared.token.TokenKind.TheVariants as kinds
use Rattle.ftn_tree.specs.declared.lexeme.Lexeme.{Lexeme}
use Rattle.ftn_tree.specs.declared.lexeme.Lexeme.TheVariants as lexeme
use Rattle.ftn_tree.specs.declared.parts.EndWord.{EndWord}
use Rattle.ftn_tree.specs.declared.parts.EndWord.TheVariants.{Program, Module, BlockData, Subroutine, Function, Interface, If, Do, Select}
use Rattle.ftn_tree.specs.declared.parts.Ending.{Ending}
use Rattle.ftn_tree.specs.Lexemes.{lexeme_of, lexeme_by, is_word_at, is_text, same_lexeme}
use Rattle.ftn_tree.specs.Phrases.{word}
use Rattle.ftn_tree.specs.UnitForms.{end_text, is_parted}
use Rattle.expr_parse.specs.steps.Input.{Input}
use Rattle.expr_parse.proofs.Pieces.{Piece, seq, option, reread}
use Rattle.expr_parse.proofs.AllKinds.{within}
use Rattle.expr_parse.proofs.Tokens.{only, apart_none, name_piece, after_word}
use Rattle.spec_parse.specs.steps.Endings.{end_word, joined_end_word, word_by, word_of_kind, word_at_front, taken_word, ending_word, ending_words}
use Rattle.spec_parse.proofs.Either.{rephrased}
use Rattle.spec_parse.proofs.Trailed.{trailed_piece}
use Rattle.spec_parse.proofs.UnitPieces.{name_only}
use Rattle.spec_parse.proofs.Valued.{valued, valued_phrase, at_front, taken, read_value}
use Rattle.spec_parse.proofs.Wholes.{made_of}
use Rattle.ftn_tree.proofs.Namings.{text_is}

-- ---- the words

-- how the word is spelled where END is joined to it, or isn't
abbrev pub spelled : Bool → EndWord → List ℕ
spelled true which = codes "end" ++ end_text which
spelled false which = end_text which

-- the first of these words that the text is
abbrev pick : (EndWord → List ℕ) → List EndWord → List ℕ → Option EndWord
pick spell [] text = None
pick spell (which ∷ rest) text = if is_text text (spell which) then Some which else pick spell rest text

abbrev words : List EndWord
words = Program ∷ Module ∷ Subroutine ∷ Function ∷ Interface ∷ If ∷ Do ∷ Select ∷ BlockData false ∷ BlockData true ∷ []

picked_is : (spell : EndWord → List ℕ) (from : List EndWord) (text : List ℕ) (which : EndWord) → pick spell from text ≡ Some which → is_text text (spell which) ≡ true
picked_is spell [] text which e = absurd (cc e)
picked_is spell (first ∷ rest) text which e = by (picked_is spell rest text which) (is_text text (spell first)) refl where
  by : (pick spell rest text ≡ Some which → is_text text (spell which) ≡ true) → (found : Bool) → is_text text (spell first) ≡ found → is_text text (spell which) ≡ true
  by onward true is =
      let same : first ≡ which = cc (sym (ap (λ found. if found then Some first else pick spell rest text) is) ∙ e) in
      subst (λ which. is_text text (spell which) ≡ true) same is
  by onward false is = onward (sym (ap (λ found. if found then Some first else pick spell rest text) is) ∙ e)

found_is : (joined : Bool) (text : List ℕ) (which : EndWord) → word_by joined text ≡ Some which → is_text text (spelled joined which) ≡ true
unfolding end_word joined_end_word
found_is true text which e = picked_is (spelled true) words text which e
found_is false text which e = picked_is (spelled false) words text which e

found : (joined : Bool) (which : EndWord) → word_by joined (spelled joined which) ≡ Some which
unfolding end_word joined_end_word
found true Program = refl
found true Module = refl
found true Subroutine = refl
found true Function = refl
found true Interface = refl
found true If = refl
found true Do = refl
found true Select = refl
found true (BlockData false) = refl
found true (BlockData true) = refl
found false Program = refl
found false Module = refl
found false Subroutine = refl
found false Function = refl
found false Interface = refl
found false If = refl
found false Do = refl
found false Select = refl
found false (BlockData false) = refl
found false (BlockData true) = refl

-- ---- their tokens

abbrev word_here : Bool → Token → Option EndWord
word_here joined here = word_of_kind joined here.kind here.value

abbrev only_word : ℕ → EndWord → EndWord
only_word number which = which

kind_by : (joined : Bool) (kind : TokenKind) (value : List ℕ) (which : EndWord) → word_of_kind joined kind value ≡ Some which → lexeme_by kind value ≡ lexeme.Word
kind_by joined kinds.Word value which e = refl
kind_by joined kinds.Whole value which e = absurd (cc e)
kind_by joined kinds.RealForm value which e = absurd (cc e)
kind_by joined kinds.Quoted value which e = absurd (cc e)
kind_by joined kinds.Dotted value which e = absurd (cc e)
kind_by joined kinds.Mark value which e = absurd (cc e)

pub is_word_kind : (joined : Bool) (here : Token) (which : EndWord) → word_here joined here ≡ Some which → lexeme_of here ≡ lexeme.Word
is_word_kind joined here which e = kind_by joined here.kind here.value which e

word_is_by : (joined : Bool) (kind : TokenKind) (value : List ℕ) (which : EndWord) → word_of_kind joined kind value ≡ Some which → is_word_at kind value (spelled joined which) ≡ true
word_is_by joined kinds.Word value which e = found_is joined value which e
word_is_by joined kinds.Whole value which e = absurd (cc e)
word_is_by joined kinds.RealForm value which e = absurd (cc e)
word_is_by joined kinds.Quoted value which e = absurd (cc e)
word_is_by joined kinds.Dotted value which e = absurd (cc e)
word_is_by joined kinds.Mark value which e = absurd (cc e)

is_word_by : (joined : Bool) (kind : TokenKind) (value : List ℕ) (which : EndWord) → is_word_at kind value (spelled joined which) ≡ true → word_of_kind joined kind value ≡ Some which
is_word_by joined kinds.Word value which e = ap (word_by joined) (text_is value (spelled joined which) e) ∙ found joined which
is_word_by joined kinds.Whole value which e = absurd (cc e)
is_word_by joined kinds.RealForm value which e = absurd (cc e)
is_word_by joined kinds.Quoted value which e = absurd (cc e)
is_word_by joined kinds.Dotted value which e = absurd (cc e)
is_word_by joined kinds.Mark value which e = absurd (cc e)

module _ (joined : Bool) where
  abbrev value_piece : Piece EndWord
  value_piece = valued lexeme.Word (word_here joined) only_word (is_word_kind joined)

  pub word_made : (which : EndWord) (at : ℕ) (tokens : List Token) → valued_phrase lexeme.Word (word_here joined) only_word (is_word_kind joined) which at tokens → word (spelled joined which) at tokens
  word_made which at tokens (here, split, (other, is, same)) =
      (here, split, word_is_by joined here.kind here.value which (subst (λ which. word_here joined here ≡ Some which) same is))

  pub word_back : (which : EndWord) (at : ℕ) (tokens : List Token) → word (spelled joined which) at tokens → valued_phrase lexeme.Word (word_here joined) only_word (is_word_kind joined) which at tokens
  word_back which at tokens (here, split, is) = (here, split, (which, is_word_by joined here.kind here.value which is, refl))

  same_front : (tokens : List Token) → word_at_front joined tokens ≡ at_front lexeme.Word (word_here joined) only_word (is_word_kind joined) tokens
  same_front [] = refl
  same_front (here ∷ rest) = refl

  same_taken : (found : Option EndWord) (i : Input) → taken_word found i ≡ taken lexeme.Word (word_here joined) only_word (is_word_kind joined) found i
  same_taken None i = refl
  same_taken (Some which) i = refl

  pub same_reader : (i : Input) → ending_word joined i ≡ read_value lexeme.Word (word_here joined) only_word (is_word_kind joined) i
  unfolding ending_word
  same_reader i = same_taken (word_at_front joined i.rest) i ∙ ap (λ found. taken lexeme.Word (word_here joined) only_word (is_word_kind joined) found i) (same_front i.rest)

  abbrev pub end_word_piece : Piece EndWord
  end_word_piece = reread (rephrased value_piece (λ which. word (spelled joined which)) word_made word_back) (ending_word joined) same_reader

  abbrev words_trailed : Piece EndWord
  words_trailed = trailed_piece is_parted (codes "data") end_word_piece refl (apart_none (only lexeme.Word))

  pub words_read : (i : Input) → ending_words joined i ≡ words_trailed.read i
  unfolding ending_words
  words_read i = refl

  abbrev pub end_words_piece : Piece EndWord
  end_words_piece = reread words_trailed (ending_words joined) words_read

  abbrev pub ending_parts : Piece (EndWord × Option ℕ)
  ending_parts = seq end_words_piece (option name_piece lexeme.Word refl name_only) (apart_none _)

  abbrev pub ending_of : EndWord × Option ℕ → Ending
  ending_of parts = record { word = parts.0; joined = joined; name = parts.1 }

  abbrev pub ending_piece : Piece Ending
  ending_piece = made_of ending_parts ending_of

pub ending_only : (kind : Lexeme) → (ending_piece false).first kind ≡ true → only lexeme.Word kind ≡ true
unfolding same_lexeme
ending_only = within (ending_piece false).first (only lexeme.Word) refl

abbrev pub parted_parts : Piece (Option Ending)
parted_parts = after_word (codes "end") (option (ending_piece false) lexeme.Word refl ending_only)
