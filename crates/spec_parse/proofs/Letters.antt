-- Letters and ranges of letters as pieces.
use Rattle.std.proofs.Common.{◌≡◌, refl, sym, ◌∙◌, ap, ℕ, Bool, true, List, [], ◌∷◌, Option, Some, None}
use Rattle.std.proofs.lemmas.Bool.{leb-true, le-leb}
use Rattle.ftn_tree.specs.declared.token.Token.{Token}
use Rattle.ftn_tree.specs.declared.token.TokenKind.{TokenKind}
use Rattle.ftn_tree.specs.declared.token.TokenKind.TheVariants as kinds
use Rattle.ftn_tree.specs.declared.lexeme.Lexeme.{Lexeme}
use Rattle.ftn_tree.specs.declared.lexeme.Lexeme.TheVariants as lexeme
use Rattle.ftn_tree.specs.declared.parts.LetterRange.{LetterRange}
use Rattle.ftn_tree.specs.Lexemes.{lexeme_of, lexeme_by, same_lexeme}
use Rattle.ftn_tree.specs.Phrases.{Phrase}
use Rattle.ftn_tree.specs.UnitForms as written
use Rattle.expr_parse.specs.steps.Input.{Input}
use Rattle.expr_parse.proofs.AllKinds.{apart, within}
use Rattle.expr_parse.proofs.Lists.{list}
use Rattle.expr_parse.proofs.Pieces.{Piece, Apart, seq, option, mapped, reread}
use Rattle.expr_parse.proofs.Tokens.{only, apart_none, after_mark, parens}
use Rattle.spec_parse.specs.steps.Implicits.{one_byte, letter_by, letter_at_front, taken_letter, letter, in_order, number_of_last, range_of, Ends}
use Rattle.spec_parse.proofs.Choices.{checked_piece}
use Rattle.spec_parse.proofs.Either.{rephrased}
use Rattle.ftn_tree.proofs.PhraseLaws.{drop_end, add_end}
use Rattle.spec_parse.proofs.Valued.{valued, valued_phrase, at_front, taken, read_value}
use Rattle.spec_parse.proofs.WordKinds.{is_word_kind}

-- ---- a letter

abbrev pub letter_here : Token → Option ℕ
letter_here here = letter_by here.kind here.value

abbrev pub pair : ℕ → ℕ → ℕ × ℕ
pair number byte = (number, byte)

kind_by : (kind : TokenKind) (value : List ℕ) (byte : ℕ) → letter_by kind value ≡ Some byte → lexeme_by kind value ≡ lexeme.Word
kind_by kinds.Word value byte is = refl
kind_by kinds.Whole value byte is = absurd (cc is)
kind_by kinds.RealForm value byte is = absurd (cc is)
kind_by kinds.Quoted value byte is = absurd (cc is)
kind_by kinds.Dotted value byte is = absurd (cc is)
kind_by kinds.Mark value byte is = absurd (cc is)

pub letter_kind : (here : Token) (byte : ℕ) → letter_here here ≡ Some byte → lexeme_of here ≡ lexeme.Word
letter_kind here byte is = kind_by here.kind here.value byte is

one_is : (value : List ℕ) (byte : ℕ) → one_byte value ≡ Some byte → value ≡ byte ∷ []
one_is [] byte is = absurd (cc is)
one_is (first ∷ []) byte is = let same : first ≡ byte = cc is in ap (λ byte. byte ∷ []) same
one_is (first ∷ second ∷ rest) byte is = absurd (cc is)

value_by : (kind : TokenKind) (value : List ℕ) (byte : ℕ) → letter_by kind value ≡ Some byte → value ≡ byte ∷ []
value_by kinds.Word value byte is = one_is value byte is
value_by kinds.Whole value byte is = absurd (cc is)
value_by kinds.RealForm value byte is = absurd (cc is)
value_by kinds.Quoted value byte is = absurd (cc is)
value_by kinds.Dotted value byte is = absurd (cc is)
value_by kinds.Mark value byte is = absurd (cc is)

abbrev pub letter_phrase : ℕ × ℕ → Phrase
letter_phrase both = written.letter both.1 both.0

pub letter_made : (both : ℕ × ℕ) (at : ℕ) (tokens : List Token) → valued_phrase lexeme.Word letter_here pair letter_kind both at tokens → written.letter both.1 both.0 at tokens
letter_made both at tokens (here, split, (byte, is, same)) =
    (here, split, (sym (ap (λ (both : ℕ × ℕ). both.0) same), letter_kind here byte is, value_by here.kind here.value byte is ∙ ap (λ byte. byte ∷ []) (ap (λ (both : ℕ × ℕ). both.1) same)))

pub letter_back : (both : ℕ × ℕ) (at : ℕ) (tokens : List Token) → written.letter both.1 both.0 at tokens → valued_phrase lexeme.Word letter_here pair letter_kind both at tokens
letter_back both at tokens (here, split, (is_at, is_word, value_is)) =
    (here, split, (both.1, ap (λ kind. letter_by kind here.value) (is_word_kind here.kind here.value is_word) ∙ ap one_byte value_is, ap (λ number. pair number both.1) (sym is_at)))

same_front : (tokens : List Token) → letter_at_front tokens ≡ at_front lexeme.Word letter_here pair letter_kind tokens
same_front [] = refl
same_front (here ∷ rest) = refl

same_taken : (found : Option ℕ) (i : Input) → taken_letter found i ≡ taken lexeme.Word letter_here pair letter_kind found i
same_taken None i = refl
same_taken (Some byte) i = refl

pub same_reader : (i : Input) → letter i ≡ read_value lexeme.Word letter_here pair letter_kind i
unfolding letter
same_reader i = same_taken (letter_at_front i.rest) i ∙ ap (λ found. taken lexeme.Word letter_here pair letter_kind found i) (same_front i.rest)

abbrev pub letter_piece : Piece (ℕ × ℕ)
letter_piece = reread (rephrased (valued lexeme.Word letter_here pair letter_kind) letter_phrase letter_made letter_back) letter same_reader

-- ---- a range

abbrev last_piece : Piece (ℕ × ℕ)
last_piece = after_mark lexeme.Minus letter_piece

pub minus_only : (kind : Lexeme) → last_piece.first kind ≡ true → only lexeme.Minus kind ≡ true
unfolding same_lexeme
minus_only = within last_piece.first (only lexeme.Minus) refl

abbrev ends_piece : Piece Ends
ends_piece = seq letter_piece (option last_piece lexeme.Minus refl minus_only) (apart_none _)

abbrev are_in_order : Ends → Bool
are_in_order ends = in_order ends.0.1 ends.1

abbrev ordered_piece : Piece Ends
ordered_piece = checked_piece are_in_order ends_piece

made_by : (first : ℕ × ℕ) (last : Option (ℕ × ℕ)) (at : ℕ) (tokens : List Token) → ordered_piece.phrase (first, last) at tokens → written.letters first.0 (number_of_last last) at tokens
made_by first None at tokens (passes, says) = (first.1, drop_end (letter_phrase first) at tokens says)
made_by first (Some last) at tokens (passes, says) = (first.1, last.1, leb-true first.1 last.1 passes, says)

pub range_made : (ends : Ends) (at : ℕ) (tokens : List Token) → ordered_piece.phrase ends at tokens → written.letter_range (range_of ends) at tokens
range_made ends at tokens says = made_by ends.0 ends.1 at tokens says

abbrev with_ends : ℕ → Option ℕ → LetterRange
with_ends first last = record { first = first; last = last }

back_by : (first : ℕ) (last : Option ℕ) (at : ℕ) (tokens : List Token) → written.letters first last at tokens → (ends : Ends) × (range_of ends ≡ with_ends first last) × ordered_piece.phrase ends at tokens
back_by first None at tokens (byte, says) = (((first, byte), None), refl, (refl, add_end (written.letter byte first) at tokens says))
back_by first (Some last) at tokens (byte, other, ordered, says) = (((first, byte), Some (last, other)), refl, (le-leb byte other ordered, says))

pub range_back : (range : LetterRange) (at : ℕ) (tokens : List Token) → written.letter_range range at tokens → (ends : Ends) × (range_of ends ≡ range) × ordered_piece.phrase ends at tokens
range_back range at tokens says = back_by range.first range.last at tokens says

abbrev pub range_piece : Piece LetterRange
range_piece = mapped ordered_piece range_of written.letter_range range_made range_back

pub comma_range : Apart (only lexeme.Comma) range_piece.more
unfolding same_lexeme
comma_range = apart (only lexeme.Comma) range_piece.more refl

abbrev pub listed_piece : Piece (List LetterRange)
listed_piece = list range_piece refl comma_range

pub close_ranges : Apart (only lexeme.Close) listed_piece.more
unfolding same_lexeme
close_ranges = apart (only lexeme.Close) listed_piece.more refl

abbrev pub ranges_piece : Piece (List LetterRange)
ranges_piece = parens listed_piece close_ranges
