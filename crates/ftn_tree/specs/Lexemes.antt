-- What tokens are in the grammar (Fortran 90, 3.2).
use Rattle.std.specs.Prelude.{ℕ, Bool, false, ◌||◌, ◌&&◌, ◌==◌, if◌then◌else◌, List, [], ◌∷◌, codes}
use Rattle.std.specs.Str.{bytes_eq}
use denote.Enum.Bare.{sameb}
use Rattle.ftn_tree.specs.contracts.lexeme.Lexeme.{the_type}
use Rattle.ftn_tree.specs.declared.token.Token.{Token}
use Rattle.ftn_tree.specs.declared.token.TokenKind.{TokenKind}
use Rattle.ftn_tree.specs.declared.token.TokenKind.TheVariants as tokens
use Rattle.ftn_tree.specs.declared.lexeme.Lexeme.{Lexeme}
use Rattle.ftn_tree.specs.declared.lexeme.Lexeme.TheVariants.{Word, Whole, Quoted, True, False, Power, Times, Divide, Plus, Minus, Concat, Eq, Ne, Lt, Le, Gt, Ge, Not, And, Or, Eqv, Neqv, Open, Close, Comma, Colon, Colons, Equals, Arrow, Foreign}

unfoldable pub same_lexeme : Lexeme → Lexeme → Bool
same_lexeme = sameb the_type

abbrev pub is_text : List ℕ → List ℕ → Bool
is_text value text = bytes_eq value text

-- an operator on logical values, or a logical constant
abbrev pub logical : List ℕ → Lexeme
logical value =
    if is_text value (codes ".and.") then And
    else if is_text value (codes ".or.") then Or
    else if is_text value (codes ".not.") then Not
    else if is_text value (codes ".true.") then True
    else if is_text value (codes ".false.") then False
    else if is_text value (codes ".eqv.") then Eqv
    else if is_text value (codes ".neqv.") then Neqv
    else Foreign

-- letters between two points (3.2.3, 4.3.2.2)
abbrev pub dotted : List ℕ → Lexeme
dotted value =
    if is_text value (codes ".eq.") then Eq
    else if is_text value (codes ".ne.") then Ne
    else if is_text value (codes ".lt.") then Lt
    else if is_text value (codes ".le.") then Le
    else if is_text value (codes ".gt.") then Gt
    else if is_text value (codes ".ge.") then Ge
    else logical value

-- a mark of one byte: ( ) , : = * / + - < >
abbrev pub one_byte : ℕ → Lexeme
one_byte byte =
    if byte == 40 then Open
    else if byte == 41 then Close
    else if byte == 44 then Comma
    else if byte == 58 then Colon
    else if byte == 61 then Equals
    else if byte == 42 then Times
    else if byte == 47 then Divide
    else if byte == 43 then Plus
    else if byte == 45 then Minus
    else if byte == 60 then Lt
    else if byte == 62 then Gt
    else Foreign

-- a mark of two bytes: ** // == /= <= >= :: =>
abbrev pub two_bytes : ℕ → ℕ → Lexeme
two_bytes first second =
    if first == 42 && second == 42 then Power
    else if first == 47 && second == 47 then Concat
    else if first == 61 && second == 61 then Eq
    else if first == 47 && second == 61 then Ne
    else if first == 60 && second == 61 then Le
    else if first == 62 && second == 61 then Ge
    else if first == 58 && second == 58 then Colons
    else if first == 61 && second == 62 then Arrow
    else Foreign

abbrev pub mark : List ℕ → Lexeme
mark [] = Foreign
mark (byte ∷ []) = one_byte byte
mark (first ∷ second ∷ []) = two_bytes first second
mark (first ∷ second ∷ third ∷ rest) = Foreign

abbrev pub lexeme_by : TokenKind → List ℕ → Lexeme
lexeme_by tokens.Word value = Word
lexeme_by tokens.Whole value = Whole
lexeme_by tokens.Quoted value = Quoted
lexeme_by tokens.RealForm value = Foreign
lexeme_by tokens.Dotted value = dotted value
lexeme_by tokens.Mark value = mark value

abbrev pub lexeme_of : Token → Lexeme
lexeme_of token = lexeme_by token.kind token.value

abbrev pub is_word_at : TokenKind → List ℕ → List ℕ → Bool
is_word_at tokens.Word value text = is_text value text
is_word_at _ value text = false

-- the token is that word, given in lower case
abbrev pub is_word : List ℕ → Token → Bool
is_word text token = is_word_at token.kind token.value text
