-- Why a row of tokens is no statement and no expression of the profile (this project's own).
use Rattle.std.specs.Prelude.{◌<◌, ℕ, ◌+◌, ◌-◌, Bool, true, false, ◌&&◌, ◌||◌, ◌==◌, nat_lt, List, [], ◌∷◌, length, take, filter, codes}
use Rattle.std.specs.List.{list_any}
use Rattle.ftn_base.specs.Limits.{most_parentheses}
use Rattle.ftn_tree.specs.declared.token.Token.{Token}
use Rattle.ftn_tree.specs.declared.token.TokenKind.{TokenKind}
use Rattle.ftn_tree.specs.declared.token.TokenKind.TheVariants as tokens
use Rattle.ftn_tree.specs.declared.lexeme.Lexeme.{Lexeme}
use Rattle.ftn_tree.specs.declared.lexeme.Lexeme.TheVariants as lexeme
use Rattle.ftn_tree.specs.Lexemes.{lexeme_of, is_word, is_text}

abbrev pub is_open_at : Lexeme → Bool
is_open_at lexeme.Open = true
is_open_at _ = false

abbrev pub is_close_at : Lexeme → Bool
is_close_at lexeme.Close = true
is_close_at _ = false

abbrev pub is_open : Token → Bool
is_open here = is_open_at (lexeme_of here)

abbrev pub is_close : Token → Bool
is_close here = is_close_at (lexeme_of here)

-- some front has more than 200 more ( than ), which is this project's limit
pub record IsDeep (row : List Token) : Type 0 where
  pub front : ℕ
  pub many : most_parentheses + length (filter is_close (take front row)) < length (filter is_open (take front row))

abbrev pub is_whole_at : Lexeme → Bool
is_whole_at lexeme.Whole = true
is_whole_at _ = false

abbrev pub is_word_token_at : Lexeme → Bool
is_word_token_at lexeme.Word = true
is_word_token_at _ = false

abbrev pub is_comma_at : Lexeme → Bool
is_comma_at lexeme.Comma = true
is_comma_at _ = false

abbrev pub is_equals_at : Lexeme → Bool
is_equals_at lexeme.Equals = true
is_equals_at _ = false

abbrev pub is_colon_at : Lexeme → Bool
is_colon_at lexeme.Colon = true
is_colon_at _ = false

abbrev pub is_whole : Token → Bool
is_whole here = is_whole_at (lexeme_of here)

abbrev pub is_name : Token → Bool
is_name here = is_word_token_at (lexeme_of here)

abbrev pub begins_with_whole : List Token → Bool
begins_with_whole [] = false
begins_with_whole (first ∷ rest) = is_whole first

abbrev pub is_unknown_at : Lexeme → Bool
is_unknown_at lexeme.Foreign = true
is_unknown_at _ = false

-- a real form, `%`, `(/`, or a dotted token that is no operator and no logical constant
abbrev pub is_foreign_by : TokenKind → Token → Bool
is_foreign_by tokens.RealForm here = true
is_foreign_by tokens.Dotted here = is_unknown_at (lexeme_of here)
is_foreign_by tokens.Mark here = is_text here.value (codes "%") || is_text here.value (codes "(/")
is_foreign_by _ here = false

abbrev pub is_foreign : Token → Bool
is_foreign here = is_foreign_by here.kind here

-- a whole number that a word follows with no byte between
abbrev pub is_glued : Token → Token → Bool
is_glued here next = is_whole here && is_name next && (here.range.end == next.range.start)

abbrev pub holds_glued : List Token → Bool
holds_glued [] = false
holds_glued (here ∷ []) = false
holds_glued (here ∷ next ∷ rest) = is_glued here next || holds_glued (next ∷ rest)

-- how many parentheses are open after a token; one that closes nothing counts for nothing
abbrev pub depth_at : ℕ → Lexeme → ℕ
depth_at depth lexeme.Open = depth + 1
depth_at depth lexeme.Close = depth - 1
depth_at depth _ = depth

abbrev pub depth_after : ℕ → Token → ℕ
depth_after depth here = depth_at depth (lexeme_of here)

-- a parenthesis that opens, or a comma inside parentheses
abbrev pub begins_item_at : ℕ → Lexeme → Bool
begins_item_at depth lexeme.Open = true
begins_item_at depth lexeme.Comma = nat_lt 0 depth
begins_item_at depth _ = false

-- a name and `=`
abbrev pub begins_keyword : List Token → Bool
begins_keyword [] = false
begins_keyword (here ∷ []) = false
begins_keyword (here ∷ next ∷ rest) = is_name here && is_equals_at (lexeme_of next)

-- a name and `=` right after a `(`, or right after a `,` inside parentheses, where so many parentheses are open before these tokens
abbrev pub holds_keyword : ℕ → List Token → Bool
holds_keyword depth [] = false
holds_keyword depth (here ∷ rest) = (begins_item_at depth (lexeme_of here) && begins_keyword rest) || holds_keyword (depth_after depth here) rest

-- a name, `:` and one of IF, SELECT and SELECTCASE
abbrev pub is_named_construct : List Token → Bool
is_named_construct (label ∷ colon ∷ here ∷ rest) =
    is_name label && is_colon_at (lexeme_of colon) && (is_word (codes "if") here || is_word (codes "select") here || is_word (codes "selectcase") here)
is_named_construct _ = false

-- words that begin statements of Fortran 90 which the profile hasn't, or which are broken
abbrev pub statement_words : List (List ℕ)
statement_words =
    codes "real" ∷ codes "complex" ∷ codes "double" ∷ codes "doubleprecision" ∷ codes "type" ∷ codes "pointer" ∷ codes "target"
    ∷ codes "allocatable" ∷ codes "allocate" ∷ codes "deallocate" ∷ codes "nullify" ∷ codes "recursive" ∷ codes "optional"
    ∷ codes "go" ∷ codes "goto" ∷ codes "format" ∷ codes "entry" ∷ codes "namelist" ∷ codes "where" ∷ codes "elsewhere"
    ∷ codes "include" ∷ codes "assign" ∷ codes "pause" ∷ codes "data" ∷ codes "block" ∷ codes "blockdata" ∷ codes "open"
    ∷ codes "close" ∷ codes "inquire" ∷ codes "rewind" ∷ codes "backspace" ∷ codes "endfile" ∷ codes "integer" ∷ codes "logical"
    ∷ codes "character" ∷ codes "dimension" ∷ codes "equivalence" ∷ codes "interface" ∷ codes "subroutine" ∷ codes "function"
    ∷ codes "call" ∷ codes "do" ∷ codes "stop" ∷ codes "return" ∷ codes "print" ∷ codes "read" ∷ codes "write" ∷ []

abbrev pub begins_with_word : List Token → Bool
begins_with_word [] = false
begins_with_word (first ∷ rest) = list_any (λ text. is_word text first) statement_words

-- it may be Fortran, but not of the profile
unfoldable pub is_outside : List Token → Bool
is_outside row =
    begins_with_whole row || list_any is_foreign row || holds_glued row || holds_keyword 0 row || is_named_construct row || begins_with_word row
