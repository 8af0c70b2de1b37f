-- The name tokens of a program in first form. An entity there goes by its folded name.
use Rattle.std.specs.Prelude.{ℕ, Bool, true, false, not, ◌&&◌, nat_le, nat_lt, List, Option}
use Rattle.std.specs.List.{filter, find}
use Rattle.std.specs.Option.{option_and_then}
use Rattle.std.specs.Str.{bytes_eq}
use Rattle.ftn_base.specs.Keywords.{is_keyword}
use Rattle.ftn_base.specs.Places.{offset_of}
use Rattle.ftn_tree.specs.declared.token.Token.{Token}
use Rattle.ftn_tree.specs.declared.token.TokenKind.{TokenKind}
use Rattle.ftn_tree.specs.declared.token.TokenKind.TheVariants.{Word, Whole, RealForm, Quoted, Dotted, Mark}

abbrev pub is_word : TokenKind → Bool
is_word Word = true
is_word Whole = false
is_word RealForm = false
is_word Quoted = false
is_word Dotted = false
is_word Mark = false

-- In first form no name is a word of statements.
abbrev pub is_name_token : Token → Bool
is_name_token token = is_word token.kind && not (is_keyword token.value)

abbrev pub name_tokens : List Token → List Token
name_tokens tokens = filter is_name_token tokens

-- the byte at that offset is one of the token's
abbrev pub holds : ℕ → Token → Bool
holds at token = nat_le token.range.start at && nat_lt at token.range.end

-- the name token that covers the place: one that holds the byte at that line and column
abbrev pub covering : ℕ → ℕ → List ℕ → List Token → Option Token
covering line column text tokens = option_and_then (λ at. find (holds at) (name_tokens tokens)) (offset_of text line column)

-- the name tokens that denote the entity of that name
abbrev pub denoting : List ℕ → List Token → List Token
denoting name tokens = filter (λ token. bytes_eq token.value name) (name_tokens tokens)
