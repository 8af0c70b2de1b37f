-- Which tokens of a statement are the names in it (this project's own). Fortran reserves no words (Fortran 90, 2.5.2), so a name may be
-- spelled like a word of the grammar: its place says which of the two it is.
use Rattle.std.specs.Prelude.{◌≡◌, ◌≢◌, ◌⊎◌, ◌≤◌, ◌<◌, ℕ, ◌+◌, ◌-◌, Bool, true, false, List, [], ◌∷◌, ◌++◌, map, length, slice_get, Some, codes}
use Rattle.std.specs.List.{All, Contains, list_any}
use Rattle.ftn_tree.specs.declared.form.Form.{Form, out-Form}
use Rattle.ftn_tree.specs.declared.form.Form.TheOpen.{Form-F}
use Rattle.ftn_tree.specs.declared.lexeme.Lexeme.TheVariants as lexeme
use Rattle.ftn_tree.specs.declared.mention.Mention.{Mention}
use Rattle.ftn_tree.specs.declared.token.Token.{Token}
use Rattle.ftn_tree.specs.Layers.{FormLayer}
use Rattle.ftn_tree.specs.Lexemes.{lexeme_of, is_word}
use Rattle.ftn_tree.specs.Mentions.{mentions_of}

-- ---- the words that the grammar writes

-- types and their lengths (5.1.1), and the type that IMPLICIT has beside them (5.3)
abbrev pub type_words : List (List ℕ)
type_words = codes "integer" ∷ codes "logical" ∷ codes "character" ∷ codes "len" ∷ codes "real" ∷ []

-- attributes and the statements that give them (5.1.2, 5.2, 12.3.2)
abbrev pub attribute_words : List (List ℕ)
attribute_words =
    codes "parameter" ∷ codes "save" ∷ codes "public" ∷ codes "private" ∷ codes "external" ∷ codes "intrinsic"
    ∷ codes "dimension" ∷ codes "intent" ∷ codes "in" ∷ codes "out" ∷ codes "inout" ∷ []

-- other specifications (5.2.9, 5.3, 5.5) and USE (11.3.2)
abbrev pub specification_words : List (List ℕ)
specification_words = codes "data" ∷ codes "common" ∷ codes "equivalence" ∷ codes "implicit" ∷ codes "none" ∷ codes "use" ∷ codes "only" ∷ []

-- units, procedures and interface blocks (11, 12.3.2.1, 12.5.2)
abbrev pub unit_words : List (List ℕ)
unit_words =
    codes "program" ∷ codes "module" ∷ codes "procedure" ∷ codes "block" ∷ codes "blockdata" ∷ codes "subroutine" ∷ codes "function"
    ∷ codes "result" ∷ codes "interface" ∷ codes "contains" ∷ []

-- END, and END joined with the word after it (11, 12.3.2.1, 12.5.2, 8.1)
abbrev pub end_words : List (List ℕ)
end_words =
    codes "end" ∷ codes "endprogram" ∷ codes "endmodule" ∷ codes "endblockdata" ∷ codes "endblock" ∷ codes "endsubroutine"
    ∷ codes "endfunction" ∷ codes "endinterface" ∷ codes "endif" ∷ codes "enddo" ∷ codes "endselect" ∷ []

-- constructs (8.1)
abbrev pub construct_words : List (List ℕ)
construct_words =
    codes "if" ∷ codes "then" ∷ codes "else" ∷ codes "elseif" ∷ codes "do" ∷ codes "while" ∷ codes "select" ∷ codes "case"
    ∷ codes "selectcase" ∷ codes "default" ∷ []

-- other executable statements (8.1.4.4, 8.3, 8.4, 9.4, 12.4.3, 12.5.2.5)
abbrev pub action_words : List (List ℕ)
action_words =
    codes "call" ∷ codes "exit" ∷ codes "cycle" ∷ codes "stop" ∷ codes "return" ∷ codes "continue" ∷ codes "print" ∷ codes "write" ∷ codes "read" ∷ []

abbrev pub grammar_words : List (List ℕ)
grammar_words = type_words ++ (attribute_words ++ (specification_words ++ (unit_words ++ (end_words ++ (construct_words ++ action_words)))))

-- the token is one of them
abbrev pub is_grammar_word : Token → Bool
is_grammar_word here = list_any (λ text. is_word text here) grammar_words

-- ---- the names of a row

-- a word that names nothing: one of the grammar, or in IMPLICIT a single letter (5.3)
abbrev pub IsPlainWord : Bool → Token → Type 0
IsPlainWord letters here = (is_grammar_word here ≡ true) ⊎ ((letters ≡ true) × (length here.value ≡ 1))

abbrev pub IsNoName : Bool → Token → Type 0
IsNoName letters here = (lexeme_of here ≢ lexeme.Word) ⊎ IsPlainWord letters here

-- the row's first token has the number `at`: the tokens of these numbers are its names, in their order, and no other token is one
abbrev pub AreNames : Bool → ℕ → List Token → List ℕ → Type 0
AreNames letters at [] numbers = numbers ≡ []
AreNames letters at (here ∷ rest) numbers =
    ((others : List ℕ) × (lexeme_of here ≡ lexeme.Word) × (numbers ≡ at ∷ others) × AreNames letters (at + 1) rest others)
    ⊎ (IsNoName letters here × AreNames letters (at + 1) rest numbers)

-- single letters stand in IMPLICIT alone
abbrev pub has_letters_at : FormLayer → Bool
has_letters_at (Form-F.Implicit groups) = true
has_letters_at _ = false

abbrev pub has_letters : Form → Bool
has_letters form = has_letters_at (out-Form form)

abbrev pub numbers_of : List Mention → List ℕ
numbers_of mentions = map (λ (m : Mention). m.token) mentions

-- the tokens of the names in a statement
abbrev pub names_in : Form → List ℕ
names_in form = numbers_of (mentions_of form)

-- ---- what follows where a row has these names

-- each number is less than all that come after it
abbrev pub Rise : List ℕ → Type 0
Rise [] = Unit {0}
Rise (number ∷ rest) = All (λ next. number < next) rest × Rise rest

-- the token of that number is a word of the row
pub record IsWordOf (at : ℕ) (row : List Token) (number : ℕ) : Type 0 where
  pub from : at ≤ number
  pub here : Token
  pub there : slice_get row (number - at) ≡ Some here
  pub is_a_word : lexeme_of here ≡ lexeme.Word

-- each word of the row that has none of these numbers names nothing
abbrev pub OthersArePlain : Bool → ℕ → List Token → List ℕ → Type 0
OthersArePlain letters at row numbers =
    (place : ℕ) (here : Token) → slice_get row place ≡ Some here → lexeme_of here ≡ lexeme.Word
    → All (λ number. number ≢ at + place) numbers → IsPlainWord letters here

-- ---- the same row, with names spelled in another way

-- the same token, or two words where one of these names stands
abbrev pub IsRespelled : List ℕ → ℕ → Token → Token → Type 0
IsRespelled numbers at here other = (here ≡ other) ⊎ (Contains numbers at × (lexeme_of here ≡ lexeme.Word) × (lexeme_of other ≡ lexeme.Word))

-- the second row is the first one, but any word may stand where one of these names does
abbrev pub Respelled : List ℕ → ℕ → List Token → List Token → Type 0
Respelled numbers at [] [] = Unit {0}
Respelled numbers at [] (other ∷ others) = ⊥
Respelled numbers at (here ∷ rest) [] = ⊥
Respelled numbers at (here ∷ rest) (other ∷ others) = IsRespelled numbers at here other × Respelled numbers (at + 1) rest others
