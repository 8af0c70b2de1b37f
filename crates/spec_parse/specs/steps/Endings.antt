-- How END statements are read. It serves the proofs of the readers.
use Rattle.std.specs.Prelude.{ℕ, Bool, true, false, if◌then◌else◌, List, [], ◌∷◌, codes, Option, Some, None}
use Rattle.ftn_tree.specs.declared.token.Token.{Token}
use Rattle.ftn_tree.specs.declared.token.TokenKind.{TokenKind}
use Rattle.ftn_tree.specs.declared.token.TokenKind.TheVariants as kinds
use Rattle.ftn_tree.specs.declared.form.Form.{Form}
use Rattle.ftn_tree.specs.declared.form.Form.TheVariants as form
use Rattle.ftn_tree.specs.declared.lexeme.Lexeme.TheVariants as lexeme
use Rattle.ftn_tree.specs.declared.parts.EndWord.{EndWord}
use Rattle.ftn_tree.specs.declared.parts.EndWord.TheVariants.{Program, Module, BlockData, Subroutine, Function, Interface, If, Do, Select}
use Rattle.ftn_tree.specs.declared.parts.Ending.{Ending}
use Rattle.ftn_tree.specs.Lexemes.{is_text}
use Rattle.expr_parse.specs.steps.Input.{Reader, ◌>>◌, pure, refuse, expect, sees_word, expect_word, name}
use Rattle.expr_parse.specs.steps.Combinators.{◌<$>◌, ◌⊗◌, option_if}
use Rattle.ftn_tree.specs.UnitForms.{is_parted}
use Rattle.spec_parse.specs.steps.Choices.{trailed}

-- the word after END that a text is
unfoldable pub end_word : List ℕ → Option EndWord
end_word text =
    if is_text text (codes "program") then Some Program
    else if is_text text (codes "module") then Some Module
    else if is_text text (codes "subroutine") then Some Subroutine
    else if is_text text (codes "function") then Some Function
    else if is_text text (codes "interface") then Some Interface
    else if is_text text (codes "if") then Some If
    else if is_text text (codes "do") then Some Do
    else if is_text text (codes "select") then Some Select
    else if is_text text (codes "block") then Some (BlockData false)
    else if is_text text (codes "blockdata") then Some (BlockData true)
    else None

-- the same, where END is joined to it
unfoldable pub joined_end_word : List ℕ → Option EndWord
joined_end_word text =
    if is_text text (codes "endprogram") then Some Program
    else if is_text text (codes "endmodule") then Some Module
    else if is_text text (codes "endsubroutine") then Some Subroutine
    else if is_text text (codes "endfunction") then Some Function
    else if is_text text (codes "endinterface") then Some Interface
    else if is_text text (codes "endif") then Some If
    else if is_text text (codes "enddo") then Some Do
    else if is_text text (codes "endselect") then Some Select
    else if is_text text (codes "endblock") then Some (BlockData false)
    else if is_text text (codes "endblockdata") then Some (BlockData true)
    else None

abbrev pub word_by : Bool → List ℕ → Option EndWord
word_by true text = joined_end_word text
word_by false text = end_word text

abbrev pub word_of_kind : Bool → TokenKind → List ℕ → Option EndWord
word_of_kind joined kinds.Word text = word_by joined text
word_of_kind joined _ text = None

abbrev pub word_at_front : Bool → List Token → Option EndWord
word_at_front joined [] = None
word_at_front joined (here ∷ rest) = word_of_kind joined here.kind here.value

abbrev pub taken_word : Option EndWord → Reader EndWord
taken_word None = refuse
taken_word (Some found) = expect lexeme.Word >> pure found

-- the word that ends what it names, or the first of two, to which END may be joined
unfoldable pub ending_word : Bool → Reader EndWord
ending_word joined i = taken_word (word_at_front joined i.rest) i

-- the same with the second one
unfoldable pub ending_words : Bool → Reader EndWord
ending_words joined = trailed is_parted (codes "data") (ending_word joined)

unfoldable pub ending : Bool → Reader Ending
ending joined = (λ parts. record { word = parts.0; joined = joined; name = parts.1 }) <$> (ending_words joined ⊗ option_if lexeme.Word name)

-- END, and the word and the name after it
unfoldable pub parted_end : Reader (Option Ending)
parted_end = expect_word (codes "end") >> option_if lexeme.Word (ending false)

unfoldable pub end_row : Reader Form
end_row i = if sees_word (codes "end") i then (form.End <$> parted_end) i else ((λ found. form.End (Some found)) <$> ending true) i
