-- How statements are read by their first word. It serves the proofs of the readers.
use Rattle.std.specs.Prelude.{ℕ, Bool, false, ◌&&◌, ◌||◌, if◌then◌else◌, List, [], ◌∷◌, codes, Option, Some, None}
use Rattle.ftn_tree.specs.declared.token.Token.{Token}
use Rattle.ftn_tree.specs.declared.token.TokenKind.{TokenKind}
use Rattle.ftn_tree.specs.declared.token.TokenKind.TheVariants as kinds
use Rattle.ftn_tree.specs.declared.form.Form.{Form}
use Rattle.ftn_tree.specs.declared.lexeme.Lexeme.TheVariants as lexeme
use Rattle.ftn_tree.specs.Lexemes.{is_text, is_word, lexeme_of, same_lexeme}
use Rattle.expr_parse.specs.steps.Input.{Reader, ◌>>=◌, refuse}
use Rattle.expr_parse.specs.steps.Combinators.{to_the_end}
use Rattle.spec_parse.specs.declared.rows.Row.{Row}
use Rattle.spec_parse.specs.declared.rows.Row.TheVariants as row
use Rattle.spec_parse.specs.steps.Units.{block_data, program, module_row, subroutine, function, contains, interface}
use Rattle.spec_parse.specs.steps.Endings.{end_row}
use Rattle.spec_parse.specs.steps.Uses.{use_row}
use Rattle.spec_parse.specs.steps.Implicits.{implicit}
use Rattle.spec_parse.specs.steps.Types.{type_spec}
use Rattle.spec_parse.specs.steps.Declaring.{declare_from}
use Rattle.spec_parse.specs.steps.Attributes.{dimension, parameter, save, access, external, intent}
use Rattle.spec_parse.specs.steps.Blocks.{common, equivalence}
use Rattle.spec_parse.specs.steps.Data.{data_row}

abbrev pub is_type_word : List ℕ → Bool
is_type_word text = is_text text (codes "integer") || is_text text (codes "logical") || is_text text (codes "character")

unfoldable pub attribute_row : List ℕ → Row
attribute_row text =
    if is_text text (codes "dimension") then row.Dimension
    else if is_text text (codes "parameter") then row.Parameter
    else if is_text text (codes "data") then row.Data
    else if is_text text (codes "save") then row.Save
    else if is_text text (codes "public") || is_text text (codes "private") then row.Access
    else if is_text text (codes "external") || is_text text (codes "intrinsic") then row.External
    else if is_text text (codes "intent") then row.Intent
    else if is_text text (codes "common") then row.Common
    else if is_text text (codes "equivalence") then row.Equivalence
    else row.End

-- what a statement that begins with the word may be
unfoldable pub find_row : List ℕ → Row
find_row text =
    if is_text text (codes "block") || is_text text (codes "blockdata") then row.BlockData
    else if is_text text (codes "program") then row.Program
    else if is_text text (codes "module") then row.Module
    else if is_text text (codes "subroutine") then row.Subroutine
    else if is_text text (codes "function") then row.Function
    else if is_text text (codes "contains") then row.Contains
    else if is_text text (codes "use") then row.Use
    else if is_text text (codes "implicit") then row.Implicit
    else if is_text text (codes "interface") then row.Interface
    else if is_type_word text then row.Typed
    else attribute_row text

abbrev pub row_by : TokenKind → List ℕ → Option Row
row_by kinds.Word text = Some (find_row text)
row_by _ text = None

abbrev pub row_at_front : List Token → Option Row
row_at_front [] = None
row_at_front (here ∷ rest) = row_by here.kind here.value

-- FUNCTION and a word
abbrev pub begins_function_at : List Token → Bool
begins_function_at (here ∷ next ∷ rest) = is_word (codes "function") here && same_lexeme (lexeme_of next) lexeme.Word
begins_function_at _ = false

unfoldable pub begins_function : List Token → Bool
begins_function tokens = begins_function_at tokens

-- a FUNCTION statement or a declaration, which begin with a type
unfoldable pub typed_row : Reader Form
typed_row = type_spec >>= (λ ty j. if begins_function j.rest then function (Some ty) j else declare_from ty j)

abbrev pub row_reader : Row → Reader Form
row_reader row.BlockData = block_data
row_reader row.Program = program
row_reader row.Module = module_row
row_reader row.Subroutine = subroutine
row_reader row.Function = function None
row_reader row.Contains = contains
row_reader row.Use = use_row
row_reader row.Implicit = implicit
row_reader row.Interface = interface
row_reader row.Typed = typed_row
row_reader row.Dimension = dimension
row_reader row.Parameter = parameter
row_reader row.Data = data_row
row_reader row.Save = save
row_reader row.Access = access
row_reader row.External = external
row_reader row.Intent = intent
row_reader row.Common = common
row_reader row.Equivalence = equivalence
row_reader row.End = end_row

abbrev pub read_by : Option Row → Reader Form
read_by None = refuse
read_by (Some found) = to_the_end (row_reader found)

-- a statement that is all that is left
unfoldable pub statement : Reader Form
statement i = read_by (row_at_front i.rest) i
