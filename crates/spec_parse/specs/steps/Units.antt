-- How the statements that begin program units, procedures and interface blocks are read. It serves the proofs of the readers.
use Rattle.std.specs.Prelude.{ℕ, Bool, true, false, ◌&&◌, if◌then◌else◌, List, ◌∷◌, codes, Option}
use Rattle.ftn_tree.specs.declared.token.Token.{Token}
use Rattle.ftn_tree.specs.declared.form.Form.{Form}
use Rattle.ftn_tree.specs.declared.form.Form.TheVariants as form
use Rattle.ftn_tree.specs.declared.lexeme.Lexeme.TheVariants as lexeme
use Rattle.ftn_tree.specs.declared.parts.TypeSpec.{TypeSpec}
use Rattle.ftn_tree.specs.Lexemes.{lexeme_of, is_word, same_lexeme}
use Rattle.expr_parse.specs.steps.Input.{Reader, ◌>>◌, expect_word, name}
use Rattle.expr_parse.specs.steps.Combinators.{◌<$>◌, ◌⊗◌, option_if, separated}
use Rattle.spec_parse.specs.steps.Names.{dummies, between_parens}
use Rattle.spec_parse.specs.steps.Choices.{choose_by_word}

abbrev pub joined : ℕ → Bool
joined number = true

abbrev pub parted : ℕ → Bool
parted number = false

-- BLOCK DATA, which may be one word
unfoldable pub block_words : Reader Bool
block_words = choose_by_word (codes "blockdata") (joined <$> expect_word (codes "blockdata")) (parted <$> (expect_word (codes "block") >> expect_word (codes "data")))

abbrev pub block_data_of : Bool × Option ℕ → Form
block_data_of parts = form.BlockData parts.0 parts.1

unfoldable pub block_data : Reader Form
block_data = block_data_of <$> block_words ⊗ option_if lexeme.Word name

unfoldable pub program : Reader Form
program = form.Program <$> (expect_word (codes "program") >> name)

unfoldable pub module_unit : Reader Form
module_unit = form.Module <$> (expect_word (codes "module") >> name)

unfoldable pub module_procedure : Reader Form
module_procedure = form.ModuleProcedure <$> (expect_word (codes "module") >> (expect_word (codes "procedure") >> separated name))

-- MODULE, PROCEDURE and a name
abbrev pub names_procedures_at : List Token → Bool
names_procedures_at (here ∷ next ∷ third ∷ rest) = is_word (codes "procedure") next && same_lexeme (lexeme_of third) lexeme.Word
names_procedures_at _ = false

unfoldable pub names_procedures : List Token → Bool
names_procedures tokens = names_procedures_at tokens

unfoldable pub module_row : Reader Form
module_row i = if names_procedures i.rest then module_procedure i else module_unit i

unfoldable pub subroutine_parts : Reader (ℕ × Option (List ℕ))
subroutine_parts = expect_word (codes "subroutine") >> (name ⊗ option_if lexeme.Open dummies)

unfoldable pub subroutine : Reader Form
subroutine = (λ parts. form.Subroutine parts.0 parts.1) <$> subroutine_parts

unfoldable pub result_name : Reader ℕ
result_name = expect_word (codes "result") >> between_parens name

unfoldable pub function_parts : Reader (ℕ × (List ℕ × Option ℕ))
function_parts = expect_word (codes "function") >> (name ⊗ (dummies ⊗ option_if lexeme.Word result_name))

-- after the type, if one is written
unfoldable pub function : Option TypeSpec → Reader Form
function ty = (λ parts. form.Function ty parts.0 parts.1.0 parts.1.1) <$> function_parts

unfoldable pub contains : Reader Form
contains = (λ number. form.Contains) <$> expect_word (codes "contains")

unfoldable pub interface : Reader Form
interface = form.Interface <$> (expect_word (codes "interface") >> option_if lexeme.Word name)
