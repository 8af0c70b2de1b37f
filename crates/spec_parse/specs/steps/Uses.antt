-- How USE statements are read. It serves the proofs of the readers.
use Rattle.std.specs.Prelude.{ℕ, Bool, false, ◌&&◌, if◌then◌else◌, List, [], ◌∷◌, codes, Option, Some, None}
use Rattle.ftn_tree.specs.declared.token.Token.{Token}
use Rattle.ftn_tree.specs.declared.form.Form.{Form}
use Rattle.ftn_tree.specs.declared.form.Form.TheVariants as form
use Rattle.ftn_tree.specs.declared.lexeme.Lexeme.TheVariants as lexeme
use Rattle.ftn_tree.specs.declared.parts.Rename.{Rename}
use Rattle.ftn_tree.specs.declared.parts.OnlyItem.{OnlyItem}
use Rattle.ftn_tree.specs.Lexemes.{lexeme_of, is_word, same_lexeme}
use Rattle.expr_parse.specs.steps.Input.{Reader, ◌>>◌, expect, expect_word, name}
use Rattle.expr_parse.specs.steps.Combinators.{◌<$>◌, ◌⊗◌, option_if, option_unless_done, separated, each_after_comma}

unfoldable pub rename : Reader Rename
rename = (λ parts. record { local = parts.0; source = parts.1 }) <$> (name ⊗ (expect lexeme.Arrow >> name))

abbrev pub item_by : ℕ → Option ℕ → OnlyItem
item_by first None = record { local = None; source = first }
item_by first (Some source) = record { local = Some first; source = source }

unfoldable pub only_item : Reader OnlyItem
only_item = (λ parts. item_by parts.0 parts.1) <$> (name ⊗ option_if lexeme.Arrow (expect lexeme.Arrow >> name))

unfoldable pub renames : Reader (List Rename)
renames = each_after_comma rename

unfoldable pub use_all : Reader Form
use_all = (λ parts. form.UseAll parts.0 parts.1) <$> (expect_word (codes "use") >> (name ⊗ renames))

abbrev pub or_none : {A : Type 0} → Option (List A) → List A
or_none None = []
or_none (Some all) = all

unfoldable pub only_items : Reader (List OnlyItem)
only_items = separated only_item

unfoldable pub items_if_any : Reader (List OnlyItem)
items_if_any = or_none <$> option_unless_done only_items

unfoldable pub use_only : Reader Form
use_only =
    (λ parts. form.UseOnly parts.0 parts.1)
    <$> (expect_word (codes "use") >> (name ⊗ (expect lexeme.Comma >> (expect_word (codes "only") >> (expect lexeme.Colon >> items_if_any)))))

-- a fourth word ONLY and then a colon
abbrev pub names_items_at : List Token → Bool
names_items_at (here ∷ module_name ∷ comma ∷ only ∷ colon ∷ rest) = is_word (codes "only") only && same_lexeme (lexeme_of colon) lexeme.Colon
names_items_at _ = false

unfoldable pub names_items : List Token → Bool
names_items tokens = names_items_at tokens

unfoldable pub use_row : Reader Form
use_row i = if names_items i.rest then use_only i else use_all i
