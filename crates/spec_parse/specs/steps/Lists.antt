-- How lists with marks before them are read. It serves the proof of the code.
use Rattle.std.specs.Prelude.{Bool, false, List, [], Option, Some, None}
use Rattle.ftn_tree.specs.declared.lexeme.Lexeme.TheVariants as lexeme
use Rattle.expr_parse.specs.steps.Input.{Reader, eat}
use Rattle.expr_parse.specs.steps.Combinators.{◌<$>◌, ◌⊗◌, separated, option_unless_done}

-- `[::] item, ..`
abbrev pub after_colons : {A : Type 0} → Reader A → Reader (Bool × List A)
after_colons read = eat lexeme.Colons ⊗ separated read

abbrev pub or_none : {A : Type 0} → Option (Bool × List A) → Bool × List A
or_none None = (false, [])
or_none (Some both) = both

-- `[[::] item, ..]`, to the end of the statement
abbrev pub items_or_none : {A : Type 0} → Reader A → Reader (Bool × List A)
items_or_none read = or_none <$> option_unless_done (after_colons read)
