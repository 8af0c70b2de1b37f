-- How type declarations are read. It serves the proof of the code; what is promised stands in `ftn_tree`.
use Rattle.std.specs.Prelude.{ℕ, Bool, List, Option}
use Rattle.ftn_tree.specs.declared.expr.Expr.{Expr}
use Rattle.ftn_tree.specs.declared.form.Form.{Form}
use Rattle.ftn_tree.specs.declared.form.Form.TheVariants as form
use Rattle.ftn_tree.specs.declared.parts.TypeSpec.{TypeSpec}
use Rattle.ftn_tree.specs.declared.parts.Attribute.{Attribute}
use Rattle.ftn_tree.specs.declared.parts.BoundPair.{BoundPair}
use Rattle.ftn_tree.specs.declared.parts.CharLength.{CharLength}
use Rattle.ftn_tree.specs.declared.parts.EntityDecl.{EntityDecl}
use Rattle.ftn_tree.specs.declared.lexeme.Lexeme.TheVariants as lexeme
use Rattle.ftn_tree.specs.SpecificationForms.{is_declaration}
use Rattle.expr_parse.specs.steps.Input.{Reader, ◌>>◌, expect, name}
use Rattle.expr_parse.specs.steps.Combinators.{◌<$>◌, ◌⊗◌, option_if, each_after_comma}
use Rattle.expr_parse.specs.steps.Reading.{expression}
use Rattle.spec_parse.specs.steps.Choices.{checked}
use Rattle.spec_parse.specs.steps.Types.{char_length}
use Rattle.spec_parse.specs.steps.Bounds.{maybe_bounds}
use Rattle.spec_parse.specs.steps.Attributes.{attribute}
use Rattle.spec_parse.specs.steps.Lists.{after_colons}

-- `* length`, where `*` comes next
unfoldable pub own_length : Reader (Option CharLength)
own_length = option_if lexeme.Times (expect lexeme.Times >> char_length)

-- `= value`, where `=` comes next
unfoldable pub initial_value : Reader (Option Expr)
initial_value = option_if lexeme.Equals (expect lexeme.Equals >> expression)

abbrev pub entity_of : ℕ × (Option (List BoundPair) × (Option CharLength × Option Expr)) → EntityDecl
entity_of parts = record { name = parts.0; bounds = parts.1.0; length = parts.1.1.0; value = parts.1.1.1 }

unfoldable pub entity : Reader EntityDecl
entity = entity_of <$> name ⊗ maybe_bounds ⊗ own_length ⊗ initial_value

abbrev pub Parts : Type 0
Parts = List Attribute × (Bool × List EntityDecl)

abbrev pub may_follow : TypeSpec → Parts → Bool
may_follow ty parts = is_declaration ty parts.0 parts.1.0 parts.1.1

abbrev pub declaration_of : TypeSpec → Parts → Form
declaration_of ty parts = form.Declare ty parts.0 parts.1.0 parts.1.1

-- the attributes, and the entities with whether `::` stands before them
abbrev pub declared : Reader Parts
declared = each_after_comma attribute ⊗ after_colons entity

-- the rest of a declaration of that type
unfoldable pub declare_from : TypeSpec → Reader Form
declare_from ty = declaration_of ty <$> checked (may_follow ty) declared
