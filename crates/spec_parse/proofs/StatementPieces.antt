-- The parts of statements that give attributes, of declarations and of EQUIVALENCE.
use Rattle.std.proofs.Common.{◌≡◌, refl, ℕ, Bool, List, Option, ◌⊎◌, inl, inr, codes}
use Rattle.ftn_tree.specs.declared.token.Token.{Token}
use Rattle.ftn_tree.specs.declared.expr.Expr.{Expr}
use Rattle.ftn_tree.specs.declared.parts.BoundPair.{BoundPair}
use Rattle.ftn_tree.specs.declared.parts.CharLength.{CharLength}
use Rattle.ftn_tree.specs.declared.parts.AccessWord.{AccessWord}
use Rattle.ftn_tree.specs.declared.parts.ProcedureWord.{ProcedureWord}
use Rattle.ftn_tree.specs.declared.parts.IntentMode.{IntentMode}
use Rattle.ftn_tree.specs.declared.parts.Attribute.{Attribute}
use Rattle.ftn_tree.specs.declared.parts.EntityDecl.{EntityDecl}
use Rattle.ftn_tree.specs.declared.parts.ArrayDecl.{ArrayDecl}
use Rattle.ftn_tree.specs.declared.parts.NamedConstant.{NamedConstant}
use Rattle.ftn_tree.specs.declared.parts.SaveItem.{SaveItem}
use Rattle.ftn_tree.specs.declared.parts.SaveItem.TheVariants as saved
use Rattle.ftn_tree.specs.declared.parts.Designator.{Designator}
use Rattle.ftn_tree.specs.declared.lexeme.Lexeme.TheVariants.{Open, Close, Comma, Colons, Divide, Equals, Times}
use Rattle.ftn_tree.specs.Lexemes.{same_lexeme}
use Rattle.ftn_tree.specs.Phrases.{name}
use Rattle.ftn_tree.specs.SpecificationForms as form
use Rattle.expr_parse.specs.steps.Input.{Input, sees}
use Rattle.expr_parse.proofs.Pieces.{Piece, Apart, reread, mapped, option, seq}
use Rattle.expr_parse.proofs.AllKinds.{apart}
use Rattle.expr_parse.proofs.Tokens.{only, none_of, apart_none, name_piece, after_word, after_mark, before_mark, parens}
use Rattle.expr_parse.proofs.Lists.{list}
use Rattle.expr_parse.proofs.Commas.{tail}
use Rattle.expr_parse.proofs.Operands.{ReadsExpressions}
use Rattle.spec_parse.specs.steps.Attributes as spec
use Rattle.spec_parse.specs.steps.Attributes.{array, constant, save_item}
use Rattle.spec_parse.specs.steps.Declaring as declaring
use Rattle.spec_parse.specs.steps.Declaring.{own_length, initial_value, entity}
use Rattle.spec_parse.specs.steps.Blocks as blocks
use Rattle.spec_parse.specs.steps.Blocks.{subscripts, designator, equivalence_set}
use Rattle.spec_parse.proofs.Choices.{choice, checked_piece}
use Rattle.spec_parse.proofs.Seen.{seen, unseen, after_mark_first}
use Rattle.spec_parse.proofs.TypePieces.{operand, chars_piece}
use Rattle.spec_parse.proofs.BoundPieces.{bounds_piece, maybe_bounds_piece}
use Rattle.spec_parse.proofs.AttributePieces.{access_piece, procedure_piece, paren_mode_piece}
use Rattle.spec_parse.proofs.KindPieces.{attribute_piece}
use Rattle.spec_parse.proofs.ListPieces.{after_colons_piece, items_piece}

-- ---- names

pub names_no_colons : Apart name_piece.first (only Colons)
unfolding same_lexeme
names_no_colons = apart name_piece.first (only Colons) refl

abbrev pub names_piece : Piece (List ℕ)
names_piece = list name_piece refl (apart_none (only Comma))

abbrev pub names_after_colons : Piece (Bool × List ℕ)
names_after_colons = after_colons_piece name_piece refl (apart_none (only Comma)) names_no_colons

abbrev pub names_or_none : Piece (Bool × List ℕ)
names_or_none = items_piece name_piece refl (apart_none (only Comma)) names_no_colons

abbrev pub access_parts : Piece (AccessWord × (Bool × List ℕ))
access_parts = seq access_piece names_or_none access_no_more where
  access_no_more : Apart names_or_none.first access_piece.more
  access_no_more kind e = refl

abbrev pub external_parts : Piece (ProcedureWord × List ℕ)
external_parts = seq procedure_piece names_piece procedure_no_more where
  procedure_no_more : Apart names_piece.first procedure_piece.more
  procedure_no_more kind e = refl

abbrev pub intent_parts : Piece (IntentMode × (Bool × List ℕ))
intent_parts = after_word (codes "intent") (seq paren_mode_piece names_after_colons (apart_none names_after_colons.first))

-- ---- SAVE

abbrev pub slashes_piece : Piece ℕ
slashes_piece = after_mark Divide (before_mark name_piece Divide (apart_none (only Divide)))

pub name_no_slash : Apart name_piece.first (only Divide)
unfolding same_lexeme
name_no_slash = apart name_piece.first (only Divide) refl

pub save_back : (c : SaveItem) (at : ℕ) (tokens : List Token) → form.save_item c at tokens
    → ((n : ℕ) × (saved.Block n ≡ c) × form.between_slashes n at tokens) ⊎ ((n : ℕ) × (saved.Variable n ≡ c) × name n at tokens)
save_back (saved.Variable number) at tokens says = inr (number, refl, says)
save_back (saved.Block number) at tokens says = inl (number, refl, says)

abbrev pub save_choice : Piece SaveItem
save_choice = choice (sees Divide) slashes_piece saved.Block name_piece saved.Variable form.save_item (λ n at tokens says. says) (λ n at tokens says. says) save_back none_of
    (seen slashes_piece Divide refl (after_mark_first Divide (before_mark name_piece Divide (apart_none (only Divide))))) (unseen name_piece Divide refl name_no_slash)

pub save_read : (i : Input) → save_item i ≡ save_choice.read i
unfolding save_item
save_read i = refl

abbrev pub save_item_piece : Piece SaveItem
save_item_piece = reread save_choice save_item save_read

pub comma_no_save : Apart (only Comma) save_item_piece.more
unfolding same_lexeme
comma_no_save = apart (only Comma) save_item_piece.more refl

pub save_no_colons : Apart save_item_piece.first (only Colons)
unfolding same_lexeme
save_no_colons = apart save_item_piece.first (only Colons) refl

abbrev pub save_parts : Piece (Bool × List SaveItem)
save_parts = after_word (codes "save") (items_piece save_item_piece refl comma_no_save save_no_colons)

module _ (laws : ReadsExpressions) where
  -- ---- DIMENSION

  abbrev pub array_parts : Piece (ℕ × List BoundPair)
  array_parts = seq name_piece (bounds_piece laws) (apart_none (bounds_piece laws).first)

  abbrev pub array_mapped : Piece ArrayDecl
  array_mapped = mapped array_parts spec.array_of form.array (λ both at tokens says. says) (λ c at tokens says. ((c.name, c.bounds), refl, says))

  pub array_read : (i : Input) → array i ≡ array_mapped.read i
  unfolding array
  array_read i = refl

  abbrev pub array_piece : Piece ArrayDecl
  array_piece = reread array_mapped array array_read

  pub comma_no_array : Apart (only Comma) array_piece.more
  unfolding same_lexeme
  comma_no_array = apart (only Comma) array_piece.more refl

  pub array_no_colons : Apart array_piece.first (only Colons)
  unfolding same_lexeme
  array_no_colons = apart array_piece.first (only Colons) refl

  abbrev pub dimension_parts : Piece (Bool × List ArrayDecl)
  dimension_parts = after_word (codes "dimension") (after_colons_piece array_piece refl comma_no_array array_no_colons)

  -- ---- PARAMETER

  abbrev pub constant_parts : Piece (ℕ × Expr)
  constant_parts = seq name_piece (after_mark Equals (operand laws)) (apart_none (after_mark Equals (operand laws)).first)

  abbrev pub constant_mapped : Piece NamedConstant
  constant_mapped = mapped constant_parts spec.constant_of form.constant (λ both at tokens says. says) (λ c at tokens says. ((c.name, c.value), refl, says))

  pub constant_read : (i : Input) → constant i ≡ constant_mapped.read i
  unfolding constant
  constant_read i = refl

  abbrev pub constant_piece : Piece NamedConstant
  constant_piece = reread constant_mapped constant constant_read

  pub comma_no_constant : Apart (only Comma) constant_piece.more
  unfolding same_lexeme
  comma_no_constant = apart (only Comma) constant_piece.more refl

  abbrev pub constants_piece : Piece (List NamedConstant)
  constants_piece = list constant_piece refl comma_no_constant

  pub close_no_constant : Apart (only Close) constants_piece.more
  unfolding same_lexeme
  close_no_constant = apart (only Close) constants_piece.more refl

  abbrev pub parameter_parts : Piece (List NamedConstant)
  parameter_parts = after_word (codes "parameter") (parens constants_piece close_no_constant)

  -- ---- declarations

  abbrev pub length_option : Piece (Option CharLength)
  length_option = option (after_mark Times (chars_piece laws)) Times refl (after_mark_first Times (chars_piece laws))

  pub length_read : (i : Input) → own_length i ≡ length_option.read i
  unfolding own_length
  length_read i = refl

  abbrev pub own_length_piece : Piece (Option CharLength)
  own_length_piece = reread length_option own_length length_read

  abbrev pub value_option : Piece (Option Expr)
  value_option = option (after_mark Equals (operand laws)) Equals refl (after_mark_first Equals (operand laws))

  pub value_read : (i : Input) → initial_value i ≡ value_option.read i
  unfolding initial_value
  value_read i = refl

  abbrev pub value_piece : Piece (Option Expr)
  value_piece = reread value_option initial_value value_read

  pub value_no_length : Apart value_piece.first own_length_piece.more
  unfolding same_lexeme
  value_no_length = apart value_piece.first own_length_piece.more refl

  abbrev pub length_and_value : Piece (Option CharLength × Option Expr)
  length_and_value = seq own_length_piece value_piece value_no_length

  pub length_no_bounds : Apart length_and_value.first (maybe_bounds_piece laws).more
  unfolding same_lexeme
  length_no_bounds = apart length_and_value.first (maybe_bounds_piece laws).more refl

  abbrev pub after_name : Piece (Option (List BoundPair) × (Option CharLength × Option Expr))
  after_name = seq (maybe_bounds_piece laws) length_and_value length_no_bounds

  abbrev pub entity_parts : Piece (ℕ × (Option (List BoundPair) × (Option CharLength × Option Expr)))
  entity_parts = seq name_piece after_name (apart_none after_name.first)

  abbrev pub entity_mapped : Piece EntityDecl
  entity_mapped = mapped entity_parts declaring.entity_of form.entity (λ parts at tokens says. says) (λ c at tokens says. ((c.name, (c.bounds, (c.length, c.value))), refl, says))

  pub entity_read : (i : Input) → entity i ≡ entity_mapped.read i
  unfolding entity
  entity_read i = refl

  abbrev pub entity_piece : Piece EntityDecl
  entity_piece = reread entity_mapped entity entity_read

  pub comma_no_entity : Apart (only Comma) entity_piece.more
  unfolding same_lexeme
  comma_no_entity = apart (only Comma) entity_piece.more refl

  pub entity_no_colons : Apart entity_piece.first (only Colons)
  unfolding same_lexeme
  entity_no_colons = apart entity_piece.first (only Colons) refl

  abbrev pub entities_piece : Piece (Bool × List EntityDecl)
  entities_piece = after_colons_piece entity_piece refl comma_no_entity entity_no_colons

  pub comma_no_attribute : Apart (only Comma) (attribute_piece laws).more
  unfolding same_lexeme
  comma_no_attribute = apart (only Comma) (attribute_piece laws).more refl

  abbrev pub attributes_piece : Piece (List Attribute)
  attributes_piece = tail (attribute_piece laws) comma_no_attribute

  pub entities_no_comma : Apart entities_piece.first attributes_piece.more
  unfolding same_lexeme
  entities_no_comma = apart entities_piece.first attributes_piece.more refl

  -- what follows the type
  abbrev pub after_type : Piece declaring.Parts
  after_type = seq attributes_piece entities_piece entities_no_comma

  -- ---- EQUIVALENCE

  pub comma_no_operand : Apart (only Comma) (operand laws).more
  unfolding same_lexeme
  comma_no_operand = apart (only Comma) (operand laws).more refl

  abbrev pub operands : Piece (List Expr)
  operands = list (operand laws) refl comma_no_operand

  pub close_no_operand : Apart (only Close) operands.more
  unfolding same_lexeme
  close_no_operand = apart (only Close) operands.more refl

  abbrev pub subscripts_option : Piece (Option (List Expr))
  subscripts_option = option (parens operands close_no_operand) Open refl (after_mark_first Open (before_mark operands Close close_no_operand))

  pub subscripts_read : (i : Input) → subscripts i ≡ subscripts_option.read i
  unfolding subscripts
  subscripts_read i = refl

  abbrev pub subscripts_piece : Piece (Option (List Expr))
  subscripts_piece = reread subscripts_option subscripts subscripts_read

  abbrev pub designator_parts : Piece (ℕ × Option (List Expr))
  designator_parts = seq name_piece subscripts_piece (apart_none subscripts_piece.first)

  abbrev pub designator_mapped : Piece Designator
  designator_mapped = mapped designator_parts blocks.designator_of form.designator (λ both at tokens says. says) (λ c at tokens says. ((c.name, c.subscripts), refl, says))

  pub designator_read : (i : Input) → designator i ≡ designator_mapped.read i
  unfolding designator
  designator_read i = refl

  abbrev pub designator_piece : Piece Designator
  designator_piece = reread designator_mapped designator designator_read

  pub comma_no_designator : Apart (only Comma) designator_piece.more
  unfolding same_lexeme
  comma_no_designator = apart (only Comma) designator_piece.more refl

  abbrev pub designators_piece : Piece (List Designator)
  designators_piece = list designator_piece refl comma_no_designator

  pub close_no_designator : Apart (only Close) designators_piece.more
  unfolding same_lexeme
  close_no_designator = apart (only Close) designators_piece.more refl

  abbrev pub set_checked : Piece (List Designator)
  set_checked = checked_piece blocks.are_two (parens designators_piece close_no_designator)

  pub set_read : (i : Input) → equivalence_set i ≡ set_checked.read i
  unfolding equivalence_set
  set_read i = refl

  abbrev pub set_piece : Piece (List Designator)
  set_piece = reread set_checked equivalence_set set_read

  pub comma_no_set : Apart (only Comma) set_piece.more
  unfolding same_lexeme
  comma_no_set = apart (only Comma) set_piece.more refl

  abbrev pub equivalence_parts : Piece (List (List Designator))
  equivalence_parts = after_word (codes "equivalence") (list set_piece refl comma_no_set)
