-- How attributes, and statements that give one, are read. It serves the proof of the code; what is promised stands in `ftn_tree`.
use Rattle.std.specs.Prelude.{ℕ, Bool, true, false, ◌||◌, List, codes}
use Rattle.ftn_tree.specs.declared.form.Form.{Form}
use Rattle.ftn_tree.specs.declared.form.Form.TheVariants as form
use Rattle.ftn_tree.specs.declared.parts.AccessWord.{AccessWord}
use Rattle.ftn_tree.specs.declared.parts.AccessWord.TheVariants.{Public, Private}
use Rattle.ftn_tree.specs.declared.parts.ProcedureWord.{ProcedureWord}
use Rattle.ftn_tree.specs.declared.parts.ProcedureWord.TheVariants.{External, Intrinsic}
use Rattle.ftn_tree.specs.declared.parts.IntentMode.{IntentMode}
use Rattle.ftn_tree.specs.declared.parts.IntentMode.TheVariants as mode
use Rattle.ftn_tree.specs.declared.parts.Attribute.{Attribute}
use Rattle.ftn_tree.specs.declared.parts.AttributeKind.{AttributeKind}
use Rattle.ftn_tree.specs.declared.parts.AttributeKind.TheVariants as attr
use Rattle.ftn_tree.specs.declared.expr.Expr.{Expr}
use Rattle.ftn_tree.specs.declared.parts.BoundPair.{BoundPair}
use Rattle.ftn_tree.specs.declared.parts.ArrayDecl.{ArrayDecl}
use Rattle.ftn_tree.specs.declared.parts.NamedConstant.{NamedConstant}
use Rattle.ftn_tree.specs.declared.parts.SaveItem.{SaveItem}
use Rattle.ftn_tree.specs.declared.parts.SaveItem.TheVariants as saved
use Rattle.ftn_tree.specs.declared.lexeme.Lexeme.TheVariants as lexeme
use Rattle.expr_parse.specs.steps.Input.{Input, Reader, ◌>>◌, eat_word, expect, expect_word, sees_word, name}
use Rattle.expr_parse.specs.steps.Combinators.{◌<$>◌, ◌⊗◌, separated}
use Rattle.expr_parse.specs.steps.Reading.{expression}
use Rattle.spec_parse.specs.steps.Choices.{choose, choose_by, choose_by_word, numbered, closed_by, enclosed}
use Rattle.spec_parse.specs.steps.Lists.{after_colons, items_or_none}
use Rattle.spec_parse.specs.steps.Bounds.{bounds}

-- ---- words

abbrev pub public : ℕ → AccessWord
public number = Public

abbrev pub private : ℕ → AccessWord
private number = Private

unfoldable pub access_word : Reader AccessWord
access_word = choose_by_word (codes "public") (public <$> expect_word (codes "public")) (private <$> expect_word (codes "private"))

abbrev pub external_word : ℕ → ProcedureWord
external_word number = External

abbrev pub intrinsic_word : ℕ → ProcedureWord
intrinsic_word number = Intrinsic

unfoldable pub procedure_word : Reader ProcedureWord
procedure_word = choose_by_word (codes "external") (external_word <$> expect_word (codes "external")) (intrinsic_word <$> expect_word (codes "intrinsic"))

abbrev pub inout : ℕ → IntentMode
inout number = mode.InOut true

abbrev pub out : ℕ → IntentMode
out number = mode.Out

abbrev pub in_or_inout : Bool → IntentMode
in_or_inout true = mode.InOut false
in_or_inout false = mode.In

-- `IN [OUT]` or `OUT`
unfoldable pub in_or_out : Reader IntentMode
in_or_out = choose_by_word (codes "in") (in_or_inout <$> (expect_word (codes "in") >> eat_word (codes "out"))) (out <$> expect_word (codes "out"))

-- what stands in the parentheses of INTENT
unfoldable pub intent_mode : Reader IntentMode
intent_mode = choose_by_word (codes "inout") (inout <$> expect_word (codes "inout")) in_or_out

-- ---- attributes

abbrev pub sees_access : Input → Bool
sees_access i = sees_word (codes "public") i || sees_word (codes "private") i

abbrev pub sees_procedure : Input → Bool
sees_procedure i = sees_word (codes "external") i || sees_word (codes "intrinsic") i

abbrev pub parameter_word : ℕ → AttributeKind
parameter_word number = attr.Parameter

abbrev pub save_word : ℕ → AttributeKind
save_word number = attr.Save

-- PARAMETER or SAVE
unfoldable pub plain_attribute : Reader AttributeKind
plain_attribute = choose_by_word (codes "parameter") (parameter_word <$> expect_word (codes "parameter")) (save_word <$> expect_word (codes "save"))

-- an attribute that is a word alone
unfoldable pub word_attribute : Reader AttributeKind
word_attribute = choose sees_access (attr.Access <$> access_word) (choose sees_procedure (attr.Procedure <$> procedure_word) plain_attribute)

unfoldable pub attribute_kind : Reader AttributeKind
attribute_kind = choose_by_word (codes "dimension") (attr.Dimension <$> (expect_word (codes "dimension") >> bounds))
    (choose_by_word (codes "intent") (attr.Intent <$> (expect_word (codes "intent") >> enclosed intent_mode)) word_attribute)

abbrev pub with_kind : ℕ × AttributeKind → Attribute
with_kind both = record { token = both.0; kind = both.1 }

unfoldable pub attribute : Reader Attribute
attribute = with_kind <$> numbered attribute_kind

-- ---- items of lists

abbrev pub array_of : ℕ × List BoundPair → ArrayDecl
array_of both = record { name = both.0; bounds = both.1 }

unfoldable pub array : Reader ArrayDecl
array = array_of <$> name ⊗ bounds

abbrev pub constant_of : ℕ × Expr → NamedConstant
constant_of both = record { name = both.0; value = both.1 }

unfoldable pub constant : Reader NamedConstant
constant = constant_of <$> name ⊗ (expect lexeme.Equals >> expression)

unfoldable pub save_item : Reader SaveItem
save_item = choose_by lexeme.Divide (saved.Block <$> (expect lexeme.Divide >> closed_by lexeme.Divide name)) (saved.Variable <$> name)

-- ---- statements

abbrev pub dimension_of : Bool × List ArrayDecl → Form
dimension_of both = form.Dimension both.0 both.1

unfoldable pub dimension : Reader Form
dimension = dimension_of <$> (expect_word (codes "dimension") >> after_colons array)

unfoldable pub parameter : Reader Form
parameter = form.Parameter <$> (expect_word (codes "parameter") >> enclosed (separated constant))

abbrev pub save_of : Bool × List SaveItem → Form
save_of both = form.Save both.0 both.1

unfoldable pub save : Reader Form
save = save_of <$> (expect_word (codes "save") >> items_or_none save_item)

abbrev pub access_of : AccessWord × (Bool × List ℕ) → Form
access_of both = form.Access both.0 both.1.0 both.1.1

unfoldable pub access : Reader Form
access = access_of <$> access_word ⊗ items_or_none name

abbrev pub external_of : ProcedureWord × List ℕ → Form
external_of both = form.External both.0 both.1

unfoldable pub external : Reader Form
external = external_of <$> procedure_word ⊗ separated name

abbrev pub intent_of : IntentMode × (Bool × List ℕ) → Form
intent_of both = form.Intent both.0 both.1.0 both.1.1

unfoldable pub intent : Reader Form
intent = intent_of <$> (expect_word (codes "intent") >> enclosed intent_mode ⊗ after_colons name)
