-- How specification statements are written (Fortran 90, 5.1, 5.2, 5.5, 12.3.2).
use Rattle.std.specs.Prelude.{◌≡◌, ℕ, ◌-◌, nat_le, Bool, true, false, not, ◌&&◌, ◌||◌, is_some, is_none, take, List, [], ◌∷◌, length, codes, Option, Some, None}
use Rattle.std.specs.List.{list_all}
use Rattle.ftn_tree.specs.declared.expr.Expr.{Expr}
use Rattle.ftn_tree.specs.declared.form.Form.TheOpen.{Form-F}
use Rattle.ftn_tree.specs.declared.parts.TypeSpec.{TypeSpec}
use Rattle.ftn_tree.specs.declared.parts.TypeSpec.TheVariants.{Integer, Logical, Character}
use Rattle.ftn_tree.specs.declared.parts.BoundPair.{BoundPair}
use Rattle.ftn_tree.specs.declared.parts.AccessWord.{AccessWord}
use Rattle.ftn_tree.specs.declared.parts.AccessWord.TheVariants.{Public, Private}
use Rattle.ftn_tree.specs.declared.parts.ProcedureWord.{ProcedureWord}
use Rattle.ftn_tree.specs.declared.parts.ProcedureWord.TheVariants.{External, Intrinsic}
use Rattle.ftn_tree.specs.declared.parts.IntentMode.{IntentMode}
use Rattle.ftn_tree.specs.declared.parts.IntentMode.TheVariants as mode
use Rattle.ftn_tree.specs.declared.parts.Attribute.{Attribute}
use Rattle.ftn_tree.specs.declared.parts.AttributeKind.{AttributeKind}
use Rattle.ftn_tree.specs.declared.parts.AttributeKind.TheVariants as attr
use Rattle.ftn_tree.specs.declared.parts.EntityDecl.{EntityDecl}
use Rattle.ftn_tree.specs.declared.parts.ArrayDecl.{ArrayDecl}
use Rattle.ftn_tree.specs.declared.parts.NamedConstant.{NamedConstant}
use Rattle.ftn_tree.specs.declared.parts.SaveItem.{SaveItem}
use Rattle.ftn_tree.specs.declared.parts.SaveItem.TheVariants as saved
use Rattle.ftn_tree.specs.declared.parts.BlockName.{BlockName}
use Rattle.ftn_tree.specs.declared.parts.BlockName.TheVariants.{Unwritten, Blank, Named}
use Rattle.ftn_tree.specs.declared.parts.CommonGroup.{CommonGroup}
use Rattle.ftn_tree.specs.declared.parts.CommonMember.{CommonMember}
use Rattle.ftn_tree.specs.declared.parts.Designator.{Designator}
use Rattle.ftn_tree.specs.declared.parts.Repeat.{Repeat}
use Rattle.ftn_tree.specs.declared.parts.Repeat.TheVariants as repeats
use Rattle.ftn_tree.specs.declared.parts.Sign.{Sign}
use Rattle.ftn_tree.specs.declared.parts.Sign.TheVariants.{Plus, Minus}
use Rattle.ftn_tree.specs.declared.parts.DataConstant.{DataConstant}
use Rattle.ftn_tree.specs.declared.parts.DataConstant.TheVariants as given
use Rattle.ftn_tree.specs.declared.parts.DataValue.{DataValue}
use Rattle.ftn_tree.specs.declared.parts.DataGroup.{DataGroup}
use Rattle.ftn_tree.specs.declared.lexeme.Lexeme.{Lexeme}
use Rattle.ftn_tree.specs.declared.lexeme.Lexeme.TheVariants as lexeme
use Rattle.ftn_tree.specs.Lexemes.{lexeme_of}
use Rattle.ftn_tree.specs.Phrases.{Phrase, nothing, ◌·◌, token, word, word_at, mark, mark_at, name, maybe, whether, never, provided, in_parens, commas, after_commas, each}
use Rattle.ftn_tree.specs.Grammar.{truth_lexeme, expr}
use Rattle.ftn_tree.specs.Layers.{FormLayer}
use Rattle.ftn_tree.specs.TypeForms.{type_text, whole_number, char_length}

-- ---- bounds (5.1.2.4)

abbrev pub upper_bound : Option Expr → Phrase
upper_bound (Some e) = expr e
upper_bound None = mark lexeme.Times

abbrev pub bound_by : Option Expr → Option Expr → Phrase
bound_by None high = upper_bound high
bound_by (Some low) high = expr low · mark lexeme.Colon · upper_bound high

-- `e`, `e : e`, `*` or `e : *`
abbrev pub bound : BoundPair → Phrase
bound pair = bound_by pair.low pair.high

-- each has an upper bound other than `*`
abbrev pub are_bounded : List BoundPair → Bool
are_bounded pairs = list_all (λ pair. is_some pair.high) pairs

-- at most seven, of which the last one alone may have `*` as its upper bound
abbrev pub are_dimensions : List BoundPair → Bool
are_dimensions pairs = nat_le (length pairs) 7 && are_bounded (take (length pairs - 1) pairs)

abbrev pub bounds : List BoundPair → Phrase
bounds pairs = provided (are_dimensions pairs) (in_parens (commas bound pairs))

-- ---- attributes (5.1.2)

abbrev pub access_word : AccessWord → List ℕ
access_word Public = codes "public"
access_word Private = codes "private"

abbrev pub procedure_word : ProcedureWord → List ℕ
procedure_word External = codes "external"
procedure_word Intrinsic = codes "intrinsic"

abbrev pub intent_mode : IntentMode → Phrase
intent_mode mode.In = word (codes "in")
intent_mode mode.Out = word (codes "out")
intent_mode (mode.InOut true) = word (codes "inout")
intent_mode (mode.InOut false) = word (codes "in") · word (codes "out")

abbrev pub attribute_of : ℕ → AttributeKind → Phrase
attribute_of number attr.Parameter = word_at number (codes "parameter")
attribute_of number attr.Save = word_at number (codes "save")
attribute_of number (attr.Access access) = word_at number (access_word access)
attribute_of number (attr.Procedure procedure) = word_at number (procedure_word procedure)
attribute_of number (attr.Intent wanted) = word_at number (codes "intent") · in_parens (intent_mode wanted)
attribute_of number (attr.Dimension pairs) = word_at number (codes "dimension") · bounds pairs

abbrev pub attribute : Attribute → Phrase
attribute a = attribute_of a.token a.kind

-- ---- entities and items of lists

abbrev pub is_empty : {A : Type 0} → List A → Bool
is_empty [] = true
is_empty (first ∷ rest) = false

abbrev pub is_character : TypeSpec → Bool
is_character Integer = false
is_character Logical = false
is_character (Character length) = true

-- `name [( bounds )] [* length] [= value]` (5.1)
abbrev pub entity : EntityDecl → Phrase
entity e =
    name e.name · maybe bounds e.bounds · maybe (λ length. mark lexeme.Times · char_length length) e.length
    · maybe (λ value. mark lexeme.Equals · expr value) e.value

-- a length of its own stands under CHARACTER alone, an initial value behind `::` alone
abbrev pub may_stand : Bool → Bool → EntityDecl → Bool
may_stand character colons e = (character || is_none e.length) && (colons || is_none e.value)

abbrev pub may_all_stand : Bool → Bool → List EntityDecl → Bool
may_all_stand character colons entities = list_all (may_stand character colons) entities

-- attributes have `::` after them
abbrev pub is_declaration : TypeSpec → List Attribute → Bool → List EntityDecl → Bool
is_declaration ty attributes colons entities = (colons || is_empty attributes) && may_all_stand (is_character ty) colons entities

abbrev pub array : ArrayDecl → Phrase
array a = name a.name · bounds a.bounds

abbrev pub constant : NamedConstant → Phrase
constant c = name c.name · mark lexeme.Equals · expr c.value

abbrev pub between_slashes : ℕ → Phrase
between_slashes number = mark lexeme.Divide · name number · mark lexeme.Divide

abbrev pub save_item : SaveItem → Phrase
save_item (saved.Variable number) = name number
save_item (saved.Block number) = between_slashes number

-- `[[::] item, ..]`
abbrev pub items_or_none : {A : Type 0} → (A → Phrase) → Bool → List A → Phrase
items_or_none item false [] = nothing
items_or_none item true [] = never
items_or_none item colons (first ∷ rest) = whether colons (mark lexeme.Colons) · commas item (first ∷ rest)

-- ---- common blocks (5.5.2)

abbrev pub block_name : BlockName → Phrase
block_name Unwritten = nothing
block_name (Blank slash true) = mark_at slash lexeme.Concat
block_name (Blank slash false) = mark_at slash lexeme.Divide · mark lexeme.Divide
block_name (Named slash number) = mark_at slash lexeme.Divide · name number · mark lexeme.Divide

abbrev pub is_written : BlockName → Bool
is_written Unwritten = false
is_written (Blank slash joined) = true
is_written (Named slash number) = true

abbrev pub member : CommonMember → Phrase
member m = name m.name · maybe bounds m.bounds

abbrev pub group : CommonGroup → Phrase
group g = whether g.comma (mark lexeme.Comma) · block_name g.block · commas member g.members

-- groups after the first one, each with its block
abbrev pub later_groups : List CommonGroup → Phrase
later_groups [] = nothing
later_groups (g ∷ rest) = provided (is_written g.block) (group g) · later_groups rest

abbrev pub groups : List CommonGroup → Phrase
groups [] = never
groups (g ∷ rest) = provided (not g.comma) (group g) · later_groups rest

-- ---- equivalence (5.5.1)

abbrev pub designator : Designator → Phrase
designator d = name d.name · maybe (λ subscripts. in_parens (commas expr subscripts)) d.subscripts

abbrev pub equivalence_set : List Designator → Phrase
equivalence_set designators = provided (nat_le 2 (length designators)) (in_parens (commas designator designators))

-- ---- DATA (5.2.9)

abbrev pub repeat : Repeat → Phrase
repeat (repeats.Whole number value) = whole_number number value
repeat (repeats.Named number) = name number

abbrev pub sign_lexeme : Sign → Lexeme
sign_lexeme Plus = lexeme.Plus
sign_lexeme Minus = lexeme.Minus

abbrev pub sign : Sign → Phrase
sign which = mark (sign_lexeme which)

-- a whole number with or without a sign, a logical constant, a character constant or a name
abbrev pub data_constant : DataConstant → Phrase
data_constant (given.Whole signed number value) = maybe sign signed · whole_number number value
data_constant (given.Truth number value) = mark_at number (truth_lexeme value)
data_constant (given.Quoted number value) = token (λ at here. (number ≡ at) × (lexeme_of here ≡ lexeme.Quoted) × (value ≡ here.value))
data_constant (given.Named number) = name number

-- `[repeat *] constant`
abbrev pub data_value : DataValue → Phrase
data_value v = maybe (λ often. repeat often · mark lexeme.Times) v.repeat · data_constant v.constant

-- `object, .. / value, .. /`
abbrev pub data_group : DataGroup → Phrase
data_group g =
    whether g.comma (mark lexeme.Comma) · commas designator g.objects · mark lexeme.Divide · commas data_value g.values · mark lexeme.Divide

-- a comma stands before later groups alone
abbrev pub data_groups : List DataGroup → Phrase
data_groups [] = never
data_groups (g ∷ rest) = provided (not g.comma) (data_group g) · each data_group rest

-- ---- the statements

abbrev pub declaration_at : FormLayer → Phrase
declaration_at (Form-F.Declare ty attributes colons entities) =
    provided (is_declaration ty attributes colons entities)
    (type_text ty · after_commas attribute attributes · whether colons (mark lexeme.Colons) · commas entity entities)
declaration_at (Form-F.Dimension colons arrays) = word (codes "dimension") · whether colons (mark lexeme.Colons) · commas array arrays
declaration_at (Form-F.Parameter constants) = word (codes "parameter") · in_parens (commas constant constants)
declaration_at (Form-F.Data all) = word (codes "data") · data_groups all
declaration_at (Form-F.Save colons items) = word (codes "save") · items_or_none save_item colons items
declaration_at (Form-F.Access access colons names) = word (access_word access) · items_or_none name colons names
declaration_at (Form-F.External procedure names) = word (procedure_word procedure) · commas name names
declaration_at (Form-F.Intent wanted colons names) =
    word (codes "intent") · in_parens (intent_mode wanted) · whether colons (mark lexeme.Colons) · commas name names
declaration_at (Form-F.Common all) = word (codes "common") · groups all
declaration_at (Form-F.Equivalence sets) = word (codes "equivalence") · commas equivalence_set sets
declaration_at _ = never
