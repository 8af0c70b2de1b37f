-- The names in types, bounds, attributes and entities.
use Rattle.std.proofs.Common.{◌≡◌, refl, ℕ, Bool, true, false, List, [], ◌∷◌, ◌++◌, Option, Some, None, codes}
use Rattle.std.specs.List.{flat_map}
use Rattle.std.proofs.lemmas.List.Concat.{flat_map_single}
use Rattle.ftn_tree.specs.declared.expr.Expr.{Expr}
use Rattle.ftn_tree.specs.declared.lexeme.Lexeme.TheVariants as lexeme
use Rattle.ftn_tree.specs.declared.mention.Mention.{Mention}
use Rattle.ftn_tree.specs.declared.mention.Role.{Role}
use Rattle.ftn_tree.specs.declared.mention.Role.TheVariants as role
use Rattle.ftn_tree.specs.declared.parts.TypeSpec.{TypeSpec}
use Rattle.ftn_tree.specs.declared.parts.TypeSpec.TheVariants as type
use Rattle.ftn_tree.specs.declared.parts.LengthSelector.{LengthSelector}
use Rattle.ftn_tree.specs.declared.parts.LengthSelector.TheVariants as selector
use Rattle.ftn_tree.specs.declared.parts.CharLength.{CharLength}
use Rattle.ftn_tree.specs.declared.parts.CharLength.TheVariants as star
use Rattle.ftn_tree.specs.declared.parts.LengthValue.{LengthValue}
use Rattle.ftn_tree.specs.declared.parts.LengthValue.TheVariants as value
use Rattle.ftn_tree.specs.declared.parts.BoundPair.{BoundPair}
use Rattle.ftn_tree.specs.declared.parts.AccessWord.{AccessWord}
use Rattle.ftn_tree.specs.declared.parts.AccessWord.TheVariants as access
use Rattle.ftn_tree.specs.declared.parts.ProcedureWord.{ProcedureWord}
use Rattle.ftn_tree.specs.declared.parts.ProcedureWord.TheVariants as procedure
use Rattle.ftn_tree.specs.declared.parts.IntentMode.{IntentMode}
use Rattle.ftn_tree.specs.declared.parts.IntentMode.TheVariants as mode
use Rattle.ftn_tree.specs.declared.parts.Attribute.{Attribute}
use Rattle.ftn_tree.specs.declared.parts.AttributeKind.{AttributeKind}
use Rattle.ftn_tree.specs.declared.parts.AttributeKind.TheVariants as attr
use Rattle.ftn_tree.specs.declared.parts.EntityDecl.{EntityDecl}
use Rattle.ftn_tree.specs.declared.parts.ArrayDecl.{ArrayDecl}
use Rattle.ftn_tree.specs.declared.parts.NamedConstant.{NamedConstant}
use Rattle.ftn_tree.specs.declared.parts.SaveItem.{SaveItem}
use Rattle.ftn_tree.specs.declared.parts.SaveItem.TheVariants as saved
use Rattle.ftn_tree.specs.Expressions.{mentions_in_bound}
use Rattle.ftn_tree.specs.Grammar.{expr}
use Rattle.ftn_tree.specs.PartMentions as spec
use Rattle.ftn_tree.specs.Phrases.{Phrase, ◌·◌, mark, name, maybe, commas}
use Rattle.ftn_tree.specs.Roles.{mention, mention_with}
use Rattle.ftn_tree.specs.SpecificationForms as text
use Rattle.ftn_tree.specs.TypeForms.{length_value, char_length, paren_length, length_selector, type_text}
use Rattle.ftn_tree.proofs.Namings.{Names, never_named, none_named, both, word_named, word_at_named, mark_named, name_named, same_names, provided_named, parens_named, commas_named, is_listed}
use Rattle.ftn_tree.proofs.ExpressionNames.{number_named, expr_named}

-- ---- types and lengths

pub length_named : {letters : Bool} (length : LengthValue) → Names letters (length_value length) (spec.in_length length)
length_named value.Assumed = mark_named lexeme.Times refl
length_named (value.Given e) = expr_named e

pub star_named : {letters : Bool} (length : CharLength) → Names letters (char_length length) (spec.in_star length)
star_named (star.Whole number found) = number_named number found
star_named (star.Paren length) = parens_named (length_named length)

paren_length_named : {letters : Bool} (has_word : Bool) (length : LengthValue) → Names letters (paren_length has_word length) (spec.in_length length)
paren_length_named true length = both (word_named (codes "len") refl) (both (mark_named lexeme.Equals refl) (length_named length))
paren_length_named false length = length_named length

pub selector_named : {letters : Bool} (length : LengthSelector) → Names letters (length_selector length) (spec.in_selector length)
selector_named (selector.Star length) = both (mark_named lexeme.Times refl) (star_named length)
selector_named (selector.Paren has_word length) = parens_named (paren_length_named has_word length)

pub type_named : {letters : Bool} (ty : TypeSpec) → Names letters (type_text ty) (spec.in_type ty)
type_named type.Integer = word_named (codes "integer") refl
type_named type.Logical = word_named (codes "logical") refl
type_named (type.Character None) = both (word_named (codes "character") refl) none_named
type_named (type.Character (Some length)) = both (word_named (codes "character") refl) (selector_named length)

-- ---- bounds

upper_named : {letters : Bool} (high : Option Expr) → Names letters (text.upper_bound high) (mentions_in_bound high)
upper_named None = mark_named lexeme.Times refl
upper_named (Some high) = expr_named high

bound_by_named : {letters : Bool} (low high : Option Expr) → Names letters (text.bound_by low high) (mentions_in_bound low ++ mentions_in_bound high)
bound_by_named None high = upper_named high
bound_by_named (Some low) high = both (expr_named low) (both (mark_named lexeme.Colon refl) (upper_named high))

bound_named : {letters : Bool} (pair : BoundPair) → Names letters (text.bound pair) (spec.in_bound pair)
bound_named pair = bound_by_named pair.low pair.high

pub bounds_named : {letters : Bool} (pairs : List BoundPair) → Names letters (text.bounds pairs) (spec.in_bounds pairs)
bounds_named pairs = provided_named _ (parens_named (commas_named bound_named pairs))

pub own_bounds_named : {letters : Bool} (pairs : Option (List BoundPair)) → Names letters (maybe text.bounds pairs) (spec.in_own_bounds pairs)
own_bounds_named None = none_named
own_bounds_named (Some pairs) = bounds_named pairs

-- ---- attributes

pub access_listed : (which : AccessWord) → is_listed (text.access_word which) ≡ true
access_listed access.Public = refl
access_listed access.Private = refl

pub procedure_listed : (which : ProcedureWord) → is_listed (text.procedure_word which) ≡ true
procedure_listed procedure.External = refl
procedure_listed procedure.Intrinsic = refl

pub mode_named : {letters : Bool} (wanted : IntentMode) → Names letters (text.intent_mode wanted) []
mode_named mode.In = word_named (codes "in") refl
mode_named mode.Out = word_named (codes "out") refl
mode_named (mode.InOut true) = word_named (codes "inout") refl
mode_named (mode.InOut false) = both (word_named (codes "in") refl) (word_named (codes "out") refl)

attribute_of_named : {letters : Bool} (number : ℕ) (kind : AttributeKind) → Names letters (text.attribute_of number kind) (spec.in_attribute_kind kind)
attribute_of_named number attr.Parameter = word_at_named number (codes "parameter") refl
attribute_of_named number attr.Save = word_at_named number (codes "save") refl
attribute_of_named number (attr.Access which) = word_at_named number (text.access_word which) (access_listed which)
attribute_of_named number (attr.Procedure which) = word_at_named number (text.procedure_word which) (procedure_listed which)
attribute_of_named number (attr.Intent wanted) = both (word_at_named number (codes "intent") refl) (parens_named (mode_named wanted))
attribute_of_named number (attr.Dimension pairs) = both (word_at_named number (codes "dimension") refl) (bounds_named pairs)

pub attribute_named : {letters : Bool} (a : Attribute) → Names letters (text.attribute a) (spec.in_attribute a)
attribute_named a = attribute_of_named a.token a.kind

-- ---- entities

own_length_named : {letters : Bool} (length : Option CharLength) → Names letters (maybe (λ length. mark lexeme.Times · char_length length) length) (spec.in_own_length length)
own_length_named None = none_named
own_length_named (Some length) = both (mark_named lexeme.Times refl) (star_named length)

value_named : {letters : Bool} (given : Option Expr) → Names letters (maybe (λ value. mark lexeme.Equals · expr value) given) (mentions_in_bound given)
value_named None = none_named
value_named (Some given) = both (mark_named lexeme.Equals refl) (expr_named given)

pub entity_named : {letters : Bool} (said : List Role) (e : EntityDecl) → Names letters (text.entity e) (spec.in_entity said e)
entity_named said e =
    both (name_named (mention_with e.name role.Typed (said ++ spec.own_roles e))) (both (own_bounds_named e.bounds) (both (own_length_named e.length) (value_named e.value)))

pub array_named : {letters : Bool} (a : ArrayDecl) → Names letters (text.array a) (spec.in_array a)
array_named a = both (name_named (mention a.name role.Dimensioned)) (bounds_named a.bounds)

pub constant_named : {letters : Bool} (c : NamedConstant) → Names letters (text.constant c) (spec.in_constant c)
constant_named c = both (name_named (mention_with c.name role.Parameter (role.Valued ∷ []))) (both (mark_named lexeme.Equals refl) (expr_named c.value))

-- ---- lists of names

pub slashes_named : {letters : Bool} (m : Mention) → Names letters (text.between_slashes m.token) (m ∷ [])
slashes_named m = both (mark_named lexeme.Divide refl) (both (name_named m) (mark_named lexeme.Divide refl))

save_item_named : {letters : Bool} (item : SaveItem) → Names letters (text.save_item item) (spec.save_mention item ∷ [])
save_item_named (saved.Variable number) = name_named (mention number role.Saved)
save_item_named (saved.Block number) = slashes_named (mention_with number role.Slash (role.Saved ∷ []))

items_named : {letters : Bool} {A : Type 0} {phrase : A → Phrase} {found : A → List Mention} → ((a : A) → Names letters (phrase a) (found a))
    → (colons : Bool) (items : List A) → Names letters (text.items_or_none phrase colons items) (flat_map found items)
items_named named false [] = none_named
items_named named true [] = never_named _ (λ at tokens says. says)
items_named named false (first ∷ rest) = both none_named (commas_named named (first ∷ rest))
items_named named true (first ∷ rest) = both (mark_named lexeme.Colons refl) (commas_named named (first ∷ rest))

pub saved_named : {letters : Bool} (colons : Bool) (items : List SaveItem) → Names letters (text.items_or_none text.save_item colons items) (spec.in_saved items)
saved_named colons items = same_names (flat_map_single spec.save_mention items) (items_named save_item_named colons items)

pub names_or_none_named : {letters : Bool} (which : Role) (colons : Bool) (names : List ℕ) → Names letters (text.items_or_none name colons names) (spec.all_named which names)
names_or_none_named which colons names = same_names (flat_map_single (λ token. mention token which) names) (items_named (λ token. name_named (mention token which)) colons names)

pub names_named : {letters : Bool} (which : Role) (names : List ℕ) → Names letters (commas name names) (spec.all_named which names)
names_named which names = same_names (flat_map_single (λ token. mention token which) names) (commas_named (λ token. name_named (mention token which)) names)
