-- The names in the statements that begin and end units, in USE and in IMPLICIT.
use Rattle.std.proofs.Common.{◌≡◌, refl, sym, ◌∙◌, ap, ℕ, Bool, true, false, List, [], ◌∷◌, ◌++◌, length, Option, Some, None, inr, codes}
use Rattle.std.proofs.lemmas.List.Concat.{flat_map_single}
use Rattle.ftn_tree.specs.declared.expr.Expr.{out-Expr}
use Rattle.ftn_tree.specs.declared.expr.Expr.TheOpen.{Expr-F}
use Rattle.ftn_tree.specs.declared.expr.Expr.TheViews.{roll-Expr, roll-out-Expr}
use Rattle.ftn_tree.specs.declared.expr.Expr.TheFolds.{fold-roll-Expr}
use Rattle.ftn_tree.specs.declared.lexeme.Lexeme.TheVariants as lexeme
use Rattle.ftn_tree.specs.declared.mention.Mention.{Mention}
use Rattle.ftn_tree.specs.declared.mention.Role.{Role}
use Rattle.ftn_tree.specs.declared.mention.Role.TheVariants as role
use Rattle.ftn_tree.specs.declared.parts.EndWord.{EndWord}
use Rattle.ftn_tree.specs.declared.parts.EndWord.TheVariants as ends
use Rattle.ftn_tree.specs.declared.parts.Ending.{Ending}
use Rattle.ftn_tree.specs.declared.parts.Rename.{Rename}
use Rattle.ftn_tree.specs.declared.parts.OnlyItem.{OnlyItem}
use Rattle.ftn_tree.specs.declared.parts.ImplicitType.{ImplicitType}
use Rattle.ftn_tree.specs.declared.parts.ImplicitType.TheVariants as types
use Rattle.ftn_tree.specs.declared.parts.TypeSpec.{TypeSpec}
use Rattle.ftn_tree.specs.declared.parts.TypeSpec.TheVariants as type
use Rattle.ftn_tree.specs.declared.parts.LengthSelector.{LengthSelector}
use Rattle.ftn_tree.specs.declared.parts.LengthSelector.TheVariants as selector
use Rattle.ftn_tree.specs.declared.parts.CharLength.{CharLength}
use Rattle.ftn_tree.specs.declared.parts.CharLength.TheVariants as star
use Rattle.ftn_tree.specs.declared.parts.LengthValue.{LengthValue}
use Rattle.ftn_tree.specs.declared.parts.LengthValue.TheVariants as value
use Rattle.ftn_tree.specs.declared.parts.LetterGroup.{LetterGroup}
use Rattle.ftn_tree.specs.declared.parts.LetterRange.{LetterRange}
use Rattle.ftn_tree.specs.Expressions.{mentions_step, part_mentions_step, mentions_in}
use Rattle.ftn_tree.specs.Layers.{ExprLayer}
use Rattle.ftn_tree.specs.Mentions.{function_mention, answer_mentions, in_prefix, function_mentions, end_mentions}
use Rattle.ftn_tree.specs.PartMentions as spec
use Rattle.ftn_tree.specs.Phrases.{◌·◌, word, mark, name, maybe, in_parens, commas_or_none}
use Rattle.ftn_tree.specs.Roles.{mention, mention_with}
use Rattle.ftn_tree.specs.TypeForms.{type_text}
use Rattle.ftn_tree.specs.UnitForms as text
use Rattle.ftn_tree.proofs.Namings.{Names, no_names, none_named, both, token_named, word_named, mark_named, name_named, same_names, whether_named, parens_named, commas_named, commas_or_none_named, none_each, is_listed}
use Rattle.ftn_tree.proofs.PartNames.{type_named}

-- ---- names that may be left out, and dummy arguments

pub maybe_name_named : {letters : Bool} (which : Role) (found : Option ℕ) → Names letters (maybe name found) (spec.maybe_named which found)
maybe_name_named which None = none_named
maybe_name_named which (Some number) = name_named (mention number which)

pub dummies_named : {letters : Bool} (which : Role) (names : List ℕ) → Names letters (commas_or_none name names) (spec.all_named which names)
dummies_named which names = same_names (flat_map_single (λ token. mention token which) names) (commas_or_none_named (λ token. name_named (mention token which)) names)

maybe_dummies_named : {letters : Bool} (dummies : Option (List ℕ)) → Names letters (maybe (λ names. in_parens (commas_or_none name names)) dummies) (spec.maybe_all_named role.Dummy dummies)
maybe_dummies_named None = none_named
maybe_dummies_named (Some names) = parens_named (dummies_named role.Dummy names)

pub subroutine_named : {letters : Bool} (number : ℕ) (dummies : Option (List ℕ))
    → Names letters (word (codes "subroutine") · name number · maybe (λ names. in_parens (commas_or_none name names)) dummies) (mention number role.Opens ∷ spec.maybe_all_named role.Dummy dummies)
subroutine_named number dummies = both (word_named (codes "subroutine") refl) (both (name_named (mention number role.Opens)) (maybe_dummies_named dummies))

-- ---- FUNCTION

prefix_named : {letters : Bool} (ty : Option TypeSpec) → Names letters (maybe type_text ty) (in_prefix ty)
prefix_named None = none_named
prefix_named (Some ty) = type_named ty

answer_named : {letters : Bool} (ty : Option TypeSpec) (answer : Option ℕ) → Names letters (maybe (λ named. word (codes "result") · in_parens (name named)) answer) (answer_mentions ty answer)
answer_named ty None = none_named
answer_named ty (Some answer) = both (word_named (codes "result") refl) (parens_named (name_named (mention_with answer role.Answer (spec.where_written role.Typed ty))))

name_of_function : {letters : Bool} (ty : Option TypeSpec) (number : ℕ) (answer : Option ℕ) → Names letters (name number) (function_mention ty number answer ∷ [])
name_of_function ty number None = name_named (mention_with number role.Opens (role.Answer ∷ spec.where_written role.Typed ty))
name_of_function ty number (Some answer) = name_named (mention number role.Opens)

pub function_named : {letters : Bool} (ty : Option TypeSpec) (number : ℕ) (dummies : List ℕ) (answer : Option ℕ)
    → Names letters (maybe type_text ty · word (codes "function") · name number · in_parens (commas_or_none name dummies)
    · maybe (λ named. word (codes "result") · in_parens (name named)) answer) (function_mentions ty number dummies answer)
function_named ty number dummies answer =
    both (prefix_named ty) (both (word_named (codes "function") refl) (both (name_of_function ty number answer)
    (both (parens_named (dummies_named role.Dummy dummies)) (answer_named ty answer))))

-- ---- END and BLOCK DATA

joined_listed : (which : EndWord) → is_listed (codes "end" ++ text.end_text which) ≡ true
joined_listed ends.Program = refl
joined_listed ends.Module = refl
joined_listed (ends.BlockData true) = refl
joined_listed (ends.BlockData false) = refl
joined_listed ends.Subroutine = refl
joined_listed ends.Function = refl
joined_listed ends.Interface = refl
joined_listed ends.If = refl
joined_listed ends.Do = refl
joined_listed ends.Select = refl

end_listed : (which : EndWord) → is_listed (text.end_text which) ≡ true
end_listed ends.Program = refl
end_listed ends.Module = refl
end_listed (ends.BlockData true) = refl
end_listed (ends.BlockData false) = refl
end_listed ends.Subroutine = refl
end_listed ends.Function = refl
end_listed ends.Interface = refl
end_listed ends.If = refl
end_listed ends.Do = refl
end_listed ends.Select = refl

end_first_named : {letters : Bool} (joined : Bool) (which : EndWord) → Names letters (text.end_first joined which) []
end_first_named true which = word_named (codes "end" ++ text.end_text which) (joined_listed which)
end_first_named false which = both (word_named (codes "end") refl) (word_named (text.end_text which) (end_listed which))

pub end_named : {letters : Bool} (ending : Option Ending) → Names letters (text.end_of ending) (end_mentions ending)
end_named None = word_named (codes "end") refl
end_named (Some ending) =
    both (both (end_first_named ending.joined ending.word) (whether_named (text.is_parted ending.word) (word_named (codes "data") refl))) (maybe_name_named role.Ends ending.name)

pub block_data_named : {letters : Bool} (joined : Bool) → Names letters (text.block_data joined) []
block_data_named true = word_named (codes "blockdata") refl
block_data_named false = both (word_named (codes "block") refl) (word_named (codes "data") refl)

-- ---- USE

pub rename_named : {letters : Bool} (item : Rename) → Names letters (text.rename item) (spec.in_rename item)
rename_named item = both (name_named (mention item.local role.Local)) (both (mark_named lexeme.Arrow refl) (name_named (mention item.source role.Source)))

local_named : {letters : Bool} (local : Option ℕ) → Names letters (maybe (λ local. name local · mark lexeme.Arrow) local) (spec.maybe_named role.Local local)
local_named None = none_named
local_named (Some number) = both (name_named (mention number role.Local)) (mark_named lexeme.Arrow refl)

pub only_item_named : {letters : Bool} (item : OnlyItem) → Names letters (text.only_item item) (spec.in_only_item item)
only_item_named item = both (local_named item.local) (name_named (mention item.source role.Source))

-- ---- IMPLICIT: lengths are whole numbers, so there are no names in them

none_in_layer : (layer : ExprLayer) → text.is_whole_at layer ≡ true → mentions_in (roll-Expr layer) ≡ []
none_in_layer (Expr-F.Whole number found) whole = fold-roll-Expr (List Mention) (List Mention) mentions_step part_mentions_step (Expr-F.Whole number found)
none_in_layer _ whole = absurd (cc whole)

none_in_length : (length : LengthValue) → text.is_whole_length length ≡ true → spec.in_length length ≡ []
none_in_length value.Assumed whole = absurd (cc whole)
none_in_length (value.Given found) whole = ap mentions_in (sym (roll-out-Expr found)) ∙ none_in_layer (out-Expr found) whole

none_in_star : (length : CharLength) → text.is_whole_star length ≡ true → spec.in_star length ≡ []
none_in_star (star.Whole number found) whole = refl
none_in_star (star.Paren length) whole = none_in_length length whole

none_in_selector : (length : LengthSelector) → text.is_whole_selector length ≡ true → spec.in_selector length ≡ []
none_in_selector (selector.Star length) whole = none_in_star length whole
none_in_selector (selector.Paren has_word length) whole = none_in_length length whole

none_in_type : (ty : TypeSpec) → text.has_whole_length ty ≡ true → spec.in_type ty ≡ []
none_in_type type.Integer whole = refl
none_in_type type.Logical whole = refl
none_in_type (type.Character None) whole = refl
none_in_type (type.Character (Some length)) whole = none_in_selector length whole

implicit_type_named : {letters : Bool} (ty : ImplicitType) → Names letters (text.implicit_type ty) []
implicit_type_named types.Real = word_named (codes "real") refl
implicit_type_named (types.Known ty) = no_names _ (λ at tokens says. (same_names (none_in_type ty says.0) (type_named ty)).say at tokens says.1)

-- ---- IMPLICIT: letters

letter_named : (byte number : ℕ) → Names true (text.letter byte number) []
letter_named byte number = token_named _ _ (λ at here says. inr (inr (refl, ap length says.2)))

letters_named : (first : ℕ) (last : Option ℕ) → Names true (text.letters first last) []
letters_named first None = no_names _ (λ at tokens says. (letter_named says.0 first).say at tokens says.1)
letters_named first (Some last) =
    no_names _ (λ at tokens says. (both (letter_named says.0 first) (both (mark_named lexeme.Minus refl) (letter_named says.1 last))).say at tokens says.3)

range_named : (found : LetterRange) → Names true (text.letter_range found) []
range_named found = letters_named found.first found.last

group_named : (group : LetterGroup) → Names true (text.letter_group group) []
group_named group = both (implicit_type_named group.ty) (parens_named (same_names (none_each group.ranges) (commas_named range_named group.ranges)))

pub implicit_named : (groups : Option (List LetterGroup)) → Names true (text.implicit_of groups) []
implicit_named None = word_named (codes "none") refl
implicit_named (Some groups) = same_names (none_each groups) (commas_named group_named groups)
