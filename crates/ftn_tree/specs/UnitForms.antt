-- The text of the statements that begin and end program units, procedures and interface blocks, of USE and of IMPLICIT
-- (Fortran 90, 5.3, 11, 12.3.2.1, 12.5.2).
use Rattle.std.specs.Prelude.{◌≡◌, ◌≤◌, ℕ, Bool, true, false, not, List, [], ◌∷◌, ◌++◌, length, codes, Option, Some, None}
use Rattle.ftn_tree.specs.declared.expr.Expr.{out-Expr}
use Rattle.ftn_tree.specs.declared.expr.Expr.TheOpen.{Expr-F}
use Rattle.ftn_tree.specs.declared.form.Form.TheOpen.{Form-F}
use Rattle.ftn_tree.specs.declared.lexeme.Lexeme.TheVariants as lexeme
use Rattle.ftn_tree.specs.declared.parts.EndWord.{EndWord}
use Rattle.ftn_tree.specs.declared.parts.EndWord.TheVariants as ends
use Rattle.ftn_tree.specs.declared.parts.Ending.{Ending}
use Rattle.ftn_tree.specs.declared.parts.Rename.{Rename}
use Rattle.ftn_tree.specs.declared.parts.OnlyItem.{OnlyItem}
use Rattle.ftn_tree.specs.declared.parts.ImplicitType.{ImplicitType}
use Rattle.ftn_tree.specs.declared.parts.ImplicitType.TheVariants as types
use Rattle.ftn_tree.specs.declared.parts.TypeSpec.{TypeSpec}
use Rattle.ftn_tree.specs.declared.parts.TypeSpec.TheVariants as type
use Rattle.ftn_tree.specs.declared.parts.LengthSelector.{LengthSelector}
use Rattle.ftn_tree.specs.declared.parts.LengthSelector.TheVariants as selector
use Rattle.ftn_tree.specs.declared.parts.CharLength.{CharLength}
use Rattle.ftn_tree.specs.declared.parts.CharLength.TheVariants as star
use Rattle.ftn_tree.specs.declared.parts.LengthValue.{LengthValue}
use Rattle.ftn_tree.specs.declared.parts.LengthValue.TheVariants as value
use Rattle.ftn_tree.specs.declared.parts.LetterGroup.{LetterGroup}
use Rattle.ftn_tree.specs.declared.parts.LetterRange.{LetterRange}
use Rattle.ftn_tree.specs.Layers.{ExprLayer, FormLayer}
use Rattle.ftn_tree.specs.Lexemes.{lexeme_of}
use Rattle.ftn_tree.specs.Phrases.{Phrase, ◌·◌, token, word, mark, name, whether, provided, maybe, in_parens, commas, commas_or_none, after_commas}
use Rattle.ftn_tree.specs.TypeForms.{type_text}
use Rattle.ftn_tree.specs.SpecificationForms.{declaration_at}

-- ---- END

-- the word after END, or the first of two
abbrev pub end_text : EndWord → List ℕ
end_text ends.Program = codes "program"
end_text ends.Module = codes "module"
end_text (ends.BlockData true) = codes "blockdata"
end_text (ends.BlockData false) = codes "block"
end_text ends.Subroutine = codes "subroutine"
end_text ends.Function = codes "function"
end_text ends.Interface = codes "interface"
end_text ends.If = codes "if"
end_text ends.Do = codes "do"
end_text ends.Select = codes "select"

-- BLOCK DATA is written as two words
abbrev pub is_parted : EndWord → Bool
is_parted (ends.BlockData joined) = not joined
is_parted _ = false

-- END and the first word, which may be one word
abbrev pub end_first : Bool → EndWord → Phrase
end_first true which = word (codes "end" ++ end_text which)
end_first false which = word (codes "end") · word (end_text which)

abbrev pub end_words : Bool → EndWord → Phrase
end_words joined which = end_first joined which · whether (is_parted which) (word (codes "data"))

abbrev pub end_of : Option Ending → Phrase
end_of None = word (codes "end")
end_of (Some ending) = end_words ending.joined ending.word · maybe name ending.name

-- ---- BLOCK DATA

-- the two words may be one
abbrev pub block_data : Bool → Phrase
block_data true = word (codes "blockdata")
block_data false = word (codes "block") · word (codes "data")

-- ---- USE

abbrev pub rename : Rename → Phrase
rename item = name item.local · mark lexeme.Arrow · name item.source

abbrev pub only_item : OnlyItem → Phrase
only_item item = maybe (λ local. name local · mark lexeme.Arrow) item.local · name item.source

-- ---- IMPLICIT

abbrev pub is_whole_at : ExprLayer → Bool
is_whole_at (Expr-F.Whole token value) = true
is_whole_at _ = false

-- the length is a whole number
abbrev pub is_whole_length : LengthValue → Bool
is_whole_length value.Assumed = false
is_whole_length (value.Given length) = is_whole_at (out-Expr length)

abbrev pub is_whole_star : CharLength → Bool
is_whole_star (star.Whole token value) = true
is_whole_star (star.Paren length) = is_whole_length length

abbrev pub is_whole_selector : LengthSelector → Bool
is_whole_selector (selector.Star length) = is_whole_star length
is_whole_selector (selector.Paren has_word length) = is_whole_length length

-- a length that is written is a whole number
abbrev pub has_whole_length : TypeSpec → Bool
has_whole_length (type.Character (Some length)) = is_whole_selector length
has_whole_length _ = true

-- the type of a group of IMPLICIT
abbrev pub implicit_type : ImplicitType → Phrase
implicit_type types.Real = word (codes "real")
implicit_type (types.Known ty) = provided (has_whole_length ty) (type_text ty)

-- a word of one letter, which is that byte in lower case
abbrev pub letter : ℕ → ℕ → Phrase
letter byte number = token (λ at here. (number ≡ at) × (lexeme_of here ≡ lexeme.Word) × (here.value ≡ byte ∷ []))

-- a letter, or two of which the second is not before the first
abbrev pub letters : ℕ → Option ℕ → Phrase
letters first None at tokens = (byte : ℕ) × letter byte first at tokens
letters first (Some last) at tokens =
    (byte : ℕ) × (other : ℕ) × (byte ≤ other) × (letter byte first · mark lexeme.Minus · letter other last) at tokens

abbrev pub letter_range : LetterRange → Phrase
letter_range range = letters range.first range.last

abbrev pub letter_group : LetterGroup → Phrase
letter_group group = implicit_type group.ty · in_parens (commas letter_range group.ranges)

abbrev pub implicit_of : Option (List LetterGroup) → Phrase
implicit_of None = word (codes "none")
implicit_of (Some groups) = commas letter_group groups

-- ---- the statements

abbrev pub unit_form_at : FormLayer → Phrase
unit_form_at (Form-F.BlockData joined n) = block_data joined · maybe name n
unit_form_at (Form-F.Program n) = word (codes "program") · name n
unit_form_at (Form-F.ModuleProcedure names) = word (codes "module") · word (codes "procedure") · commas name names
unit_form_at (Form-F.Module n) = word (codes "module") · name n
unit_form_at (Form-F.Subroutine n dummies) = word (codes "subroutine") · name n · maybe (λ names. in_parens (commas_or_none name names)) dummies
unit_form_at (Form-F.Function ty n dummies answer) =
    maybe type_text ty · word (codes "function") · name n · in_parens (commas_or_none name dummies)
    · maybe (λ named. word (codes "result") · in_parens (name named)) answer
unit_form_at Form-F.Contains = word (codes "contains")
unit_form_at (Form-F.End ending) = end_of ending
unit_form_at (Form-F.UseAll n renames) = word (codes "use") · name n · after_commas rename renames
unit_form_at (Form-F.UseOnly n items) =
    word (codes "use") · name n · mark lexeme.Comma · word (codes "only") · mark lexeme.Colon · commas_or_none only_item items
unit_form_at (Form-F.Implicit groups) = word (codes "implicit") · implicit_of groups
unit_form_at (Form-F.Interface n) = word (codes "interface") · maybe name n
unit_form_at other = declaration_at other
