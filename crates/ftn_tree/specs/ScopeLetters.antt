-- The implicit types that IMPLICIT statements give to letters (Fortran 90, 5.3).
use Rattle.std.specs.Prelude.{ℕ, ℤ, pos, negsuc, ◌==◌, Bool, true, false, ◌||◌, ◌&&◌, not, if◌then◌else◌, List, [], ◌∷◌, ◌++◌, map, fold, slice_index_or, Option, Some, None}
use Rattle.std.specs.List.{flat_map, filter, list_any}
use Rattle.std.specs.Option.{option_map_or}
use Rattle.ftn_base.specs.ImplicitLetters as letters
use Rattle.ftn_base.specs.ImplicitLetters.{Entry, with_entry, letters_between, first_given}
use Rattle.ftn_base.specs.declared.entity.Letter.{Letter}
use Rattle.ftn_base.specs.declared.entity.Letter.TheVariants as letter
use Rattle.ftn_base.specs.declared.entity.Ty.{Ty}
use Rattle.ftn_base.specs.declared.entity.Ty.TheVariants as ty
use Rattle.ftn_base.specs.declared.entity.Length.TheVariants.{Fixed}
use Rattle.ftn_tree.specs.declared.expr.Expr.{Expr, out-Expr}
use Rattle.ftn_tree.specs.declared.expr.Expr.TheOpen.{Expr-F}
use Rattle.ftn_tree.specs.declared.form.Form.TheOpen.{Form-F}
use Rattle.ftn_tree.specs.declared.parts.ImplicitType.{ImplicitType}
use Rattle.ftn_tree.specs.declared.parts.ImplicitType.TheVariants as implicit
use Rattle.ftn_tree.specs.declared.parts.TypeSpec.{TypeSpec}
use Rattle.ftn_tree.specs.declared.parts.TypeSpec.TheVariants as spec
use Rattle.ftn_tree.specs.declared.parts.LengthSelector.{LengthSelector}
use Rattle.ftn_tree.specs.declared.parts.LengthSelector.TheVariants as selector
use Rattle.ftn_tree.specs.declared.parts.CharLength.{CharLength}
use Rattle.ftn_tree.specs.declared.parts.CharLength.TheVariants as star
use Rattle.ftn_tree.specs.declared.parts.LengthValue.{LengthValue}
use Rattle.ftn_tree.specs.declared.parts.LengthValue.TheVariants as value
use Rattle.ftn_tree.specs.declared.parts.LetterGroup.{LetterGroup}
use Rattle.ftn_tree.specs.declared.parts.LetterRange.{LetterRange}
use Rattle.ftn_tree.specs.declared.table.Extent.{Extent}
use Rattle.ftn_tree.specs.declared.unit.FileTree.{FileTree}
use Rattle.ftn_tree.specs.Layers.{ExprLayer, FormLayer}
use Rattle.ftn_tree.specs.Extents.{layer_at, is_body}
use Rattle.ftn_tree.specs.Scopes.{name_at, chain, own_statements}

-- ---- the type that is written

-- a whole number that isn't negative, and 0 for all else: IMPLICIT has no other lengths
abbrev pub count_of : ℤ → ℕ
count_of (pos n) = n
count_of (negsuc n) = 0

abbrev pub whole_at : ExprLayer → ℕ
whole_at (Expr-F.Whole token number) = count_of number
whole_at _ = 0

abbrev pub length_in : LengthValue → ℕ
length_in value.Assumed = 0
length_in (value.Given e) = whole_at (out-Expr e)

abbrev pub star_length : CharLength → ℕ
star_length (star.Whole token number) = count_of number
star_length (star.Paren length) = length_in length

-- a character length that isn't written is 1 (5.1.1.5)
abbrev pub selector_length : Option LengthSelector → ℕ
selector_length None = 1
selector_length (Some (selector.Star length)) = star_length length
selector_length (Some (selector.Paren has_word length)) = length_in length

abbrev pub known_type : TypeSpec → Ty
known_type spec.Integer = ty.Integer
known_type spec.Logical = ty.Logical
known_type (spec.Character length) = ty.Character (Fixed (selector_length length))

abbrev pub letter_type : ImplicitType → Letter
letter_type implicit.Real = letter.Real
letter_type (implicit.Known written) = letter.Known (known_type written)

-- ---- what one statement gives

-- a letter by its code in lower case
abbrev pub code_at : List FileTree → ℕ → ℕ → ℕ
code_at files file token = slice_index_or (name_at files file token) 0 0

-- letters from one to another, with their type and the first token of their range
pub record Given : Type 0 where
  pub token : ℕ
  pub from : ℕ
  pub to : ℕ
  pub letter : Letter

abbrev pub given_range : List FileTree → ℕ → ImplicitType → LetterRange → Given
given_range files file written range = record {
  token = range.first;
  from = code_at files file range.first;
  to = code_at files file (option_map_or (λ last. last) range.last range.first);
  letter = letter_type written;
}

abbrev pub given_group : List FileTree → ℕ → LetterGroup → List Given
given_group files file group = map (given_range files file group.ty) group.ranges

abbrev pub put_given : List Entry → Given → List Entry
put_given entries given = with_entry given.from given.to (given.letter, true) entries

abbrev pub after_groups : List FileTree → ℕ → Option (List LetterGroup) → List Entry → List Entry
after_groups files file None entries = letters.none
after_groups files file (Some groups) entries = fold put_given entries (flat_map (given_group files file) groups)

-- the letters after a statement
abbrev pub after_statement : List FileTree → ℕ → List Entry → Option FormLayer → List Entry
after_statement files file entries (Some (Form-F.Implicit groups)) = after_groups files file groups entries
after_statement files file entries _ = entries

-- ---- scoping units

-- those that a scoping unit begins with: the host's, in which none is given here. An interface body takes nothing from its host (12.3.2.1)
abbrev pub before_own : Bool → List Entry → List Entry
before_own body entries = if body then letters.standard else letters.inner entries

abbrev pub after_own : List FileTree → List Entry → Extent → List Entry
after_own files entries e =
    fold (λ entries statement. after_statement files e.file entries (layer_at files e.file statement)) (before_own (is_body files e) entries) (own_statements files e)

-- the letters of a scoping unit, from those of all around it
abbrev pub entries_of : List FileTree → Extent → List Entry
entries_of files e = fold (after_own files) letters.standard (chain files e)

abbrev pub letters_of : List FileTree → Extent → List Letter
letters_of files e = map (λ entry. entry.0) (entries_of files e)

-- ---- faults

abbrev pub is_implicit_at : Option FormLayer → Bool
is_implicit_at (Some (Form-F.Implicit groups)) = true
is_implicit_at _ = false

abbrev pub is_none_at : Option FormLayer → Bool
is_none_at (Some (Form-F.Implicit None)) = true
is_none_at _ = false

abbrev pub givens_at : List FileTree → ℕ → Option FormLayer → List Given
givens_at files file (Some (Form-F.Implicit (Some groups))) = flat_map (given_group files file) groups
givens_at files file _ = []

-- all ranges that IMPLICIT statements of a scoping unit give, in their order
abbrev pub givens_of : List FileTree → Extent → List Given
givens_of files e = flat_map (λ statement. givens_at files e.file (layer_at files e.file statement)) (own_statements files e)

-- they give a letter that a range before them gave: the first tokens of such ranges
abbrev pub given_again : List Entry → List Given → List ℕ
given_again entries [] = []
given_again entries (given ∷ rest) = option_map_or (λ letter. given.token ∷ []) (first_given given.from given.to entries) [] ++ given_again (put_given entries given) rest

-- IMPLICIT statements that come after another one, one of the two being IMPLICIT NONE
abbrev pub beside_none : List FileTree → ℕ → List ℕ → List ℕ → List ℕ
beside_none files file before [] = []
beside_none files file before (statement ∷ rest) =
    (if list_any (λ earlier. is_none_at (layer_at files file earlier) || is_none_at (layer_at files file statement)) before then statement ∷ [] else [])
    ++ beside_none files file (statement ∷ before) rest

abbrev pub implicits_of : List FileTree → Extent → List ℕ
implicits_of files e = filter (λ statement. is_implicit_at (layer_at files e.file statement)) (own_statements files e)
