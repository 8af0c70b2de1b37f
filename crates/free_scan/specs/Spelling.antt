-- How a program in first form is spelled: a row of lexemes for each statement.
use Rattle.std.specs.Prelude.{ℕ, ◌+◌, ◌*◌, ◌-◌, Bool, true, false, if◌then◌else◌, List, [], ◌∷◌, ◌++◌, map, fold, codes}
use Rattle.std.specs.List.{filter}
use Rattle.free_scan.specs.declared.first_form.token.PieceKind.TheVariants as kinds
use Rattle.free_scan.specs.declared.first_form.token.PieceKind.{PieceKind}
use Rattle.free_scan.specs.declared.first_form.token.PlacedPiece.{PlacedPiece}
use Rattle.free_scan.specs.declared.first_form.program.Operand.{Operand}
use Rattle.free_scan.specs.declared.first_form.program.Operand.TheVariants as operands
use Rattle.free_scan.specs.declared.first_form.program.Sign.{Sign}
use Rattle.free_scan.specs.declared.first_form.program.Sign.TheVariants as signs
use Rattle.free_scan.specs.declared.first_form.program.Term.{Term}
use Rattle.free_scan.specs.declared.first_form.program.Sum.{Sum}
use Rattle.free_scan.specs.declared.first_form.program.Statement.{Statement}
use Rattle.free_scan.specs.declared.first_form.program.Statement.TheVariants as statements
use Rattle.free_scan.specs.declared.first_form.program.Program.{Program}
use Rattle.std.specs.List.{onto_first}
use Rattle.free_scan.specs.Tokens.{is_line_end}

-- what a token says, apart from its place: a word in lower case, the value of a whole number, or a mark
pub data Lexeme : Type 0 where
  word : List ℕ → Lexeme
  whole : ℕ → Lexeme
  mark : List ℕ → Lexeme

-- the value of a row of decimal digits
abbrev pub number_of : List ℕ → ℕ
number_of digits = fold (λ n digit. 10 * n + (digit - 48)) 0 digits

abbrev pub lexeme : PieceKind → List ℕ → Lexeme
lexeme kinds.Word value = word value
lexeme kinds.Whole value = whole (number_of value)
lexeme kinds.Mark value = mark value
lexeme kinds.Blank value = mark value
lexeme kinds.Comment value = mark value
lexeme kinds.LineEnd value = mark value

abbrev pub lexeme_of : PlacedPiece → Lexeme
lexeme_of token = lexeme token.kind token.value

-- the tokens of each line, between the ends of lines
abbrev pub token_lines : List PlacedPiece → List (List PlacedPiece)
token_lines [] = []
token_lines (token ∷ rest) = if is_line_end token.kind then [] ∷ token_lines rest else onto_first token (token_lines rest)

abbrev pub is_some_row : {X : Type 0} → List X → Bool
is_some_row [] = false
is_some_row (x ∷ xs) = true

-- the lines on which a statement stands
abbrev pub rows_of : List PlacedPiece → List (List PlacedPiece)
rows_of tokens = filter is_some_row (token_lines tokens)

abbrev pub lexeme_rows : List PlacedPiece → List (List Lexeme)
lexeme_rows tokens = map (map lexeme_of) (rows_of tokens)

-- a list with commas between
abbrev pub commas : List (List Lexeme) → List Lexeme
commas [] = []
commas (item ∷ []) = item
commas (item ∷ next ∷ items) = item ++ (mark (codes ",") ∷ commas (next ∷ items))

abbrev pub spell_operand : Operand → Lexeme
spell_operand (operands.Variable name) = word name
spell_operand (operands.Whole n) = whole n

abbrev pub spell_sign : Sign → Lexeme
spell_sign signs.Plus = mark (codes "+")
spell_sign signs.Minus = mark (codes "-")

abbrev pub spell_terms : List Term → List Lexeme
spell_terms [] = []
spell_terms (term ∷ terms) = spell_sign term.sign ∷ spell_operand term.operand ∷ spell_terms terms

abbrev pub spell_sum : Sum → List Lexeme
spell_sum sum = spell_operand sum.first ∷ spell_terms sum.rest

abbrev pub spell_statement : Statement → List Lexeme
spell_statement (statements.Assign target value) = word target ∷ mark (codes "=") ∷ spell_sum value
spell_statement (statements.Print items) = word (codes "print") ∷ mark (codes "*") ∷ mark (codes ",") ∷ commas (map spell_sum items)

abbrev pub spell_declaration : List (List ℕ) → List Lexeme
spell_declaration names = word (codes "integer") ∷ mark (codes "::") ∷ commas (map (λ name. word name ∷ []) names)

-- program NAME, the declarations, the statements, end program NAME
abbrev pub spell_program : Program → List (List Lexeme)
spell_program program =
    (word (codes "program") ∷ word program.name ∷ [])
    ∷ (map spell_declaration program.declared
    ++ map spell_statement program.statements
    ++ (word (codes "end") ∷ word (codes "program") ∷ word program.name ∷ []) ∷ [])
