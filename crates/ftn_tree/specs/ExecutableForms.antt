-- The text of executable statements (Fortran 90, 7.5.1, 8, 9.4, 12.4.3, 12.5.2.5).
use Rattle.std.specs.Prelude.{◌≡◌, ℕ, ◌⊎◌, Bool, true, false, List, codes, Option, Some, None}
use Rattle.ftn_tree.specs.declared.expr.Expr.{Expr}
use Rattle.ftn_tree.specs.declared.form.Form.{Form, out-Form}
use Rattle.ftn_tree.specs.declared.form.Form.TheOpen.{Form-F}
use Rattle.ftn_tree.specs.declared.lexeme.Lexeme.TheVariants as lexeme
use Rattle.ftn_tree.specs.declared.parts.DoControl.{DoControl}
use Rattle.ftn_tree.specs.declared.parts.LeaveWord.{LeaveWord}
use Rattle.ftn_tree.specs.declared.parts.LeaveWord.TheVariants as leave
use Rattle.ftn_tree.specs.declared.parts.CaseRange.{CaseRange}
use Rattle.ftn_tree.specs.declared.parts.CaseRange.TheVariants as range
use Rattle.ftn_tree.specs.declared.parts.IoStyle.{IoStyle}
use Rattle.ftn_tree.specs.declared.parts.IoStyle.TheVariants as style
use Rattle.ftn_tree.specs.Layers.{FormLayer}
use Rattle.ftn_tree.specs.Lexemes.{lexeme_of}
use Rattle.ftn_tree.specs.Phrases.{Phrase, ◌·◌, token, word, mark, name, whether, maybe, never, in_parens, after_commas, commas, commas_or_none}
use Rattle.ftn_tree.specs.Grammar.{expr, reference}
use Rattle.ftn_tree.specs.Assignments.{IsAssignment}

-- ---- statements that may stand in an IF statement

-- `target = value` (7.5.1)
abbrev pub assignment : Expr → Expr → Phrase
assignment target value = reference target · mark lexeme.Equals · expr value

abbrev pub leave_word : LeaveWord → Phrase
leave_word leave.Exit = word (codes "exit")
leave_word leave.Cycle = word (codes "cycle")

-- a whole number or a character constant (8.3)
abbrev pub stop_code : ℕ → Phrase
stop_code number = token (λ at here. (number ≡ at) × ((lexeme_of here ≡ lexeme.Whole) ⊎ (lexeme_of here ≡ lexeme.Quoted)))

-- `( *, * )`, which says the default unit and list-directed (9.4), and what follows it
abbrev pub after_stars : Phrase → Phrase
after_stars phrase = mark lexeme.Open · mark lexeme.Times · mark lexeme.Comma · mark lexeme.Times · mark lexeme.Close · phrase

abbrev pub output : IoStyle → List Expr → Phrase
output style.Star items = word (codes "print") · mark lexeme.Times · after_commas expr items
output style.Paren items = word (codes "write") · after_stars (commas_or_none expr items)

abbrev pub input : IoStyle → List Expr → Phrase
input style.Star items = word (codes "read") · mark lexeme.Times · after_commas reference items
input style.Paren items = word (codes "read") · after_stars (commas_or_none reference items)

abbrev pub action_at : FormLayer → Phrase
action_at (Form-F.Call n args) = word (codes "call") · name n · maybe (λ args. in_parens (commas_or_none expr args)) args
action_at (Form-F.Exit which label) = leave_word which · maybe name label
action_at (Form-F.Stop code) = word (codes "stop") · maybe stop_code code
action_at Form-F.Return = word (codes "return")
action_at Form-F.Continue = word (codes "continue")
action_at (Form-F.Print how items) = output how items
action_at (Form-F.Read how items) = input how items
action_at _ = never

-- by its shape no assignment, whatever its words
abbrev pub otherwise : Phrase → Phrase
otherwise phrase at tokens = (IsAssignment tokens → ⊥) × phrase at tokens

abbrev pub inner_at : FormLayer → Phrase
inner_at (Form-F.Assign target value) at tokens = IsAssignment tokens × assignment target value at tokens
inner_at other at tokens = otherwise (action_at other) at tokens

-- an assignment, CALL, EXIT, CYCLE, STOP, RETURN, CONTINUE, PRINT, WRITE or READ, the first token of which has that number (8.1.2.4)
abbrev pub inner_from : ℕ → Form → Phrase
inner_from number inner at tokens = (number ≡ at) × inner_at (out-Form inner) at tokens

-- ---- constructs (8.1)

abbrev pub condition : Expr → Phrase
condition e = in_parens (expr e)

-- two words that may be one
abbrev pub joined_words : List ℕ → List ℕ → List ℕ → Bool → Phrase
joined_words whole one other true = word whole
joined_words whole one other false = word one · word other

abbrev pub else_if : Bool → Phrase
else_if = joined_words (codes "elseif") (codes "else") (codes "if")

abbrev pub select_case : Bool → Phrase
select_case = joined_words (codes "selectcase") (codes "select") (codes "case")

abbrev pub comma_if : Bool → Phrase
comma_if comma = whether comma (mark lexeme.Comma)

-- the construct name before DO
abbrev pub label : ℕ → Phrase
label n = name n · mark lexeme.Colon

abbrev pub control : DoControl → Phrase
control c =
    comma_if c.comma · name c.variable · mark lexeme.Equals · expr c.from · mark lexeme.Comma · expr c.to
    · maybe (λ step. mark lexeme.Comma · expr step) c.step

abbrev pub case_range : CaseRange → Phrase
case_range (range.One value) = expr value
case_range (range.From low) = expr low · mark lexeme.Colon
case_range (range.To high) = mark lexeme.Colon · expr high
case_range (range.Between low high) = expr low · mark lexeme.Colon · expr high

abbrev pub case_of : Option (List CaseRange) → Phrase
case_of None = word (codes "default")
case_of (Some ranges) = in_parens (commas case_range ranges)

abbrev pub statement_at : FormLayer → Phrase
statement_at (Form-F.IfThen e) = word (codes "if") · condition e · word (codes "then")
statement_at (Form-F.ElseIf joined e) = else_if joined · condition e · word (codes "then")
statement_at Form-F.Else = word (codes "else")
statement_at (Form-F.If e number inner) = word (codes "if") · condition e · inner_from number inner
statement_at (Form-F.Do name counted) = maybe label name · word (codes "do") · maybe control counted
statement_at (Form-F.DoWhile name comma e) = maybe label name · word (codes "do") · comma_if comma · word (codes "while") · condition e
statement_at (Form-F.Select joined e) = select_case joined · condition e
statement_at (Form-F.Case ranges) = word (codes "case") · case_of ranges
statement_at other = action_at other

-- ---- all of them

abbrev pub executable_at : FormLayer → Phrase
executable_at (Form-F.Assign target value) at tokens = IsAssignment tokens × assignment target value at tokens
executable_at other at tokens = otherwise (statement_at other) at tokens

-- exactly these tokens are the executable statement
abbrev pub is_executable : Form → Phrase
is_executable form = executable_at (out-Form form)
