-- How the statements of constructs and IF statements are read. It serves the proof of the code.
use Rattle.std.specs.Prelude.{ℕ, Bool, true, false, not, if◌then◌else◌, ◌&&◌, nat_eq, List, length, codes, Option, Some, None}
use Rattle.ftn_tree.specs.declared.expr.Expr.{Expr}
use Rattle.ftn_tree.specs.declared.form.Form.{Form}
use Rattle.ftn_tree.specs.declared.form.Form.TheVariants as form
use Rattle.ftn_tree.specs.declared.lexeme.Lexeme.{Lexeme}
use Rattle.ftn_tree.specs.declared.lexeme.Lexeme.TheVariants as lexeme
use Rattle.ftn_tree.specs.declared.parts.CaseRange.{CaseRange}
use Rattle.ftn_tree.specs.declared.parts.CaseRange.TheVariants as range
use Rattle.ftn_tree.specs.declared.parts.DoControl.{DoControl}
use Rattle.ftn_tree.specs.Assignments.{is_assignment}
use Rattle.expr_parse.specs.steps.Input.{Input, Reader, ◌>>=◌, ◌>>◌, pure, eat, sees_word, expect, expect_word, name, after, peek, peek_second, is_done}
use Rattle.expr_parse.specs.steps.Combinators.{◌<$>◌, ◌⊗◌, option_if, separated}
use Rattle.expr_parse.specs.steps.Reading.{expression}
use Rattle.exec_parse.specs.steps.Lists.{condition}
use Rattle.exec_parse.specs.steps.Actions.{inner}

-- ---- IF

-- THEN, which isn't the target of an assignment
unfoldable pub sees_then : Input → Bool
sees_then i = not (is_assignment i.rest) && sees_word (codes "then") i

unfoldable pub after_condition : Expr → Reader Form
after_condition e i =
    if sees_then i then ((λ _. form.IfThen e) <$> expect_word (codes "then")) i else ((λ statement. form.If e i.at statement) <$> inner) i

unfoldable pub if_form : Reader Form
if_form = expect_word (codes "if") >> condition >>= after_condition

-- two words that may be one, and whether they are
unfoldable pub joined_words : List ℕ → List ℕ → List ℕ → Reader Bool
joined_words whole one other i = if sees_word whole i then Some (true, after i) else ((λ _. false) <$> (expect_word one >> expect_word other)) i

unfoldable pub else_if : Reader Form
else_if =
    (λ parts. form.ElseIf parts.0 parts.1)
    <$> joined_words (codes "elseif") (codes "else") (codes "if") ⊗ (condition >>= (λ e. expect_word (codes "then") >> pure e))

unfoldable pub plain_else : Reader Form
plain_else = (λ _. form.Else) <$> expect_word (codes "else")

unfoldable pub else_form : Reader Form
else_form i = if nat_eq (length i.rest) 1 then plain_else i else else_if i

-- ---- SELECT CASE

unfoldable pub select : Reader Form
select = (λ parts. form.Select parts.0 parts.1) <$> joined_words (codes "selectcase") (codes "select") (codes "case") ⊗ condition

abbrev pub ends_range : Option Lexeme → Bool
ends_range (Some lexeme.Comma) = true
ends_range (Some lexeme.Close) = true
ends_range (Some _) = false
ends_range None = true

unfoldable pub range_from : Expr → Reader CaseRange
range_from low i = if ends_range (peek i) then Some (range.From low, i) else ((λ high. range.Between low high) <$> expression) i

unfoldable pub case_range : Reader CaseRange
case_range =
    eat lexeme.Colon >>= (λ open_below. if open_below then ((λ high. range.To high) <$> expression)
    else (expression >>= (λ low. eat lexeme.Colon >>= (λ wide. if wide then range_from low else pure (range.One low)))))

unfoldable pub ranges : Reader (List CaseRange)
ranges = expect lexeme.Open >> (separated case_range >>= (λ all. expect lexeme.Close >> pure all))

-- DEFAULT, or ranges
unfoldable pub selection : Reader (Option (List CaseRange))
selection i = if sees_word (codes "default") i then Some (None, after i) else (Some <$> ranges) i

unfoldable pub case_form : Reader Form
case_form = (λ found. form.Case found) <$> (expect_word (codes "case") >> selection)

-- ---- DO

abbrev pub is_colon : Option Lexeme → Bool
is_colon (Some lexeme.Colon) = true
is_colon _ = false

abbrev pub is_open : Option Lexeme → Bool
is_open (Some lexeme.Open) = true
is_open _ = false

-- a construct name and its colon come next
unfoldable pub sees_label : Input → Bool
sees_label i = is_colon (peek_second i)

unfoldable pub label : Reader (Option ℕ)
label i = if sees_label i then (Some <$> (name >>= (λ n. expect lexeme.Colon >> pure n))) i else Some (None, i)

unfoldable pub step : Reader Expr
step = expect lexeme.Comma >> expression

unfoldable pub control : Bool → Reader DoControl
control comma =
    (λ parts. record { comma = comma; variable = parts.0; from = parts.1.0; to = parts.1.1.0; step = parts.1.1.1 })
    <$> name ⊗ (expect lexeme.Equals >> expression ⊗ (expect lexeme.Comma >> expression ⊗ option_if lexeme.Comma step))

-- WHILE, which isn't the DO variable
unfoldable pub sees_while : Input → Bool
sees_while i = sees_word (codes "while") i && is_open (peek_second i)

unfoldable pub after_do : Option ℕ → Bool → Reader Form
after_do name comma i =
    if sees_while i then ((λ e. form.DoWhile name comma e) <$> (expect_word (codes "while") >> condition)) i
    else ((λ found. form.Do name (Some found)) <$> control comma) i

unfoldable pub do_rest : Option ℕ → Reader Form
do_rest name i = if is_done i then Some (form.Do name None, i) else (eat lexeme.Comma >>= after_do name) i

unfoldable pub do_form : Reader Form
do_form = label >>= (λ name. expect_word (codes "do") >> do_rest name)
