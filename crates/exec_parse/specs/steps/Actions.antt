-- How the statements that may stand in an IF statement are read. It serves the proof of the code.
use Rattle.std.specs.Prelude.{ℕ, Bool, true, false, if◌then◌else◌, List, codes, Option, Some}
use Rattle.ftn_tree.specs.declared.form.Form.{Form}
use Rattle.ftn_tree.specs.declared.form.Form.TheVariants as form
use Rattle.ftn_tree.specs.declared.lexeme.Lexeme.{Lexeme}
use Rattle.ftn_tree.specs.declared.lexeme.Lexeme.TheVariants as lexeme
use Rattle.ftn_tree.specs.declared.parts.LeaveWord.{LeaveWord}
use Rattle.ftn_tree.specs.declared.parts.LeaveWord.TheVariants as leave_words
use Rattle.ftn_tree.specs.declared.parts.IoStyle.TheVariants as style
use Rattle.ftn_tree.specs.Assignments.{is_assignment}
use Rattle.expr_parse.specs.steps.Input.{Reader, ◌>>◌, pure, sees, sees_word, expect, expect_word, name, peek_second}
use Rattle.expr_parse.specs.steps.Combinators.{◌<$>◌, ◌⊗◌, option_if, option_unless_done}
use Rattle.expr_parse.specs.steps.Reading.{expression, reference}
use Rattle.exec_parse.specs.steps.Lists.{arguments, items_after_star, variables_after_star, items, variables}

unfoldable pub assignment : Reader Form
assignment = (λ parts. form.Assign parts.0 parts.1) <$> reference ⊗ (expect lexeme.Equals >> expression)

unfoldable pub call : Reader Form
call = (λ parts. form.Call parts.0 parts.1) <$> (expect_word (codes "call") >> name ⊗ option_if lexeme.Open arguments)

-- EXIT or CYCLE, whose word that is
unfoldable pub leave : List ℕ → LeaveWord → Reader Form
leave text word = (λ label. form.Exit word label) <$> (expect_word text >> option_unless_done name)

unfoldable pub stop_code : Reader ℕ
stop_code i = if sees lexeme.Whole i then expect lexeme.Whole i else expect lexeme.Quoted i

unfoldable pub stop : Reader Form
stop = (λ code. form.Stop code) <$> (expect_word (codes "stop") >> option_unless_done stop_code)

unfoldable pub return_form : Reader Form
return_form = (λ _. form.Return) <$> expect_word (codes "return")

unfoldable pub continue_form : Reader Form
continue_form = (λ _. form.Continue) <$> expect_word (codes "continue")

-- `( *, * )` and what follows it
abbrev pub after_stars : {A : Type 0} → Reader A → Reader A
after_stars read = expect lexeme.Open >> (expect lexeme.Times >> (expect lexeme.Comma >> (expect lexeme.Times >> (expect lexeme.Close >> read))))

-- `( *, * )`
abbrev pub stars : Reader (Unit {0})
stars = after_stars (pure tt)

unfoldable pub print : Reader Form
print = (λ found. form.Print style.Star found) <$> (expect_word (codes "print") >> (expect lexeme.Times >> items_after_star))

unfoldable pub write : Reader Form
write = (λ found. form.Print style.Paren found) <$> (expect_word (codes "write") >> after_stars items)

unfoldable pub read_star : Reader Form
read_star = (λ found. form.Read style.Star found) <$> (expect_word (codes "read") >> (expect lexeme.Times >> variables_after_star))

unfoldable pub read_paren : Reader Form
read_paren = (λ found. form.Read style.Paren found) <$> (expect_word (codes "read") >> after_stars variables)

abbrev pub is_star : Option Lexeme → Bool
is_star (Some lexeme.Times) = true
is_star _ = false

unfoldable pub read : Reader Form
read i = if is_star (peek_second i) then read_star i else read_paren i

-- the row whose word comes first
unfoldable pub action : Reader Form
action i =
    if sees_word (codes "call") i then call i
    else if sees_word (codes "print") i then print i
    else if sees_word (codes "write") i then write i
    else if sees_word (codes "read") i then read i
    else if sees_word (codes "exit") i then leave (codes "exit") leave_words.Exit i
    else if sees_word (codes "cycle") i then leave (codes "cycle") leave_words.Cycle i
    else if sees_word (codes "stop") i then stop i
    else if sees_word (codes "return") i then return_form i
    else continue_form i

unfoldable pub inner : Reader Form
inner i = if is_assignment i.rest then assignment i else action i
