-- How executable statements are read. It serves the proof of the code.
use Rattle.std.specs.Prelude.{◌||◌, if◌then◌else◌, codes}
use Rattle.ftn_tree.specs.declared.form.Form.{Form}
use Rattle.ftn_tree.specs.Assignments.{is_assignment}
use Rattle.expr_parse.specs.steps.Input.{Reader, sees_word}
use Rattle.expr_parse.specs.steps.Combinators.{to_the_end}
use Rattle.exec_parse.specs.steps.Actions.{assignment, action}
use Rattle.exec_parse.specs.steps.Constructs.{if_form, else_form, select, case_form, sees_label, do_form}

-- by the first word, where it is no construct name
unfoldable pub statement : Reader Form
statement i =
    if sees_word (codes "if") i then if_form i
    else if sees_word (codes "else") i || sees_word (codes "elseif") i then else_form i
    else if sees_word (codes "do") i then do_form i
    else if sees_word (codes "select") i || sees_word (codes "selectcase") i then select i
    else if sees_word (codes "case") i then case_form i
    else action i

unfoldable pub executable : Reader Form
executable i = if is_assignment i.rest then assignment i else if sees_label i then do_form i else statement i

-- and no token more
unfoldable pub whole_executable : Reader Form
whole_executable = to_the_end executable
