-- No tokens are two executable statements.
use Rattle.std.proofs.Common.{◌≡◌, sym, ◌∙◌, ℕ, ◌+◌, List, [], length}
use Rattle.ftn_tree.specs.declared.token.Token.{Token}
use Rattle.ftn_tree.specs.declared.form.Form.{Form}
use Rattle.ftn_tree.specs.ExecutableForms.{is_executable}
use Rattle.expr_parse.specs.steps.Input.{input}
use Rattle.expr_parse.proofs.Laws.{expression_laws, reference_laws}
use Rattle.std.proofs.lemmas.Option.{some_pair_parts}
use Rattle.exec_parse.proofs.ExecutableLaws.{executable_complete}

-- both are what is read
pub one_form : (one other : Form) (at : ℕ) (row : List Token) → is_executable one at row → is_executable other at row → one ≡ other
one_form one other at row says is =
    let last = input (at + length row) [] in
    let reads = executable_complete expression_laws reference_laws in
    (some_pair_parts one other last last (sym (reads one at row says) ∙ reads other at row is)).0
