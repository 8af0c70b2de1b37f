-- No tokens are two statements.
use Rattle.std.proofs.Common.{◌≡◌, sym, ◌∙◌, ℕ, ◌+◌, List, [], length}
use Rattle.ftn_tree.specs.declared.token.Token.{Token}
use Rattle.ftn_tree.specs.declared.form.Form.{Form}
use Rattle.ftn_tree.specs.Specifications.{is_specification}
use Rattle.expr_parse.specs.steps.Input.{input}
use Rattle.std.proofs.lemmas.Option.{some_pair_parts}
use Rattle.spec_parse.proofs.StatementLaws.{statement_reads}

-- both are what is read
pub one_form : (one other : Form) (at : ℕ) (row : List Token) → is_specification one at row → is_specification other at row → one ≡ other
one_form one other at row says is =
    let last = input (at + length row) [] in
    (some_pair_parts one other last last (sym (statement_reads one at row says.1) ∙ statement_reads other at row is.1)).0
