-- What fits all tokens of a statement, from the laws of its reader.
use Rattle.std.proofs.Common.{◌≡◌, sym, ◌∙◌, ℕ, ◌+◌, false, List, [], length, Result, Ok, Err, true≢false}
use Rattle.std.proofs.lemmas.Option.{some_pair_parts}
use Rattle.ftn_tree.specs.declared.token.Token.{Token}
use Rattle.ftn_tree.specs.declared.form.Form.{Form}
use Rattle.ftn_tree.specs.Assignments.{is_assignment}
use Rattle.ftn_tree.specs.Specifications.{is_specification}
use Rattle.ftn_tree.proofs.AssignmentLaws.{told_assignment}
use Rattle.expr_parse.specs.declared.fault.Misfit.{Misfit}
use Rattle.expr_parse.specs.declared.fault.Misfit.TheVariants as misfit
use Rattle.expr_parse.specs.steps.Input.{Input, input, Gives}
use Rattle.expr_parse.specs.Exact.{IsFitting}
use Rattle.spec_parse.specs.steps.Rows.{statement}
use Rattle.spec_parse.proofs.StatementLaws.{statement_sound, statement_reads}

-- what is read of tokens that are no assignment is the one that fits, and where nothing is read nothing fits
pub fitting : (at : ℕ) (tokens : List Token) (result : Result Form Misfit) (new : Input) → is_assignment tokens ≡ false → Gives (statement (input at tokens)) result new → IsFitting is_specification at tokens result
fitting at tokens (Ok form) new other e = (
  (λ assigns. true≢false (sym (told_assignment tokens assigns) ∙ other), statement_sound at tokens form new e),
  λ found says. (some_pair_parts found form (input (at + length tokens) []) new (sym (statement_reads found at tokens says.1) ∙ e)).0,
)
fitting at tokens (Err misfit.NoFit) new other e = λ form says. absurd (cc (sym (statement_reads form at tokens says.1) ∙ e))
fitting at tokens (Err misfit.NoMemory) new other e = tt
