-- The one reader that is asked reads all statements of its tokens, and what is told of the others.
use Rattle.std.proofs.Common.{◌≡◌, sym, ◌∙◌, ℕ, true, false, List, Result, Ok, Err, inl, inr, true≢false}
use Rattle.ftn_base.specs.declared.place.Range.{Range}
use Rattle.ftn_tree.specs.declared.form.Form.{Form, out-Form}
use Rattle.ftn_tree.specs.declared.form.Form.TheOpen.{Form-F}
use Rattle.ftn_tree.specs.declared.token.Token.{Token}
use Rattle.ftn_tree.specs.declared.token.Tokens.{Tokens}
use Rattle.ftn_tree.specs.Layers.{FormLayer}
use Rattle.ftn_tree.specs.Assignments.{is_assignment}
use Rattle.ftn_tree.specs.Specifications.{is_specification}
use Rattle.ftn_tree.specs.ExecutableForms.{is_executable, executable_at}
use Rattle.ftn_tree.specs.FileFaults.{row_in, is_statement}
use Rattle.ftn_tree.proofs.AssignmentLaws.{assignment_told, told_assignment}
use Rattle.expr_parse.specs.Exact.{IsExact, IsFitting}
use Rattle.expr_parse.specs.declared.fault.Misfit.{Misfit}
use Rattle.expr_parse.specs.declared.fault.Misfit.TheVariants as misfit
use Rattle.expr_parse.specs.declared.fault.StatementFault.{StatementFault}
use Rattle.expr_parse.specs.declared.fault.StatementFault.TheVariants.{NotAStatement, OutOfProfile, TooDeep, NoMemory}
use Rattle.unit_parse.specs.steps.Openings.{starts}
use Rattle.unit_parse.specs.steps.Progress.{IsForm}
use Rattle.unit_parse.proofs.Apart.{statement_row, specification_row}

module _ (at : ℕ) (row : List Token) where
  abbrev NoneOf : (Form → ℕ → List Token → Type 0) → Type 0
  NoneOf fits = (form : Form) → fits form at row → ⊥

  abbrev OnlyOf : (Form → ℕ → List Token → Type 0) → Form → Type 0
  OnlyOf fits form = (other : Form) → fits other at row → other ≡ form

  either_none : NoneOf is_specification → NoneOf is_executable → NoneOf is_statement
  either_none one other form (inl says) = one form says
  either_none one other form (inr says) = other form says

  only_executable : (form : Form) → NoneOf is_specification → OnlyOf is_executable form → OnlyOf is_statement form
  only_executable form none only other (inl says) = absurd (none other says)
  only_executable form none only other (inr says) = only other says

  only_specification : (form : Form) → NoneOf is_executable → OnlyOf is_specification form → OnlyOf is_statement form
  only_specification form none only other (inl says) = only other says
  only_specification form none only other (inr says) = absurd (none other says)

  executable_fits : (result : Result Form Misfit) → NoneOf is_specification → IsFitting is_executable at row result → IsFitting is_statement at row result
  executable_fits (Ok form) none (says, only) = (inr says, only_executable form none only)
  executable_fits (Err misfit.NoFit) none other = either_none none other
  executable_fits (Err misfit.NoMemory) none other = tt

  specification_fits : (result : Result Form Misfit) → NoneOf is_executable → IsFitting is_specification at row result → IsFitting is_statement at row result
  specification_fits (Ok form) none (says, only) = (inl says, only_specification form none only)
  specification_fits (Err misfit.NoFit) none other = either_none other none
  specification_fits (Err misfit.NoMemory) none other = tt

  no_executable : (layer : FormLayer) → is_assignment row ≡ false → starts row ≡ false → executable_at layer at row → ⊥
  no_executable (Form-F.Assign target value) none other says = true≢false (sym (told_assignment row says.0) ∙ none)
  no_executable layer none other says = true≢false (sym (statement_row layer at row says.1) ∙ other)

  -- an assignment by its shape
  pub assigned_fits : (result : Result Form Misfit) → is_assignment row ≡ true → IsFitting is_executable at row result → IsFitting is_statement at row result
  assigned_fits result is fits = executable_fits result (λ form says. says.0 (assignment_told row is)) fits

  -- tokens that begin as an executable statement does
  pub started_fits : (result : Result Form Misfit) → starts row ≡ true → IsFitting is_executable at row result → IsFitting is_statement at row result
  started_fits result is fits = executable_fits result (λ form says. true≢false (sym is ∙ specification_row (out-Form form) at row says.1)) fits

  -- and all others
  pub other_fits : (result : Result Form Misfit) → is_assignment row ≡ false → starts row ≡ false → IsFitting is_specification at row result → IsFitting is_statement at row result
  other_fits result none other fits = specification_fits result (λ form says. no_executable (out-Form form) none other says) fits

-- what is told of a statement's tokens
pub exact_form : (tokens : Tokens) (range : Range) (result : Result Form StatementFault) → IsExact is_statement range.start (row_in tokens range) result → IsForm tokens range result
exact_form tokens range (Ok form) is = is
exact_form tokens range (Err NotAStatement) is = (is.0.0, is.0.1, is.1)
exact_form tokens range (Err OutOfProfile) is = (is.0.0, is.0.1, is.1)
exact_form tokens range (Err TooDeep) is = is
exact_form tokens range (Err NoMemory) is = tt
