-- What is answered of all tokens of a statement, from what fits them.
use Rattle.std.proofs.Common.{◌≡◌, refl, sym, ◌∙◌, ap, subst, ℕ, Bool, true, false, List, Ok, Err, if◌then◌else◌}
use Rattle.std.specs.Prelude.{IsTrue, ◌↔◌}
use Rattle.ftn_tree.specs.declared.token.Token.{Token}
use Rattle.ftn_tree.specs.Misfits.{IsDeep, is_outside}
use Rattle.ftn_tree.specs.Phrases.{Phrase}
use Rattle.expr_parse.specs.declared.fault.Misfit.TheVariants.{NoFit}
use Rattle.expr_parse.specs.declared.fault.StatementFault.{StatementFault}
use Rattle.expr_parse.specs.declared.fault.StatementFault.TheVariants.{NotAStatement, OutOfProfile, TooDeep}
use Rattle.expr_parse.specs.steps.Input.{Input, input}
use Rattle.expr_parse.specs.Exact.{FitsNone, IsExact, IsFitting, misfit}
use Rattle.expr_parse.proofs.Deep.{decided_deep, decided_shallow}

-- what is told of tokens that nothing fits
exact_misfit : {A : Type 0} (fits : A → Phrase) (at : ℕ) (tokens : List Token) → FitsNone fits at tokens → IsExact fits at tokens (Err (misfit tokens))
exact_misfit fits at tokens none = by (is_outside tokens) refl where
  by : (outside : Bool) → is_outside tokens ≡ outside → IsExact fits at tokens (Err (if outside then OutOfProfile else NotAStatement))
  by true outside = (none, outside)
  by false outside = (none, outside)

-- a call whose cursor is at these tokens, all of them, and which asks first whether they nest too deep
module _ {A : Type 0} (fits : A → Phrase) (at : ℕ) (tokens : List Token) (cursor : Input) (all : List Token) (deep : Bool)
    (begins_at : cursor ≡ input at tokens) (rest_is : all ≡ cursor.rest) (decided : IsTrue deep ↔ IsDeep all) where
  all_is : all ≡ tokens
  all_is = rest_is ∙ ap (λ (i : Input). i.rest) begins_at

  pub answer_deep : deep ≡ true → IsExact fits at tokens (Err TooDeep)
  answer_deep e = subst IsDeep all_is (decided_deep all deep decided e)

  shallow : deep ≡ false → IsDeep tokens → ⊥
  shallow e = subst (λ row. IsDeep row → ⊥) all_is (decided_shallow all deep decided e)

  pub answer_fit : (a : A) → deep ≡ false → IsFitting fits cursor.at cursor.rest (Ok a) → IsExact fits at tokens (Ok a)
  answer_fit a e is = let (says, only) = subst (λ (i : Input). IsFitting fits i.at i.rest (Ok a)) begins_at is in (shallow e, says, only)

  pub answer_misfit : (fault : StatementFault) → deep ≡ false → IsFitting fits cursor.at cursor.rest (Err NoFit) → fault ≡ misfit all → IsExact fits at tokens (Err fault)
  answer_misfit fault e none is =
      subst (λ fault. IsExact fits at tokens (Err fault)) (sym (is ∙ ap misfit all_is))
      (exact_misfit fits at tokens (shallow e, subst (λ (i : Input). (a : A) → fits a i.at i.rest → ⊥) begins_at none))

  -- where it is known that nothing fits these tokens
  pub answer_none : (fault : StatementFault) → deep ≡ false → ((a : A) → fits a at all → ⊥) → fault ≡ misfit all → IsExact fits at tokens (Err fault)
  answer_none fault e none is =
      subst (λ fault. IsExact fits at tokens (Err fault)) (sym (is ∙ ap misfit all_is))
      (exact_misfit fits at tokens (shallow e, subst (λ (row : List Token). (a : A) → fits a at row → ⊥) all_is none))
