-- What is answered of whole rows of tokens, from the laws of their reader.
use Rattle.std.proofs.Common.{◌≡◌, refl, sym, ◌∙◌, ap, subst, ℕ, ◌+◌, Bool, true, false, List, [], length, Some, None, Ok, Err, if◌then◌else◌}
use Rattle.std.specs.Prelude.{IsTrue, ◌↔◌}
use Rattle.std.proofs.lemmas.Option.{some_pair_parts}
use Rattle.ftn_tree.specs.declared.token.Token.{Token}
use Rattle.ftn_tree.specs.Misfits.{IsDeep, is_outside}
use Rattle.expr_parse.specs.declared.fault.StatementFault.{StatementFault}
use Rattle.expr_parse.specs.declared.fault.StatementFault.TheVariants.{NotAStatement, OutOfProfile, TooDeep}
use Rattle.expr_parse.specs.steps.Input.{Input, input}
use Rattle.expr_parse.specs.steps.Combinators.{to_the_end}
use Rattle.expr_parse.specs.Exact.{FitsNone, IsExact, misfit}
use Rattle.expr_parse.proofs.Pieces.{Piece}
use Rattle.expr_parse.proofs.Ends.{whole_sound, whole_complete}
use Rattle.expr_parse.proofs.Deep.{decided_deep, decided_shallow}

module _ {A : Type 0} (piece : Piece A) (at : ℕ) (tokens : List Token) (shallow : IsDeep tokens → ⊥) where
  -- what is read is the one that fits
  exact_read : (a : A) (j : Input) → to_the_end piece.read (input at tokens) ≡ Some (a, j) → IsExact piece.phrase at tokens (Ok a)
  exact_read a j read = (
    shallow,
    whole_sound piece at tokens a j read,
    λ b says. (some_pair_parts b a (input (at + length tokens) []) j (sym (whole_complete piece at tokens b says) ∙ read)).0,
  )

  none_fits : to_the_end piece.read (input at tokens) ≡ None → FitsNone piece.phrase at tokens
  none_fits read = (shallow, λ a says. absurd (cc (sym (whole_complete piece at tokens a says) ∙ read)))

  -- where nothing is read nothing fits
  exact_misfit : to_the_end piece.read (input at tokens) ≡ None → IsExact piece.phrase at tokens (Err (misfit tokens))
  exact_misfit read = by (is_outside tokens) refl where
    by : (outside : Bool) → is_outside tokens ≡ outside → IsExact piece.phrase at tokens (Err (if outside then OutOfProfile else NotAStatement))
    by true outside = (none_fits read, outside)
    by false outside = (none_fits read, outside)

-- what a call answers, whose cursor is at these tokens, all of them, and which asks first whether they nest too deep
module _ {A : Type 0} (piece : Piece A) (at : ℕ) (tokens : List Token) (cursor : Input) (all : List Token) (deep : Bool)
    (begins_at : cursor ≡ input at tokens) (rest_is : all ≡ cursor.rest) (decided : IsTrue deep ↔ IsDeep all) where
  all_is : all ≡ tokens
  all_is = rest_is ∙ ap (λ (i : Input). i.rest) begins_at

  pub answer_deep : deep ≡ true → IsExact piece.phrase at tokens (Err TooDeep)
  answer_deep e = subst IsDeep all_is (decided_deep all deep decided e)

  shallow : deep ≡ false → IsDeep tokens → ⊥
  shallow e = subst (λ row. IsDeep row → ⊥) all_is (decided_shallow all deep decided e)

  pub answer_read : (a : A) (j : Input) → deep ≡ false → to_the_end piece.read cursor ≡ Some (a, j) → IsExact piece.phrase at tokens (Ok a)
  answer_read a j e read = exact_read piece at tokens (shallow e) a j (sym (ap (to_the_end piece.read) begins_at) ∙ read)

  pub answer_misfit : (fault : StatementFault) → deep ≡ false → to_the_end piece.read cursor ≡ None → fault ≡ misfit all → IsExact piece.phrase at tokens (Err fault)
  answer_misfit fault e read is =
      subst (λ fault. IsExact piece.phrase at tokens (Err fault)) (sym (is ∙ ap misfit all_is))
      (exact_misfit piece at tokens (shallow e) (sym (ap (to_the_end piece.read) begins_at) ∙ read))
