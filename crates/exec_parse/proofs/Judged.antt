-- What fits all tokens of a statement, from the laws of its reader.
use Rattle.std.proofs.Common.{◌≡◌, refl, sym, ◌∙◌, subst, ℕ, ◌+◌, Bool, List, [], length, Some, None, Ok, Err, if◌then◌else◌, Result}
use Rattle.std.proofs.lemmas.Option.{some_pair_parts}
use Rattle.ftn_tree.specs.declared.token.Token.{Token}
use Rattle.ftn_tree.specs.Phrases.{Phrase}
use Rattle.expr_parse.specs.declared.fault.Misfit.{Misfit}
use Rattle.expr_parse.specs.declared.fault.Misfit.TheVariants as misfit
use Rattle.expr_parse.specs.steps.Input.{Input, input, Reader, Outcome, Gives, ◌>>◌, pure, is_done, done_at, finish}
use Rattle.expr_parse.specs.steps.Combinators.{to_the_end}
use Rattle.expr_parse.specs.Exact.{IsFitting}
use Rattle.expr_parse.proofs.Pieces.{bind_some, bind_is}
use Rattle.expr_parse.proofs.Ends.{nothing_left, finished}
use Rattle.exec_parse.proofs.Wholes.{Sound, Complete}

abbrev end_if : Bool → Input → Outcome (Unit {0})
end_if a i = if a then Some (tt, i) else None

module _ {A : Type 0} (read : Reader A) (phrase : A → Phrase) (sound : Sound read phrase) (complete : Complete read phrase) (at : ℕ) (tokens : List Token) where
  whole_sound : (a : A) (j : Input) → to_the_end read (input at tokens) ≡ Some (a, j) → phrase a at tokens
  unfolding finish is_done
  whole_sound a j e =
      let (b, k, found, rest) = bind_some (read (input at tokens)) (λ a. finish >> pure a) a j e in
      let (u, l, done, gives) = bind_some (finish k) (λ u. pure b) a j rest in
      let end = finished (done_at k.rest) (done_at k.rest) k l u refl done in
      subst (λ a. phrase a at tokens) (some_pair_parts b a l j gives).0 (sound at tokens b k found (nothing_left k.rest end.0))

  whole_complete : (a : A) → phrase a at tokens → to_the_end read (input at tokens) ≡ Some (a, input (at + length tokens) [])
  unfolding finish is_done
  whole_complete a says =
      bind_is (read (input at tokens)) (λ a. finish >> pure a) a (input (at + length tokens) []) (Some (a, input (at + length tokens) [])) (complete a at tokens says) refl

  -- what is read of all tokens is the one that fits, and where nothing is read nothing fits
  pub fitting : (result : Result A Misfit) (new : Input) → Gives (to_the_end read (input at tokens)) result new → IsFitting phrase at tokens result
  fitting (Ok a) new e = (whole_sound a new e, λ b says. (some_pair_parts b a (input (at + length tokens) []) new (sym (whole_complete b says) ∙ e)).0)
  fitting (Err misfit.NoFit) new e = λ a says. absurd (cc (sym (whole_complete a says) ∙ e))
  fitting (Err misfit.NoMemory) new e = tt
