-- Calls of a procedure and of its partner do the same where their bodies do.
use Rattle.std.proofs.Common.{◌≡◌, ◌+◌, ℕ, List, length, refl, sym, subst}
use Rattle.std.specs.Prelude.{slice_get, Option, Some, None, Result, Ok, Err}
use Rattle.ftn_tree.specs.declared.value.Value.{Value}
use Rattle.core_prog.specs.declared.site.Site.{Site}
use Rattle.core_prog.specs.Ends.{End, found}
use Rattle.core_prog.specs.Programs.{Program, Procedure}
use Rattle.core_prog.specs.Holdings.{procedure}
use Rattle.core_prog.specs.Lawful.{IsResult}
use Rattle.core_prog.specs.Entries.{Argument, own_contents, entered, left, not_active, result_at}
use Rattle.core_prog.specs.States.{M, Way}
use Rattle.core_prog.specs.Values.{called, entering, leaving}
use Rattle.core_sim.specs.Pairings.{Pairing, partner, IsPaired}
use Rattle.core_sim.specs.Units.{units_in}
use Rattle.core_sim.specs.Premises.{Premises, SameProcedure, Both}
use Rattle.core_prog.specs.Memory.{Memory}
use Rattle.core_sim.specs.Paired.{PairedMemory, HasTypes}
use Rattle.core_sim.proofs.Answering.{Same, Any, Answers, Closed}
use Rattle.core_sim.proofs.Lodging.{not_active_same}
use Rattle.core_sim.proofs.HeldTypes.{entered_types, types_left}
use Rattle.core_sim.proofs.Arrivals.{ArgumentsSame, entered_same, left_same, result_same}

module _ (pairing : Pairing) (old new : Program) (premises : Premises pairing old new) where
  abbrev pub ProcedureSame : ℕ → Procedure → Procedure → Type 0
  ProcedureSame number proc proc' = (slice_get old.procedures number ≡ Some proc) × SameProcedure pairing number proc proc'

  pub procedure_same : (number : ℕ) → IsPaired pairing.procedure number → Answers (ProcedureSame number) (procedure old number) (procedure new (partner pairing.procedure number))
  procedure_same number p = by_procedures (slice_get old.procedures number) (slice_get new.procedures (partner pairing.procedure number)) refl (premises.procedures number p)
    where
      by_procedures : (o o' : Option Procedure) → slice_get old.procedures number ≡ o → Both (SameProcedure pairing number) o o' → Answers (ProcedureSame number) (found o) (found o')
      by_procedures None None e b = absurd b
      by_procedures None (Some proc') e b = absurd b
      by_procedures (Some proc) None e b = absurd b
      by_procedures (Some proc) (Some proc') e b = (e, b)

module _ (pairing : Pairing) (old new : Program) (premises : Premises pairing old new)
    (Rel : Type 0 → ℕ → ℕ → (A B : Type 0) → (A → B → Type 0) → M A → M B → Type 0) (closed : Closed pairing old new Rel) where
  -- paired, and the units of dummy arguments are of their types
  abbrev Memories : ℕ → Memory → Memory → Type 0
  Memories h m m' = PairedMemory pairing old new h m m' × HasTypes old m.active

  answers_with : {A B : Type 0} (R : A → B → Type 0) (P : A → Type 0) (r : Result A End) (r' : Result B End) → Answers R r r' → ((a : A) → r ≡ Ok a → P a) → Answers (λ a b. R a b × P a) r r'
  answers_with R P (Ok a) (Ok b) h f = (h, f a refl)
  answers_with R P (Ok a) (Err e') h f = absurd h
  answers_with R P (Err e) (Ok b) h f = absurd h
  answers_with R P (Err e) (Err e') h f = h

  abbrev Marks : ℕ → ℕ → ℕ → Type 0
  Marks h mark mark' = (mark ≡ units_in old + h) × (mark' ≡ units_in new + h)

  leaving_same : {X : Type 0} (h more : ℕ) (at at' : Site) (number : ℕ) (proc proc' : Procedure) (mark mark' : ℕ) → (X → SameProcedure pairing number proc proc' × IsResult old proc.result × Marks h mark mark') →
      Rel X (h + more) h (Option Value) (Option Value) Same (leaving old at proc mark) (leaving new at' proc' mark')
  leaving_same h more at at' number proc proc' mark mark' f =
      closed.binds (h + more) (h + more) h _ _ _ _ _ _ (closed.ticks (h + more)) (λ _ _.
      closed.binds (h + more) (h + more) h Same _ _ _ _ _ (closed.asked (h + more) Same (result_at old at proc.result) (result_at new at' proc'.result) (λ x m m' p _.
      subst (λ o. Answers Same (result_at old at proc.result m) (result_at new at' o m')) (sym (f x.0).0.result) (result_same pairing old new premises at at' (h + more) m m' proc.result (f x.0).0.result_paired (f x.0).1 p))) (λ r r'.
      closed.binds (h + more) (h + more) h (Memories h) _ _ _ _ _ (closed.asked (h + more) (Memories h) (λ m. Ok (left mark m)) (λ m. Ok (left mark' m)) (λ x m m' p t.
      (left_same pairing old new premises h more mark mark' m m' (f x.0.0).2.0 (f x.0.0).2.1 p, types_left old m.active t))) (λ outside outside'.
      closed.binds (h + more) h h _ _ _ _ _ _ (closed.remembered (h + more) h outside outside' (λ x. x.1)) (λ _ _. closed.tells h Same (Ok r) (Ok r') (λ x. x.0.0.1)))))

  module _ (body body' : ℕ → M Way) (bodies : (h number : ℕ) → Rel (IsPaired pairing.procedure number) h h Way Way Same (body number) (body' (partner pairing.procedure number))) where
    entering_same : {X : Type 0} (h : ℕ) (at at' : Site) (number : ℕ) (args args' : List Argument) → (X → IsPaired pairing.procedure number × ArgumentsSame pairing old new premises args args') →
        Rel X h h (Option Value) (Option Value) Same (entering old body at number args) (entering new body' at' (partner pairing.procedure number) args')
    entering_same h at at' number args args' f =
        closed.binds h h h (ProcedureSame pairing old new premises number) _ _ _ _ _ (closed.tells h (ProcedureSame pairing old new premises number) _ _ (λ x. procedure_same pairing old new premises number (f x).0)) (λ (proc : Procedure) (proc' : Procedure).
        closed.binds h h h (Marks h) _ _ _ _ _ (closed.asked h (Marks h) (λ m. Ok (length m.cells)) (λ m. Ok (length m.cells)) (λ x m m' p _. (p.places, p.places_new))) (λ mark mark'.
        closed.binds h h h (Memories (h + length (own_contents args))) _ _ _ _ _
        (closed.asked h (Memories (h + length (own_contents args))) (entered old at number proc.dummies args) (entered new at' (partner pairing.procedure number) proc'.dummies args') (λ x m m' p t.
        answers_with (PairedMemory pairing old new (h + length (own_contents args))) (λ (n : Memory). HasTypes old n.active) (entered old at number proc.dummies args m) (entered new at' (partner pairing.procedure number) proc'.dummies args' m') (subst (λ ds. Answers (PairedMemory pairing old new (h + length (own_contents args))) (entered old at number proc.dummies args m) (entered new at' (partner pairing.procedure number) ds args' m')) (sym x.0.1.1.dummies)
        (entered_same pairing old new premises at at' number h proc m m' args args' x.0.1.0 (f x.0.0).0 x.0.1.1.dummies_paired (f x.0.0).1 p)) (λ n e. entered_types old at number proc args m n x.0.1.0 t e))) (λ inside inside'.
        closed.binds h (h + length (own_contents args)) h _ _ _ _ _ _ (closed.remembered h (h + length (own_contents args)) inside inside' (λ x. x.1)) (λ _ _.
        closed.binds (h + length (own_contents args)) (h + length (own_contents args)) h _ _ _ _ _ _
        (closed.knows (h + length (own_contents args)) (h + length (own_contents args)) Same _ _ (λ x. (f x.0.0.0.0).0) (bodies (h + length (own_contents args)) number)) (λ _ _.
        leaving_same h (length (own_contents args)) at at' number proc proc' mark mark' (λ x. (x.0.0.0.0.1.1, (premises.lawful.procedures number proc x.0.0.0.0.1.0).result, x.0.0.0.1)))))))

    pub called_same : {X : Type 0} (h : ℕ) (at at' : Site) (number : ℕ) (args args' : List Argument) → (X → IsPaired pairing.procedure number × ArgumentsSame pairing old new premises args args') →
        Rel X h h (Option Value) (Option Value) Same (called old body at number args) (called new body' at' (partner pairing.procedure number) args')
    called_same h at at' number args args' f =
        closed.binds h h h Any _ _ _ _ _ (closed.asked h Any (not_active at number) (not_active at' (partner pairing.procedure number)) (λ x m m' p _. not_active_same pairing old new premises at at' number (f x).0 h m m' p)) (λ _ _.
        closed.binds h h h Any _ _ _ _ _ (closed.ticks h) (λ _ _. entering_same h at at' number args args' (λ x. f x.0.0)))
