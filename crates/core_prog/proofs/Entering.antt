-- What a procedure does between its entry and its exit is in a relation that holds of its body.
use Rattle.std.specs.Prelude.{ℕ, List, length, Option, Result, Ok, Err}
use Rattle.ftn_tree.specs.declared.value.Value.{Value}
use Rattle.core_prog.specs.declared.site.Site.{Site}
use Rattle.core_prog.specs.Ends.{End}
use Rattle.core_prog.specs.Programs.{Program, Procedure}
use Rattle.core_prog.specs.Holdings.{procedure}
use Rattle.core_prog.specs.Entries.{Argument, entered, result_at, left}
use Rattle.core_prog.specs.States.{M, Way, told}
use Rattle.core_prog.specs.Values.{entering, leaving}
use Rattle.core_prog.proofs.Closing.{Chained}

module _ (Rel : (A : Type 0) → M A → M A → Type 0) (chained : Chained Rel) where
  pub told_chained : {A : Type 0} (r : Result A End) → Rel A (told r) (told r)
  told_chained (Ok a) = chained.pures a
  told_chained (Err e) = chained.stops e

  leaving_chained : (program : Program) (at : Site) (proc : Procedure) (mark : ℕ) → Rel (Option Value) (leaving program at proc mark) (leaving program at proc mark)
  leaving_chained program at proc mark =
      chained.binds _ _ _ _ chained.ticks (λ _.
      chained.binds _ _ _ _ (chained.asked (result_at program at proc.result)) (λ result.
      chained.binds _ _ _ _ (chained.asked (λ memory. Ok (left mark memory))) (λ outside.
      chained.binds _ _ _ _ (chained.remembered outside) (λ _. chained.pures result))))

  pub entering_chained : (program : Program) (body other : ℕ → M Way) (at : Site) (number : ℕ) (args : List Argument) → Rel Way (body number) (other number) →
      Rel (Option Value) (entering program body at number args) (entering program other at number args)
  entering_chained program body other at number args h =
      chained.binds _ _ _ _ (told_chained (procedure program number)) (λ (proc : Procedure).
      chained.binds _ _ _ _ (chained.asked (λ memory. Ok (length memory.cells))) (λ mark.
      chained.binds _ _ _ _ (chained.asked (entered program at number proc.dummies args)) (λ inside.
      chained.binds _ _ _ _ (chained.remembered inside) (λ _.
      chained.binds _ _ _ _ h (λ _. leaving_chained program at proc mark)))))
