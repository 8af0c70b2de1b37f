-- What a relation between computations has to keep so that all of a language's computations are in it.
use Rattle.std.specs.Prelude.{ℕ, ◌<◌, List, Bool, Option, Result}
use Rattle.ftn_tree.specs.declared.value.Value.{Value}
use Rattle.core_prog.specs.declared.site.Site.{Site}
use Rattle.core_prog.specs.Ends.{End}
use Rattle.core_prog.specs.Memory.{Memory, Place}
use Rattle.core_prog.specs.Programs.{Program}
use Rattle.core_prog.specs.Entries.{Argument}
use Rattle.core_prog.specs.States.{M, Way, ◌>>=◌, pure, ends, tick, asks, puts, remembers, emits, takes, by_input}
use Rattle.core_prog.specs.Values.{called}
use Rattle.core_prog.specs.Statements.{looped}

-- Sure: what is known of bodies without a bound on steps
pub record Closed (Sure : M Way → Type 0) (Rel : ℕ → (A : Type 0) → M A → M A → Type 0) : Type 1 where
  pub pures : {A : Type 0} (b : ℕ) (a : A) → Rel b A (pure a) (pure a)
  pub stops : {A : Type 0} (b : ℕ) (e : End) → Rel b A (ends e) (ends e)
  pub binds : {A B : Type 0} (b : ℕ) (m n : M A) (f g : A → M B) → Rel b A m n → ((a : A) → Rel b B (f a) (g a)) → Rel b B (m >>= f) (n >>= g)
  pub ticks : (b : ℕ) → Rel b (Unit {0}) tick tick
  pub asked : {A : Type 0} (b : ℕ) (question : Memory → Result A End) → Rel b A (asks question) (asks question)
  pub put : (b : ℕ) (p : Place) (v : Value) → Rel b (Unit {0}) (puts p v) (puts p v)
  pub emitted : (b : ℕ) (bytes : List ℕ) → Rel b (Unit {0}) (emits bytes) (emits bytes)
  pub taken : (b : ℕ) → Rel b (Option ℕ) takes takes
  pub inputs : {A : Type 0} (b : ℕ) (f g : ℕ → M A) → ((n : ℕ) → Rel b A (f n) (g n)) → Rel b A (by_input f) (by_input g)
  pub loops : (b : ℕ) (test other : M Bool) (turn round : M Way) → Rel b Bool test other → Rel b Way turn round → Rel b Way (looped test turn) (looped other round)
  pub calls : (b : ℕ) (program : Program) (body other : ℕ → M Way) (at : Site) (number : ℕ) (args : List Argument) →
      Sure (body number) → Sure (other number) → ((c : ℕ) → c < b → Rel c Way (body number) (other number)) →
      Rel b (Option Value) (called program body at number args) (called program other at number args)

-- what a relation has to keep so that the way from a procedure's entry to its exit is in it
pub record Chained (Rel : (A : Type 0) → M A → M A → Type 0) : Type 1 where
  pub pures : {A : Type 0} (a : A) → Rel A (pure a) (pure a)
  pub stops : {A : Type 0} (e : End) → Rel A (ends e) (ends e)
  pub binds : {A B : Type 0} (m n : M A) (f g : A → M B) → Rel A m n → ((a : A) → Rel B (f a) (g a)) → Rel B (m >>= f) (n >>= g)
  pub ticks : Rel (Unit {0}) tick tick
  pub asked : {A : Type 0} (question : Memory → Result A End) → Rel A (asks question) (asks question)
  pub remembered : (memory : Memory) → Rel (Unit {0}) (remembers memory) (remembers memory)
