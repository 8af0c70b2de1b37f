-- Answers about two memories that are related; what a relation between computations of two programs has to keep.
use Rattle.std.proofs.Common.{subst}
use Rattle.std.specs.Prelude.{◌≡◌, ℕ, List, Bool, Option, Result, Ok, Err}
use Rattle.ftn_tree.specs.declared.value.Value.{Value}
use Rattle.core_prog.specs.Ends.{End, outcome_of}
use Rattle.core_prog.specs.Memory.{Memory, Place}
use Rattle.core_prog.specs.Programs.{Program}
use Rattle.core_prog.specs.States.{M, Way, ◌>>=◌, ends, tick, told, asks, puts, remembers, emits, takes, by_input}
use Rattle.core_prog.specs.Statements.{looped}
use Rattle.core_sim.specs.Pairings.{Pairing}
use Rattle.core_sim.specs.Paired.{Near, HasTypes, PairedMemory}

abbrev pub Same : {A : Type 0} → A → A → Type 0
Same a b = a ≡ b

abbrev pub Any : {A B : Type 0} → A → B → Type 0
Any a b = Unit {0}

abbrev pub Answers : {A B : Type 0} → (A → B → Type 0) → Result A End → Result B End → Type 0
Answers R (Ok a) (Ok b) = R a b
Answers R (Err e) (Err e') = outcome_of e ≡ outcome_of e'
Answers R r r' = ⊥

-- answers of both
pub ok_same : {A : Type 0} (r r' : Result A End) (a b : A) → Answers {A = A} {B = A} Same r r' → r ≡ Ok a → r' ≡ Ok b → a ≡ b
ok_same {A} r r' a b h e f = subst (λ y. Answers {A = A} {B = A} Same (Ok a) y) f (subst (λ x. Answers {A = A} {B = A} Same x r') e h)

pub ok_err : {A : Type 0} (r r' : Result A End) (a : A) (e : End) → Answers {A = A} {B = A} Same r r' → r ≡ Ok a → r' ≡ Err e → ⊥
ok_err {A} r r' a e h p q = subst (λ y. Answers {A = A} {B = A} Same (Ok a) y) q (subst (λ x. Answers {A = A} {B = A} Same x r') p h)

pub err_ok : {A : Type 0} (r r' : Result A End) (b : A) (e : End) → Answers {A = A} {B = A} Same r r' → r ≡ Err e → r' ≡ Ok b → ⊥
err_ok {A} r r' b e h p q = subst (λ y. Answers {A = A} {B = A} Same (Err e) y) q (subst (λ x. Answers {A = A} {B = A} Same x r') p h)

pub err_same : {A : Type 0} (r r' : Result A End) (e e' : End) → Answers {A = A} {B = A} Same r r' → r ≡ Err e → r' ≡ Err e' → outcome_of e ≡ outcome_of e'
err_same {A} r r' e e' h p q = subst (λ y. Answers {A = A} {B = A} Same (Err e) y) q (subst (λ x. Answers {A = A} {B = A} Same x r') p h)

module _ (pairing : Pairing) (old new : Program) where
  -- the units of a variable, an element or a substring are one
  pub record PlaceSame (p p' : Place) : Type 0 where
    pub same : p' ≡ record p { first = p'.first }
    pub near : Near pairing old new p.units p.first p'.first

  -- X is what is known; the two numbers are those of the places that arguments were given, before and after
  pub record Closed (Rel : Type 0 → ℕ → ℕ → (A B : Type 0) → (A → B → Type 0) → M A → M B → Type 0) : Type 1 where
    pub knows : {X Y A B : Type 0} (h k : ℕ) (R : A → B → Type 0) (m : M A) (m' : M B) → (X → Y) → Rel Y h k A B R m m' → Rel X h k A B R m m'
    pub equals : {A C D : Type 0} (h k : ℕ) (X : A → Type 0) (S : C → D → Type 0) (f : A → M C) (g : A → M D) → ((a : A) → Rel (X a) h k C D S (f a) (g a)) → (a b : A) → Rel (X a × (a ≡ b)) h k C D S (f a) (g b)
    pub tells : {X A B : Type 0} (h : ℕ) (R : A → B → Type 0) (r : Result A End) (r' : Result B End) → (X → Answers R r r') → Rel X h h A B R (told r) (told r')
    pub stops : {X A B : Type 0} (h : ℕ) (R : A → B → Type 0) (e e' : End) → outcome_of e ≡ outcome_of e' → Rel X h h A B R (ends e) (ends e')
    pub binds : {X A C D : Type 0} (h k l : ℕ) (R : A → A → Type 0) (S : C → D → Type 0) (m m' : M A) (f : A → M C) (g : A → M D) →
        Rel X h k A A R m m' → ((a b : A) → Rel (X × R a b) k l C D S (f a) (g b)) → Rel X h l C D S (m >>= f) (m' >>= g)
    pub ticks : {X : Type 0} (h : ℕ) → Rel X h h (Unit {0}) (Unit {0}) Any tick tick
    pub asked : {X A B : Type 0} (h : ℕ) (R : A → B → Type 0) (q : Memory → Result A End) (q' : Memory → Result B End) →
        (X → (m m' : Memory) → PairedMemory pairing old new h m m' → HasTypes old m.active → Answers R (q m) (q' m')) → Rel X h h A B R (asks q) (asks q')
    pub remembered : {X : Type 0} (h k : ℕ) (m m' : Memory) → (X → PairedMemory pairing old new k m m' × HasTypes old m.active) → Rel X h k (Unit {0}) (Unit {0}) Any (remembers m) (remembers m')
    pub put : {X : Type 0} (h : ℕ) (p p' : Place) (v v' : Value) → (X → PlaceSame p p' × (v ≡ v')) → Rel X h h (Unit {0}) (Unit {0}) Any (puts p v) (puts p' v')
    pub emitted : {X : Type 0} (h : ℕ) (bytes bytes' : List ℕ) → (X → bytes ≡ bytes') → Rel X h h (Unit {0}) (Unit {0}) Any (emits bytes) (emits bytes')
    pub taken : {X : Type 0} (h : ℕ) → Rel X h h (Option ℕ) (Option ℕ) Same takes takes
    pub inputs : {X A B : Type 0} (h : ℕ) (R : A → B → Type 0) (f : ℕ → M A) (g : ℕ → M B) → ((n : ℕ) → Rel X h h A B R (f n) (g n)) → Rel X h h A B R (by_input f) (by_input g)
    pub loops : {X : Type 0} (h : ℕ) (test test' : M Bool) (turn turn' : M Way) → Rel X h h Bool Bool Same test test' → Rel X h h Way Way Same turn turn' → Rel X h h Way Way Same (looped test turn) (looped test' turn')
