-- What is known of the value and of memory where a computation goes on.
use Rattle.std.proofs.Common.{◌≡◌, ℕ, zero, suc, refl, sym, subst}
use Rattle.std.specs.Prelude.{Result, Ok, Err}
use Rattle.core_prog.specs.Ends.{End}
use Rattle.core_prog.specs.Memory.{Memory}
use Rattle.core_prog.specs.Programs.{Program}
use Rattle.core_prog.specs.States.{State, Ran, Went, Ended, M, goes_on, ◌>>=◌, ◌>>◌, pure, ticked, tick, told, asks, remembers}
use Rattle.core_prog.specs.Lasting.{IsBack, Returns}
use Rattle.core_sim.specs.Paired.{HasTypes}

abbrev pub Given : {A : Type 0} → (A → Memory → Type 0) → Ran A → Type 0
Given post (Went a t) = post a t.memory
Given post (Ended e t) = Unit {0}

pub record Gives {A : Type 0} (pre : Memory → Type 0) (m : M A) (post : A → Memory → Type 0) : Type 0 where
  pub from : (s : State) → pre s.memory → Given post (m s)

pub gives_binds : {A B : Type 0} (pre : Memory → Type 0) (mid : A → Memory → Type 0) (post : B → Memory → Type 0) (m : M A) (f : A → M B) → Gives pre m mid → ((a : A) → Gives (mid a) (f a) post) → Gives pre (m >>= f) post
gives_binds {A} pre mid post m f h k = record { from = λ s p. on (m s) (h.from s p) }
  where
    on : (r : Ran A) → Given mid r → Given post (goes_on r f)
    on (Went a t) q = (k a).from t q
    on (Ended e t) q = tt

pub gives_told : {A : Type 0} (pre : Memory → Type 0) (post : A → Memory → Type 0) (r : Result A End) → ((a : A) → r ≡ Ok a → (n : Memory) → pre n → post a n) → Gives pre (told r) post
gives_told pre post (Ok a) h = record { from = λ s p. h a refl s.memory p }
gives_told pre post (Err e) h = record { from = λ s p. tt }

pub gives_asks : {A : Type 0} (pre : Memory → Type 0) (post : A → Memory → Type 0) (q : Memory → Result A End) → ((n : Memory) → pre n → (a : A) → q n ≡ Ok a → post a n) → Gives pre (asks q) post
gives_asks {A} pre post q h = record { from = λ s p. by_answer s (q s.memory) (h s.memory p) }
  where
    by_answer : (s : State) (r : Result A End) → ((a : A) → r ≡ Ok a → post a s.memory) → Given post (told r s)
    by_answer s (Ok a) k = k a refl
    by_answer s (Err e) k = tt

pub gives_pure : {A : Type 0} (pre : Memory → Type 0) (post : A → Memory → Type 0) (a : A) → ((n : Memory) → pre n → post a n) → Gives pre (pure a) post
gives_pure pre post a h = record { from = λ s p. h s.memory p }

pub gives_remembers : (pre : Memory → Type 0) (post : Unit {0} → Memory → Type 0) (inside : Memory) → ((n : Memory) → pre n → post tt inside) → Gives pre (remembers inside) post
gives_remembers pre post inside h = record { from = λ s p. h s.memory p }

pub gives_step : {A : Type 0} (pre : Memory → Type 0) (post : A → Memory → Type 0) (m : M A) → Gives pre m post → Gives pre (tick >> m) post
gives_step pre post m h = record { from = λ s p. by_left s p s.left }
  where
    by_left : (s : State) → pre s.memory → (n : ℕ) → Given post (goes_on (ticked n s) (λ _. m))
    by_left s p zero = tt
    by_left s p (suc n) = h.from (record s { left = n }) p

-- a fact that doesn't speak of memory stays
pub gives_known : {A : Type 0} (X : Type 0) (m : M A) → Gives (λ _. X) m (λ _ _. X)
gives_known {A} X m = record { from = λ s x. on (m s) x }
  where
    on : (r : Ran A) → X → Given (λ (_ : A) (_ : Memory). X) r
    on (Went a t) x = x
    on (Ended e t) x = tt

pub gives_with : {A : Type 0} (X : Type 0) (pre : Memory → Type 0) (post : A → Memory → Type 0) (m : M A) → (X → Gives pre m post) → Gives (λ n. X × pre n) m post
gives_with X pre post m h = record { from = λ s p. (h p.0).from s p.1 }

-- with its active procedures a computation has their types back
pub gives_types : {A : Type 0} (program : Program) (post : A → Memory → Type 0) (m : M A) → Gives (λ n. HasTypes program n.active) m post → Returns m → Gives (λ n. HasTypes program n.active) m (λ a n. post a n × HasTypes program n.active)
gives_types {A} program post m h back = record { from = λ s p. on s p (m s) (h.from s p) (back s) }
  where
    on : (s : State) → HasTypes program s.memory.active → (r : Ran A) → Given post r → IsBack s r → Given (λ (a : A) (n : Memory). post a n × HasTypes program n.active) r
    on s p (Went a t) q b = (q, subst (HasTypes program) (sym b.active) p)
    on s p (Ended e t) q b = tt

pub types_stay : {A : Type 0} (program : Program) (m : M A) → Returns m → Gives (λ n. HasTypes program n.active) m (λ _ n. HasTypes program n.active)
types_stay {A} program m back = record { from = λ s p. on s p (m s) (back s) }
  where
    on : (s : State) → HasTypes program s.memory.active → (r : Ran A) → IsBack s r → Given (λ (_ : A) (n : Memory). HasTypes program n.active) r
    on s p (Went a t) b = subst (HasTypes program) (sym b.active) p
    on s p (Ended e t) b = tt
