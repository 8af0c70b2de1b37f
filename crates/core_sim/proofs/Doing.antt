-- What a computation of one program does to memory, within so many steps, where it prints nothing and reads no input.
use Rattle.std.proofs.Common.{inl, inr, ◌≡◌, ◌<◌, ◌+◌, ℕ, zero, suc, refl, sym, ap, subst, ◌∙◌, arith}
use Rattle.std.specs.Prelude.{Result, Ok, Err}
use Rattle.ftn_tree.specs.declared.value.Value.{Value}
use Rattle.core_prog.specs.Ends.{End}
use Rattle.core_prog.specs.Memory.{Memory, Place, with_value}
use Rattle.core_sim.specs.Copying.{Quiet, Outcome, Does, Is}
use Rattle.core_prog.specs.States.{State, Ran, Went, Ended, M, goes_on, ◌>>=◌, ◌>>◌, pure, ticked, tick, told, asks, puts, remembers}

quiet_then : (s t u : State) → Quiet s t → Quiet t u → Quiet s u
quiet_then s t u h k = record { input = k.input ∙ h.input; output = k.output ∙ h.output }

quiet_same : (s : State) → Quiet s s
quiet_same s = record { input = refl; output = refl }

added : (a b c k l : ℕ) → c + l ≡ b → b + k ≡ a → c + (k + l) ≡ a
added a b c k l e f = omega arith

fewer : (a k l : ℕ) → a < k → a < k + l
fewer a k l h = omega arith

fewer_then : (a b k l : ℕ) → b + k ≡ a → b < l → a < k + l
fewer_then a b k l e h = omega arith

none_more : (a : ℕ) → a + 0 ≡ a
none_more a = omega arith

module _ (bad : End → Type 0) where
  -- what comes after a first part
  after : {B : Type 0} (k l : ℕ) (post : B → Memory → Type 0) (s t : State) (r : Ran B) → t.left + k ≡ s.left → Quiet s t → Outcome l post bad t r → Outcome (k + l) post bad s r
  after k l post s t (Went b u) e q o = (o.0, added s.left t.left u.left k l o.1 e, quiet_then s t u q o.2)
  after k l post s t (Ended x u) e q (inl c, p) = (inl (c.0, fewer_then s.left t.left k l e c.1), quiet_then s t u q p)
  after k l post s t (Ended x u) e q (inr c, p) = (inr c, quiet_then s t u q p)

  pub does_binds : {A B : Type 0} (k l : ℕ) (pre : Memory → Type 0) (mid : A → Memory → Type 0) (post : B → Memory → Type 0) (m : M A) (f : A → M B) → Does k pre m mid bad → ((a : A) → Does l (mid a) (f a) post bad) → Does (k + l) pre (m >>= f) post bad
  does_binds k l pre mid post m f h j s p = on s (m s) (h s p)
    where
      on : (s : State) (r : _) → Outcome k mid bad s r → Outcome (k + l) post bad s (goes_on r f)
      on s (Went a t) o = after k l post s t (f a t) o.1 o.2 (j a t o.0)
      on s (Ended e t) (inl c, q) = (inl (c.0, fewer s.left k l c.1), q)
      on s (Ended e t) (inr c, q) = (inr c, q)

  pub does_pure : {A : Type 0} (pre : Memory → Type 0) (post : A → Memory → Type 0) (a : A) → ((m : Memory) → pre m → post a m) → Does 0 pre (pure a) post bad
  does_pure pre post a f s p = (f s.memory p, none_more s.left, quiet_same s)

  pub told_then : {A B : Type 0} (k : ℕ) (pre : Memory → Type 0) (post : B → Memory → Type 0) (r : Result A End) (a : A) (f : A → M B) → r ≡ Ok a → Does k pre (f a) post bad → Does k pre (told r >>= f) post bad
  told_then k pre post r a f e d s p = subst (λ q. Outcome k post bad s (goes_on (told q s) f)) (sym e) (d s p)

  pub asks_then : {A B : Type 0} (k : ℕ) (m0 : Memory) (post : B → Memory → Type 0) (q : Memory → Result A End) (a : A) (f : A → M B) → q m0 ≡ Ok a → Does k (Is m0) (f a) post bad → Does k (Is m0) (asks q >>= f) post bad
  asks_then k m0 post q a f e d s p = subst (λ r. Outcome k post bad s (goes_on (told r s) f)) (sym (ap q p ∙ e)) (d s p)

  -- an answer that isn't known
  pub asked_then : {A B : Type 0} (k : ℕ) (m0 : Memory) (post : B → Memory → Type 0) (q : Memory → Result A End) (f : A → M B) → ((a : A) → q m0 ≡ Ok a → Does k (Is m0) (f a) post bad) → ((e : End) → q m0 ≡ Err e → bad e) → Does k (Is m0) (asks q >>= f) post bad
  asked_then k m0 post q f d b s p = by_answer (q s.memory) (ap q p)
    where
      by_answer : (r : _) → r ≡ q m0 → Outcome k post bad s (goes_on (told r s) f)
      by_answer (Ok a) e = d a (sym e) s p
      by_answer (Err x) e = (inr (b x (sym e)), quiet_same s)

  pub asked_last : {A : Type 0} (m0 : Memory) (q : Memory → Result A End) → ((e : End) → q m0 ≡ Err e → bad e) → Does 0 (Is m0) (asks q) (λ a m. (q m0 ≡ Ok a) × (m ≡ m0)) bad
  asked_last m0 q b s p = by_answer (q s.memory) (ap q p)
    where
      by_answer : (r : _) → r ≡ q m0 → Outcome 0 (λ a m. (q m0 ≡ Ok a) × (m ≡ m0)) bad s (told r s)
      by_answer (Ok a) e = ((sym e, p), none_more s.left, quiet_same s)
      by_answer (Err x) e = (inr (b x (sym e)), quiet_same s)

  pub does_from : {A : Type 0} (k : ℕ) (pre pre' : Memory → Type 0) (m : M A) (post : A → Memory → Type 0) → ((n : Memory) → pre' n → pre n) → Does k pre m post bad → Does k pre' m post bad
  does_from k pre pre' m post f d s p = d s (f s.memory p)

  pub tick_then : {B : Type 0} (k : ℕ) (m0 : Memory) (post : B → Memory → Type 0) (m : M B) → Does k (Is m0) m post bad → Does (suc k) (Is m0) (tick >> m) post bad
  tick_then k m0 post m d s p = by_left s.left refl
    where
      none_left : (n k : ℕ) → n ≡ 0 → n < suc k
      none_left n k e = omega arith

      one_less : (n total : ℕ) → total ≡ suc n → n + 1 ≡ total
      one_less n total e = omega arith

      by_left : (n : ℕ) → s.left ≡ n → Outcome (suc k) post bad s (goes_on (ticked n s) (λ _. m))
      by_left zero e = (inl (refl, none_left s.left k e), quiet_same s)
      by_left (suc n) e = subst (λ c. Outcome c post bad s (m (record s { left = n }))) (omega arith) (after 1 k post s (record s { left = n }) (m (record s { left = n })) (one_less n s.left e) (record { input = refl; output = refl }) (d (record s { left = n }) p))

  no_steps : {B : Type 0} (k : ℕ) (post : B → Memory → Type 0) (s t : State) (r : Ran B) → t.left ≡ s.left → Quiet s t → Outcome k post bad t r → Outcome k post bad s r
  no_steps k post s t r e q o = subst (λ c. Outcome c post bad s r) (omega arith) (after 0 k post s t r (none_more t.left ∙ e) q o)

  pub puts_then : {B : Type 0} (k : ℕ) (m0 : Memory) (post : B → Memory → Type 0) (place : Place) (v : Value) (m : M B) → Does k (Is (with_value place v m0)) m post bad → Does k (Is m0) (puts place v >> m) post bad
  puts_then k m0 post place v m d s p =
      no_steps k post s (record s { memory = with_value place v s.memory }) (m (record s { memory = with_value place v s.memory })) refl (record { input = refl; output = refl })
      (d (record s { memory = with_value place v s.memory }) (ap (with_value place v) p))

  pub remembers_then : {B : Type 0} (k : ℕ) (m0 m1 : Memory) (post : B → Memory → Type 0) (m : M B) → Does k (Is m1) m post bad → Does k (Is m0) (remembers m1 >> m) post bad
  remembers_then k m0 m1 post m d s p = no_steps k post s (record s { memory = m1 }) (m (record s { memory = m1 })) refl (record { input = refl; output = refl }) (d (record s { memory = m1 }) refl)
