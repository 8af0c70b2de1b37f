-- What two computations keep under a budget of steps is a closed relation.
use Rattle.std.proofs.Common.{inl, inr, ◌≡◌, ◌≤◌, ◌+◌, ◌*◌, ℕ, zero, suc, List, [], ◌∷◌, ◌++◌, length, refl, sym, ap, subst, ◌∙◌, arith}
use Rattle.std.specs.Prelude.{Bool, true, false, if◌then◌else◌, Option, Some, Result, Ok, Err}
use Rattle.std.proofs.lemmas.List.{append_assoc, append-nil}
use Rattle.ftn_tree.specs.declared.value.Value.{Value}
use Rattle.core_prog.specs.Ends.{End, Cut, outcome_of}
use Rattle.core_prog.specs.Memory.{Memory, Place}
use Rattle.core_prog.specs.Programs.{Program}
use Rattle.core_prog.specs.States.{State, Ran, Went, Ended, M, goes_on, ◌>>=◌, ◌>>◌, pure, ends, ticked, tick, told, asks, puts, remembers, emits, took, takes, by_input, Way, GoOn, Exit, Cycle, Return, around}
use Rattle.core_prog.specs.Statements.{turns, looped}
use Rattle.core_prog.specs.Lasting.{Passes, state_of}
use Rattle.core_prog.proofs.Passing.{later_same, passes_binds, passes_tick, passes_told, passes_asks, passes_remembers, passes_turns, passing}
use Rattle.core_sim.specs.Pairings.{Pairing}
use Rattle.core_sim.specs.Premises.{Premises}
use Rattle.core_sim.specs.Paired.{HasTypes, Paired, PairedMemory}
use Rattle.core_sim.specs.Keeping.{Budget, equal_steps, so_many, no_more, IsFront, Alike}
use Rattle.core_sim.proofs.Answering.{Same, Any, Answers, PlaceSame, Closed}
use Rattle.core_sim.proofs.Places.{put_memory}

-- what is asked of a budget: of a step, and of the numbers by which loops and bodies are defined
pub record Counts (budget : Budget) : Type 1 where
  pub Room : ℕ → ℕ → Type 0
  pub step : (n n' : ℕ) → budget.Left (suc n) (suc n') → budget.Left n n'
  pub none_old : (n : ℕ) → budget.Left zero (suc n) → budget.MayCutOld
  pub none_new : (n : ℕ) → budget.Left (suc n) zero → budget.MayCutNew
  pub room : (n n' : ℕ) → budget.Left n n' → Room (suc n) (suc n')
  pub less : (n n' : ℕ) → Room (suc n) (suc n') → Room n n'
  pub room_old : (n : ℕ) → Room zero (suc n) → budget.MayCutOld
  pub room_new : (n : ℕ) → Room (suc n) zero → budget.MayCutNew

pub one_less : (n n' : ℕ) → suc n ≡ suc n' → n ≡ n'
one_less n n' e = omega arith

pub none_some : (n : ℕ) → zero ≡ suc n → ⊥
none_some n e = omega arith

pub some_none : (n : ℕ) → suc n ≡ zero → ⊥
some_none n e = omega arith

abbrev pub equal_counts : Counts equal_steps
equal_counts = record {
  Room = λ n n'. n ≡ n';
  step = one_less;
  none_old = none_some;
  none_new = some_none;
  room = λ n n' e. ap suc e;
  less = one_less;
  room_old = none_some;
  room_new = some_none;
}

pub fewer : (n n' : ℕ) → suc n ≤ suc n' → n ≤ n'
fewer n n' h = omega arith

pub more : (n n' : ℕ) → n ≤ n' → suc n ≤ suc n'
more n n' h = omega arith

pub too_many : (n : ℕ) → suc n ≤ zero → ⊥
too_many n h = omega arith

abbrev pub no_more_counts : (lose : Type 0) → Counts (no_more lose)
no_more_counts lose = record {
  Room = λ n n'. n' ≤ n;
  step = λ n n' h. fewer n' n h;
  none_old = λ n h. too_many n h;
  none_new = λ n h. tt;
  room = λ n n' h. more n' n h;
  less = λ n n' h. fewer n' n h;
  room_old = λ n h. too_many n h;
  room_new = λ n h. tt;
}

pub grows : (factor n m : ℕ) → 1 ≤ factor → m ≡ factor * n → n ≤ m
grows zero n m h e = absurd (omega arith)
grows (suc factor) n m h e = let f : m ≡ factor * n + n = e ∙ omega arith in omega arith

pub spent_one : (factor spare n n' : ℕ) → 1 ≤ factor → factor * suc n + spare ≤ suc n' → factor * n + spare ≤ n'
spent_one factor spare n n' h k = let e : factor * suc n ≡ factor * n + factor = omega arith in omega arith

pub not_without : (factor spare n : ℕ) → 1 ≤ factor → factor * suc n + spare ≤ zero → ⊥
not_without factor spare n h k = let e : factor * suc n ≡ factor * n + factor = omega arith in omega arith

pub has_room : (factor spare n n' : ℕ) → 1 ≤ factor → factor * n + spare ≤ n' → suc n ≤ suc n'
has_room factor spare n n' h k = let g : n ≤ factor * n = grows factor n (factor * n) h refl in omega arith

abbrev pub so_many_counts : (lose : Type 0) (factor spare : ℕ) → 1 ≤ factor → Counts (so_many lose factor spare)
so_many_counts lose factor spare h = record {
  Room = λ n n'. n ≤ n';
  step = λ n n' k. spent_one factor spare n n' h k;
  none_old = λ n k. tt;
  none_new = λ n k. not_without factor spare n h k;
  room = λ n n' k. has_room factor spare n n' h k;
  less = λ n n' k. fewer n n' k;
  room_old = λ n k. tt;
  room_new = λ n k. too_many n k;
}

pub front_same : (s : State) → IsFront s.output s.output
front_same s = ([], sym (append-nil s.output))

pub front_then : (a b c : List ℕ) → IsFront a b → IsFront b c → IsFront a c
front_then a b c h k = (h.0 ++ k.0, k.1 ∙ ap (λ x. x ++ k.0) h.1 ∙ append_assoc a h.0 k.0)

pub later_front : {A : Type 0} (m : M A) → Passes m → (s : State) → IsFront s.output (state_of (m s)).output
later_front m p s = ((p s).added, (p s).output)

module _ (pairing : Pairing) (old new : Program) (premises : Premises pairing old new) (budget : Budget) (counts : Counts budget) where
  abbrev Sim : Type 0 → ℕ → ℕ → (A B : Type 0) → (A → B → Type 0) → M A → M B → Type 0
  Sim X h k A B R m m' = X → (s s' : State) → Paired pairing old new h s s' → budget.Left s.left s'.left → Alike pairing old new budget k R (m s) (m' s')

  abbrev pub Rel : Type 0 → ℕ → ℕ → (A B : Type 0) → (A → B → Type 0) → M A → M B → Type 0
  Rel X h k A B R m m' = Passes m × Passes m' × Sim X h k A B R m m'

  pub lags_old : {A B : Type 0} (k : ℕ) (R : A → B → Type 0) (e : End) (s : State) (r : Ran B) → budget.MayCutOld → e ≡ Cut → IsFront s.output (state_of r).output → Alike pairing old new budget k R (Ended e s) r
  lags_old k R e s (Went b u) may c f = record { may_be = may; cut = c; front = f }
  lags_old k R e s (Ended e' u) may c f = inr (inl (record { may_be = may; cut = c; front = f }))

  pub lags_new : {A B : Type 0} (k : ℕ) (R : A → B → Type 0) (e : End) (s : State) (r : Ran A) → budget.MayCutNew → e ≡ Cut → IsFront s.output (state_of r).output → Alike pairing old new budget k R r (Ended e s)
  lags_new k R e s (Went b u) may c f = record { may_be = may; cut = c; front = f }
  lags_new k R e s (Ended e' u) may c f = inr (inr (record { may_be = may; cut = c; front = f }))

  on : {A B C D : Type 0} (k l : ℕ) (R : A → B → Type 0) (S : C → D → Type 0) (r : Ran A) (r' : Ran B) (f : A → M C) (g : B → M D) → ((a : A) → Passes (f a)) → ((b : B) → Passes (g b)) →
      ((a : A) (b : B) → R a b → (t u : State) → Paired pairing old new k t u → budget.Left t.left u.left → Alike pairing old new budget l S (f a t) (g b u)) →
      Alike pairing old new budget k R r r' → Alike pairing old new budget l S (goes_on r f) (goes_on r' g)
  on k l R S (Went a t) (Went b u) f g p q j h = j a b h.0 t u h.1.paired h.1.left
  on k l R S (Went a t) (Ended e u) f g p q j h =
      lags_new l S e u (f a t) h.may_be h.cut (front_then u.output t.output (state_of (f a t)).output h.front (later_front (f a) (p a) t))
  on k l R S (Ended e t) (Went b u) f g p q j h =
      lags_old l S e t (g b u) h.may_be h.cut (front_then t.output u.output (state_of (g b u)).output h.front (later_front (g b) (q b) u))
  on k l R S (Ended e t) (Ended e' u) f g p q j h = h

  binds_rel : {X A C D : Type 0} (h k l : ℕ) (R : A → A → Type 0) (S : C → D → Type 0) (m m' : M A) (f : A → M C) (g : A → M D) →
      Rel X h k A A R m m' → ((a b : A) → Rel (X × R a b) k l C D S (f a) (g b)) → Rel X h l C D S (m >>= f) (m' >>= g)
  binds_rel h k l R S m m' f g r j = (
    passes_binds m f r.0 (λ a. (j a a).0),
    passes_binds m' g r.1 (λ b. (j b b).1),
    λ x s s' p q. on k l R S (m s) (m' s') f g (λ a. (j a a).0) (λ b. (j b b).1) (λ a b y t u. (j a b).2 (x, y) t u) (r.2 x s s' p q),
  )

  told_alike : {A B : Type 0} (h : ℕ) (R : A → B → Type 0) (r : Result A End) (r' : Result B End) → Answers R r r' → (s s' : State) → Paired pairing old new h s s' → budget.Left s.left s'.left → Alike pairing old new budget h R (told r s) (told r' s')
  told_alike h R (Ok a) (Ok b) e s s' p q = (e, record { paired = p; left = q })
  told_alike h R (Ok a) (Err e') e s s' p q = absurd e
  told_alike h R (Err e') (Ok b) e s s' p q = absurd e
  told_alike h R (Err e') (Err e'') e s s' p q = inl (record { outcome = e; output = p.output; input = p.input; paired = inr (h, record { paired = p; left = q }) })

  tells_rel : {X A B : Type 0} (h : ℕ) (R : A → B → Type 0) (r : Result A End) (r' : Result B End) → (X → Answers R r r') → Rel X h h A B R (told r) (told r')
  tells_rel h R r r' f = (passes_told r, passes_told r', λ x s s' p q. told_alike h R r r' (f x) s s' p q)

  stops_rel : {X A B : Type 0} (h : ℕ) (R : A → B → Type 0) (e e' : End) → outcome_of e ≡ outcome_of e' → Rel X h h A B R (ends e) (ends e')
  stops_rel {X} {A} {B} h R e e' f = tells_rel {X = X} {A = A} {B = B} h R (Err e) (Err e') (λ _. f)

  left_at : (a b c d : ℕ) → a ≡ c → b ≡ d → budget.Left a b → budget.Left c d
  left_at a b c d e f l = subst (λ y. budget.Left c y) f (subst (λ x. budget.Left x b) e l)

  ticked_alike : (h n n' : ℕ) (s s' : State) → s.left ≡ n → s'.left ≡ n' → Paired pairing old new h s s' → budget.Left s.left s'.left → Alike pairing old new budget h (Any {A = Unit {0}} {B = Unit {0}}) (ticked n s) (ticked n' s')
  ticked_alike h zero zero s s' e e' p q = inl (record { outcome = refl; output = p.output; input = p.input; paired = inr (h, record { paired = p; left = q }) })
  ticked_alike h zero (suc n') s s' e e' p q =
      record { may_be = counts.none_old n' (left_at s.left s'.left zero (suc n') e e' q); cut = refl; front = subst (λ o. IsFront s.output o) p.output (front_same s) }
  ticked_alike h (suc n) zero s s' e e' p q =
      record { may_be = counts.none_new n (left_at s.left s'.left (suc n) zero e e' q); cut = refl; front = subst (λ o. IsFront s'.output o) (sym p.output) (front_same s') }
  ticked_alike h (suc n) (suc n') s s' e e' p q =
      (tt, record { paired = record { memory = p.memory; typed = p.typed; input = p.input; output = p.output }; left = counts.step n n' (left_at s.left s'.left (suc n) (suc n') e e' q) })

  ticks_rel : {X : Type 0} (h : ℕ) → Rel X h h (Unit {0}) (Unit {0}) Any tick tick
  ticks_rel h = (passes_tick, passes_tick, λ x s s' p q. ticked_alike h s.left s'.left s s' refl refl p q)

  asked_rel : {X A B : Type 0} (h : ℕ) (R : A → B → Type 0) (q : Memory → Result A End) (q' : Memory → Result B End) →
      (X → (m m' : Memory) → PairedMemory pairing old new h m m' → HasTypes old m.active → Answers R (q m) (q' m')) → Rel X h h A B R (asks q) (asks q')
  asked_rel h R q q' f = (passes_asks q, passes_asks q', λ x s s' p l. told_alike h R (q s.memory) (q' s'.memory) (f x s.memory s'.memory p.memory p.typed) s s' p l)

  remembered_rel : {X : Type 0} (h k : ℕ) (m m' : Memory) → (X → PairedMemory pairing old new k m m' × HasTypes old m.active) → Rel X h k (Unit {0}) (Unit {0}) Any (remembers m) (remembers m')
  remembered_rel h k m m' f = (passes_remembers m, passes_remembers m', λ x s s' p l. (tt, record { paired = record { memory = (f x).0; typed = (f x).1; input = p.input; output = p.output }; left = l }))

  put_rel : {X : Type 0} (h : ℕ) (p p' : Place) (v v' : Value) → (X → PlaceSame pairing old new p p' × (v ≡ v')) → Rel X h h (Unit {0}) (Unit {0}) Any (puts p v) (puts p' v')
  put_rel {X} h p p' v v' f = (passing.put 0 p v, passing.put 0 p' v', λ x s s' q l. (tt, record { paired = stored x s s' q; left = l }))
    where
      stored : (x : X) (s s' : State) → Paired pairing old new h s s' → Paired pairing old new h (state_of (puts p v s)) (state_of (puts p' v' s'))
      stored x s s' q =
          subst (λ w. Paired pairing old new h (state_of (puts p v s)) (state_of (puts p' w s'))) (f x).1
          (record { memory = put_memory pairing old new premises h s.memory s'.memory p p' v q.memory (f x).0; typed = q.typed; input = q.input; output = q.output })

  emitted_rel : {X : Type 0} (h : ℕ) (bytes bytes' : List ℕ) → (X → bytes ≡ bytes') → Rel X h h (Unit {0}) (Unit {0}) Any (emits bytes) (emits bytes')
  emitted_rel h bytes bytes' f = (
    passing.emitted 0 bytes,
    passing.emitted 0 bytes',
    λ x s s' p l.
        (tt, record { paired = record { memory = p.memory; typed = p.typed; input = p.input; output = ap (λ o. o ++ bytes) p.output ∙ ap (λ b. s'.output ++ b) (f x) }; left = l }),
  )

  equals_rel : {A C D : Type 0} (h k : ℕ) (X : A → Type 0) (S : C → D → Type 0) (f : A → M C) (g : A → M D) → ((a : A) → Rel (X a) h k C D S (f a) (g a)) → (a b : A) → Rel (X a × (a ≡ b)) h k C D S (f a) (g b)
  equals_rel h k X S f g r a b = ((r a).0, (r b).1, λ x s s' p l. subst (λ c. Alike pairing old new budget k S (f a s) (g c s')) x.1 ((r a).2 x.0 s s' p l))

  knows_rel : {X Y A B : Type 0} (h k : ℕ) (R : A → B → Type 0) (m : M A) (m' : M B) → (X → Y) → Rel Y h k A B R m m' → Rel X h k A B R m m'
  knows_rel h k R m m' f r = (r.0, r.1, λ x. r.2 (f x))

  -- ---- input

  byte_alike : (h : ℕ) (byte : ℕ) (bytes : List ℕ) (s s' : State) → Paired pairing old new h s s' → (r r' : Ran (Unit {0})) → Alike pairing old new budget h Any r r' →
      Alike pairing old new budget h Same (goes_on r (λ _ t. Went (Some byte) (record t { input = bytes }))) (goes_on r' (λ _ t. Went (Some byte) (record t { input = bytes })))
  byte_alike h byte bytes s s' p (Went a t) (Went b u) e = (refl, record { paired = record { memory = e.1.paired.memory; typed = e.1.paired.typed; input = refl; output = e.1.paired.output }; left = e.1.left })
  byte_alike h byte bytes s s' p (Went a t) (Ended x u) e = record { may_be = e.may_be; cut = e.cut; front = e.front }
  byte_alike h byte bytes s s' p (Ended x t) (Went b u) e = record { may_be = e.may_be; cut = e.cut; front = e.front }
  byte_alike h byte bytes s s' p (Ended x t) (Ended y u) e = e

  took_alike : (h : ℕ) (bytes : List ℕ) (s s' : State) → Paired pairing old new h s s' → budget.Left s.left s'.left → Alike pairing old new budget h Same (took bytes s) (took bytes s')
  took_alike h [] s s' p l = (refl, record { paired = p; left = l })
  took_alike h (byte ∷ bytes) s s' p l = byte_alike h byte bytes s s' p (tick s) (tick s') (ticked_alike h s.left s'.left s s' refl refl p l)

  taken_rel : {X : Type 0} (h : ℕ) → Rel X h h (Option ℕ) (Option ℕ) Same takes takes
  taken_rel h = (passing.taken 0, passing.taken 0, λ x s s' p l. subst (λ i. Alike pairing old new budget h Same (took s.input s) (took i s')) p.input (took_alike h s.input s s' p l))

  inputs_rel : {X A B : Type 0} (h : ℕ) (R : A → B → Type 0) (f : ℕ → M A) (g : ℕ → M B) → ((n : ℕ) → Rel X h h A B R (f n) (g n)) → Rel X h h A B R (by_input f) (by_input g)
  inputs_rel h R f g r = (
    λ s. (r (suc (length s.input))).0 s,
    λ s. (r (suc (length s.input))).1 s,
    λ x s s' p l.
        subst (λ i. Alike pairing old new budget h R (f (suc (length s.input)) s) (g (suc (length i)) s')) p.input ((r (suc (length s.input))).2 x s s' p l),
  )

  -- ---- loops

  abbrev turned : M Way → M Way → Bool → M Way
  turned turn next again = if again then tick >> (turn >>= (λ way. around next way)) else pure GoOn

  gives_rel : {X A : Type 0} (h : ℕ) (a : A) → Rel X h h A A Same (pure a) (pure a)
  gives_rel h a = tells_rel h Same (Ok a) (Ok a) (λ _. refl)

  around_rel : {X : Type 0} (h : ℕ) (m m' : M Way) → Rel X h h Way Way Same m m' → (way : Way) → Rel X h h Way Way Same (around m way) (around m' way)
  around_rel h m m' r GoOn = r
  around_rel h m m' r (Exit zero) = gives_rel h GoOn
  around_rel h m m' r (Exit (suc depth)) = gives_rel h (Exit depth)
  around_rel h m m' r (Cycle zero) = r
  around_rel h m m' r (Cycle (suc depth)) = gives_rel h (Cycle depth)
  around_rel h m m' r Return = gives_rel h Return

  turned_rel : {X : Type 0} (h : ℕ) (turn turn' next next' : M Way) → Rel X h h Way Way Same turn turn' → Rel X h h Way Way Same next next' → (again : Bool) → Rel X h h Way Way Same (turned turn next again) (turned turn' next' again)
  turned_rel {X} h turn turn' next next' r q true =
      binds_rel h h h Any Same tick tick (λ _. turn >>= (λ way. around next way)) (λ _. turn' >>= (λ way. around next' way)) (ticks_rel h) (λ _ _.
      binds_rel h h h Same Same turn turn' (λ way. around next way) (λ way. around next' way) (knows_rel h h Same turn turn' (λ x. x.0) r) (λ way way'.
      knows_rel h h Same (around next way) (around next' way') (λ x. (x.0.0, x.1)) (equals_rel h h (λ _. X) Same (around next) (around next') (around_rel h next next' q) way way')))
  turned_rel h turn turn' next next' r q false = gives_rel h GoOn

  turns_rel : {X : Type 0} (h : ℕ) (test test' : M Bool) (turn turn' : M Way) → Rel X h h Bool Bool Same test test' → Rel X h h Way Way Same turn turn' → (n n' : ℕ) → counts.Room n n' → Rel X h h Way Way Same (turns n test turn) (turns n' test' turn')
  turns_rel h test test' turn turn' t r zero zero room = stops_rel {A = Way} {B = Way} h Same Cut Cut refl
  turns_rel h test test' turn turn' t r zero (suc n') room = (
    later_same,
    passes_turns (suc n') test' turn' t.1 r.1,
    λ x s s' p l. lags_old h Same Cut s (turns (suc n') test' turn' s') (counts.room_old n' room) refl (subst (λ o. IsFront o (state_of (turns (suc n') test' turn' s')).output) (sym p.output) (later_front (turns (suc n') test' turn') (passes_turns (suc n') test' turn' t.1 r.1) s')),
  )
  turns_rel h test test' turn turn' t r (suc n) zero room = (
    passes_turns (suc n) test turn t.0 r.0,
    later_same,
    λ x s s' p l. lags_new h Same Cut s' (turns (suc n) test turn s) (counts.room_new n room) refl (subst (λ o. IsFront o (state_of (turns (suc n) test turn s)).output) p.output (later_front (turns (suc n) test turn) (passes_turns (suc n) test turn t.0 r.0) s)),
  )
  turns_rel {X} h test test' turn turn' t r (suc n) (suc n') room =
      binds_rel h h h Same Same test test' (turned turn (turns n test turn)) (turned turn' (turns n' test' turn')) t (λ again again'.
      equals_rel h h (λ _. X) Same (turned turn (turns n test turn)) (turned turn' (turns n' test' turn'))
      (turned_rel h turn turn' (turns n test turn) (turns n' test' turn') r (turns_rel h test test' turn turn' t r n n' (counts.less n n' room))) again again')

  loops_rel : {X : Type 0} (h : ℕ) (test test' : M Bool) (turn turn' : M Way) → Rel X h h Bool Bool Same test test' → Rel X h h Way Way Same turn turn' → Rel X h h Way Way Same (looped test turn) (looped test' turn')
  loops_rel h test test' turn turn' t r = (
    λ s. passes_turns (suc s.left) test turn t.0 r.0 s,
    λ s. passes_turns (suc s.left) test' turn' t.1 r.1 s,
    λ x s s' p l. (turns_rel h test test' turn turn' t r (suc s.left) (suc s'.left) (counts.room s.left s'.left l)).2 x s s' p l,
  )

  pub closed : Closed pairing old new Rel
  closed = record {
    knows = λ h k R m m' f r. knows_rel h k R m m' f r;
    equals = λ h k X S f g r a b. equals_rel h k X S f g r a b;
    tells = λ h R r r' f. tells_rel h R r r' f;
    stops = λ h R e e' f. stops_rel h R e e' f;
    binds = λ h k l R S m m' f g r j. binds_rel h k l R S m m' f g r j;
    ticks = λ h. ticks_rel h;
    asked = λ h R q q' f. asked_rel h R q q' f;
    remembered = λ h k m m' f. remembered_rel h k m m' f;
    put = λ h p p' v v' f. put_rel h p p' v v' f;
    emitted = λ h bytes bytes' f. emitted_rel h bytes bytes' f;
    taken = λ h. taken_rel h;
    inputs = λ h R f g r. inputs_rel h R f g r;
    loops = λ h test test' turn turn' t r. loops_rel h test test' turn turn' t r;
  }
