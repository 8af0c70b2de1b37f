-- Steps that the new computation takes beside those of the old one, out of what a step of both leaves to spare.
use Rattle.std.proofs.Common.{inl, inr, ◌≡◌, ◌≤◌, ◌<◌, ◌⊎◌, ◌+◌, ◌*◌, ℕ, zero, suc, refl, sym, subst, ◌∙◌, arith}
use Rattle.core_prog.specs.Ends.{End, Cut, outcome_of}
use Rattle.core_prog.specs.Memory.{Memory}
use Rattle.core_prog.specs.Programs.{Program}
use Rattle.core_prog.specs.States.{State, Ran, Went, Ended, M, goes_on, ◌>>◌, ticked, tick}
use Rattle.core_prog.specs.Lasting.{Passes, state_of}
use Rattle.core_sim.specs.Pairings.{Pairing}
use Rattle.core_sim.specs.Premises.{Premises}
use Rattle.core_sim.specs.Paired.{HasTypes, Paired, PairedMemory}
use Rattle.core_sim.specs.Keeping.{Budget, so_many, no_more, IsFront, IsFault, GoesAlike, EndsAlike, Alike, Costs}
use Rattle.core_sim.specs.Copying.{Outcome}
use Rattle.core_sim.proofs.Stepping.{Counts, no_more_counts, so_many_counts, lags_old, lags_new, later_front, front_same, front_then}
use Rattle.core_sim.proofs.Giving.{Given}

pub record Spending (family : ℕ → Budget) : Type 1 where
  pub counts : (c : ℕ) → Counts (family c)
  pub next : ℕ → ℕ
  pub gain : (c n n' : ℕ) → (family c).Left (suc n) (suc n') → (family (next c)).Left n n'
  pub use_four : (c n n' u : ℕ) → (family (next c)).Left n n' → u + 4 ≡ n' → (family c).Left n u
  pub cut : (c n n' : ℕ) → (family (next c)).Left n n' → n' < 4 → (family c).MayCutNew
  pub lost : (c : ℕ) → (family c).MayLose
  pub old_too : (c : ℕ) → (family (next c)).MayCutOld → (family c).MayCutOld
  pub new_too : (c : ℕ) → (family (next c)).MayCutNew → (family c).MayCutNew
  pub fewer_spare : (c n n' : ℕ) → (family (next c)).Left n n' → (family c).Left n n'
  -- the numbers by which bodies of procedures are defined; a call in place of a variable needs one more
  pub Deep : ℕ → ℕ → Type 0
  pub deep_less : (room room' : ℕ) → Deep (suc room) (suc room') → Deep room room'
  pub deep_old : (c room' : ℕ) → Deep zero (suc room') → (family c).MayCutOld
  pub deep_new : (c room : ℕ) → Deep room zero → (family c).MayCutNew

nothing_below : (n : ℕ) → n < 0 → ⊥
nothing_below n h = omega arith

none_more : (a b : ℕ) → a + 0 ≡ b → b ≡ a
none_more a b e = omega arith

module _ (pairing : Pairing) (old new : Program) (premises : Premises pairing old new) (family : ℕ → Budget) (spending : Spending family) (c : ℕ) where
  left_at : (a b n n' : ℕ) → a ≡ n → b ≡ n' → (family c).Left a b → (family c).Left n n'
  left_at a b n n' e f l = subst (λ y. (family c).Left n y) f (subst (λ x. (family c).Left x b) e l)

  -- both take a step, and the new one has more to spare
  pub gain_step : {A B : Type 0} (R : A → B → Type 0) (m : M A) (m' : M B) → Passes m → Passes m' → (h : ℕ) →
      ((s s' : State) → Paired pairing old new h s s' → (family (spending.next c)).Left s.left s'.left → Alike pairing old new (family c) h R (m s) (m' s')) →
      (s s' : State) → Paired pairing old new h s s' → (family c).Left s.left s'.left → Alike pairing old new (family c) h R ((tick >> m) s) ((tick >> m') s')
  gain_step R m m' p p' h j s s' q l = by_left s.left s'.left refl refl
    where
      by_left : (n n' : ℕ) → s.left ≡ n → s'.left ≡ n' → Alike pairing old new (family c) h R (goes_on (ticked n s) (λ _. m)) (goes_on (ticked n' s') (λ _. m'))
      by_left zero zero e e' = inl (record { outcome = refl; output = q.output; input = q.input; paired = inr (h, record { paired = q; left = l }) })
      by_left zero (suc n') e e' =
          lags_old pairing old new premises (family c) (spending.counts c) h R Cut s (m' (record s' { left = n' })) ((spending.counts c).none_old n' (left_at s.left s'.left zero (suc n') e e' l)) refl
          (subst (λ o. IsFront o (state_of (m' (record s' { left = n' }))).output) (sym q.output) (later_front m' p' (record s' { left = n' })))
      by_left (suc n) zero e e' =
          lags_new pairing old new premises (family c) (spending.counts c) h R Cut s' (m (record s { left = n })) ((spending.counts c).none_new n (left_at s.left s'.left (suc n) zero e e' l)) refl
          (subst (λ o. IsFront o (state_of (m (record s { left = n }))).output) q.output (later_front m p (record s { left = n })))
      by_left (suc n) (suc n') e e' =
          j (record s { left = n }) (record s' { left = n' }) (record { memory = q.memory; typed = q.typed; input = q.input; output = q.output }) (spending.gain c n n' (left_at s.left s'.left (suc n) (suc n') e e' l))

  -- four steps of the new one, none of the old one
  pub four_more : {A B : Type 0} (R : A → B → Type 0) (h : ℕ) (post : A → Memory → Type 0) (post' : B → Memory → Type 0) (bad bad' : End → Type 0) →
      ((a : A) (b : B) (m m' : Memory) → post a m → post' b m' → R a b × PairedMemory pairing old new h m m' × HasTypes old m.active) → ((a : A) (m : Memory) (e : End) → post a m → bad' e → ⊥) → ((b : B) (m : Memory) (e : End) → post' b m → bad e → ⊥) →
      ((e e' : End) → bad e → bad' e' → outcome_of e ≡ outcome_of e') → ((e : End) → bad e → IsFault e) → (s s' : State) → Paired pairing old new h s s' → (family (spending.next c)).Left s.left s'.left →
      (r : Ran A) (r' : Ran B) → Outcome 0 post bad s r → Outcome 4 post' bad' s' r' → Alike pairing old new (family c) h R r r'
  four_more R h post post' bad bad' good no_bad' no_bad ends fault s s' q l (Went a t) (Went b u) o o' =
      let g = good a b t.memory u.memory o.0 o'.0 in (
        g.0,
        record {
          paired = record { memory = g.1; typed = g.2; input = o.2.input ∙ q.input ∙ sym o'.2.input; output = o.2.output ∙ q.output ∙ sym o'.2.output };
          left = subst (λ n. (family c).Left n u.left) (none_more t.left s.left o.1) (spending.use_four c s.left s'.left u.left l o'.1);
        },
      )
  four_more R h post post' bad bad' good no_bad' no_bad ends fault s s' q l (Went a t) (Ended e' u) o (inl x, y) =
      lags_new pairing old new premises (family c) (spending.counts c) h R e' u (Went a t) (spending.cut c s.left s'.left l x.1) x.0
      (subst (λ z. IsFront u.output z) (y.output ∙ sym q.output ∙ sym o.2.output) (front_same u))
  four_more R h post post' bad bad' good no_bad' no_bad ends fault s s' q l (Went a t) (Ended e' u) o (inr x, y) = absurd (no_bad' a t.memory e' o.0 x)
  four_more R h post post' bad bad' good no_bad' no_bad ends fault s s' q l (Ended e t) (Went b u) (inl x, y) o' = absurd (nothing_below s.left x.1)
  four_more R h post post' bad bad' good no_bad' no_bad ends fault s s' q l (Ended e t) (Went b u) (inr x, y) o' = absurd (no_bad b u.memory e o'.0 x)
  four_more R h post post' bad bad' good no_bad' no_bad ends fault s s' q l (Ended e t) (Ended e' u) (inl x, y) o' = absurd (nothing_below s.left x.1)
  four_more R h post post' bad bad' good no_bad' no_bad ends fault s s' q l (Ended e t) (Ended e' u) (inr x, y) (inl x', y') =
      lags_new pairing old new premises (family c) (spending.counts c) h R e' u (Ended e t) (spending.cut c s.left s'.left l x'.1) x'.0
      (subst (λ z. IsFront u.output z) (y'.output ∙ sym q.output ∙ sym y.output) (front_same u))
  four_more R h post post' bad bad' good no_bad' no_bad ends fault s s' q l (Ended e t) (Ended e' u) (inr x, y) (inr x', y') =
      inl (record { outcome = ends e e' x x'; output = y.output ∙ q.output ∙ sym y'.output; input = y.input ∙ q.input ∙ sym y'.input; paired = inl (spending.lost c, fault e x) })

  ends_so : (e e' : End) (s s' : State) → EndsAlike pairing old new (family (spending.next c)) e e' s s' → EndsAlike pairing old new (family c) e e' s s'
  ends_so e e' s s' h = record { outcome = h.outcome; output = h.output; input = h.input; paired = by_pair h.paired }
    where
      by_pair : ((family (spending.next c)).MayLose × IsFault e) ⊎ ((height : ℕ) × GoesAlike pairing old new (family (spending.next c)) height s s') → ((family c).MayLose × IsFault e) ⊎ ((height : ℕ) × GoesAlike pairing old new (family c) height s s')
      by_pair (inl x) = inl (spending.lost c, x.1)
      by_pair (inr x) = inr (x.0, record { paired = x.1.paired; left = spending.fewer_spare c s.left s'.left x.1.left })

  -- a first part that leaves what there is to spare, and what comes after it
  pub then_with : {A B C D : Type 0} (h : ℕ) (R : A → B → Type 0) (S : C → D → Type 0) (post : A → Memory → Type 0) (r : Ran A) (r' : Ran B) (f : A → M C) (g : B → M D) → ((a : A) → Passes (f a)) → ((b : B) → Passes (g b)) → Given post r →
      ((a : A) (b : B) → R a b → (t u : State) → post a t.memory → Paired pairing old new h t u → (family (spending.next c)).Left t.left u.left → Alike pairing old new (family c) h S (f a t) (g b u)) →
      Alike pairing old new (family (spending.next c)) h R r r' → Alike pairing old new (family c) h S (goes_on r f) (goes_on r' g)
  then_with h R S post (Went a t) (Went b u) f g p q x j k = j a b k.0 t u x k.1.paired k.1.left
  then_with h R S post (Went a t) (Ended e u) f g p q x j k =
      lags_new pairing old new premises (family c) (spending.counts c) h S e u (f a t) (spending.new_too c k.may_be) k.cut (front_then u.output t.output (state_of (f a t)).output k.front (later_front (f a) (p a) t))
  then_with h R S post (Ended e t) (Went b u) f g p q x j k =
      lags_old pairing old new premises (family c) (spending.counts c) h S e t (g b u) (spending.old_too c k.may_be) k.cut (front_then t.output u.output (state_of (g b u)).output k.front (later_front (g b) (q b) u))
  then_with h R S post (Ended e t) (Ended e' u) f g p q x j (inl k) = inl (ends_so e e' t u k)
  then_with h R S post (Ended e t) (Ended e' u) f g p q x j (inr (inl k)) = inr (inl (record { may_be = spending.old_too c k.may_be; cut = k.cut; front = k.front }))
  then_with h R S post (Ended e t) (Ended e' u) f g p q x j (inr (inr k)) = inr (inr (record { may_be = spending.new_too c k.may_be; cut = k.cut; front = k.front }))

  -- the new one is cut in any case
  pub halts : {A B : Type 0} (R : A → B → Type 0) (h k : ℕ) (m : M A) (s s' : State) (r' : Ran B) → Passes m → (family c).MayCutNew → s.output ≡ s'.output → Outcome k (λ _ _. ⊥) (λ e. e ≡ Cut) s' r' → Alike pairing old new (family c) h R (m s) r'
  halts R h k m s s' (Went b u) p may e o = absurd o.0
  halts R h k m s s' (Ended e' u) p may e (x, y) = by_end x
    where
      by_end : ((e' ≡ Cut) × (s'.left < k)) ⊎ (e' ≡ Cut) → Alike pairing old new (family c) h R (m s) (Ended e' u)
      by_end (inl z) = lags_new pairing old new premises (family c) (spending.counts c) h R e' u (m s) may z.0 (subst (λ o. IsFront o (state_of (m s)).output) (e ∙ sym y.output) (later_front m p s))
      by_end (inr z) = lags_new pairing old new premises (family c) (spending.counts c) h R e' u (m s) may z (subst (λ o. IsFront o (state_of (m s)).output) (e ∙ sym y.output) (later_front m p s))

-- ---- families of budgets

pub less : (n n' : ℕ) → suc n' ≤ suc n → n' ≤ n
less n n' h = omega arith

pub four_less : (n n' u : ℕ) → n' ≤ n → u + 4 ≡ n' → u ≤ n
four_less n n' u h e = omega arith

pub none_above : (n : ℕ) → suc n ≤ zero → ⊥
none_above n h = omega arith

abbrev pub no_more_spending : Spending (λ c. no_more (Unit {0}))
no_more_spending = record {
  counts = λ c. no_more_counts (Unit {0});
  next = λ c. c;
  gain = λ c n n' h. less n n' h;
  use_four = λ c n n' u h e. four_less n n' u h e;
  cut = λ c n n' h k. tt;
  lost = λ c. tt;
  old_too = λ c x. x;
  new_too = λ c x. x;
  fewer_spare = λ c n n' h. h;
  Deep = λ room room'. room' ≤ room;
  deep_less = λ room room' h. less room room' h;
  deep_old = λ c room' h. none_above room' h;
  deep_new = λ c room h. tt;
}

pub four_more_spare : (factor c n n' : ℕ) → 5 ≤ factor → factor * suc n + c ≤ suc n' → factor * n + (c + 4) ≤ n'
four_more_spare factor c n n' h k = let e : factor * suc n ≡ factor * n + factor = omega arith in omega arith

pub four_used : (all c n' u : ℕ) → all + (c + 4) ≤ n' → u + 4 ≡ n' → all + c ≤ u
four_used all c n' u h e = omega arith

pub never_cut : (all c n' : ℕ) → all + (c + 4) ≤ n' → n' < 4 → ⊥
never_cut all c n' h k = omega arith

pub spare_less : (all c n' : ℕ) → all + (c + 4) ≤ n' → all + c ≤ n'
spare_less all c n' h = omega arith

pub one_at_least : (factor : ℕ) → 5 ≤ factor → 1 ≤ factor
one_at_least factor h = omega arith

abbrev pub so_many_spending : (factor : ℕ) → 5 ≤ factor → Spending (so_many (Unit {0}) factor)
so_many_spending factor h = record {
  counts = λ c. so_many_counts (Unit {0}) factor c (one_at_least factor h);
  next = λ c. c + 4;
  gain = λ c n n' k. four_more_spare factor c n n' h k;
  use_four = λ c n n' u k e. four_used (factor * n) c n' u k e;
  cut = λ c n n' k l. never_cut (factor * n) c n' k l;
  lost = λ c. tt;
  old_too = λ c x. x;
  new_too = λ c x. x;
  fewer_spare = λ c n n' k. spare_less (factor * n) c n' k;
  Deep = λ room room'. suc room ≤ room';
  deep_less = λ room room' k. less room' (suc room) k;
  deep_old = λ c room' k. tt;
  deep_new = λ c room k. none_above room k;
}

-- ---- steps that both took, where both went on

-- at least as many as the old one
abbrev pub at_least : Type 0 → ℕ → ℕ → Budget
at_least lose a b = record { Left = λ n n'. a + n' ≤ b + n; MayCutOld = Unit {0}; MayCutNew = Unit {0}; MayLose = lose }

-- at most so many for each
abbrev pub at_most_each : Type 0 → ℕ → ℕ → ℕ → Budget
at_most_each lose factor a b = record { Left = λ n n'. a + factor * n ≤ b + n'; MayCutOld = Unit {0}; MayCutNew = Unit {0}; MayLose = lose }

pub same_sum : (a b : ℕ) → a + b ≤ b + a
same_sum a b = omega arith

-- from both
pub costs : (pairing : Pairing) (old new : Program) (lose : Type 0) (factor height : ℕ) {A B : Type 0} (R : A → B → Type 0) (s s' : State) (r : Ran A) (r' : Ran B) → Alike pairing old new (at_least lose s.left s'.left) height R r r' → Alike pairing old new (at_most_each lose factor s'.left (factor * s.left)) height R r r' →
    Costs factor s s' r r'
costs pairing old new lose factor height R s s' (Went a t) (Went b t') h k = (h.1.left, k.1.left)
costs pairing old new lose factor height R s s' (Went a t) (Ended e t') h k = tt
costs pairing old new lose factor height R s s' (Ended e t) (Went b t') h k = tt
costs pairing old new lose factor height R s s' (Ended e t) (Ended e' t') h k = tt

pub one_less_each : (a b n n' : ℕ) → a + suc n' ≤ b + suc n → a + n' ≤ b + n
one_less_each a b n n' h = omega arith

abbrev pub at_least_counts : (lose : Type 0) (a b : ℕ) → Counts (at_least lose a b)
at_least_counts lose a b = record {
  Room = λ n n'. Unit {0};
  step = λ n n' h. one_less_each a b n n' h;
  none_old = λ n h. tt;
  none_new = λ n h. tt;
  room = λ n n' h. tt;
  less = λ n n' h. tt;
  room_old = λ n h. tt;
  room_new = λ n h. tt;
}

pub one_for_each : (factor a b n n' : ℕ) → 1 ≤ factor → a + factor * suc n ≤ b + suc n' → a + factor * n ≤ b + n'
one_for_each factor a b n n' h k = let e : factor * suc n ≡ factor * n + factor = omega arith in omega arith

abbrev pub at_most_counts : (lose : Type 0) (factor a b : ℕ) → 1 ≤ factor → Counts (at_most_each lose factor a b)
at_most_counts lose factor a b h = record {
  Room = λ n n'. Unit {0};
  step = λ n n' k. one_for_each factor a b n n' h k;
  none_old = λ n k. tt;
  none_new = λ n k. tt;
  room = λ n n' k. tt;
  less = λ n n' k. tt;
  room_old = λ n k. tt;
  room_new = λ n k. tt;
}

pub four_less_each : (a b n n' u : ℕ) → a + n' ≤ b + n → u + 4 ≡ n' → a + u ≤ b + n
four_less_each a b n n' u h e = omega arith

abbrev pub at_least_spending : (a b : ℕ) → Spending (λ c. at_least (Unit {0}) a b)
at_least_spending a b = record {
  counts = λ c. at_least_counts (Unit {0}) a b;
  next = λ c. c;
  gain = λ c n n' h. one_less_each a b n n' h;
  use_four = λ c n n' u h e. four_less_each a b n n' u h e;
  cut = λ c n n' h k. tt;
  lost = λ c. tt;
  old_too = λ c x. x;
  new_too = λ c x. x;
  fewer_spare = λ c n n' h. h;
  Deep = λ room room'. Unit {0};
  deep_less = λ room room' h. tt;
  deep_old = λ c room' h. tt;
  deep_new = λ c room h. tt;
}

pub four_gained : (factor c b n n' : ℕ) → 5 ≤ factor → c + factor * suc n ≤ b + suc n' → (c + 4) + factor * n ≤ b + n'
four_gained factor c b n n' h k = let e : factor * suc n ≡ factor * n + factor = omega arith in omega arith

pub four_spent : (c all b n' u : ℕ) → (c + 4) + all ≤ b + n' → u + 4 ≡ n' → c + all ≤ b + u
four_spent c all b n' u h e = omega arith

pub less_gained : (c all b n' : ℕ) → (c + 4) + all ≤ b + n' → c + all ≤ b + n'
less_gained c all b n' h = omega arith

abbrev pub at_most_spending : (factor b : ℕ) → 5 ≤ factor → Spending (λ c. at_most_each (Unit {0}) factor c b)
at_most_spending factor b h = record {
  counts = λ c. at_most_counts (Unit {0}) factor c b (one_at_least factor h);
  next = λ c. c + 4;
  gain = λ c n n' k. four_gained factor c b n n' h k;
  use_four = λ c n n' u k e. four_spent c (factor * n) b n' u k e;
  cut = λ c n n' k l. tt;
  lost = λ c. tt;
  old_too = λ c x. x;
  new_too = λ c x. x;
  fewer_spare = λ c n n' k. less_gained c (factor * n) b n' k;
  Deep = λ room room'. Unit {0};
  deep_less = λ room room' k. tt;
  deep_old = λ c room' k. tt;
  deep_new = λ c room k. tt;
}
