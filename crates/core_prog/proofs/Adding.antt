-- With more steps a computation does the same, unless it was cut for want of one.
use Rattle.std.proofs.Common.{◌≡◌, ◌≤◌, ◌<◌, ◌+◌, ℕ, zero, suc, List, [], ◌∷◌, ◌++◌, length, refl, sym, ap, subst, ◌∙◌, arith}
use Rattle.std.specs.Prelude.{Bool, true, false, if◌then◌else◌, Option, Some, Result, Ok, Err}
use Rattle.std.proofs.lemmas.List.{append-nil}
use Rattle.ftn_tree.specs.declared.value.Value.{Value}
use Rattle.core_prog.specs.declared.site.Site.{Site}
use Rattle.core_prog.specs.Ends.{End, Stopped, Faulted, Cut}
use Rattle.core_prog.specs.Programs.{Program, Procedure}
use Rattle.core_prog.specs.Holdings.{procedure}
use Rattle.core_prog.specs.Entries.{Argument, not_active}
use Rattle.core_prog.specs.Actions.{Block}
use Rattle.core_prog.specs.Terms.{Term}
use Rattle.core_prog.specs.States.{State, Ran, Went, Ended, M, goes_on, ◌>>=◌, ◌>>◌, pure, ticked, tick, told, took, Way, GoOn, Exit, Cycle, Return, around}
use Rattle.core_prog.specs.Values.{called, entering, value_of}
use Rattle.core_prog.specs.Statements.{turns, looped, block}
use Rattle.core_prog.specs.Runs.{bodies}
use Rattle.core_prog.specs.Lasting.{Later, Passes, state_of, with_more, IsFront, AddsTo}
use Rattle.core_prog.proofs.Closing.{Closed, Chained}
use Rattle.core_prog.proofs.Keeping.{block_kept, value_kept}
use Rattle.core_prog.proofs.Entering.{entering_chained}
use Rattle.core_prog.proofs.Passing.{later_same, joined, passes_binds, passes_tick, passes_told, passes_asks, passes_remembers, passes_around, passes_turn, passes_turns, passes_entering, passes_called, passing, bodies_pass}

module _ (k : ℕ) where
  no_more_steps : (s : State) → k ≡ 0 → with_more k s ≡ s
  no_more_steps s e = let same : s.left + k ≡ s.left = omega arith in ap (λ n. record s { left = n }) same

  cut_front : {A : Type 0} (s t : State) (r : Ran A) → state_of r ≡ t → t.output ≡ s.output → (k ≡ 0 → r ≡ Ended Cut s) → IsFront k s r
  cut_front s t r e h same = record { added = []; output = ap (λ u. u.output) e ∙ h ∙ sym (append-nil s.output); same = same }

  adds_end : (A : Type 0) (e : End) (s : State) → AddsTo {A = A} k (Ended e s) (Ended e (with_more k s))
  adds_end A Stopped s = refl
  adds_end A (Faulted code at) s = refl
  adds_end A Cut s = cut_front {A = A} s (with_more k s) (Ended Cut (with_more k s)) refl refl (λ e. ap (λ t. Ended Cut t) (no_more_steps s e))

  front_on : {A B : Type 0} (t : State) (r : Ran A) (g : A → M B) → ((a : A) → Passes (g a)) → IsFront k t r → IsFront k t (goes_on r g)
  front_on t (Went a u) g p h = record {
    added = h.added ++ (p a u).added;
    output = joined t.output u.output (state_of (g a u)).output h.added (p a u).added h.output (p a u).output;
    same = λ e. ap (λ x. goes_on x g) (h.same e);
  }
  front_on t (Ended e u) g p h = record { added = h.added; output = h.output; same = λ q. ap (λ x. goes_on x g) (h.same q) }

  adds_on : {A B : Type 0} (s : State) (r r' : Ran A) (f g : A → M B) → Later s (state_of r) → ((a : A) → Passes (g a)) → AddsTo k r r' →
      ((a : A) (t : State) → t.left ≤ s.left → AddsTo k (f a t) (g a (with_more k t))) → AddsTo k (goes_on r f) (goes_on r' g)
  adds_on s (Went a t) r' f g later p e h = subst (λ x. AddsTo k (f a t) (goes_on x g)) (sym e) (h a t later.steps)
  adds_on s (Ended Stopped t) r' f g later p e h = ap (λ x. goes_on x g) e
  adds_on s (Ended (Faulted code at) t) r' f g later p e h = ap (λ x. goes_on x g) e
  adds_on s (Ended Cut t) r' f g later p e h = front_on t r' g p e

  -- computations with at most so many steps
  abbrev pub Adds : ℕ → (A : Type 0) → M A → M A → Type 0
  Adds b A m n = Passes m × Passes n × ((s : State) → s.left ≤ b → AddsTo k (m s) (n (with_more k s)))

  within : (a b c : ℕ) → a ≤ b → b ≤ c → a ≤ c
  within a b c h j = omega arith

  adds_binds : {A B : Type 0} (b : ℕ) (m n : M A) (f g : A → M B) → Adds b A m n → ((a : A) → Adds b B (f a) (g a)) → Adds b B (m >>= f) (n >>= g)
  adds_binds b m n f g h j = (
    passes_binds m f h.0 (λ a. (j a).0),
    passes_binds n g h.1 (λ a. (j a).1),
    λ s q. adds_on s (m s) (n (with_more k s)) f g (h.0 s) (λ a. (j a).1) (h.2 s q) (λ a t r. (j a).2 t (within t.left s.left b r q)),
  )

  adds_told : {A : Type 0} (r : Result A End) (s : State) → AddsTo k (told r s) (told r (with_more k s))
  adds_told {A} (Ok a) s = refl
  adds_told {A} (Err e) s = adds_end A e s

  no_more_total : (total : ℕ) → suc total ≡ 0 + k → k ≡ 0 → ⊥
  no_more_total total e h = omega arith

  none_at_all : (n total : ℕ) → 0 ≡ suc n + k → ⊥
  none_at_all n total e = omega arith

  one_less : (n total : ℕ) → suc total ≡ suc n + k → total ≡ n + k
  one_less n total e = omega arith

  -- after a step there are fewer
  stepped : {A : Type 0} (f g : M A) → Passes g → (s : State) (n total : ℕ) → s.left ≡ n → total ≡ n + k →
      ((t : State) → t.left < s.left → AddsTo k (f t) (g (with_more k t))) →
      AddsTo k (goes_on (ticked n s) (λ _. f)) (goes_on (ticked total (with_more k s)) (λ _. g))
  stepped f g p s zero zero e h j = cut_front s (with_more k s) (Ended Cut (with_more k s)) refl refl (λ q. ap (λ t. Ended Cut t) (no_more_steps s q))
  stepped f g p s zero (suc total) e h j =
      record { added = (p (record s { left = total })).added; output = (p (record s { left = total })).output; same = λ q. absurd (no_more_total total h q) }
  stepped f g p s (suc n) zero e h j = absurd (none_at_all n 0 h)
  stepped f g p s (suc n) (suc total) e h j =
      subst (λ x. AddsTo k (f (record s { left = n })) (g (record s { left = x }))) (sym (one_less n total h)) (j (record s { left = n }) (omega arith))

  adds_stepped : {A : Type 0} (f g : M A) → Passes g → (s : State) → ((t : State) → t.left < s.left → AddsTo k (f t) (g (with_more k t))) → AddsTo k ((tick >> f) s) ((tick >> g) (with_more k s))
  adds_stepped f g p s j = stepped f g p s s.left (s.left + k) refl refl j

  in_front : (n a m : ℕ) → a < m → m < suc n → a < n
  in_front n a m i r = omega arith

  in_front_with : (n a m : ℕ) → a < m → m + k < suc n → a + k < n
  in_front_with n a m i r = omega arith

  all_below : (v a c m : ℕ) → v ≤ a → a < c → c ≤ m → v < m
  all_below v a c m h i j = omega arith

  below_bound : (a c m b : ℕ) → a < c → c ≤ m → m ≤ b → a ≤ b
  below_bound a c m b h i j = omega arith

  below_bound_again : (v a c m b : ℕ) → v ≤ a → a < c → c ≤ m → m ≤ b → v ≤ b
  below_bound_again v a c m b g h i j = omega arith

  nothing_below : (a : ℕ) → a < 0 → ⊥
  nothing_below a h = omega arith

  adds_around : (next other : M Way) (v : State) → AddsTo k (next v) (other (with_more k v)) → (way : Way) → AddsTo k (around next way v) (around other way (with_more k v))
  adds_around next other v h GoOn = h
  adds_around next other v h (Exit zero) = refl
  adds_around next other v h (Exit (suc depth)) = refl
  adds_around next other v h (Cycle zero) = h
  adds_around next other v h (Cycle (suc depth)) = refl
  adds_around next other v h Return = refl

  -- what a turn of a loop does
  abbrev turned : Bool → M Way → M Way → M Way
  turned again turn next = if again then tick >> (turn >>= (λ way. around next way)) else pure GoOn

  adds_turned : (b : ℕ) (turn turn' next next' : M Way) → Adds b Way turn turn' → Passes next' → (s : State) → s.left ≤ b →
      ((v : State) → v.left ≤ b → v.left < s.left → AddsTo k (next v) (next' (with_more k v))) →
      (again : Bool) (t : State) → t.left ≤ s.left → AddsTo k (turned again turn next t) (turned again turn' next' (with_more k t))
  adds_turned b turn turn' next next' j p s q h true t m =
      adds_stepped (turn >>= (λ way. around next way)) (turn' >>= (λ way. around next' way)) (passes_binds turn' (λ way. around next' way) j.1 (passes_around next' p)) t (λ u i.
      adds_on u (turn u) (turn' (with_more k u)) (λ way. around next way) (λ way. around next' way) (j.0 u) (passes_around next' p) (j.2 u (below_bound u.left t.left s.left b i m q)) (λ way v w.
      adds_around next next' v (h v (below_bound_again v.left u.left t.left s.left b w i m q) (all_below v.left u.left t.left s.left w i m)) way))
  adds_turned b turn turn' next next' j p s q h false t m = refl

  adds_turns : (b : ℕ) (test test' : M Bool) (turn turn' : M Way) → Adds b Bool test test' → Adds b Way turn turn' →
      (n n' : ℕ) (s : State) → s.left ≤ b → s.left < n → s.left + k < n' → AddsTo k (turns n test turn s) (turns n' test' turn' (with_more k s))
  adds_turns b test test' turn turn' h j zero n' s q r l = absurd (nothing_below s.left r)
  adds_turns b test test' turn turn' h j (suc n) zero s q r l = absurd (nothing_below (s.left + k) l)
  adds_turns b test test' turn turn' h j (suc n) (suc n') s q r l =
      adds_on s (test s) (test' (with_more k s)) (λ again. turned again turn (turns n test turn)) (λ again. turned again turn' (turns n' test' turn')) (h.0 s)
      (λ again. passes_turn again turn' (turns n' test' turn') j.1 (passes_turns n' test' turn' h.1 j.1)) (h.2 s q)
      (adds_turned b turn turn' (turns n test turn) (turns n' test' turn') j (passes_turns n' test' turn' h.1 j.1) s q
      (λ v p i. adds_turns b test test' turn turn' h j n n' v p (in_front n v.left s.left i r) (in_front_with n' v.left s.left i l)))

  one_more : (a : ℕ) → a < suc a
  one_more a = omega arith

  adds_looped : (b : ℕ) (test test' : M Bool) (turn turn' : M Way) → Adds b Bool test test' → Adds b Way turn turn' → Adds b Way (looped test turn) (looped test' turn')
  adds_looped b test test' turn turn' h j = (
    λ s. passes_turns (suc s.left) test turn h.0 j.0 s,
    λ s. passes_turns (suc s.left) test' turn' h.1 j.1 s,
    λ s q. adds_turns b test test' turn turn' h j (suc s.left) (suc (s.left + k)) s q (one_more s.left) (one_more (s.left + k)),
  )

  adds_ticks : (s : State) (n total : ℕ) → total ≡ n + k → AddsTo k (ticked n s) (ticked total (with_more k s))
  adds_ticks s zero zero h = cut_front s (with_more k s) (Ended Cut (with_more k s)) refl refl (λ q. ap (λ t. Ended Cut t) (no_more_steps s q))
  adds_ticks s zero (suc total) h = cut_front s (record s { left = total }) (ticked (suc total) (with_more k s)) refl refl (λ q. absurd (no_more_total total h q))
  adds_ticks s (suc n) zero h = absurd (none_at_all n 0 h)
  adds_ticks s (suc n) (suc total) h = ap (λ x. ticked (suc x) s) (one_less n total h)

  under : (a c m b : ℕ) → a < c → c ≤ m → m ≤ b → a < b
  under a c m b h i j = omega arith

  not_over : (a : ℕ) → a ≤ a
  not_over a = omega arith

  adds_byte : (byte : ℕ) (bytes : List ℕ) (s : State) (n total : ℕ) → total ≡ n + k →
      AddsTo k (goes_on (ticked n s) (λ _ t. Went (Some byte) (record t { input = bytes }))) (goes_on (ticked total (with_more k s)) (λ _ t. Went (Some byte) (record t { input = bytes })))
  adds_byte byte bytes s zero zero h = cut_front s (with_more k s) (Ended Cut (with_more k s)) refl refl (λ q. ap (λ t. Ended Cut t) (no_more_steps s q))
  adds_byte byte bytes s zero (suc total) h =
      cut_front s (record s { left = total; input = bytes }) (Went (Some byte) (record s { left = total; input = bytes })) refl refl (λ q. absurd (no_more_total total h q))
  adds_byte byte bytes s (suc n) zero h = absurd (none_at_all n 0 h)
  adds_byte byte bytes s (suc n) (suc total) h = ap (λ x. Went (Some byte) (record s { left = x; input = bytes })) (one_less n total h)

  adds_took : (bytes : List ℕ) (s : State) → AddsTo k (took bytes s) (took bytes (with_more k s))
  adds_took [] s = refl
  adds_took (byte ∷ bytes) s = adds_byte byte bytes s s.left (s.left + k) refl

  adds_ticked : (s : State) → AddsTo k (tick s) (tick (with_more k s))
  adds_ticked s = adds_ticks s s.left (s.left + k) refl

  adds_chained : (b : ℕ) → Chained (Adds b)
  adds_chained b = record {
    pures = λ a. (later_same, later_same, λ s q. refl);
    stops = λ {A} e. (later_same, later_same, λ s q. adds_end A e s);
    binds = λ m n f g h j. adds_binds b m n f g h j;
    ticks = (passes_tick, passes_tick, λ s q. adds_ticked s);
    asked = λ question. (passes_asks question, passes_asks question, λ s q. adds_told (question s.memory) s);
    remembered = λ memory. (passes_remembers memory, passes_remembers memory, λ s q. refl);
  }

  adds_called : (b : ℕ) (program : Program) (body other : ℕ → M Way) (at : Site) (number : ℕ) (args : List Argument) → Passes (body number) → Passes (other number) →
      ((c : ℕ) → c < b → Adds c Way (body number) (other number)) → Adds b (Option Value) (called program body at number args) (called program other at number args)
  adds_called b program body other at number args h j below = (
    passes_called program body at number args h,
    passes_called program other at number args j,
    λ s q.
        adds_on s (told (not_active at number s.memory) s) (told (not_active at number s.memory) (with_more k s)) (λ _. tick >> entering program body at number args) (λ _. tick >> entering program other at number args)
        (passes_told (not_active at number s.memory) s) (λ _. passes_binds tick (λ _. entering program other at number args) passes_tick (λ _. passes_entering program other at number args j))
        (adds_told (not_active at number s.memory) s) (λ _ t m.
        adds_stepped (entering program body at number args) (entering program other at number args) (passes_entering program other at number args j) t (λ u i.
        (entering_chained (Adds u.left) (adds_chained u.left) program body other at number args (below u.left (under u.left t.left s.left b i m q))).2 u (not_over u.left))),
  )

  adding : Closed Passes Adds
  adding = record {
    pures = λ b a. (later_same, later_same, λ s q. refl);
    stops = λ {A} b e. (later_same, later_same, λ s q. adds_end A e s);
    binds = λ b m n f g h j. adds_binds b m n f g h j;
    ticks = λ b. (passes_tick, passes_tick, λ s q. adds_ticked s);
    asked = λ b question. (passes_asks question, passes_asks question, λ s q. adds_told (question s.memory) s);
    put = λ b p v. (passing.put b p v, passing.put b p v, λ s q. refl);
    emitted = λ b bytes. (passing.emitted b bytes, passing.emitted b bytes, λ s q. refl);
    taken = λ b. (passing.taken b, passing.taken b, λ s q. adds_took s.input s);
    inputs = λ b f g h. (λ s. (h (suc (length s.input))).0 s, λ s. (h (suc (length s.input))).1 s, λ s q. (h (suc (length s.input))).2 s q);
    loops = λ b test other turn round h j. adds_looped b test other turn round h j;
    calls = λ b program body other at number args h j below. adds_called b program body other at number args h j below;
  }

  -- bodies with room for all steps
  adds_bodies : (program : Program) (room other b : ℕ) → b < room → b + k < other → (number : ℕ) → Adds b Way (bodies program room number) (bodies program other number)
  adds_bodies program zero other b h j number = absurd (nothing_below b h)
  adds_bodies program (suc room) zero b h j number = absurd (nothing_below (b + k) j)
  adds_bodies program (suc room) (suc other) b h j number =
      adds_binds b (told (procedure program number)) (told (procedure program number)) (λ proc. block program (bodies program room) proc.body) (λ proc. block program (bodies program other) proc.body)
      (passes_told (procedure program number), passes_told (procedure program number), λ s q. adds_told (procedure program number) s) (λ (proc : Procedure).
      block_kept Passes Adds adding program b (bodies program room) (bodies program other) (bodies_pass program room) (bodies_pass program other)
      (λ c i n. adds_bodies program room other c (in_front room c b i h) (in_front_with other c b i j) n) proc.body)

  room_for : (c b room : ℕ) → c < b → b ≤ room → c < room
  room_for c b room h j = omega arith

  room_with : (c b other : ℕ) → c < b → b + k ≤ other → c + k < other
  room_with c b other h j = omega arith

  pub adds_blocks : (program : Program) (room other b : ℕ) → b ≤ room → b + k ≤ other → (s : Block) → Adds b Way (block program (bodies program room) s) (block program (bodies program other) s)
  adds_blocks program room other b h j s =
      block_kept Passes Adds adding program b (bodies program room) (bodies program other) (bodies_pass program room) (bodies_pass program other)
      (λ c i n. adds_bodies program room other c (room_for c b room i h) (room_with c b other i j) n) s

  pub adds_values : (program : Program) (room other b : ℕ) → b ≤ room → b + k ≤ other → (t : Term) → Adds b Value (value_of program (bodies program room) t) (value_of program (bodies program other) t)
  adds_values program room other b h j t =
      value_kept Passes Adds adding program b (bodies program room) (bodies program other) (bodies_pass program room) (bodies_pass program other)
      (λ c i n. adds_bodies program room other c (room_for c b room i h) (room_with c b other i j) n) t
