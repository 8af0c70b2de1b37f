-- What the two procedures do that stand for a variable: a call of the function takes four steps more than a read, and a call of the subroutine
-- four steps more than an assignment.
use Rattle.std.proofs.Common.{inr, ◌≡◌, ℕ, zero, suc, List, length, refl, ap, ◌∙◌}
use Rattle.std.specs.Prelude.{Option, Ok, Err}
use Rattle.ftn_tree.specs.declared.value.Value.{Value}
use Rattle.core_prog.specs.declared.site.Site.{Site}
use Rattle.core_prog.specs.Ends.{End, Cut}
use Rattle.core_prog.specs.Memory.{Memory, Holding, read_at, with_value}
use Rattle.core_prog.specs.Programs.{Program, Procedure}
use Rattle.core_prog.specs.Holdings.{holding, procedure}
use Rattle.core_prog.specs.Entries.{Argument, not_active, entered, left, result_at}
use Rattle.core_prog.specs.Terms.{variable, none, designator, no_section}
use Rattle.core_prog.specs.States.{State, M, Way, GoOn, Exit, Cycle, Return, onward, ◌>>=◌, ◌>>◌, pure, asks, puts, remembers}
use Rattle.core_prog.specs.Values.{read_of, called, entering, leaving, value_of, place_at}
use Rattle.core_prog.specs.Statements.{block}
use Rattle.core_prog.specs.Runs.{bodies}
use Rattle.core_sim.specs.Swaps.{copying}
use Rattle.core_sim.specs.Copying.{Outcome, Does, Is, whole_of, made, Got, IsCopyCall, AreHeld}
use Rattle.core_sim.proofs.Doing.{asked_last, does_from, does_binds, does_pure, told_then, asks_then, tick_then, puts_then, remembers_then}

module _ (program : Program) (bad : End → Type 0) where
  -- a read of a scalar
  pub reads_in : (body : ℕ → M Way) (at : Site) (from : ℕ) (m : Memory) (g : Holding) → holding program from m ≡ Ok g → ((e : End) → read_at at (whole_of g) m ≡ Err e → bad e) →
      Does 1 (Is m) (value_of program body (variable (designator at from none no_section))) (λ v m'. (read_at at (whole_of g) m ≡ Ok v) × (m' ≡ m)) bad
  reads_in body at from m g f b =
      tick_then bad 0 m (λ v m'. (read_at at (whole_of g) m ≡ Ok v) × (m' ≡ m)) _ (asks_then bad 0 m (λ v m'. (read_at at (whole_of g) m ≡ Ok v) × (m' ≡ m)) (holding program from) g _ f (asked_last bad m (read_at at (whole_of g)) b))

  place_in : (body : ℕ → M Way) (at : Site) (to : ℕ) (m : Memory) (h : Holding) → holding program to m ≡ Ok h → Does 0 (Is m) (place_at program body (designator at to none no_section)) (λ p m'. (p ≡ whole_of h) × (m' ≡ m)) bad
  place_in body at to m h e = asks_then bad 0 m (λ p m'. (p ≡ whole_of h) × (m' ≡ m)) (holding program to) h _ e (does_pure bad (Is m) (λ p m'. (p ≡ whole_of h) × (m' ≡ m)) (whole_of h) (λ n q. (refl, q)))

  -- what the statement TO = FROM leaves
  abbrev pub Copied : Site → Holding → Holding → Memory → Way → Memory → Type 0
  Copied at h g m way m' = (way ≡ GoOn) × ((v : Value) × (read_at at (whole_of g) m ≡ Ok v) × (m' ≡ with_value (whole_of h) v m))

  copies : (body : ℕ → M Way) (at : Site) (to : ℕ) (at' : Site) (from : ℕ) (m : Memory) (h g : Holding) → holding program to m ≡ Ok h → holding program from m ≡ Ok g →
      ((e : End) → read_at at' (whole_of g) m ≡ Err e → bad e) →
      Does 2 (Is m) (block program body (copying at to at' from)) (Copied at' h g m) bad
  copies body at to at' from m h g e f b =
      does_binds bad 2 0 (Is m) (Copied at' h g m) (Copied at' h g m) _ _
      (tick_then bad 1 m (Copied at' h g m) _
      (does_binds bad 0 1 (Is m) (λ p m'. (p ≡ whole_of h) × (m' ≡ m)) (Copied at' h g m) _ _ (place_in body at to m h e) (λ p s q.
      does_binds bad 1 0 (Is m) (λ v m'. (read_at at' (whole_of g) m ≡ Ok v) × (m' ≡ m)) (Copied at' h g m) _ (λ v. puts p v >> pure GoOn) (reads_in body at' from m g f b) (λ v t r.
      does_from bad 0 (Is m) (λ n. (read_at at' (whole_of g) m ≡ Ok v) × (n ≡ m)) (puts p v >> pure GoOn) (Copied at' h g m) (λ n x. x.1)
      (puts_then bad 0 m (Copied at' h g m) p v (pure GoOn) (does_pure bad (Is (with_value p v m)) (Copied at' h g m) GoOn (λ n x. (refl, (v, r.0, x ∙ ap (λ w. with_value w v m) q.0))))) t r) s q.1)))
      (λ way s q. on_way way q.0 s q)
    where
      on_way : (way : Way) → way ≡ GoOn → (s : State) → Copied at' h g m way s.memory → Outcome 0 (Copied at' h g m) bad s (onward (pure GoOn) way s)
      on_way GoOn e s q = does_pure bad (Copied at' h g m GoOn) (Copied at' h g m) GoOn (λ n x. x) s q
      on_way (Exit depth) e s q = absurd (cc e)
      on_way (Cycle depth) e s q = absurd (cc e)
      on_way Return e s q = absurd (cc e)

  leaves : (at : Site) (dummies : List ℕ) (res : Option ℕ) (at1 at' : Site) (to from : ℕ) (m0 m1 : Memory) (h g : Holding) (result : Value → Option Value) →
      ((v : Value) → read_at at' (whole_of g) m1 ≡ Ok v → result_at program at res (with_value (whole_of h) v m1) ≡ Ok (result v)) → (way : Way) →
      Does 1 (Copied at' h g m1 way) (leaving program at (made dummies res at1 to at' from) (length m0.cells)) (Got at' h g m0 m1 result) bad
  leaves at dummies res at1 at' to from m0 m1 h g result b way s q =
      tick_then bad 0 (with_value (whole_of h) q.1.0 m1) (Got at' h g m0 m1 result) _
      (asks_then bad 0 (with_value (whole_of h) q.1.0 m1) (Got at' h g m0 m1 result) (result_at program at res) (result q.1.0) _ (b q.1.0 q.1.1)
      (asks_then bad 0 (with_value (whole_of h) q.1.0 m1) (Got at' h g m0 m1 result) (λ memory. Ok (left (length m0.cells) memory)) (left (length m0.cells) (with_value (whole_of h) q.1.0 m1)) (λ outside. remembers outside >> pure (result q.1.0)) refl
      (remembers_then bad 0 (with_value (whole_of h) q.1.0 m1) (left (length m0.cells) (with_value (whole_of h) q.1.0 m1)) (Got at' h g m0 m1 result) (pure (result q.1.0))
      (does_pure bad (Is (left (length m0.cells) (with_value (whole_of h) q.1.0 m1))) (Got at' h g m0 m1 result) (result q.1.0) (λ n x. (q.1.0, q.1.1, refl, x)))))) s q.1.2

  call_does : (room : ℕ) (at : Site) (number : ℕ) (args : List Argument) (dummies : List ℕ) (res : Option ℕ) (at1 at' : Site) (to from : ℕ) (m0 m1 : Memory) (h g : Holding) (result : Value → Option Value) →
      not_active at number m0 ≡ Ok tt → procedure program number ≡ Ok (made dummies res at1 to at' from) → entered program at number dummies args m0 ≡ Ok m1 → holding program to m1 ≡ Ok h → holding program from m1 ≡ Ok g →
      ((e : End) → read_at at' (whole_of g) m1 ≡ Err e → bad e) →
      ((v : Value) → read_at at' (whole_of g) m1 ≡ Ok v → result_at program at res (with_value (whole_of h) v m1) ≡ Ok (result v)) →
      Does 4 (Is m0) (called program (bodies program (suc room)) at number args) (Got at' h g m0 m1 result) bad
  call_does room at number args dummies res at1 at' to from m0 m1 h g result free there enters e f b c =
      asks_then bad 4 m0 (Got at' h g m0 m1 result) (not_active at number) tt _ free
      (tick_then bad 3 m0 (Got at' h g m0 m1 result) (entering program (bodies program (suc room)) at number args)
      (told_then bad 3 (Is m0) (Got at' h g m0 m1 result) (procedure program number) (made dummies res at1 to at' from) _ there
      (asks_then bad 3 m0 (Got at' h g m0 m1 result) (λ memory. Ok (length memory.cells)) (length m0.cells)
      (λ mark. asks (entered program at number dummies args) >>= (λ inside. remembers inside >> (bodies program (suc room) number >> leaving program at (made dummies res at1 to at' from) mark))) refl
      (asks_then bad 3 m0 (Got at' h g m0 m1 result) (entered program at number dummies args) m1 _ enters
      (remembers_then bad 3 m0 m1 (Got at' h g m0 m1 result) _
      (does_binds bad 2 1 (Is m1) (Copied at' h g m1) (Got at' h g m0 m1 result) (bodies program (suc room) number) (λ _. leaving program at (made dummies res at1 to at' from) (length m0.cells))
      (told_then bad 2 (Is m1) (Copied at' h g m1) (procedure program number) (made dummies res at1 to at' from) _ there (copies (bodies program room) at1 to at' from m1 h g e f b))
      (leaves at dummies res at1 at' to from m0 m1 h g result c)))))))

-- where the bodies of procedures are cut at once, so is a call that comes to one
pub call_halts : (program : Program) (at : Site) (number : ℕ) (args : List Argument) (proc : Procedure) (m0 m1 : Memory) → not_active at number m0 ≡ Ok tt → procedure program number ≡ Ok proc → entered program at number proc.dummies args m0 ≡ Ok m1 →
    Does 4 (Is m0) (called program (bodies program zero) at number args) (λ _ _. ⊥) (λ e. e ≡ Cut)
call_halts program at number args proc m0 m1 free there enters =
    asks_then (λ e. e ≡ Cut) 4 m0 (λ _ _. ⊥) (not_active at number) tt _ free
    (tick_then (λ e. e ≡ Cut) 3 m0 (λ _ _. ⊥) (entering program (bodies program zero) at number args)
    (told_then (λ e. e ≡ Cut) 3 (Is m0) (λ _ _. ⊥) (procedure program number) proc _ there
    (asks_then (λ e. e ≡ Cut) 3 m0 (λ _ _. ⊥) (λ memory. Ok (length memory.cells)) (length m0.cells)
    (λ mark. asks (entered program at number proc.dummies args) >>= (λ inside. remembers inside >> (bodies program zero number >> leaving program at proc mark))) refl
    (asks_then (λ e. e ≡ Cut) 3 m0 (λ _ _. ⊥) (entered program at number proc.dummies args) m1 _ enters
    (remembers_then (λ e. e ≡ Cut) 3 m0 m1 (λ _ _. ⊥) (bodies program zero number >> leaving program at proc (length m0.cells))
    (λ s p. (inr refl, record { input = refl; output = refl })))))))

pub copy_calls : (program : Program) (room : ℕ) (at : Site) (number : ℕ) (args : List Argument) (m0 m1 : Memory) (c : IsCopyCall program at number args m0 m1) (h : AreHeld program at number args m0 m1 c) →
    Does 4 (Is m0) (called program (bodies program (suc room)) at number args) (Got c.from_at h.target h.source m0 m1 h.given) (λ e. read_at c.from_at (whole_of h.source) m1 ≡ Err e)
copy_calls program room at number args m0 m1 c h =
    call_does program (λ e. read_at c.from_at (whole_of h.source) m1 ≡ Err e) room at number args c.dummies c.result c.to_at c.from_at c.to c.from m0 m1 h.target h.source h.given c.free c.there c.enters h.target_held h.source_held (λ e q. q) h.gives

pub reads_take_one : (program : Program) (body : ℕ → M Way) (at : Site) (from : ℕ) (m : Memory) (h : Holding) → holding program from m ≡ Ok h →
    Does 1 (Is m) (value_of program body (variable (designator at from none no_section))) (λ v m'. (read_at at (whole_of h) m ≡ Ok v) × (m' ≡ m)) (λ e. read_at at (whole_of h) m ≡ Err e)
reads_take_one program body at from m h e = reads_in program (λ x. read_at at (whole_of h) m ≡ Err x) body at from m h e (λ x q. q)

-- after the step of a read
pub read_of_does : (program : Program) (body : ℕ → M Way) (at : Site) (from : ℕ) (m : Memory) (h : Holding) → holding program from m ≡ Ok h →
    Does 0 (Is m) (read_of program body (designator at from none no_section)) (λ v m'. (read_at at (whole_of h) m ≡ Ok v) × (m' ≡ m)) (λ e. read_at at (whole_of h) m ≡ Err e)
read_of_does program body at from m h e =
    asks_then (λ x. read_at at (whole_of h) m ≡ Err x) 0 m (λ v m'. (read_at at (whole_of h) m ≡ Ok v) × (m' ≡ m)) (holding program from) h _ e (asked_last (λ x. read_at at (whole_of h) m ≡ Err x) m (read_at at (whole_of h)) (λ x q. q))
