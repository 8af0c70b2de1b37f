-- An assignment of a swapped variable and a call of the subroutine that stands for it do the same, under a budget.
use Rattle.std.proofs.Common.{◌≡◌, ◌≤◌, ◌+◌, ◌-◌, ℕ, zero, suc, List, [], ◌∷◌, length, refl, sym, ap, subst, ◌∙◌, arith}
use Rattle.std.specs.Prelude.{None, Result, Ok, Err}
use Rattle.ftn_tree.specs.declared.value.Value.{Value}
use Rattle.ftn_tree.specs.Sorts.{sort_of_type, sort_of_value}
use Rattle.core_prog.specs.declared.site.Site.{Site}
use Rattle.core_prog.specs.Ends.{End, Cut, found}
use Rattle.core_prog.specs.Memory.{Memory, Place, place_of, read_at, with_value}
use Rattle.core_prog.specs.Programs.{Program}
use Rattle.core_prog.specs.Entries.{Argument, units, own, left}
use Rattle.core_prog.specs.Terms.{Term, variable, none, Designator, designator, no_section, Passed, no_passed, by_value, alone}
use Rattle.core_prog.specs.Actions as act
use Rattle.core_prog.specs.States.{State, Ran, Went, Ended, M, Way, GoOn, goes_on, ◌>>=◌, ◌>>◌, pure, tick, told, asks, puts}
use Rattle.core_prog.specs.Values.{value_of, place_at, read_of, arguments_of, called}
use Rattle.core_prog.specs.Statements as stmts
use Rattle.core_prog.specs.Runs.{bodies}
use Rattle.core_prog.specs.Lasting.{Passes}
use Rattle.core_prog.proofs.Passing.{later_same, passes_binds, passes_asks, passes_called, bodies_pass, passing}
use Rattle.core_sim.specs.Pairings.{Pairing, Swap, partner}
use Rattle.core_sim.specs.Premises.{Premises}
use Rattle.core_sim.specs.Swaps.{IsSwap}
use Rattle.core_sim.specs.Paired.{Meets, HasTypes, Paired, PairedMemory}
use Rattle.core_sim.specs.Keeping.{Budget, Alike}
use Rattle.core_sim.specs.Copying.{Does, Is, Got, made, whole_of}
use Rattle.core_sim.proofs.Answering.{Same, Any, Answers, PlaceSame, ok_same, ok_err, err_ok, err_same}
use Rattle.core_sim.proofs.Doing.{does_binds, does_pure, asked_then, puts_then}
use Rattle.core_sim.proofs.Copying.{call_halts}
use Rattle.core_sim.proofs.Giving.{Given}
use Rattle.core_sim.proofs.Places.{meets_at}
use Rattle.core_sim.proofs.Swapping.{free_at, source_old, source_new}
use Rattle.core_sim.proofs.Setting.{took, one_taken, no_text, dummy_held, in_setter, setter_enters, setter_call, reads_own, reads_units, setter_leaves}
use Rattle.core_sim.proofs.Spending.{Spending, gain_step, four_more, then_with, halts}
use Rattle.core_sim.proofs.Stepping.{Rel, closed}
use Rattle.core_sim.proofs.Reading.{at_fault}
use Rattle.core_sim.proofs.Placing.{joined, goes_same}

-- ---- computations put together

argued : {A : Type 0} (r : Ran Value) (k : List Argument → M A) → goes_on (goes_on r (λ v. pure [] >>= (λ args. pure (own v 1 ∷ args)))) k ≡ goes_on r (λ v. k (own v 1 ∷ []))
argued (Went v t) k = refl
argued (Ended e t) k = refl

argued_by : {A : Type 0} (r : Ran Place) (k : List Argument → M A) → goes_on (goes_on r (λ p. pure [] >>= (λ args. pure (units p.first p.units p.units ∷ args)))) k ≡ goes_on r (λ p. k (units p.first p.units p.units ∷ []))
argued_by (Went p t) k = refl
argued_by (Ended e t) k = refl

module _ (pairing : Pairing) (old new : Program) (premises : Premises pairing old new) (s : Swap) (w : IsSwap pairing old new s) where
  -- the value put into the variable
  abbrev pub storing : Value → M Way
  storing v = puts (whole_of (source_old pairing old new premises s w).h) v >> pure GoOn

  abbrev Put : Value → Memory → Way → Memory → Type 0
  Put v m way n = (way ≡ GoOn) × (n ≡ with_value (whole_of (source_old pairing old new premises s w).h) v m)

  storing_does : (bad : End → Type 0) (v : Value) (m : Memory) → Does 0 (Is m) (storing v) (Put v m) bad
  storing_does bad v m =
      puts_then bad 0 m (Put v m) (whole_of (source_old pairing old new premises s w).h) v (pure GoOn)
      (does_pure bad (Is (with_value (whole_of (source_old pairing old new premises s w).h) v m)) (Put v m) GoOn (λ n q. (refl, q)))

  abbrev Copied : Site → Place → Memory → Way → Memory → Type 0
  Copied at p m way n = (way ≡ GoOn) × ((v : Value) × (read_at at p m ≡ Ok v) × (n ≡ with_value (whole_of (source_old pairing old new premises s w).h) v m))

  copying_does : (at : Site) (p : Place) (m : Memory) → Does 0 (Is m) (asks (read_at at p) >>= storing) (Copied at p m) (λ e. read_at at p m ≡ Err e)
  copying_does at p m =
      asked_then (λ e. read_at at p m ≡ Err e) 0 m (Copied at p m) (read_at at p) storing
      (λ v q. puts_then (λ e. read_at at p m ≡ Err e) 0 m (Copied at p m) (whole_of (source_old pairing old new premises s w).h) v (pure GoOn)
      (does_pure (λ e. read_at at p m ≡ Err e) (Is (with_value (whole_of (source_old pairing old new premises s w).h) v m)) (Copied at p m) GoOn (λ n x. (refl, (v, q, x))))) (λ e q. q)

  -- the target is there at once
  target_there : {A : Type 0} (body : ℕ → M Way) (at : Site) (k : Place → M A) (t : State) → (place_at old body (designator at s.variable none no_section) >>= k) t ≡ k (whole_of (source_old pairing old new premises s w).h) t
  target_there body at k t =
      ap (λ q. goes_on (goes_on (told q t) (λ h. pure [] >>= (λ zs. pure None >>= (λ r. told (place_of at h zs r))))) k) ((source_old pairing old new premises s w).held t.memory)

  -- ---- the call

  abbrev pub setting : ℕ → Site → Argument → M Way
  setting room at a = called new (bodies new room) at s.setter (a ∷ []) >> pure GoOn

  abbrev Stored : Argument → Memory → Way → Memory → Type 0
  Stored a m0 way n = (way ≡ GoOn) × ((v : Value) × (read_at w.setter.from (whole_of (dummy_held pairing old new premises s w (took (length m0.cells) a))) (in_setter pairing old new premises s w a m0) ≡ Ok v)
      × (n ≡ left (length m0.cells) (with_value (whole_of (source_new pairing old new premises s w).h) v (in_setter pairing old new premises s w a m0))))

  abbrev Unread : Argument → Memory → End → Type 0
  Unread a m0 e = read_at w.setter.from (whole_of (dummy_held pairing old new premises s w (took (length m0.cells) a))) (in_setter pairing old new premises s w a m0) ≡ Err e

  setting_does : (room : ℕ) (at : Site) (a : Argument) (h : ℕ) (m m0 : Memory) → PairedMemory pairing old new h m m0 → (took (length m0.cells) a).units ≡ 1 → Does 4 (Is m0) (setting (suc room) at a) (Stored a m0) (Unread a m0)
  setting_does room at a h m m0 paired one =
      does_binds (Unread a m0) 4 0 (Is m0) (Got w.setter.from (source_new pairing old new premises s w).h (dummy_held pairing old new premises s w (took (length m0.cells) a)) m0 (in_setter pairing old new premises s w a m0) (λ _. None)) (Stored a m0)
      (called new (bodies new (suc room)) at s.setter (a ∷ [])) (λ _. pure GoOn) (setter_call pairing old new premises s w room at a h m m0 paired one)
      (λ r. does_pure (Unread a m0) (Got w.setter.from (source_new pairing old new premises s w).h (dummy_held pairing old new premises s w (took (length m0.cells) a)) m0 (in_setter pairing old new premises s w a m0) (λ _. None) r) (Stored a m0) GoOn (λ n q. (refl, (q.0, q.1, q.3))))

  setting_halts : (at : Site) (a : Argument) (h : ℕ) (m m0 : Memory) → PairedMemory pairing old new h m m0 → (took (length m0.cells) a).units ≡ 1 → Does 4 (Is m0) (setting zero at a) (λ _ _. ⊥) (λ e. e ≡ Cut)
  setting_halts at a h m m0 paired one =
      does_binds (λ e. e ≡ Cut) 4 0 (Is m0) (λ _ _. ⊥) (λ _ _. ⊥) (called new (bodies new zero) at s.setter (a ∷ [])) (λ _. pure GoOn)
      (call_halts new at s.setter (a ∷ []) (made (w.setter.dummy ∷ []) None w.setter.at (partner pairing.variable s.variable) w.setter.from w.setter.dummy) m0 (in_setter pairing old new premises s w a m0)
      (free_at pairing old new premises at s.setter h m m0 w.setter.made paired) (ap found w.setter.there) (setter_enters pairing old new premises s w at a m0 one)) (λ r t q. absurd q)

  pub setting_passes : (room : ℕ) (at : Site) (a : Argument) → Passes (setting room at a)
  setting_passes room at a = passes_binds (called new (bodies new room) at s.setter (a ∷ [])) (λ _. pure GoOn) (passes_called new (bodies new room) at s.setter (a ∷ []) (bodies_pass new room s.setter)) (λ _. later_same)

  pub storing_passes : (v : Value) → Passes (storing v)
  storing_passes v = passes_binds (puts (whole_of (source_old pairing old new premises s w).h) v) (λ _. pure GoOn) (passing.put 0 (whole_of (source_old pairing old new premises s w).h) v) (λ _. later_same)

  copying_passes : (at : Site) (p : Place) → Passes (asks (read_at at p) >>= storing)
  copying_passes at p = passes_binds (asks (read_at at p)) storing (passes_asks (read_at at p)) storing_passes

  -- ---- the two, under a budget

  module _ (family : ℕ → Budget) (spending : Spending family) (c : ℕ) where
    after_same : (h : ℕ) (a : Argument) (m m0 n n' : Memory) (v v' : Value) → PairedMemory pairing old new h m m0 → v ≡ v' → n ≡ with_value (whole_of (source_old pairing old new premises s w).h) v m →
        n' ≡ left (length m0.cells) (with_value (whole_of (source_new pairing old new premises s w).h) v' (in_setter pairing old new premises s w a m0)) → PairedMemory pairing old new h n n'
    after_same h a m m0 n n' v v' paired e f g =
        subst (λ x. PairedMemory pairing old new h x n') (sym f)
        (subst (λ x. PairedMemory pairing old new h (with_value (whole_of (source_old pairing old new premises s w).h) v m) x) (sym g)
        (subst (λ x. PairedMemory pairing old new h (with_value (whole_of (source_old pairing old new premises s w).h) v m) (left (length m0.cells) (with_value (whole_of (source_new pairing old new premises s w).h) x (in_setter pairing old new premises s w a m0)))) e
        (setter_leaves pairing old new premises s w a h m m0 v paired)))

    two_values : {A : Type 0} (r : Result A End) (a b : A) → r ≡ Ok a → r ≡ Ok b → a ≡ b
    two_values r a b e f = cc (e, f)

    no_error : {A : Type 0} (r : Result A End) (a : A) (e : End) → r ≡ Ok a → r ≡ Err e → ⊥
    no_error r a x e f = cc (e, f)

    -- with a value of the variable's type
    value_put : (room : ℕ) → (room ≡ zero → (family c).MayCutNew) → (at : Site) (v v' : Value) → v ≡ v' → sort_of_value v ≡ sort_of_type w.variable.ty → (h : ℕ) (t u : State) → Paired pairing old new h t u → (family (spending.next c)).Left t.left u.left →
        Alike pairing old new (family c) h Same (storing v t) (setting room at (own v' 1) u)
    value_put room may at v v' e o h t u q l = subst (λ x. Alike pairing old new (family c) h Same (storing v t) (setting room at (own x 1) u)) e (by_room room may)
      where
        taken : (took (length u.memory.cells) (own v 1)).units ≡ 1
        taken = one_taken w.variable.ty v (length u.memory.cells) (no_text pairing old new premises s w) o

        by_room : (room : ℕ) → (room ≡ zero → (family c).MayCutNew) → Alike pairing old new (family c) h Same (storing v t) (setting room at (own v 1) u)
        by_room zero may =
            halts pairing old new premises family spending c Same h 4 (storing v) t u (setting zero at (own v 1) u) (storing_passes v) (may refl) q.output (setting_halts at (own v 1) h t.memory u.memory q.memory taken u refl)
        by_room (suc room) may =
            four_more pairing old new premises family spending c Same h (Put v t.memory) (Stored (own v 1) u.memory) (λ e. ⊥) (Unread (own v 1) u.memory)
            (λ a b m m' k k'. (
              k.0 ∙ sym k'.0,
              after_same h (own v 1) t.memory u.memory m m' v k'.1.0 q.memory (two_values _ v k'.1.0 (reads_own pairing old new premises s w v u.memory o) k'.1.1) k.1 k'.1.2,
              subst (λ (x : Memory). HasTypes old x.active) (sym k.1) q.typed,
            ))
            (λ a m e k k'. no_error _ v e (reads_own pairing old new premises s w v u.memory o) k')
            (λ b m e k k'. k')
            (λ e e' k k'. absurd k)
            (λ e k. absurd k)
            t u q l (storing v t) (setting (suc room) at (own v 1) u) (storing_does (λ e. ⊥) v t.memory t refl) (setting_does room at (own v 1) h t.memory u.memory q.memory taken u refl)

    -- with units of the variable's type
    units_put : (room : ℕ) → (room ≡ zero → (family c).MayCutNew) → (from at : Site) (p p' : Place) → PlaceSame pairing old new p p' → p.ty ≡ w.variable.ty → p.units ≡ 1 → (h : ℕ) (t u : State) → Paired pairing old new h t u → (family (spending.next c)).Left t.left u.left →
        Alike pairing old new (family c) h Same ((asks (read_at from p) >>= storing) t) (setting room at (units p'.first p'.units p'.units) u)
    units_put room may from at p p' place ty one h t u q l =
        subst (λ n. Alike pairing old new (family c) h Same ((asks (read_at from p) >>= storing) t) (setting room at (units p'.first n n) u)) (sym (ap (λ (x : Place). x.units) place.same ∙ one)) (by_room room may)
      where
        none_added : (a : ℕ) → a + 0 ≡ a
        none_added a = omega arith

        first_of : (n : ℕ) → 0 ≤ n - 1
        first_of n = omega arith

        meets : Meets pairing old new p.first p'.first
        meets = meets_at pairing old new premises (p.first + 0) (p'.first + 0) p.first p'.first (none_added p.first) (none_added p'.first) (place.near 0 (first_of p.units))

        both_read : Answers Same (read_at from p t.memory) (read_at w.setter.from (whole_of (dummy_held pairing old new premises s w (took (length u.memory.cells) (units p'.first 1 1)))) (in_setter pairing old new premises s w (units p'.first 1 1) u.memory))
        both_read = reads_units pairing old new premises s w from p p'.first h t.memory u.memory q.memory meets ty one

        by_room : (room : ℕ) → (room ≡ zero → (family c).MayCutNew) → Alike pairing old new (family c) h Same ((asks (read_at from p) >>= storing) t) (setting room at (units p'.first 1 1) u)
        by_room zero may =
            halts pairing old new premises family spending c Same h 4 (asks (read_at from p) >>= storing) t u (setting zero at (units p'.first 1 1) u) (copying_passes from p) (may refl) q.output (setting_halts at (units p'.first 1 1) h t.memory u.memory q.memory refl u refl)
        by_room (suc room) may =
            four_more pairing old new premises family spending c Same h (Copied from p t.memory) (Stored (units p'.first 1 1) u.memory) (λ e. read_at from p t.memory ≡ Err e) (Unread (units p'.first 1 1) u.memory)
            (λ a b m m' k k'. (
              k.0 ∙ sym k'.0,
              after_same h (units p'.first 1 1) t.memory u.memory m m' k.1.0 k'.1.0 q.memory (ok_same _ _ k.1.0 k'.1.0 both_read k.1.1 k'.1.1) k.1.2 k'.1.2,
              subst (λ (x : Memory). HasTypes old x.active) (sym k.1.2) q.typed,
            ))
            (λ a m e k k'. ok_err _ _ k.1.0 e both_read k.1.1 k')
            (λ b m e k k'. err_ok _ _ k.1.0 e both_read k' k.1.1)
            (λ e e' k k'. err_same _ _ e e' both_read k k')
            (λ e k. at_fault from p t.memory e k)
            t u q l ((asks (read_at from p) >>= storing) t) (setting (suc room) at (units p'.first 1 1) u) (copying_does from p t.memory t refl) (setting_does room at (units p'.first 1 1) h t.memory u.memory q.memory refl u refl)

    -- ---- whole assignments

    abbrev assigned : (body : ℕ → M Way) → Site → Term → M Way
    assigned body at t = place_at old body (designator at s.variable none no_section) >>= (λ p. value_of old body t >>= (λ v. puts p v >> pure GoOn))

    abbrev calling : (room : ℕ) → Site → Passed → M Way
    calling room at args = arguments_of new (bodies new room) args >>= (λ given. called new (bodies new room) at s.setter given >> pure GoOn)

    -- the right side is a value
    pub value_assigned : (body : ℕ → M Way) (room : ℕ) → (room ≡ zero → (family c).MayCutNew) → (from at : Site) (t t' : Term) (h : ℕ) (X : Type 0) → Rel pairing old new premises (family (spending.next c)) (spending.counts (spending.next c)) X h h Value Value Same (value_of old body t) (value_of new (bodies new room) t') →
        ((x : State) → HasTypes old x.memory.active → Given (λ v n. sort_of_value v ≡ sort_of_type w.variable.ty) (value_of old body t x)) → Passes (assigned body from t) → Passes (calling room at (by_value t' no_passed)) → X → (x x' : State) → Paired pairing old new h x x' → (family c).Left x.left x'.left →
        Alike pairing old new (family c) h Same (stmts.act old body (act.assign (designator from s.variable none no_section) t) x) (stmts.act new (bodies new room) (act.call at s.setter (by_value t' no_passed)) x')
    value_assigned body room may from at t t' h X r sorted p p' known x x' q l =
        gain_step pairing old new premises family spending c Same (assigned body from t) (calling room at (by_value t' no_passed)) p p' h
        (λ u u' y z. subst (λ o. Alike pairing old new (family c) h Same o (calling room at (by_value t' no_passed) u')) (sym (target_there body from (λ p. value_of old body t >>= (λ v. puts p v >> pure GoOn)) u))
        (subst (λ o. Alike pairing old new (family c) h Same ((value_of old body t >>= storing) u) o) (sym (argued (value_of new (bodies new room) t' u') (λ given. called new (bodies new room) at s.setter given >> pure GoOn)))
        (then_with pairing old new premises family spending c h Same Same (λ v n. sort_of_value v ≡ sort_of_type w.variable.ty) (value_of old body t u) (value_of new (bodies new room) t' u') storing (λ v. setting room at (own v 1)) storing_passes (λ v. setting_passes room at (own v 1)) (sorted u y.typed)
        (λ v v' e b b' o k i. value_put room may at v v' e o h b b' k i) (r.2 known u u' y z))))
        x x' q l

    -- the right side is a variable, an element of an array
    pub units_assigned : (body : ℕ → M Way) (room : ℕ) → (room ≡ zero → (family c).MayCutNew) → (from at read : Site) (d d' : Designator) (h : ℕ) (X : Type 0) → Rel pairing old new premises (family (spending.next c)) (spending.counts (spending.next c)) X h h Place Place (PlaceSame pairing old new) (place_at old body d) (place_at new (bodies new room) d') →
        ((y : State) → read_of old body d y ≡ (place_at old body d >>= (λ p. asks (read_at read p))) y) → ((x : State) → HasTypes old x.memory.active → Given (λ (p : Place) n. (p.ty ≡ w.variable.ty) × (p.units ≡ 1)) (place_at old body d x)) →
        Passes (assigned body from (variable d)) → Passes (calling room at (alone d' no_passed)) → X → (x x' : State) → Paired pairing old new h x x' → (family c).Left x.left x'.left →
        Alike pairing old new (family c) h Same (stmts.act old body (act.assign (designator from s.variable none no_section) (variable d)) x) (stmts.act new (bodies new room) (act.call at s.setter (alone d' no_passed)) x')
    units_assigned body room may from at read d d' h X r read_so typed p p' known x x' q l =
        gain_step pairing old new premises family spending c Same (assigned body from (variable d)) (calling room at (alone d' no_passed)) p p' h
        (λ u u' y z. subst (λ o. Alike pairing old new (family c) h Same o (calling room at (alone d' no_passed) u')) (sym (target_there body from (λ p. value_of old body (variable d) >>= (λ v. puts p v >> pure GoOn)) u ∙ reads u))
        (subst (λ o. Alike pairing old new (family c) h Same (goes_on (tick u) (λ _. place_at old body d >>= (λ p. asks (read_at read p) >>= storing))) o) (sym (gives u'))
        (then_with pairing old new premises family spending c h (Any {A = Unit {0}} {B = Unit {0}}) Same (λ _ n. Unit {0}) (tick u) (tick u') (λ _. place_at old body d >>= (λ p. asks (read_at read p) >>= storing)) (λ _. place_at new (bodies new room) d' >>= (λ p. setting room at (units p.first p.units p.units)))
        (λ _. passes_binds (place_at old body d) (λ p. asks (read_at read p) >>= storing) r.0 (λ p. copying_passes read p)) (λ _. passes_binds (place_at new (bodies new room) d') (λ p. setting room at (units p.first p.units p.units)) r.1 (λ p. setting_passes room at (units p.first p.units p.units)))
        (any_given (tick u)) (λ a b e v v' o k i.
        then_with pairing old new premises family spending c h (PlaceSame pairing old new) Same (λ (p : Place) n. (p.ty ≡ w.variable.ty) × (p.units ≡ 1)) (place_at old body d v) (place_at new (bodies new room) d' v') (λ p. asks (read_at read p) >>= storing) (λ p. setting room at (units p.first p.units p.units))
        (λ p. copying_passes read p) (λ p. setting_passes room at (units p.first p.units p.units)) (typed v k.typed) (λ p p' same b b' one k i. units_put room may read at p p' same one.0 one.1 h b b' k i) (r.2 known v v' k i))
        (((closed pairing old new premises (family (spending.next c)) (spending.counts (spending.next c))).ticks {X = Unit {0}} h).2 tt u u' y z))))
        x x' q l
      where
        any_given : {A : Type 0} (r : Ran A) → Given (λ (_ : A) (_ : Memory). Unit {0}) r
        any_given (Went a t) = tt
        any_given (Ended e t) = tt

        reads : (u : State) → (value_of old body (variable d) >>= storing) u ≡ goes_on (tick u) (λ _. place_at old body d >>= (λ p. asks (read_at read p) >>= storing))
        reads u =
            joined (tick u) (λ _. read_of old body d) storing
            ∙ goes_same (tick u) (λ _ y. goes_on (read_of old body d y) storing) (λ _. place_at old body d >>= (λ p. asks (read_at read p) >>= storing))
            (λ _ y. ap (λ o. goes_on o storing) (read_so y) ∙ joined (place_at old body d y) (λ p. asks (read_at read p)) storing)

        gives : (u : State) → calling room at (alone d' no_passed) u ≡ goes_on (tick u) (λ _. place_at new (bodies new room) d' >>= (λ p. setting room at (units p.first p.units p.units)))
        gives u =
            joined (tick u) (λ _. place_at new (bodies new room) d' >>= (λ p. pure [] >>= (λ args. pure (units p.first p.units p.units ∷ args)))) (λ given. called new (bodies new room) at s.setter given >> pure GoOn)
            ∙ goes_same (tick u) (λ _ y. goes_on ((place_at new (bodies new room) d' >>= (λ p. pure [] >>= (λ args. pure (units p.first p.units p.units ∷ args)))) y) (λ given. called new (bodies new room) at s.setter given >> pure GoOn))
            (λ _. place_at new (bodies new room) d' >>= (λ p. setting room at (units p.first p.units p.units))) (λ _ y. argued_by (place_at new (bodies new room) d' y) (λ given. called new (bodies new room) at s.setter given >> pure GoOn))
