-- Reads of a swapped variable, under a budget.
use Rattle.std.proofs.Common.{◌≡◌, ◌≤◌, ◌+◌, ◌*◌, ℕ, zero, suc, [], length, refl, sym, ap, subst, ◌∙◌, arith}
use Rattle.std.specs.Prelude.{◌==◌, Bool, true, false, not, ◌&&◌, nat_eq, slice_get, if◌then◌else◌, Option, Some, None, Ok, Err}
use Rattle.std.proofs.lemmas.Bool.Decides.{nat_tests}
use Rattle.ftn_tree.specs.declared.value.Value.{Value}
use Rattle.core_prog.specs.declared.site.Site.{Site}
use Rattle.core_prog.specs.declared.storage.Variable.{Variable}
use Rattle.core_prog.specs.declared.outcome.FaultCode.TheVariants as code
use Rattle.core_prog.specs.Contents.{units_from, value_in}
use Rattle.core_prog.specs.Ends.{End, Faulted, Cut, or_end, found}
use Rattle.core_prog.specs.Memory.{Memory, Place, read_at, with_value, place_of}
use Rattle.core_prog.specs.Holdings.{holding}
use Rattle.core_prog.specs.Programs.{Program}
use Rattle.core_prog.specs.Entries.{left}
use Rattle.core_prog.specs.Terms.{variable, call, Terms, none, more, designator, Section, no_section, section, no_passed}
use Rattle.ftn_tree.specs.Sorts.{Sort, Whole, Truth, Text, is_sort, sort_of_type}
use Rattle.core_prog.specs.Sorts.{is_scalar, ranged, element_sort, count_of, has_range, are_wholes, is_range, sort_of_designator}
use Rattle.core_prog.specs.Sorts as sorts
use Rattle.core_prog.specs.States.{State, M, Way, ◌>>=◌, told, asks}
use Rattle.core_prog.specs.Values.{value_of, read_of, called}
use Rattle.core_prog.specs.Runs.{bodies}
use Rattle.core_prog.specs.Lasting.{Passes}
use Rattle.core_prog.proofs.Passing.{passes_binds, passes_asks, passes_told, passes_called, bodies_pass}
use Rattle.core_sim.specs.Pairings.{Pairing, Swap, partner}
use Rattle.core_sim.specs.Renaming.{swap_of}
use Rattle.core_sim.specs.Premises.{Premises}
use Rattle.core_sim.specs.Swaps.{IsSwap, is_one_unit}
use Rattle.core_sim.specs.Paired.{HasTypes, Paired, PairedMemory}
use Rattle.core_sim.specs.Keeping.{Budget, so_many, no_more, IsFault, Alike, KeepsWithin}
use Rattle.core_sim.specs.Copying.{Outcome, Does, Is, Got, made, whole_of}
use Rattle.core_sim.proofs.Answering.{Same, ok_same, ok_err, err_ok, err_same}
use Rattle.core_sim.proofs.Typed.{Has, has_if, both}
use Rattle.core_sim.proofs.Doing.{does_binds, does_pure}
use Rattle.core_sim.proofs.Copying.{read_of_does, call_halts}
use Rattle.core_sim.proofs.Swapping.{free_at, source_old, source_new, result_new, in_getter, getter_call, getter_reads, getter_leaves}
use Rattle.core_sim.proofs.Spending.{Spending, gain_step, four_more, halts, no_more_spending, so_many_spending, at_least, at_least_spending, at_most_each, at_most_spending, costs, same_sum}

-- a read that fails is a fault
pub at_fault : (at : Site) (p : Place) (m : Memory) (e : End) → read_at at p m ≡ Err e → IsFault e
at_fault at p m e q = by_value (value_in p.ty (units_from p.first p.units m.cells)) q
  where
    by_value : (o : Option Value) → or_end (Faulted code.Undefined at) o ≡ Err e → IsFault e
    by_value None q = let same : Faulted code.Undefined at ≡ e = cc q in subst IsFault same tt
    by_value (Some v) q = absurd (cc q)

-- ---- how such a variable is written

no_rank : (c : ℕ) (n : ℕ) → (n == 0) ≡ true → (n == (1 + c)) ≡ true → ⊥
no_rank c n h k = grind (arith, nat_tests)

pub no_range : (s : Sort) (range : Section) → not (is_sort Text (Some s)) ≡ true → Has (ranged (has_range range) s) → range ≡ no_section
no_range s no_section t h = refl
no_range Whole (section low high) t h = absurd h
no_range Truth (section low high) t h = absurd h
no_range Text (section low high) t h = absurd (cc t)

shape : (program : Program) (v : Variable) (subscripts : Terms) (range : Section) → is_one_unit v ≡ true → Has (if are_wholes program subscripts && is_range program range then element_sort (length v.dimensions) (count_of subscripts) (has_range range) (sort_of_type v.ty) else None) →
    (subscripts ≡ none) × (range ≡ no_section)
shape program v none range q h =
    let p = has_if (are_wholes program none && is_range program range) (element_sort (length v.dimensions) 0 (has_range range) (sort_of_type v.ty)) h in
    let r = has_if (length v.dimensions == 0) (ranged (has_range range) (sort_of_type v.ty)) p.1 in
    (refl, no_range (sort_of_type v.ty) range (both (is_scalar v) (not (is_sort Text (Some (sort_of_type v.ty)))) q).1 r.1)
shape program v (more t rest) range q h =
    let p = has_if (are_wholes program (more t rest) && is_range program range) (element_sort (length v.dimensions) (count_of (more t rest)) (has_range range) (sort_of_type v.ty)) h in
    let r = has_if (length v.dimensions == count_of (more t rest)) (ranged (has_range range) (sort_of_type v.ty)) p.1 in
    absurd (no_rank (count_of rest) (length v.dimensions) (both (is_scalar v) (not (is_sort Text (Some (sort_of_type v.ty)))) q).0 r.0)

pub plain_shape : (program : Program) (number : ℕ) (v : Variable) (at : Site) (subscripts : Terms) (range : Section) → slice_get program.variables number ≡ Some v → is_one_unit v ≡ true → Has (sort_of_designator program (designator at number subscripts range)) →
    (subscripts ≡ none) × (range ≡ no_section)
plain_shape program number v at subscripts range d q h =
    shape program v subscripts range q
    (subst (λ o. Has (sorts.◌>>=◌ o (λ w. if are_wholes program subscripts && is_range program range then element_sort (length w.dimensions) (count_of subscripts) (has_range range) (sort_of_type w.ty) else None))) d h)

pub swapped_number : (swap : Option Swap) (number : ℕ) (s : Swap) → swap_of swap number ≡ Some s → (swap ≡ Some s) × (number ≡ s.variable)
swapped_number None number s e = absurd (cc e)
swapped_number (Some t) number s e = by_test (nat_eq t.variable number) (λ q. grind (arith, nat_tests)) e
  where
    by_test : (b : Bool) → (b ≡ true → number ≡ t.variable) → (if b then Some t else None) ≡ Some s → (Some t ≡ Some s) × (number ≡ s.variable)
    by_test true f e = let same : t ≡ s = cc e in (e, f refl ∙ ap (λ (x : Swap). x.variable) same)
    by_test false f e = absurd (cc e)

module _ (pairing : Pairing) (old new : Program) (premises : Premises pairing old new) (s : Swap) (w : IsSwap pairing old new s) (family : ℕ → Budget) (spending : Spending family) (c : ℕ) where
  -- what the call gives as an expression
  abbrev Given : Memory → Value → Memory → Type 0
  Given m0 v m' = (read_at w.getter.from (whole_of (source_new pairing old new premises s w).h) (in_getter pairing old new premises s w m0) ≡ Ok v)
      × (m' ≡ left (length m0.cells) (with_value (whole_of (result_new pairing old new premises s w).h) v (in_getter pairing old new premises s w m0)))

  abbrev Missed : Memory → End → Type 0
  Missed m0 e = read_at w.getter.from (whole_of (source_new pairing old new premises s w).h) (in_getter pairing old new premises s w m0) ≡ Err e

  given_does : (room : ℕ) (at : Site) (h : ℕ) (m m0 : Memory) → PairedMemory pairing old new h m m0 → Does 4 (Is m0) (called new (bodies new (suc room)) at s.getter [] >>= (λ r. told (found r))) (Given m0) (Missed m0)
  given_does room at h m m0 paired =
      does_binds (Missed m0) 4 0 (Is m0) (Got w.getter.from (result_new pairing old new premises s w).h (source_new pairing old new premises s w).h m0 (in_getter pairing old new premises s w m0) Some) (Given m0) _ _
      (getter_call pairing old new premises s w room at h m m0 paired) (λ r t q. by_result r q.0 q.2 t (q.1, q.3))
    where
      by_result : (r : Option Value) (v : Value) → r ≡ Some v → (t : State) → Given m0 v t.memory → Outcome 0 (Given m0) (Missed m0) t (told (found r) t)
      by_result None v e t g = absurd (cc e)
      by_result (Some u) v e t g = let same : v ≡ u = cc (sym e) in does_pure (Missed m0) (Given m0 u) (Given m0) u (λ n x. x) t (subst (λ x. Given m0 x t.memory) same g)

  pub reads_alike : (body : ℕ → M Way) (room : ℕ) (at at' : Site) (h : ℕ) → Passes (read_of old body (designator at s.variable none no_section)) → Passes (called new (bodies new (suc room)) at' s.getter [] >>= (λ r. told (found r))) →
      (t t' : State) → Paired pairing old new h t t' → (family c).Left t.left t'.left → Alike pairing old new (family c) h Same (value_of old body (variable (designator at s.variable none no_section)) t) (value_of new (bodies new (suc room)) (call at' s.getter no_passed) t')
  reads_alike body room at at' h p p' t t' q l =
      gain_step pairing old new premises family spending c Same (read_of old body (designator at s.variable none no_section)) (called new (bodies new (suc room)) at' s.getter [] >>= (λ r. told (found r))) p p' h
      (λ u u' x y. four_more pairing old new premises family spending c Same h (λ v m'. (read_at at (whole_of (source_old pairing old new premises s w).h) u.memory ≡ Ok v) × (m' ≡ u.memory)) (Given u'.memory) (λ e. read_at at (whole_of (source_old pairing old new premises s w).h) u.memory ≡ Err e) (Missed u'.memory)
      (λ a b m m' k k'. (
        ok_same (read_at at (whole_of (source_old pairing old new premises s w).h) u.memory) (read_at w.getter.from (whole_of (source_new pairing old new premises s w).h) (in_getter pairing old new premises s w u'.memory)) a b (getter_reads pairing old new premises s w at h u.memory u'.memory x.memory) k.0 k'.0,
        subst (λ z. PairedMemory pairing old new h z m') (sym k.1) (subst (λ z. PairedMemory pairing old new h u.memory z) (sym k'.1) (getter_leaves pairing old new premises s w h u.memory u'.memory b x.memory k'.0)),
        subst (λ (z : Memory). HasTypes old z.active) (sym k.1) x.typed,
      ))
      (λ a m e k k'. ok_err (read_at at (whole_of (source_old pairing old new premises s w).h) u.memory) (read_at w.getter.from (whole_of (source_new pairing old new premises s w).h) (in_getter pairing old new premises s w u'.memory)) a e (getter_reads pairing old new premises s w at h u.memory u'.memory x.memory) k.0 k')
      (λ b m e k k'. err_ok (read_at at (whole_of (source_old pairing old new premises s w).h) u.memory) (read_at w.getter.from (whole_of (source_new pairing old new premises s w).h) (in_getter pairing old new premises s w u'.memory)) b e (getter_reads pairing old new premises s w at h u.memory u'.memory x.memory) k' k.0)
      (λ e e' k k'. err_same (read_at at (whole_of (source_old pairing old new premises s w).h) u.memory) (read_at w.getter.from (whole_of (source_new pairing old new premises s w).h) (in_getter pairing old new premises s w u'.memory)) e e' (getter_reads pairing old new premises s w at h u.memory u'.memory x.memory) k k')
      (λ e k. at_fault at (whole_of (source_old pairing old new premises s w).h) u.memory e k)
      u u' x y (read_of old body (designator at s.variable none no_section) u) ((called new (bodies new (suc room)) at' s.getter [] >>= (λ r. told (found r))) u')
      (read_of_does old body at s.variable u.memory (source_old pairing old new premises s w).h ((source_old pairing old new premises s w).held u.memory) u refl)
      (given_does room at' h u.memory u'.memory x.memory u' refl))
      t t' q l

  given_halts : (at : Site) (h : ℕ) (m m0 : Memory) → PairedMemory pairing old new h m m0 → Does 4 (Is m0) (called new (bodies new zero) at s.getter [] >>= (λ r. told (found r))) (λ _ _. ⊥) (λ e. e ≡ Cut)
  given_halts at h m m0 paired =
      does_binds (λ e. e ≡ Cut) 4 0 (Is m0) (λ _ _. ⊥) (λ _ _. ⊥) (called new (bodies new zero) at s.getter []) (λ r. told (found r))
      (call_halts new at s.getter [] (made [] (Some w.getter.result) w.getter.at w.getter.result w.getter.from (partner pairing.variable s.variable)) m0 (in_getter pairing old new premises s w m0)
      (free_at pairing old new premises at s.getter h m m0 w.getter.made paired) (ap found w.getter.there) refl) (λ r t q. absurd q)

  -- whatever the number by which the bodies of the new program are defined
  pub reads_alike_at : (body : ℕ → M Way) (room : ℕ) → (room ≡ zero → (family c).MayCutNew) → (at at' : Site) (h : ℕ) → Passes (read_of old body (designator at s.variable none no_section)) → Passes (called new (bodies new room) at' s.getter [] >>= (λ r. told (found r))) →
      (t t' : State) → Paired pairing old new h t t' → (family c).Left t.left t'.left → Alike pairing old new (family c) h Same (value_of old body (variable (designator at s.variable none no_section)) t) (value_of new (bodies new room) (call at' s.getter no_passed) t')
  reads_alike_at body zero may at at' h p p' t t' q l =
      gain_step pairing old new premises family spending c Same (read_of old body (designator at s.variable none no_section)) (called new (bodies new zero) at' s.getter [] >>= (λ r. told (found r))) p p' h
      (λ u u' x y. halts pairing old new premises family spending c Same h 4 (read_of old body (designator at s.variable none no_section)) u u' ((called new (bodies new zero) at' s.getter [] >>= (λ r. told (found r))) u') p (may refl) x.output (given_halts at' h u.memory u'.memory x.memory u' refl))
      t t' q l
  reads_alike_at body (suc room) may at at' h p p' t t' q l = reads_alike body room at at' h p p' t t' q l

pub read_passes : (program : Program) (body : ℕ → M Way) (at : Site) (number : ℕ) → Passes (read_of program body (designator at number none no_section))
read_passes program body at number =
    passes_binds (asks (holding program number)) (λ h. told (place_of at h [] None) >>= (λ p. asks (read_at at p))) (passes_asks (holding program number)) (λ h.
    passes_binds (told (place_of at h [] None)) (λ p. asks (read_at at p)) (passes_told (place_of at h [] None)) (λ p. passes_asks (read_at at p)))

pub call_passes : (program : Program) (room : ℕ) (at : Site) (number : ℕ) → Passes (called program (bodies program room) at number [] >>= (λ r. told (found r)))
call_passes program room at number = passes_binds (called program (bodies program room) at number []) (λ r. told (found r)) (passes_called program (bodies program room) at number [] (bodies_pass program room number)) (λ r. passes_told (found r))

pub reads_keep : (pairing : Pairing) (old new : Program) → Premises pairing old new → (s : Swap) → IsSwap pairing old new s → (factor : ℕ) → 5 ≤ factor → (room : ℕ) (at at' : Site) →
    KeepsWithin pairing old new (Unit {0}) factor Same (value_of old (bodies old room) (variable (designator at s.variable none no_section))) (value_of new (bodies new (suc room)) (call at' s.getter no_passed))
reads_keep pairing old new premises s w factor h room at at' = record {
  forth = λ height t t' q l. under (so_many (Unit {0}) factor) (so_many_spending factor h) 0 height t t' q l;
  back = λ height t t' q l. under (λ c. no_more (Unit {0})) no_more_spending 0 height t t' q l;
  steps = λ height t t' q.
      costs pairing old new (Unit {0}) factor height Same t t' (value_of old (bodies old room) (variable (designator at s.variable none no_section)) t) (value_of new (bodies new (suc room)) (call at' s.getter no_passed) t')
      (under (λ c. at_least (Unit {0}) t.left t'.left) (at_least_spending t.left t'.left) 0 height t t' q (same_sum t.left t'.left))
      (under (λ c. at_most_each (Unit {0}) factor c (factor * t.left)) (at_most_spending factor (factor * t.left) h) t'.left height t t' q (same_sum t'.left (factor * t.left)));
}
  where
    under : (family : ℕ → Budget) → Spending family → (c height : ℕ) (t t' : State) → Paired pairing old new height t t' → (family c).Left t.left t'.left →
        Alike pairing old new (family c) height Same (value_of old (bodies old room) (variable (designator at s.variable none no_section)) t) (value_of new (bodies new (suc room)) (call at' s.getter no_passed) t')
    under family spending c height t t' q l = reads_alike pairing old new premises s w family spending c (bodies old room) room at at' height (read_passes old (bodies old room) at s.variable) (call_passes new (suc room) at' s.getter) t t' q l
