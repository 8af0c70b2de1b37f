-- Statements and runs of two programs of which the new one calls procedures in place of variables.
use Rattle.std.proofs.Common.{◌≡◌, ◌≤◌, ◌+◌, ◌*◌, ℕ, zero, suc, length, refl, sym, ap, subst, ◌∙◌, arith}
use Rattle.std.specs.Prelude.{Bool, true, false, slice_get, Option, Some, None}
use Rattle.ftn_tree.specs.declared.value.Value.{Value}
use Rattle.ftn_tree.specs.Sorts.{Sort, Whole, Truth, Text, is_sort, sort_of_type}
use Rattle.core_prog.specs.declared.site.Site.{Site}
use Rattle.core_prog.specs.declared.storage.Variable.{Variable}
use Rattle.core_prog.specs.Ends.{Cut}
use Rattle.core_prog.specs.Memory.{Place}
use Rattle.core_prog.specs.Programs.{Program, Procedure}
use Rattle.core_prog.specs.Holdings.{procedure}
use Rattle.core_prog.specs.Terms.{Term, literal, paren, unary, binary, variable, constant, intrinsic, call, Terms, none, Designator, designator, Section, no_section, Passed, no_passed, by_value, alone}
use Rattle.core_prog.specs.Actions as act
use Rattle.core_prog.specs.States.{State, M, Way, GoOn, ◌>>=◌, ◌>>◌, pure, tick, told, puts}
use Rattle.core_prog.specs.Values.{value_of, place_at, arguments_of, called}
use Rattle.core_prog.specs.Statements.{block}
use Rattle.core_prog.specs.Statements as stmts
use Rattle.core_prog.specs.Runs.{bodies, start}
use Rattle.core_prog.specs.Sorts.{element_sort, sort_of, sort_of_designator}
use Rattle.core_prog.specs.Lawful.{agree, has_sort, is_action, is_block}
use Rattle.core_prog.specs.Lasting.{Passes, state_of}
use Rattle.core_prog.proofs.Passing.{later_same, passes_binds, passes_tick, passes_called, passing, bodies_pass, blocks_pass, values_pass}
use Rattle.core_prog.proofs.Keeping.{place_kept, arguments_kept}
use Rattle.core_prog.proofs.Returning.{bodies_return}
use Rattle.core_prog.proofs.MoreSteps.{room_free, room_free_of_values}
use Rattle.core_sim.specs.Pairings.{Pairing, Swap, partner, IsPaired}
use Rattle.core_sim.specs.Renaming.{number_of, site_of, swap_of, read_as, passed_as, passed_of, renamed_term, renamed_designator, renamed_block}
use Rattle.core_sim.specs.Covering.{CoversTerm, CoversDesignator, CoversAction, CoversBlock}
use Rattle.core_sim.specs.Premises.{Premises}
use Rattle.core_sim.specs.Swaps.{IsSwap}
use Rattle.core_sim.specs.Paired.{Paired}
use Rattle.core_sim.specs.Keeping.{Budget, so_many, no_more, IsFront, Alike, KeepsWithin, AlikeWithin, does_in, gives_in}
use Rattle.core_sim.proofs.Answering.{Same, PlaceSame}
use Rattle.core_sim.proofs.Calls.{ProcedureSame, procedure_same}
use Rattle.core_sim.proofs.Typed.{Has, some_has, agree_has}
use Rattle.core_sim.proofs.Places.{only_one}
use Rattle.core_sim.proofs.Valued.{first_some, element_sorted, value_sorted}
use Rattle.core_sim.proofs.Placing.{read_placed, place_typed}
use Rattle.core_sim.proofs.Setting.{no_text}
use Rattle.core_sim.proofs.Trees.{value_sim, place_sim, block_sim}
use Rattle.core_sim.proofs.Spending.{Spending, no_more_spending, so_many_spending, at_least, at_least_spending, at_most_each, at_most_spending, costs, same_sum, one_at_least}
use Rattle.core_sim.proofs.Stepping.{Rel, closed, lags_old, lags_new, later_front, grows}
use Rattle.core_sim.proofs.Reading.{plain_shape, swapped_number, reads_alike_at, read_passes, call_passes}
use Rattle.core_sim.proofs.Assigning.{value_assigned, units_assigned}
use Rattle.core_sim.proofs.Runs.{start_paired, forth_on, back_on}

-- ---- types of both sides of an assignment

same_sorts : (s sort : Sort) → is_sort s (Some sort) ≡ true → sort ≡ s
same_sorts Whole Whole h = refl
same_sorts Whole Truth h = absurd (cc h)
same_sorts Whole Text h = absurd (cc h)
same_sorts Truth Whole h = absurd (cc h)
same_sorts Truth Truth h = refl
same_sorts Truth Text h = absurd (cc h)
same_sorts Text Whole h = absurd (cc h)
same_sorts Text Truth h = absurd (cc h)
same_sorts Text Text h = refl

agreed : (o found : Option Sort) → agree o found ≡ true → (s : Sort) × (o ≡ Some s) × (found ≡ Some s)
agreed None found h = absurd (cc h)
agreed (Some s) None h = absurd (cc h)
agreed (Some s) (Some sort) h = (s, refl, ap Some (same_sorts s sort h))

target_sort : (program : Program) (number : ℕ) (v : Variable) (at : Site) (found : Option Sort) → slice_get program.variables number ≡ Some v → agree (sort_of_designator program (designator at number none no_section)) found ≡ true → found ≡ Some (sort_of_type v.ty)
target_sort program number v at found d h =
    let s = agreed (sort_of_designator program (designator at number none no_section)) found h in
    let w = first_some (slice_get program.variables number) (λ w. element_sort (length w.dimensions) 0 false (sort_of_type w.ty)) s.0 s.1 in
    let same : w.0 ≡ v = only_one (slice_get program.variables number) w.0 v w.1 d in
    s.2 ∙ ap Some (sym (element_sorted (length w.0.dimensions) 0 false (sort_of_type w.0.ty) s.0 w.2)) ∙ ap (λ (x : Variable). Some (sort_of_type x.ty)) same

module _ (pairing : Pairing) (old new : Program) (premises : Premises pairing old new) (family : ℕ → Budget) (spending : Spending family) where
  abbrev R : ℕ → Type 0 → ℕ → ℕ → (A B : Type 0) → (A → B → Type 0) → M A → M B → Type 0
  R c = Rel pairing old new premises (family c) (spending.counts c)

  -- of a swapped variable
  reads_rel : (c room room' : ℕ) → (room' ≡ zero → (family c).MayCutNew) → (unit : Option ℕ) (h : ℕ) (of : Designator) (s : Swap) → swap_of (pairing.swap unit) (number_of of) ≡ Some s →
      R c (CoversDesignator pairing of × Has (sort_of_designator old of)) h h Value Value Same (value_of old (bodies old room) (variable of)) (value_of new (bodies new room') (call (pairing.site (site_of of)) s.getter no_passed))
  reads_rel c room room' may unit h (designator at number subscripts range) s e = (
    values_pass old room (variable (designator at number subscripts range)),
    values_pass new room' (call (pairing.site at) s.getter no_passed),
    λ x u u' q l.
        subst (λ k. Alike pairing old new (family c) h Same (value_of old (bodies old room) (variable (designator at k subscripts range)) u) (value_of new (bodies new room') (call (pairing.site at) s.getter no_passed) u')) (sym named.1)
        (subst (λ ts. Alike pairing old new (family c) h Same (value_of old (bodies old room) (variable (designator at s.variable ts range)) u) (value_of new (bodies new room') (call (pairing.site at) s.getter no_passed) u')) (sym (shape x.1).0)
        (subst (λ r. Alike pairing old new (family c) h Same (value_of old (bodies old room) (variable (designator at s.variable none r)) u) (value_of new (bodies new room') (call (pairing.site at) s.getter no_passed) u')) (sym (shape x.1).1)
        (reads_alike_at pairing old new premises s w family spending c (bodies old room) room' may at (pairing.site at) h (read_passes old (bodies old room) at s.variable) (call_passes new room' (pairing.site at) s.getter) u u' q l))),
  )
    where
      named : (pairing.swap unit ≡ Some s) × (number ≡ s.variable)
      named = swapped_number (pairing.swap unit) number s e

      w : IsSwap pairing old new s
      w = premises.swaps unit s named.0

      shape : Has (sort_of_designator old (designator at number subscripts range)) → (subscripts ≡ none) × (range ≡ no_section)
      shape x = plain_shape old number w.variable at subscripts range (subst (λ k. slice_get old.variables k ≡ Some w.variable) (sym named.1) w.declared) w.one_unit x

  -- with bodies that are related, whatever there is to spare
  module _ (room room' : ℕ) (may : (c : ℕ) → room' ≡ zero → (family c).MayCutNew)
      (related : (c k number : ℕ) → R c (IsPaired pairing.procedure number) k k Way Way Same (bodies old room number) (bodies new room' (partner pairing.procedure number))) (unit : Option ℕ) where
    values_rel : (c h : ℕ) (t : Term) → R c (CoversTerm pairing t × Has (sort_of old t)) h h Value Value Same (value_of old (bodies old room) t) (value_of new (bodies new room') (renamed_term pairing (pairing.swap unit) t))
    values_rel c h t = value_sim pairing old new premises (R c) (closed pairing old new premises (family c) (spending.counts c)) h (bodies old room) (bodies new room') (related c) (pairing.swap unit) (reads_rel c room room' (may c) unit h) t

    places_rel : (c h : ℕ) (d : Designator) → R c (CoversDesignator pairing d × Has (sort_of_designator old d)) h h Place Place (PlaceSame pairing old new) (place_at old (bodies old room) d) (place_at new (bodies new room') (renamed_designator pairing (pairing.swap unit) d))
    places_rel c h d = place_sim pairing old new premises (R c) (closed pairing old new premises (family c) (spending.counts c)) h (bodies old room) (bodies new room') (related c) (pairing.swap unit) (reads_rel c room room' (may c) unit h) d

    assigned_passes : (d : Designator) (t : Term) → Passes (place_at old (bodies old room) d >>= (λ p. value_of old (bodies old room) t >>= (λ v. puts p v >> pure GoOn)))
    assigned_passes d t =
        passes_binds (place_at old (bodies old room) d) (λ p. value_of old (bodies old room) t >>= (λ v. puts p v >> pure GoOn)) (place_kept Passes (λ b A m n. Passes m) passing old 0 (bodies old room) (bodies old room) (bodies_pass old room) (bodies_pass old room) (λ c h n. bodies_pass old room n) d) (λ p.
        passes_binds (value_of old (bodies old room) t) (λ v. puts p v >> pure GoOn) (values_pass old room t) (λ v. passes_binds (puts p v) (λ _. pure GoOn) (passing.put 0 p v) (λ _. later_same)))

    calling_passes : (at : Site) (number : ℕ) (args : Passed) → Passes (arguments_of new (bodies new room') args >>= (λ given. called new (bodies new room') at number given >> pure GoOn))
    calling_passes at number args =
        passes_binds (arguments_of new (bodies new room') args) (λ given. called new (bodies new room') at number given >> pure GoOn)
        (arguments_kept Passes (λ b A m n. Passes m) passing new 0 (bodies new room') (bodies new room') (bodies_pass new room') (bodies_pass new room') (λ c h n. bodies_pass new room' n) args) (λ given.
        passes_binds (called new (bodies new room') at number given) (λ _. pure GoOn) (passes_called new (bodies new room') at number given (bodies_pass new room' number)) (λ _. later_same))

    -- an assignment of a variable alone
    module _ (c h : ℕ) (s : Swap) (w : IsSwap pairing old new s) (from at : Site) where
      abbrev Assigned : Term → Passed → Type 0
      Assigned t args =
          CoversTerm pairing t → sort_of old t ≡ Some (sort_of_type w.variable.ty) → (u u' : State) → Paired pairing old new h u u' → (family c).Left u.left u'.left →
          Alike pairing old new (family c) h Same (stmts.act old (bodies old room) (act.assign (designator from s.variable none no_section) t) u) (stmts.act new (bodies new room') (act.call at s.setter args) u')

      by_values : (t : Term) → Assigned t (by_value (renamed_term pairing (pairing.swap unit) t) no_passed)
      by_values t covers e u u' q l =
          value_assigned pairing old new premises s w family spending c (bodies old room) room' (may c) from at t (renamed_term pairing (pairing.swap unit) t) h (CoversTerm pairing t × Has (sort_of old t)) (values_rel (spending.next c) h t)
          (λ x types. (value_sorted old premises.lawful (bodies old room) (bodies_return old room) t (sort_of_type w.variable.ty) e).from x types)
          (assigned_passes (designator from s.variable none no_section) t) (calling_passes at s.setter (by_value (renamed_term pairing (pairing.swap unit) t) no_passed)) (covers, subst Has (sym e) tt) u u' q l

      by_units : (d : Designator) → Assigned (variable d) (alone (renamed_designator pairing (pairing.swap unit) d) no_passed)
      by_units d covers e u u' q l =
          units_assigned pairing old new premises s w family spending c (bodies old room) room' (may c) from at (site_of d) d (renamed_designator pairing (pairing.swap unit) d) h (CoversDesignator pairing d × Has (sort_of_designator old d)) (places_rel (spending.next c) h d)
          (read_placed old (bodies old room) d) (λ x types. (place_typed old premises.lawful (bodies old room) d w.variable.ty (no_text pairing old new premises s w) e).from x types)
          (assigned_passes (designator from s.variable none no_section) (variable d)) (calling_passes at s.setter (alone (renamed_designator pairing (pairing.swap unit) d) no_passed)) (covers, subst Has (sym e) tt) u u' q l

      of_variable : (d : Designator) (o : Option Swap) → swap_of (pairing.swap unit) (number_of d) ≡ o → Assigned (variable d) (passed_as o (pairing.site (site_of d)) (renamed_designator pairing (pairing.swap unit) d))
      of_variable d None e = by_units d
      of_variable d (Some other) e = subst (λ o. Assigned (variable d) (by_value (read_as o (pairing.site (site_of d)) (renamed_designator pairing (pairing.swap unit) d)) no_passed)) e (by_values (variable d))

      assigned : (t : Term) → Assigned t (passed_of pairing (pairing.swap unit) t)
      assigned (literal v) = by_values (literal v)
      assigned (paren inner) = by_values (paren inner)
      assigned (unary at operator arg) = by_values (unary at operator arg)
      assigned (binary at operator first second) = by_values (binary at operator first second)
      assigned (variable d) = of_variable d (swap_of (pairing.swap unit) (number_of d)) refl
      assigned (constant of) = by_values (constant of)
      assigned (intrinsic at function args) = by_values (intrinsic at function args)
      assigned (call at number args) = by_values (call at number args)

    abbrev Shaped : ℕ → ℕ → Site → Swap → Term → ℕ → Terms → Section → Type 0
    Shaped c h at s t k ts r =
        CoversTerm pairing t → agree (sort_of_designator old (designator at k ts r)) (sort_of old t) ≡ true → (u u' : State) → Paired pairing old new h u u' → (family c).Left u.left u'.left →
        Alike pairing old new (family c) h Same (stmts.act old (bodies old room) (act.assign (designator at k ts r) t) u) (stmts.act new (bodies new room') (act.call (pairing.site at) s.setter (passed_of pairing (pairing.swap unit) t)) u')

    assigns_rel : (c h depth : ℕ) (inside : Bool) (target : Designator) (t : Term) (s : Swap) → swap_of (pairing.swap unit) (number_of target) ≡ Some s →
        R c (CoversAction pairing (act.assign target t) × (is_action old depth inside (act.assign target t) ≡ true)) h h Way Way Same (stmts.act old (bodies old room) (act.assign target t)) (stmts.act new (bodies new room') (act.call (pairing.site (site_of target)) s.setter (passed_of pairing (pairing.swap unit) t)))
    assigns_rel c h depth inside (designator at number subscripts range) t s e = (
      passes_binds tick (λ _. place_at old (bodies old room) (designator at number subscripts range) >>= (λ p. value_of old (bodies old room) t >>= (λ v. puts p v >> pure GoOn))) passes_tick (λ _. assigned_passes (designator at number subscripts range) t),
      passes_binds tick (λ _. arguments_of new (bodies new room') (passed_of pairing (pairing.swap unit) t) >>= (λ given. called new (bodies new room') (pairing.site at) s.setter given >> pure GoOn)) passes_tick (λ _. calling_passes (pairing.site at) s.setter (passed_of pairing (pairing.swap unit) t)),
      λ x u u' q l. shaped number subscripts range named.1 (shape (agree_has (sort_of_designator old (designator at number subscripts range)) (sort_of old t) x.1).0) x.0.1 x.1 u u' q l,
    )
      where
        named : (pairing.swap unit ≡ Some s) × (number ≡ s.variable)
        named = swapped_number (pairing.swap unit) number s e

        w : IsSwap pairing old new s
        w = premises.swaps unit s named.0

        shape : Has (sort_of_designator old (designator at number subscripts range)) → (subscripts ≡ none) × (range ≡ no_section)
        shape x = plain_shape old number w.variable at subscripts range (subst (λ k. slice_get old.variables k ≡ Some w.variable) (sym named.1) w.declared) w.one_unit x

        shaped : (k : ℕ) (ts : Terms) (r : Section) → k ≡ s.variable → (ts ≡ none) × (r ≡ no_section) → Shaped c h at s t k ts r
        shaped k ts r f g =
            subst (λ k. Shaped c h at s t k ts r) (sym f) (subst (λ ts. Shaped c h at s t s.variable ts r) (sym g.0) (subst (Shaped c h at s t s.variable none) (sym g.1)
            (λ covers same. assigned c h s w at (pairing.site at) t covers (target_sort old s.variable w.variable at (sort_of old t) w.declared same))))

    blocks_rel : (c h depth : ℕ) (inside : Bool) (b : act.Block) → R c (CoversBlock pairing b × (is_block old depth inside b ≡ true)) h h Way Way Same (block old (bodies old room) b) (block new (bodies new room') (renamed_block pairing (pairing.swap unit) b))
    blocks_rel c h depth inside b =
        block_sim pairing old new premises (R c) (closed pairing old new premises (family c) (spending.counts c)) h (bodies old room) (bodies new room') (related c) (pairing.swap unit) (reads_rel c room room' (may c) unit h) (assigns_rel c h) depth inside b

  may_here : (room room' : ℕ) → spending.Deep room room' → (c : ℕ) → room' ≡ zero → (family c).MayCutNew
  may_here room room' q c e = spending.deep_new c room (subst (spending.Deep room) e q)

  bodies_rel : (room room' : ℕ) → spending.Deep room room' → (c h number : ℕ) → R c (IsPaired pairing.procedure number) h h Way Way Same (bodies old room number) (bodies new room' (partner pairing.procedure number))
  bodies_rel zero zero q c h number = (closed pairing old new premises (family c) (spending.counts c)).stops {A = Way} {B = Way} h Same Cut Cut refl
  bodies_rel zero (suc room') q c h number = (
    later_same,
    bodies_pass new (suc room') (partner pairing.procedure number),
    λ x s s' p l. lags_old pairing old new premises (family c) (spending.counts c) h Same Cut s (bodies new (suc room') (partner pairing.procedure number) s') (spending.deep_old c room' q) refl
        (subst (λ o. IsFront o (state_of (bodies new (suc room') (partner pairing.procedure number) s')).output) (sym p.output) (later_front (bodies new (suc room') (partner pairing.procedure number)) (bodies_pass new (suc room') (partner pairing.procedure number)) s')),
  )
  bodies_rel (suc room) zero q c h number = (
    bodies_pass old (suc room) number,
    later_same,
    λ x s s' p l. lags_new pairing old new premises (family c) (spending.counts c) h Same Cut s' (bodies old (suc room) number s) (spending.deep_new c (suc room) q) refl
        (subst (λ o. IsFront o (state_of (bodies old (suc room) number s)).output) p.output (later_front (bodies old (suc room) number) (bodies_pass old (suc room) number) s)),
  )
  bodies_rel (suc room) (suc room') q c h number =
      (closed pairing old new premises (family c) (spending.counts c)).binds h h h (ProcedureSame pairing old new premises number) Same
      (told (procedure old number)) (told (procedure new (partner pairing.procedure number))) (λ proc. block old (bodies old room) proc.body) (λ proc. block new (bodies new room') proc.body)
      ((closed pairing old new premises (family c) (spending.counts c)).tells h (ProcedureSame pairing old new premises number) (procedure old number) (procedure new (partner pairing.procedure number))
      (λ x. procedure_same pairing old new premises number x)) (λ (proc : Procedure) (proc' : Procedure). (
        blocks_pass old room proc.body,
        blocks_pass new room' proc'.body,
        λ x s s' p l. subst (λ b. Alike pairing old new (family c) h Same (block old (bodies old room) proc.body s) (block new (bodies new room') b s')) (sym x.1.1.body)
            ((blocks_rel room room' (may_here room room' (spending.deep_less room room' q)) (bodies_rel room room' (spending.deep_less room room' q)) (Some number) c h 0 true proc.body).2 (x.1.1.covered, (premises.lawful.procedures number proc x.1.0).body) s s' p l),
      ))

  -- ---- under a budget

  pub blocks_alike : (room room' : ℕ) → spending.Deep room room' → (c : ℕ) (unit : Option ℕ) (depth : ℕ) (inside : Bool) (b : act.Block) → CoversBlock pairing b → is_block old depth inside b ≡ true → (h : ℕ) (s s' : State) → Paired pairing old new h s s' → (family c).Left s.left s'.left →
      Alike pairing old new (family c) h Same (block old (bodies old room) b s) (block new (bodies new room') (renamed_block pairing (pairing.swap unit) b) s')
  blocks_alike room room' q c unit depth inside b covers lawful h s s' p l = (blocks_rel room room' (may_here room room' q) (bodies_rel room room' q) unit c h depth inside b).2 (covers, lawful) s s' p l

  pub values_alike : (room room' : ℕ) → spending.Deep room room' → (c : ℕ) (unit : Option ℕ) (t : Term) → CoversTerm pairing t → has_sort (sort_of old t) ≡ true → (h : ℕ) (s s' : State) → Paired pairing old new h s s' → (family c).Left s.left s'.left →
      Alike pairing old new (family c) h Same (value_of old (bodies old room) t s) (value_of new (bodies new room') (renamed_term pairing (pairing.swap unit) t) s')
  values_alike room room' q c unit t covers sorted h s s' p l = (values_rel room room' (may_here room room' q) (bodies_rel room room' q) unit c h t).2 (covers, some_has (sort_of old t) sorted) s s' p l

-- ---- with so many steps for each

at_most : (n : ℕ) → n ≤ n
at_most n = omega arith

one_more : (n : ℕ) → n ≤ suc n
one_more n = omega arith

room_for : (factor n n' : ℕ) → 5 ≤ factor → factor * n + 0 ≤ n' → suc n ≤ suc n'
room_for factor n n' h k = let g : n ≤ factor * n = grows factor n (factor * n) (one_at_least factor h) refl in omega arith

none_spare : (n : ℕ) → n + 0 ≤ n
none_spare n = omega arith

module _ (pairing : Pairing) (old new : Program) (premises : Premises pairing old new) (factor : ℕ) (enough : 5 ≤ factor) where
  pub blocks_within : (unit : Option ℕ) (depth : ℕ) (inside : Bool) (b : act.Block) → CoversBlock pairing b → is_block old depth inside b ≡ true →
      KeepsWithin pairing old new (Unit {0}) factor Same (does_in old b) (does_in new (renamed_block pairing (pairing.swap unit) b))
  blocks_within unit depth inside b covers lawful = record {
    forth = λ h s s' p l.
        subst (Alike pairing old new (so_many (Unit {0}) factor 0) h Same (block old (bodies old s.left) b s)) (room_free new (suc s'.left) s'.left (renamed_block pairing (pairing.swap unit) b) s' (one_more s'.left) (at_most s'.left))
        (blocks_alike pairing old new premises (so_many (Unit {0}) factor) (so_many_spending factor enough) s.left (suc s'.left) (room_for factor s.left s'.left enough l) 0 unit depth inside b covers lawful h s s' p l);
    back = λ h s s' p l. blocks_alike pairing old new premises (λ c. no_more (Unit {0})) no_more_spending s.left s'.left l 0 unit depth inside b covers lawful h s s' p l;
    steps = λ h s s' p.
        costs pairing old new (Unit {0}) factor h Same s s' (does_in old b s) (does_in new (renamed_block pairing (pairing.swap unit) b) s')
        (blocks_alike pairing old new premises (λ c. at_least (Unit {0}) s.left s'.left) (at_least_spending s.left s'.left) s.left s'.left tt 0 unit depth inside b covers lawful h s s' p (same_sum s.left s'.left))
        (blocks_alike pairing old new premises (λ c. at_most_each (Unit {0}) factor c (factor * s.left)) (at_most_spending factor (factor * s.left) enough) s.left s'.left tt s'.left unit depth inside b covers lawful h s s' p (same_sum s'.left (factor * s.left)));
  }

  pub values_within : (unit : Option ℕ) (t : Term) → CoversTerm pairing t → has_sort (sort_of old t) ≡ true →
      KeepsWithin pairing old new (Unit {0}) factor Same (gives_in old t) (gives_in new (renamed_term pairing (pairing.swap unit) t))
  values_within unit t covers sorted = record {
    forth = λ h s s' p l.
        subst (Alike pairing old new (so_many (Unit {0}) factor 0) h Same (value_of old (bodies old s.left) t s)) (room_free_of_values new (suc s'.left) s'.left (renamed_term pairing (pairing.swap unit) t) s' (one_more s'.left) (at_most s'.left))
        (values_alike pairing old new premises (so_many (Unit {0}) factor) (so_many_spending factor enough) s.left (suc s'.left) (room_for factor s.left s'.left enough l) 0 unit t covers sorted h s s' p l);
    back = λ h s s' p l. values_alike pairing old new premises (λ c. no_more (Unit {0})) no_more_spending s.left s'.left l 0 unit t covers sorted h s s' p l;
    steps = λ h s s' p.
        costs pairing old new (Unit {0}) factor h Same s s' (gives_in old t s) (gives_in new (renamed_term pairing (pairing.swap unit) t) s')
        (values_alike pairing old new premises (λ c. at_least (Unit {0}) s.left s'.left) (at_least_spending s.left s'.left) s.left s'.left tt 0 unit t covers sorted h s s' p (same_sum s.left s'.left))
        (values_alike pairing old new premises (λ c. at_most_each (Unit {0}) factor c (factor * s.left)) (at_most_spending factor (factor * s.left) enough) s.left s'.left tt s'.left unit t covers sorted h s s' p (same_sum s'.left (factor * s.left)));
  }

  pub runs_within : AlikeWithin factor old new
  runs_within input n = (
    forth_on pairing old new premises (Unit {0}) factor input (block old (bodies old n) old.main (start old input n)) (block new (bodies new (factor * n)) new.main (start new input (factor * n)))
        (subst (λ b. Alike pairing old new (so_many (Unit {0}) factor 0) 0 Same (block old (bodies old n) old.main (start old input n)) (block new (bodies new (factor * n)) b (start new input (factor * n)))) (sym premises.main)
        ((blocks_within None 0 false old.main premises.covered premises.lawful.statements).forth 0 (start old input n) (start new input (factor * n)) (start_paired pairing old new premises input n (factor * n)) (none_spare (factor * n)))),
    back_on pairing old new premises (Unit {0}) input (block old (bodies old (factor * n)) old.main (start old input (factor * n))) (block new (bodies new n) new.main (start new input n))
        (subst (λ b. Alike pairing old new (no_more (Unit {0})) 0 Same (block old (bodies old (factor * n)) old.main (start old input (factor * n))) (block new (bodies new n) b (start new input n))) (sym premises.main)
        ((blocks_within None 0 false old.main premises.covered premises.lawful.statements).back 0 (start old input (factor * n)) (start new input n) (start_paired pairing old new premises input (factor * n) n) (grows factor n (factor * n) (one_at_least factor enough) refl))),
  )
