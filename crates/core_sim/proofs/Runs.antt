-- Bodies, statements and runs of two programs that meet the premises do the same.
use Rattle.std.proofs.Common.{inl, inr, ◌≡◌, ◌≤◌, ◌+◌, ◌-◌, ◌*◌, ℕ, zero, suc, List, [], ◌∷◌, ◌++◌, length, refl, sym, ap, subst, ◌∙◌, arith}
use Rattle.std.specs.Prelude.{Option, Some, None, Bool, true, false, flat_map, sum_by, replicate, slice_get}
use Rattle.std.proofs.lemmas.List.{length-append, length-replicate, length-take-le, append-nil}
use Rattle.std.proofs.lemmas.List.Sums.{sum_by-cons}
use Rattle.std.proofs.lemmas.Option.{slice_get_past}
use Rattle.core_prog.specs.declared.outcome.Outcome.{Outcome}
use Rattle.core_prog.specs.declared.outcome.Outcome.TheVariants as outcome
use Rattle.core_prog.specs.declared.storage.Area.{Area}
use Rattle.core_prog.specs.declared.storage.Content.TheVariants.{Nothing}
use Rattle.core_prog.specs.Ends.{End, Stopped, Faulted, Cut, outcome_of}
use Rattle.core_prog.specs.Programs.{Program, Procedure}
use Rattle.core_prog.specs.Holdings.{procedure}
use Rattle.core_prog.specs.Actions.{Block}
use Rattle.core_prog.specs.Terms.{Term}
use Rattle.core_prog.specs.States.{State, Ran, Went, Ended, Way, told}
use Rattle.core_prog.specs.Values.{value_of}
use Rattle.core_prog.specs.Statements.{block}
use Rattle.core_prog.specs.Runs.{bodies, run_contents, area_contents, start, Result as RunResult, result_of, run}
use Rattle.core_prog.specs.Sorts.{sort_of}
use Rattle.core_prog.specs.Lawful.{has_sort, is_block}
use Rattle.core_prog.specs.Lasting.{state_of, GoesOn}
use Rattle.core_prog.proofs.Passing.{later_same, bodies_pass, blocks_pass}
use Rattle.core_sim.specs.Pairings.{Pairing, Swap, partner, IsPaired}
use Rattle.core_sim.specs.Renaming.{number_of, swap_of, renamed_block, renamed_term}
use Rattle.core_sim.specs.Swaps.{HasNoSwap}
use Rattle.core_sim.specs.Covering.{CoversBlock, CoversTerm}
use Rattle.core_sim.specs.Units.{units_in, first_contents}
use Rattle.core_sim.specs.Premises.{Premises}
use Rattle.core_sim.specs.Paired.{Meets, Paired, PairedMemory}
use Rattle.core_sim.specs.Keeping.{Budget, equal_steps, so_many, no_more, IsFront, Alike, Keeps, KeepsWithin, AlikeWithin}
use Rattle.core_sim.proofs.Answering.{Same}
use Rattle.core_sim.proofs.Calls.{ProcedureSame, procedure_same}
use Rattle.core_sim.proofs.Typed.{some_has}
use Rattle.core_sim.proofs.Trees.{value_sim, block_sim}
use Rattle.core_sim.proofs.Spending.{at_least, at_least_counts, at_most_each, at_most_counts, costs, same_sum}
use Rattle.core_sim.proofs.Stepping.{Counts, equal_counts, no_more_counts, so_many_counts, grows, Rel, closed, lags_old, lags_new, later_front}

-- ---- what is there before a run

area_length : (area : Area) → length (area_contents area) ≡ area.size
area_length area =
    length-take-le area.size (flat_map run_contents area.initial ++ replicate area.size Nothing)
    (long (length (flat_map run_contents area.initial ++ replicate area.size Nothing)) (length (flat_map run_contents area.initial)) (length (replicate area.size Nothing)) area.size
    (length-append (flat_map run_contents area.initial) (replicate area.size Nothing)) (length-replicate area.size Nothing))
  where
    long : (n a b size : ℕ) → n ≡ a + b → b ≡ size → size ≤ n
    long n a b size e f = omega arith

first_length : (areas : List Area) → length (flat_map area_contents areas) ≡ sum_by (λ (a : Area). a.size) areas
first_length [] = refl
first_length (area ∷ areas) =
    length-append (area_contents area) (flat_map area_contents areas)
    ∙ (ap (λ n. n + length (flat_map area_contents areas)) (area_length area) ∙ ap (λ n. area.size + n) (first_length areas) ∙ sym (sum_by-cons (λ (a : Area). a.size) area areas))

none_added : (n m : ℕ) → n ≡ m → n ≡ m + 0
none_added n m e = omega arith

past_all : (n all at i : ℕ) → n ≡ all → at ≡ all + i → n ≤ at
past_all n all at i e f = omega arith

swap_of_none : (o : Option Swap) (number : ℕ) (s : Swap) → o ≡ None → swap_of o number ≡ Some s → ⊥
swap_of_none None number s e f = cc f
swap_of_none (Some t) number s e f = cc e

module _ (pairing : Pairing) (old new : Program) (premises : Premises pairing old new) where
  first_paired : PairedMemory pairing old new 0 (record { cells = first_contents old; active = [] }) (record { cells = first_contents new; active = [] })
  first_paired = record {
    places = none_added (length (first_contents old)) (units_in old) (first_length old.areas);
    places_new = none_added (length (first_contents new)) (units_in new) (first_length new.areas);
    contents = contents;
    active = tt;
  }
    where
      contents : (at at' : ℕ) → Meets pairing old new at at' → slice_get (first_contents old) at ≡ slice_get (first_contents new) at'
      contents at at' (inl u) = premises.storage.initial at at' u
      contents at at' (inr u) =
          slice_get_past (first_contents old) at (past_all (length (first_contents old)) (units_in old) at u.0 (first_length old.areas) u.1)
          ∙ sym (slice_get_past (first_contents new) at' (past_all (length (first_contents new)) (units_in new) at' u.0 (first_length new.areas) u.2))

  pub start_paired : (input : List ℕ) (n n' : ℕ) → Paired pairing old new 0 (start old input n) (start new input n')
  start_paired input n n' = record { memory = first_paired; typed = tt; input = refl; output = refl }

  -- ---- runs

  abbrev told_as : List ℕ → Outcome → List ℕ → List ℕ → RunResult
  told_as input o output rest = record { outcome = o; output = output; taken = length input - length rest }

  same_result : (input : List ℕ) (o o' : Outcome) (s s' : State) → o ≡ o' → s.output ≡ s'.output → s.input ≡ s'.input → told_as input o s.output s.input ≡ told_as input o' s'.output s'.input
  same_result input o o' s s' e f g = ap (λ x. told_as input x s.output s.input) e ∙ ap (λ x. told_as input o' x s.input) f ∙ ap (told_as input o' s'.output) g

  front_of : (input : List ℕ) (r : Ran Way) → (result_of input r).output ≡ (state_of r).output
  front_of input (Went way s) = refl
  front_of input (Ended e s) = refl

  -- what was cut is over for want of steps
  cut_goes_on : (input : List ℕ) (e : End) (s : State) (now : RunResult) → e ≡ Cut → IsFront s.output now.output → GoesOn (told_as input (outcome_of e) s.output s.input) now
  cut_goes_on input Stopped s now c f = absurd (cc c)
  cut_goes_on input (Faulted code at) s now c f = absurd (cc c)
  cut_goes_on input Cut s now c f = f

  end_goes_on : (input : List ℕ) (o o' : Outcome) (s s' : State) → o ≡ o' → s.output ≡ s'.output → s.input ≡ s'.input → GoesOn (told_as input o s.output s.input) (told_as input o' s'.output s'.input)
  end_goes_on input outcome.Stop o' s s' e f g = sym (same_result input outcome.Stop o' s s' e f g)
  end_goes_on input (outcome.Fault code) o' s s' e f g = sym (same_result input (outcome.Fault code) o' s s' e f g)
  end_goes_on input outcome.Spent o' s s' e f g = ([], sym f ∙ sym (append-nil s.output))

  pub forth_on : (lose : Type 0) (factor : ℕ) (input : List ℕ) (r r' : Ran Way) → Alike pairing old new (so_many lose factor 0) 0 Same r r' → GoesOn (result_of input r) (result_of input r')
  forth_on lose factor input (Went a s) (Went b s') e = end_goes_on input outcome.Stop outcome.Stop s s' refl e.1.paired.output e.1.paired.input
  forth_on lose factor input (Went a s) (Ended x s') e = absurd e.may_be
  forth_on lose factor input (Ended x s) (Went b s') e = cut_goes_on input x s (result_of input (Went b s')) e.cut e.front
  forth_on lose factor input (Ended x s) (Ended x' s') (inl e) = end_goes_on input (outcome_of x) (outcome_of x') s s' e.outcome e.output e.input
  forth_on lose factor input (Ended x s) (Ended x' s') (inr (inl e)) = cut_goes_on input x s (result_of input (Ended x' s')) e.cut e.front
  forth_on lose factor input (Ended x s) (Ended x' s') (inr (inr e)) = absurd e.may_be

  pub back_on : (lose : Type 0) (input : List ℕ) (r r' : Ran Way) → Alike pairing old new (no_more lose) 0 Same r r' → GoesOn (result_of input r') (result_of input r)
  back_on lose input (Went a s) (Went b s') e = end_goes_on input outcome.Stop outcome.Stop s' s refl (sym e.1.paired.output) (sym e.1.paired.input)
  back_on lose input (Went a s) (Ended x s') e = cut_goes_on input x s' (result_of input (Went a s)) e.cut e.front
  back_on lose input (Ended x s) (Went b s') e = absurd e.may_be
  back_on lose input (Ended x s) (Ended x' s') (inl e) = end_goes_on input (outcome_of x') (outcome_of x) s' s (sym e.outcome) (sym e.output) (sym e.input)
  back_on lose input (Ended x s) (Ended x' s') (inr (inl e)) = absurd e.may_be
  back_on lose input (Ended x s) (Ended x' s') (inr (inr e)) = cut_goes_on input x' s' (result_of input (Ended x s)) e.cut e.front

module _ (pairing : Pairing) (old new : Program) (premises : Premises pairing old new) (none : HasNoSwap pairing) where
  -- ---- under a budget

  module _ (budget : Budget) (counts : Counts budget) where
    bodies_rel : (room room' : ℕ) → counts.Room room room' → (h number : ℕ) → Rel pairing old new premises budget counts (IsPaired pairing.procedure number) h h Way Way Same (bodies old room number) (bodies new room' (partner pairing.procedure number))
    bodies_rel zero zero q h number = (closed pairing old new premises budget counts).stops {A = Way} {B = Way} h Same Cut Cut refl
    bodies_rel zero (suc room') q h number = (
      later_same,
      bodies_pass new (suc room') (partner pairing.procedure number),
      λ x s s' p l. lags_old pairing old new premises budget counts h Same Cut s (bodies new (suc room') (partner pairing.procedure number) s') (counts.room_old room' q) refl
          (subst (λ o. IsFront o (state_of (bodies new (suc room') (partner pairing.procedure number) s')).output) (sym p.output) (later_front (bodies new (suc room') (partner pairing.procedure number)) (bodies_pass new (suc room') (partner pairing.procedure number)) s')),
    )
    bodies_rel (suc room) zero q h number = (
      bodies_pass old (suc room) number,
      later_same,
      λ x s s' p l. lags_new pairing old new premises budget counts h Same Cut s' (bodies old (suc room) number s) (counts.room_new room q) refl
          (subst (λ o. IsFront o (state_of (bodies old (suc room) number s)).output) p.output (later_front (bodies old (suc room) number) (bodies_pass old (suc room) number) s)),
    )
    bodies_rel (suc room) (suc room') q h number =
        (closed pairing old new premises budget counts).binds h h h (ProcedureSame pairing old new premises number) Same
        (told (procedure old number)) (told (procedure new (partner pairing.procedure number))) (λ proc. block old (bodies old room) proc.body) (λ proc. block new (bodies new room') proc.body)
        ((closed pairing old new premises budget counts).tells h (ProcedureSame pairing old new premises number) (procedure old number) (procedure new (partner pairing.procedure number))
        (λ x. procedure_same pairing old new premises number x)) (λ (proc : Procedure) (proc' : Procedure). (
          blocks_pass old room proc.body,
          blocks_pass new room' proc'.body,
          λ x s s' p l. subst (λ b. Alike pairing old new budget h Same (block old (bodies old room) proc.body s) (block new (bodies new room') b s')) (sym x.1.1.body)
              ((block_sim pairing old new premises (Rel pairing old new premises budget counts) (closed pairing old new premises budget counts) h (bodies old room) (bodies new room') (bodies_rel room room' (counts.less room room' q)) (pairing.swap (Some number)) (λ of s e. absurd (swap_of_none (pairing.swap (Some number)) (number_of of) s (none (Some number)) e)) (λ depth inside target t s e. absurd (swap_of_none (pairing.swap (Some number)) (number_of target) s (none (Some number)) e)) 0 true proc.body).2 (x.1.1.covered, (premises.lawful.procedures number proc x.1.0).body) s s' p l),
        ))

    pub blocks_keep : (room room' : ℕ) → counts.Room room room' → (depth : ℕ) (inside : Bool) (b : Block) → CoversBlock pairing b → is_block old depth inside b ≡ true → Keeps pairing old new budget Same (block old (bodies old room) b) (block new (bodies new room') (renamed_block pairing None b))
    blocks_keep room room' q depth inside b c w h s s' p l =
        (block_sim pairing old new premises (Rel pairing old new premises budget counts) (closed pairing old new premises budget counts) h (bodies old room) (bodies new room') (bodies_rel room room' q) None (λ of s e. absurd (cc e)) (λ depth inside target t s e. absurd (cc e)) depth inside b).2 (c, w) s s' p l

    pub values_keep : (room room' : ℕ) → counts.Room room room' → (t : Term) → CoversTerm pairing t → has_sort (sort_of old t) ≡ true → Keeps pairing old new budget Same (value_of old (bodies old room) t) (value_of new (bodies new room') (renamed_term pairing None t))
    values_keep room room' q t c w h s s' p l =
        (value_sim pairing old new premises (Rel pairing old new premises budget counts) (closed pairing old new premises budget counts) h (bodies old room) (bodies new room') (bodies_rel room room' q) None (λ of s e. absurd (cc e)) t).2 (c, some_has (sort_of old t) w) s s' p l

    main_keeps : (room room' : ℕ) → counts.Room room room' → (input : List ℕ) (n n' : ℕ) → budget.Left n n' →
        Alike pairing old new budget 0 Same (block old (bodies old room) old.main (start old input n)) (block new (bodies new room') new.main (start new input n'))
    main_keeps room room' q input n n' l =
        subst (λ b. Alike pairing old new budget 0 Same (block old (bodies old room) old.main (start old input n)) (block new (bodies new room') b (start new input n'))) (sym (premises.main ∙ ap (λ o. renamed_block pairing o old.main) (none None)))
        (blocks_keep room room' q 0 false old.main premises.covered premises.lawful.statements 0 (start old input n) (start new input n') (start_paired pairing old new premises input n n') l)

  pub runs_same : (input : List ℕ) (n : ℕ) → run old input n ≡ run new input n
  runs_same input n = by_ran (block old (bodies old n) old.main (start old input n)) (block new (bodies new n) new.main (start new input n)) (main_keeps equal_steps equal_counts n n refl input n n refl)
    where
      by_ran : (r r' : Ran Way) → Alike pairing old new equal_steps 0 Same r r' → result_of input r ≡ result_of input r'
      by_ran (Went a s) (Went b s') e = same_result pairing old new premises input outcome.Stop outcome.Stop s s' refl e.1.paired.output e.1.paired.input
      by_ran (Went a s) (Ended x s') e = absurd e.may_be
      by_ran (Ended x s) (Went b s') e = absurd e.may_be
      by_ran (Ended x s) (Ended x' s') (inl e) = same_result pairing old new premises input (outcome_of x) (outcome_of x') s s' e.outcome e.output e.input
      by_ran (Ended x s) (Ended x' s') (inr (inl e)) = absurd e.may_be
      by_ran (Ended x s) (Ended x' s') (inr (inr e)) = absurd e.may_be

  none_spare : (n : ℕ) → n + 0 ≤ n
  none_spare n = omega arith

  at_most : (n : ℕ) → n ≤ n
  at_most n = omega arith

  pub alike_within : (factor : ℕ) → 1 ≤ factor → AlikeWithin factor old new
  alike_within factor h input n = (
    forth_on pairing old new premises ⊥ factor input (block old (bodies old n) old.main (start old input n)) (block new (bodies new (factor * n)) new.main (start new input (factor * n)))
        (main_keeps (so_many ⊥ factor 0) (so_many_counts ⊥ factor 0 h) n (factor * n) (grows factor n (factor * n) h refl) input n (factor * n) (none_spare (factor * n))),
    back_on pairing old new premises ⊥ input (block old (bodies old (factor * n)) old.main (start old input (factor * n))) (block new (bodies new n) new.main (start new input n))
        (main_keeps (no_more ⊥) (no_more_counts ⊥) (factor * n) n (grows factor n (factor * n) h refl) input (factor * n) n (grows factor n (factor * n) h refl)),
  )

  pub blocks_keep_within : (factor : ℕ) → 1 ≤ factor → (room : ℕ) (depth : ℕ) (inside : Bool) (b : Block) → CoversBlock pairing b → is_block old depth inside b ≡ true → KeepsWithin pairing old new ⊥ factor Same (block old (bodies old room) b) (block new (bodies new room) (renamed_block pairing None b))
  blocks_keep_within factor h room depth inside b c w = record {
    forth = blocks_keep (so_many ⊥ factor 0) (so_many_counts ⊥ factor 0 h) room room (at_most room) depth inside b c w;
    back = blocks_keep (no_more ⊥) (no_more_counts ⊥) room room (at_most room) depth inside b c w;
    steps = λ height s s' p.
        costs pairing old new ⊥ factor height Same s s' (block old (bodies old room) b s) (block new (bodies new room) (renamed_block pairing None b) s')
        (blocks_keep (at_least ⊥ s.left s'.left) (at_least_counts ⊥ s.left s'.left) room room tt depth inside b c w height s s' p (same_sum s.left s'.left))
        (blocks_keep (at_most_each ⊥ factor s'.left (factor * s.left)) (at_most_counts ⊥ factor s'.left (factor * s.left) h) room room tt depth inside b c w height s s' p (same_sum s'.left (factor * s.left)));
  }

  pub values_keep_within : (factor : ℕ) → 1 ≤ factor → (room : ℕ) (t : Term) → CoversTerm pairing t → has_sort (sort_of old t) ≡ true → KeepsWithin pairing old new ⊥ factor Same (value_of old (bodies old room) t) (value_of new (bodies new room) (renamed_term pairing None t))
  values_keep_within factor h room t c w = record {
    forth = values_keep (so_many ⊥ factor 0) (so_many_counts ⊥ factor 0 h) room room (at_most room) t c w;
    back = values_keep (no_more ⊥) (no_more_counts ⊥) room room (at_most room) t c w;
    steps = λ height s s' p.
        costs pairing old new ⊥ factor height Same s s' (value_of old (bodies old room) t s) (value_of new (bodies new room) (renamed_term pairing None t) s')
        (values_keep (at_least ⊥ s.left s'.left) (at_least_counts ⊥ s.left s'.left) room room tt t c w height s s' p (same_sum s.left s'.left))
        (values_keep (at_most_each ⊥ factor s'.left (factor * s.left)) (at_most_counts ⊥ factor s'.left (factor * s.left) h) room room tt t c w height s s' p (same_sum s'.left (factor * s.left)));
  }

  pub blocks_same : (room : ℕ) (depth : ℕ) (inside : Bool) (b : Block) → CoversBlock pairing b → is_block old depth inside b ≡ true → Keeps pairing old new equal_steps Same (block old (bodies old room) b) (block new (bodies new room) (renamed_block pairing None b))
  blocks_same room depth inside b c w = blocks_keep equal_steps equal_counts room room refl depth inside b c w

  pub values_same : (room : ℕ) (t : Term) → CoversTerm pairing t → has_sort (sort_of old t) ≡ true → Keeps pairing old new equal_steps Same (value_of old (bodies old room) t) (value_of new (bodies new room) (renamed_term pairing None t))
  values_same room t c w = values_keep equal_steps equal_counts room room refl t c w
