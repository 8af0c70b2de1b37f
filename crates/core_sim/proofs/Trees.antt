-- A relation that is closed holds between what a tree does and what the renamed tree does: by the form of expressions and statements.
use Rattle.std.proofs.Common.{◌≡◌, ◌≤◌, ◌<◌, ◌+◌, ℕ, zero, suc, List, [], ◌∷◌, ◌++◌, drop, map, refl, sym, ap, subst, arith}
use Rattle.std.specs.Prelude.{ℤ, pos, ◌==◌, unsigned_abs, Bool, true, false, if◌then◌else◌, slice_get, ◌&&◌, Option, Some, None, Result, Ok, Err}
use Rattle.std.specs.List.{list_any}
use Rattle.ftn_base.specs.Arithmetic.{sum}
use Rattle.ftn_base.specs.declared.entity.Ty.{Ty}
use Rattle.ftn_tree.specs.declared.value.Value.{Value}
use Rattle.ftn_tree.specs.declared.value.Value.TheVariants.{Whole}
use Rattle.ftn_tree.specs.ListItems.{is_item_byte, item_of}
use Rattle.ftn_tree.specs.ListRecords.{record_of}
use Rattle.core_prog.specs.declared.site.Site.{Site}
use Rattle.core_prog.specs.declared.outcome.FaultCode.TheVariants as code
use Rattle.core_prog.specs.Ends.{End, Stopped, Faulted, Cut, or_end, found}
use Rattle.core_prog.specs.Operations.{as_whole, as_truth}
use Rattle.core_prog.specs.Contents.{units_of}
use Rattle.ftn_tree.specs.Arrays.{axis_from, elements, element, part}
use Rattle.core_prog.specs.Memory.{Place, Holding, element_at, place_of, read_at}
use Rattle.core_prog.specs.Programs.{Program}
use Rattle.core_prog.specs.Holdings.{holding}
use Rattle.core_prog.specs.Entries.{Argument, units, own}
use Rattle.core_prog.specs.Terms.{Term, literal, paren, unary, binary, variable, constant, intrinsic, call, Terms, none, more as next_term, Designator, designator, Named, named, Section, no_section, section, Bound, no_bound, bound, Passed, no_passed, by_value, alone, to_end, constants}
use Rattle.core_prog.specs.Actions as act
use Rattle.core_prog.specs.States.{M, Way, GoOn, Exit, Cycle, Return, ◌>>=◌, ◌>>◌, pure, tick, told, asks, around, onward}
use Rattle.core_prog.specs.Input.{Last, Nothing, Amid, Over, run_of, run_with, run_past, run_end, scalar_in, elements_in, rest_of, rest_with, item_at, last_of}
use Rattle.core_prog.specs.declared.storage.Variable.{Variable}
use Rattle.ftn_tree.specs.Sorts.{Sort, is_sort}
use Rattle.core_prog.specs.Sorts.{of_one, of_intrinsic, result_sort, sort_of, sorts_of, are_wholes, is_whole, is_range, sort_of_designator, sort_of_array, sort_of_named, sort_of_constants, are_passed}
use Rattle.core_prog.specs.Sorts as sorts
use Rattle.ftn_tree.specs.Sorts as types
use Rattle.core_prog.specs.Lawful.{has_sort, array_sort, scalar_sort, are_written, are_wanted, is_action, is_statement, is_block, are_arms, are_cases}
use Rattle.core_prog.specs.Values.{value_of, values_of, wholes_of, bound_or, range_of, place_at, read_of, constant_in, constants_from, arguments_of, cut_out}
use Rattle.core_prog.specs.Statements.{elements_out, copies_out, filled, grown, rounds, whole_of, truth_of, written, wanted, counted, block, chosen, selected, has, not_zero, turn_count}
use Rattle.core_prog.specs.Statements as stmts
use Rattle.core_sim.specs.Pairings.{Pairing, Swap, partner, IsPaired}
use Rattle.core_sim.specs.Renaming.{number_of, site_of, swap_of, read_as, assigned_as, passed_of, renamed_term, renamed_terms, renamed_designator, renamed_named, renamed_section, renamed_bound, renamed_passed, renamed_written, renamed_wanted, renamed_action, renamed_statement, renamed_block, renamed_arms, renamed_cases}
use Rattle.core_sim.specs.Covering.{CoversTerm, CoversTerms, CoversDesignator, CoversNamed, CoversSection, CoversBound, CoversPassed, CoversWritten, CoversWanted, CoversAction, CoversStatement, CoversBlock, CoversArms, CoversCases}
use Rattle.core_sim.specs.Premises.{Premises}
use Rattle.core_sim.specs.Paired.{Holds}
use Rattle.core_sim.proofs.Answering.{Same, Any, Answers, PlaceSame, Closed}
use Rattle.core_sim.proofs.Sites.{itself, whole_site, binary_same, unary_same, intrinsic_same, bounds_same}
use Rattle.core_sim.proofs.Places.{RestSame, place_same, rest_same, read_same, element_same}
use Rattle.core_sim.proofs.Typed.{Has, has_first, pair_has, both, sort_has, some_has, agree_has, HasNoRange, IsPlain, scalar_parts, array_parts, named_parts, constants_parts, dummies_at, function_passed, subroutine_passed, value_passed, alone_passed, array_passed, constants_passed, scalar_sorted, IsPairedScalar}
use Rattle.core_sim.proofs.Lodging.{holding_same}
use Rattle.core_sim.proofs.Arrivals.{ArgumentSame, ArgumentsSame}
use Rattle.core_sim.proofs.Calls.{called_same}

-- subscripts that are there give numbers
abbrev Fitting : Terms → List ℤ → Type 0
Fitting none zs = Unit {0}
Fitting (next_term t rest) [] = ⊥
Fitting (next_term t rest) (z ∷ zs) = Unit {0}

not_zero_site : (at at' : Site) (z : ℤ) → Answers {A = Unit {0}} {B = Unit {0}} Same (not_zero at z) (not_zero at' z)
not_zero_site at at' z = by_test (unsigned_abs z == 0)
  where
    by_test : (p : Bool) → Answers {A = Unit {0}} {B = Unit {0}} Same (if p then Err (Faulted code.Zero at) else Ok tt) (if p then Err (Faulted code.Zero at') else Ok tt)
    by_test true = refl
    by_test false = refl

or_site : {A : Type 0} (at at' : Site) (o : Option A) → Answers {A = A} {B = A} Same (or_end (Faulted code.Input at) o) (or_end (Faulted code.Input at') o)
or_site at at' None = refl
or_site at at' (Some a) = refl

item_same : (at at' : Site) (bytes : List ℕ) (ty ty' : Ty) → ty' ≡ ty → Answers Same (item_at at bytes ty) (item_at at' bytes ty')
item_same at at' bytes ty ty' e = subst (λ t. Answers Same (item_at at bytes ty) (item_at at' bytes t)) (sym e) (or_site at at' (item_of bytes ty))

found_same : {A : Type 0} (o : Option A) → Answers {A = A} {B = A} Same (found o) (found o)
found_same None = refl
found_same (Some a) = refl

next_more : (n more count : ℕ) → n + suc more ≤ count → suc n + more ≤ count
next_more n more count h = omega arith

here_more : (n more count : ℕ) → n + suc more ≤ count → n < count
here_more n more count h = omega arith

all_of : (n : ℕ) → 0 + n ≤ n
all_of n = omega arith

above_zero : (c : ℕ) → c ≡ 1 → 0 < c
above_zero c e = omega arith

module _ (pairing : Pairing) (old new : Program) (premises : Premises pairing old new)
    (Rel : Type 0 → ℕ → ℕ → (A B : Type 0) → (A → B → Type 0) → M A → M B → Type 0) (closed : Closed pairing old new Rel) (h : ℕ) where
  abbrev R : (X A B : Type 0) → (A → B → Type 0) → M A → M B → Type 0
  R X A B S m m' = Rel X h h A B S m m'

  step : {X A B : Type 0} (S : A → B → Type 0) (m : M A) (m' : M B) → R X A B S m m' → R X A B S (tick >> m) (tick >> m')
  step S m m' r = closed.binds h h h _ _ _ _ _ _ (closed.ticks h) (λ _ _. closed.knows h h S m m' (λ x. x.0) r)

  -- the first gives one value on both sides
  same : {X A C D : Type 0} (S : C → D → Type 0) (m m' : M A) (f : A → M C) (g : A → M D) → R X A A Same m m' → ((a : A) → R X C D S (f a) (g a)) → R X C D S (m >>= f) (m' >>= g)
  same {X} S m m' f g r k = closed.binds h h h Same S m m' f g r (λ a b. closed.equals h h (λ _. X) S f g k a b)

  -- and a fact about it
  same_with : {X A C D : Type 0} (P : A → Type 0) (S : C → D → Type 0) (m m' : M A) (f : A → M C) (g : A → M D) → R X A A (λ a b. (a ≡ b) × P a) m m' → ((a : A) → R (X × P a) C D S (f a) (g a)) → R X C D S (m >>= f) (m' >>= g)
  same_with {X} P S m m' f g r k =
      closed.binds h h h (λ a b. (a ≡ b) × P a) S m m' f g r (λ a b. closed.knows h h S (f a) (g b) (λ x. ((x.0, x.1.1), x.1.0)) (closed.equals h h (λ c. X × P c) S f g k a b))

  tells : {X A : Type 0} (r r' : Result A End) → Answers {A = A} {B = A} Same r r' → R X A A Same (told r) (told r')
  tells r r' e = closed.tells h Same r r' (λ _. e)

  gives : {X A : Type 0} (a : A) → R X A A Same (pure a) (pure a)
  gives a = closed.tells h Same (Ok a) (Ok a) (λ _. refl)

  module _ (body body' : ℕ → M Way) (bodies : (k number : ℕ) → Rel (IsPaired pairing.procedure number) k k Way Way Same (body number) (body' (partner pairing.procedure number)))
      (swap : Option Swap)
      (reads : (of : Designator) (s : Swap) → swap_of swap (number_of of) ≡ Some s → R (CoversDesignator pairing of × Has (sort_of_designator old of)) Value Value Same (value_of old body (variable of)) (value_of new body' (call (pairing.site (site_of of)) s.getter no_passed))) where
    one_of : (number : ℕ) (subscripts : Terms) (g g' : Holding) (zs : List ℤ) → IsPlain old number subscripts → Holds pairing old new number g g' → Fitting subscripts zs → zs ≡ [] → g.count ≡ 1
    one_of number none g g' zs p holds f e = holds.one p
    one_of number (next_term t rest) g g' [] p holds f e = absurd f
    one_of number (next_term t rest) g g' (z ∷ zs) p holds f e = absurd (cc e)

    unit_same : (number : ℕ) (g g' : Holding) → Holds pairing old new number g g' → g.unit ≡ g'.unit
    unit_same number g g' holds = sym (ap (λ (x : Holding). x.unit) holds.same)

    count_same : (number : ℕ) (g g' : Holding) → Holds pairing old new number g g' → g.count ≡ g'.count
    count_same number g g' holds = sym (ap (λ (x : Holding). x.count) holds.same)

    holds_at : {X : Type 0} (number : ℕ) → (X → IsPaired pairing.variable number) → R X Holding Holding (Holds pairing old new number) (asks (holding old number)) (asks (holding new (partner pairing.variable number)))
    holds_at number p = closed.asked h (Holds pairing old new number) (holding old number) (holding new (partner pairing.variable number)) (λ x m m' q _. holding_same pairing old new premises number (p x) h m m' q)

    abbrev Ranged : Section → Option (ℤ × ℤ) → Option (ℤ × ℤ) → Type 0
    Ranged s r q = (r ≡ q) × (HasNoRange s → r ≡ None)

    abbrev Ranging : Section → Type 0
    Ranging s = CoversSection pairing s × (is_range old s ≡ true)

    -- with lengths that are one
    ranges_from : (s : Section) (number : ℕ) (g g' : Holding) → ((n : ℕ) → R (Ranging s) (Option (ℤ × ℤ)) (Option (ℤ × ℤ)) (Ranged s) (range_of old body n s) (range_of new body' n (renamed_section pairing swap s))) →
        R (Ranging s × Holds pairing old new number g g') (Option (ℤ × ℤ)) (Option (ℤ × ℤ)) (Ranged s) (range_of old body g.unit s) (range_of new body' g'.unit (renamed_section pairing swap s))
    ranges_from s number g g' r =
        closed.knows h h _ _ _ (λ x. (x.0, unit_same number g g' x.1))
        (closed.equals h h (λ _. Ranging s) (Ranged s) (λ n. range_of old body n s) (λ n. range_of new body' n (renamed_section pairing swap s)) r g.unit g'.unit)

    -- a read of a variable, or a call in its place
    variable_sim : (of : Designator) → R (CoversDesignator pairing of × Has (sort_of_designator old of)) Value Value Same (read_of old body of) (read_of new body' (renamed_designator pairing swap of)) → (o : Option Swap) → swap_of swap (number_of of) ≡ o →
        R (CoversDesignator pairing of × Has (sort_of_designator old of)) Value Value Same (value_of old body (variable of)) (value_of new body' (read_as o (pairing.site (site_of of)) (renamed_designator pairing swap of)))
    variable_sim of r None e = step _ _ _ r
    variable_sim of r (Some s) e = reads of s e

    mutual
      pub value_sim : (t : Term) → R (CoversTerm pairing t × Has (sort_of old t)) Value Value Same (value_of old body t) (value_of new body' (renamed_term pairing swap t))
      value_sim (literal v) = step _ _ _ (gives v)
      value_sim (paren inner) = value_sim inner
      value_sim (unary at operator arg) =
          step _ _ _ (same _ _ _ _ _ (closed.knows h h Same _ _ (λ x. (x.0, has_first (sort_of old arg) (of_one operator) x.1)) (value_sim arg)) (λ a. tells _ _ (unary_same at (pairing.site at) operator a a refl)))
      value_sim (binary at operator left right) =
          step _ _ _ (same _ _ _ _ _ (closed.knows h h Same _ _ (λ x. (x.0.0, (pair_has (sort_of old left) (sort_of old right) (sorts.of_two operator) x.1).0)) (value_sim left)) (λ a.
          same _ _ _ _ _ (closed.knows h h Same _ _ (λ x. (x.0.1, (pair_has (sort_of old left) (sort_of old right) (sorts.of_two operator) x.1).1)) (value_sim right)) (λ c. tells _ _ (binary_same at (pairing.site at) operator a a c c refl refl))))
      value_sim (variable of) = variable_sim of (read_sim of) (swap_of swap (number_of of)) refl
      value_sim (constant of) = step _ _ _ (constant_sim of)
      value_sim (intrinsic at function args) =
          step _ _ _ (same _ _ _ _ _ (closed.knows h h Same _ _ (λ x. (x.0, has_first (sorts_of old args) (of_intrinsic function) x.1)) (values_sim args)) (λ vs. tells _ _ (intrinsic_same at (pairing.site at) function vs vs refl)))
      value_sim (call at number args) =
          step _ _ _ (closed.binds h h h _ _ _ _ _ _ (closed.knows h h (ArgumentsSame pairing old new premises) _ _ (λ x. (x.0.1, function_passed old args (slice_get old.procedures number) (result_sort old) x.1)) (arguments_sim args (dummies_at old (slice_get old.procedures number)))) (λ given given'.
          same _ _ _ _ _ (called_same pairing old new premises Rel closed body body' bodies h at (pairing.site at) number given given' (λ x. (x.0.0.0, x.1))) (λ result. tells _ _ (found_same result))))

      values_sim : (ts : Terms) → R (CoversTerms pairing ts × Has (sorts_of old ts)) (List Value) (List Value) Same (values_of old body ts) (values_of new body' (renamed_terms pairing swap ts))
      values_sim none = gives []
      values_sim (next_term t rest) =
          same _ _ _ _ _ (closed.knows h h Same _ _ (λ x. (x.0.0, (pair_has (sort_of old t) (sorts_of old rest) (λ s ss. Some (s ∷ ss)) x.1).0)) (value_sim t)) (λ v.
          same _ _ _ _ _ (closed.knows h h Same _ _ (λ x. (x.0.1, (pair_has (sort_of old t) (sorts_of old rest) (λ s ss. Some (s ∷ ss)) x.1).1)) (values_sim rest)) (λ vs. gives (v ∷ vs)))

      wholes_sim : (ts : Terms) → R (CoversTerms pairing ts × (are_wholes old ts ≡ true)) (List ℤ) (List ℤ) (λ zs ys. (zs ≡ ys) × Fitting ts zs) (wholes_of old body ts) (wholes_of new body' (renamed_terms pairing swap ts))
      wholes_sim none = closed.tells h (λ zs ys. (zs ≡ ys) × Fitting none zs) (Ok []) (Ok []) (λ _. (refl, tt))
      wholes_sim (next_term t rest) =
          same _ _ _ _ _ (closed.knows h h Same _ _ (λ x. (x.0.0, sort_has types.Whole (sort_of old t) (both (is_sort types.Whole (sort_of old t)) (are_wholes old rest) x.1).0)) (value_sim t)) (λ v. same _ _ _ _ _ (tells _ _ (itself (as_whole v))) (λ z.
          same_with (Fitting rest) _ _ _ _ _ (closed.knows h h (λ zs ys. (zs ≡ ys) × Fitting rest zs) _ _ (λ x. (x.0.1, (both (is_sort types.Whole (sort_of old t)) (are_wholes old rest) x.1).1)) (wholes_sim rest)) (λ zs.
          closed.tells h (λ zs ys. (zs ≡ ys) × Fitting (next_term t rest) zs) (Ok (z ∷ zs)) (Ok (z ∷ zs)) (λ _. (refl, tt)))))

      bound_sim : (z : ℤ) (t : Bound) → R (CoversBound pairing t × (is_whole old t ≡ true)) ℤ ℤ Same (bound_or old body z t) (bound_or new body' z (renamed_bound pairing swap t))
      bound_sim z no_bound = gives z
      bound_sim z (bound t) = same _ _ _ _ _ (closed.knows h h Same _ _ (λ x. (x.0, sort_has types.Whole (sort_of old t) x.1)) (value_sim t)) (λ v. tells _ _ (itself (as_whole v)))

      range_sim : (n : ℕ) (s : Section) → R (Ranging s) (Option (ℤ × ℤ)) (Option (ℤ × ℤ)) (Ranged s) (range_of old body n s) (range_of new body' n (renamed_section pairing swap s))
      range_sim n no_section = closed.tells h (Ranged no_section) (Ok None) (Ok None) (λ _. (refl, λ _. refl))
      range_sim n (section low high) =
          same _ _ _ _ _ (closed.knows h h Same _ _ (λ x. (x.0.0, (both (is_whole old low) (is_whole old high) x.1).0)) (bound_sim (pos 1) low)) (λ a.
          same _ _ _ _ _ (closed.knows h h Same _ _ (λ x. (x.0.1, (both (is_whole old low) (is_whole old high) x.1).1)) (bound_sim (pos n) high)) (λ b.
          closed.tells h (Ranged (section low high)) (Ok (Some (a, b))) (Ok (Some (a, b))) (λ _. (refl, λ p. absurd p))))

      pub place_sim : (d : Designator) → R (CoversDesignator pairing d × Has (sort_of_designator old d)) Place Place (PlaceSame pairing old new) (place_at old body d) (place_at new body' (renamed_designator pairing swap d))
      place_sim (designator at number subscripts range) =
          closed.binds h h h _ _ _ _ _ _ (holds_at number (λ x. x.0.0)) (λ g g'.
          same_with (Fitting subscripts) _ _ _ _ _ (closed.knows h h _ _ _ (λ x. (x.0.0.1, (scalar_parts old number subscripts range x.0.1).0)) (wholes_sim subscripts)) (λ zs.
          same_with (λ r. HasNoRange range → r ≡ None) _ _ _ _ _ (closed.knows h h _ _ _ (λ x. ((x.0.0.0.2, (scalar_parts old number subscripts range x.0.0.1).1), x.0.1)) (ranges_from range number g g' (λ n. range_sim n range))) (λ r.
          closed.tells h (PlaceSame pairing old new) _ _ (λ x. place_same pairing old new premises number at (pairing.site at) g g' zs r x.0.0.1 (one_of number subscripts g g' zs (scalar_parts old number subscripts range x.0.0.0.1).2 x.0.0.1 x.0.1)))))

      rest_sim : (d : Designator) → R (CoversDesignator pairing d × Has (sort_of_array old d)) Place Place (RestSame pairing old new premises) (place_at old body d) (place_at new body' (renamed_designator pairing swap d))
      rest_sim (designator at number subscripts range) =
          closed.binds h h h _ _ _ _ _ _ (holds_at number (λ x. x.0.0)) (λ g g'.
          same_with (Fitting subscripts) _ _ _ _ _ (closed.knows h h _ _ _ (λ x. (x.0.0.1, (array_parts old at number subscripts range x.0.1).0)) (wholes_sim subscripts)) (λ zs.
          same_with (λ r. HasNoRange range → r ≡ None) _ _ _ _ _ (closed.knows h h _ _ _ (λ x. ((x.0.0.0.2, (array_parts old at number subscripts range x.0.0.1).1), x.0.1)) (ranges_from range number g g' (λ n. range_sim n range))) (λ r.
          closed.tells h (RestSame pairing old new premises) _ _ (λ x. subst (λ q. Answers (RestSame pairing old new premises) (place_of at g zs q) (place_of (pairing.site at) g' zs q)) (sym (x.1 (array_parts old at number subscripts range x.0.0.0.1).2)) (rest_same pairing old new premises number at (pairing.site at) g g' zs x.0.0.1)))))

      read_sim : (d : Designator) → R (CoversDesignator pairing d × Has (sort_of_designator old d)) Value Value Same (read_of old body d) (read_of new body' (renamed_designator pairing swap d))
      read_sim (designator at number subscripts range) =
          closed.binds h h h _ _ _ _ _ _ (holds_at number (λ x. x.0.0)) (λ g g'.
          same_with (Fitting subscripts) _ _ _ _ _ (closed.knows h h _ _ _ (λ x. (x.0.0.1, (scalar_parts old number subscripts range x.0.1).0)) (wholes_sim subscripts)) (λ zs.
          same_with (λ r. HasNoRange range → r ≡ None) _ _ _ _ _ (closed.knows h h _ _ _ (λ x. ((x.0.0.0.2, (scalar_parts old number subscripts range x.0.0.1).1), x.0.1)) (ranges_from range number g g' (λ n. range_sim n range))) (λ r.
          closed.binds h h h _ _ _ _ _ _
          (closed.tells h (PlaceSame pairing old new) _ _ (λ x. place_same pairing old new premises number at (pairing.site at) g g' zs r x.0.0.1 (one_of number subscripts g g' zs (scalar_parts old number subscripts range x.0.0.0.1).2 x.0.0.1 x.0.1))) (λ p p'.
          closed.asked h Same (read_at at p) (read_at (pairing.site at) p') (λ x m m' q _. read_same pairing old new premises h at (pairing.site at) m m' p p' q x.1)))))

      constant_sim : (c : Named) → R (CoversNamed pairing c × Has (sort_of_named old c)) Value Value Same (constant_in old body c) (constant_in new body' (renamed_named pairing swap c))
      constant_sim (named at v bounds subscripts range) =
          same_with (Fitting subscripts) _ _ _ _ _ (closed.knows h h _ _ _ (λ x. (x.0.0, (named_parts old (named at v bounds subscripts range) x.1).0)) (wholes_sim subscripts)) (λ zs.
          same_with (λ r. HasNoRange range → r ≡ None) _ _ _ _ _ (closed.knows h h _ _ _ (λ x. (x.0.0.1, (named_parts old (named at v bounds subscripts range) x.0.1).1)) (range_sim (units_of v) range)) (λ r.
          same _ _ _ _ _ (tells _ _ (bounds_same at (pairing.site at) (element (elements (map axis_from bounds)) (map axis_from bounds) zs))) (λ n.
          same _ _ _ _ _ (tells _ _ (bounds_same at (pairing.site at) (part (units_of v) r))) (λ s. gives (cut_out s v)))))

      constants_sim : (c : Named) → R (CoversNamed pairing c × Has (sort_of_constants old c)) Argument Argument (ArgumentSame pairing old new premises) (constants_from old body c) (constants_from new body' (renamed_named pairing swap c))
      constants_sim (named at v bounds subscripts range) =
          same_with (Fitting subscripts) _ _ _ _ _ (closed.knows h h _ _ _ (λ x. (x.0.0, constants_parts old (named at v bounds subscripts range) x.1)) (wholes_sim subscripts)) (λ zs.
          same _ _ _ _ _ (tells _ _ (bounds_same at (pairing.site at) (element (elements (map axis_from bounds)) (map axis_from bounds) zs))) (λ n.
          closed.tells h (ArgumentSame pairing old new premises) (Ok (own v _)) (Ok (own v _)) (λ _. (refl, refl))))

      arguments_sim : (p : Passed) (vs : List (Option Variable)) → R (CoversPassed pairing p × (are_passed old p vs ≡ true)) (List Argument) (List Argument) (ArgumentsSame pairing old new premises) (arguments_of old body p) (arguments_of new body' (renamed_passed pairing swap p))
      arguments_sim no_passed vs = closed.tells h (ArgumentsSame pairing old new premises) (Ok []) (Ok []) (λ _. tt)
      arguments_sim (by_value t rest) vs =
          same _ _ _ _ _ (closed.knows h h Same _ _ (λ x. (x.0.0, (value_passed old t rest vs x.1).0)) (value_sim t)) (λ v.
          closed.binds h h h _ _ _ _ _ _ (closed.knows h h (ArgumentsSame pairing old new premises) _ _ (λ x. (x.0.1, (value_passed old t rest vs x.1).1)) (arguments_sim rest (drop 1 vs))) (λ args args'.
          closed.tells h (ArgumentsSame pairing old new premises) (Ok (own v 1 ∷ args)) (Ok (own v 1 ∷ args')) (λ x. ((refl, refl), x.1))))
      arguments_sim (alone of rest) vs =
          step _ _ _ (closed.binds h h h _ _ _ _ _ _ (closed.knows h h (PlaceSame pairing old new) _ _ (λ x. (x.0.0, (alone_passed old of rest vs x.1).0)) (place_sim of)) (λ p p'.
          closed.binds h h h _ _ _ _ _ _ (closed.knows h h (ArgumentsSame pairing old new premises) _ _ (λ x. (x.0.0.1, (alone_passed old of rest vs x.0.1).1)) (arguments_sim rest (drop 1 vs))) (λ args args'.
          closed.tells h (ArgumentsSame pairing old new premises) (Ok (units p.first p.units p.units ∷ args)) (Ok (units p'.first p'.units p'.units ∷ args')) (λ x. ((ap (λ (q : Place). q.units) x.0.1.same, ap (λ (q : Place). q.units) x.0.1.same, x.0.1.near), x.1)))))
      arguments_sim (to_end of rest) vs =
          step _ _ _ (closed.binds h h h _ _ _ _ _ _ (closed.knows h h (RestSame pairing old new premises) _ _ (λ x. (x.0.0, (array_passed old of rest vs x.1).0)) (rest_sim of)) (λ p p'.
          closed.binds h h h _ _ _ _ _ _ (closed.knows h h (ArgumentsSame pairing old new premises) _ _ (λ x. (x.0.0.1, (array_passed old of rest vs x.0.1).1)) (arguments_sim rest (drop 1 vs))) (λ args args'.
          closed.tells h (ArgumentsSame pairing old new premises) (Ok (units p.first p.behind p.unit ∷ args)) (Ok (units p'.first p'.behind p'.unit ∷ args')) (λ x. ((ap (λ (q : Place). q.behind) x.0.1.same, ap (λ (q : Place). q.unit) x.0.1.same, x.0.1.near), x.1)))))
      arguments_sim (constants of rest) vs =
          step _ _ _ (closed.binds h h h _ _ _ _ _ _ (closed.knows h h (ArgumentSame pairing old new premises) _ _ (λ x. (x.0.0, (constants_passed old of rest vs x.1).0)) (constants_sim of)) (λ arg arg'.
          closed.binds h h h _ _ _ _ _ _ (closed.knows h h (ArgumentsSame pairing old new premises) _ _ (λ x. (x.0.0.1, (constants_passed old of rest vs x.0.1).1)) (arguments_sim rest (drop 1 vs))) (λ args args'.
          closed.tells h (ArgumentsSame pairing old new premises) (Ok (arg ∷ args)) (Ok (arg' ∷ args')) (λ x. (x.0.1, x.1)))))

    -- ---- input and output

    ended_sim : {X : Type 0} (at at' : Site) (bytes : List ℕ) → R X (List ℕ × Last) (List ℕ × Last) Same (run_end at bytes) (run_end at' bytes)
    ended_sim at at' [] = closed.stops h Same (Faulted code.End at) (Faulted code.End at') refl
    ended_sim at at' (byte ∷ bytes) = gives (byte ∷ bytes, Amid)

    past_sim : {X : Type 0} (f g : List ℕ → M (List ℕ × Last)) → ((bytes : List ℕ) → R X (List ℕ × Last) (List ℕ × Last) Same (f bytes) (g bytes)) → (bytes : List ℕ) (byte : ℕ) → R X (List ℕ × Last) (List ℕ × Last) Same (run_past f bytes byte) (run_past g bytes byte)
    past_sim f g r [] byte = r []
    past_sim f g r (first ∷ bytes) byte = gives (first ∷ bytes, last_of byte)

    choice_sim : {X A : Type 0} (b : Bool) (m n m' n' : M A) → R X A A Same m m' → R X A A Same n n' → R X A A Same (if b then m else n) (if b then m' else n')
    choice_sim true m n m' n' r q = r
    choice_sim false m n m' n' r q = q

    with_sim : {X : Type 0} (at at' : Site) (f g : List ℕ → M (List ℕ × Last)) → ((bytes : List ℕ) → R X (List ℕ × Last) (List ℕ × Last) Same (f bytes) (g bytes)) → (bytes : List ℕ) (next : Option ℕ) →
        R X (List ℕ × Last) (List ℕ × Last) Same (run_with at f bytes next) (run_with at' g bytes next)
    with_sim at at' f g r bytes None = ended_sim at at' bytes
    with_sim at at' f g r bytes (Some byte) = choice_sim (is_item_byte byte) _ _ _ _ (r (bytes ++ byte ∷ [])) (past_sim f g r bytes byte)

    run_sim : {X : Type 0} (at at' : Site) (n : ℕ) (bytes : List ℕ) → R X (List ℕ × Last) (List ℕ × Last) Same (run_of at n bytes) (run_of at' n bytes)
    run_sim at at' zero bytes = closed.stops h Same Cut Cut refl
    run_sim at at' (suc n) bytes = same _ _ _ _ _ (closed.taken h) (with_sim at at' (run_of at n) (run_of at' n) (run_sim at at' n) bytes)

    scalar_sim : {X : Type 0} (at at' : Site) (p p' : Place) → (X → PlaceSame pairing old new p p') → R X Last Last Same (scalar_in at p) (scalar_in at' p')
    scalar_sim at at' p p' f =
        same _ _ _ _ _ (closed.inputs h Same (λ n. run_of at n []) (λ n. run_of at' n []) (λ n. run_sim at at' n [])) (λ run.
        same _ _ _ _ _ (closed.tells h Same (item_at at run.0 p.ty) (item_at at' run.0 p'.ty) (λ x. item_same at at' run.0 p.ty p'.ty (ap (λ (q : Place). q.ty) (f x).same))) (λ v.
        step _ _ _ (closed.binds h h h _ _ _ _ _ _ (closed.put h p p' v v (λ x. (f x, refl))) (λ _ _. gives run.1))))

    elements_sim : {X : Type 0} (at at' : Site) (number : ℕ) (g g' : Holding) (n more : ℕ) (last : Last) → (X → Holds pairing old new number g g' × (n + more ≤ g.count)) → R X Last Last Same (elements_in at g n more last) (elements_in at' g' n more last)
    elements_sim at at' number g g' n zero last f = gives last
    elements_sim at at' number g g' n (suc more) last f =
        same _ _ _ _ _ (scalar_sim at at' (element_at g n) (element_at g' n) (λ x. element_same pairing old new premises number g g' n (f x).0 (here_more n more g.count (f x).1))) (λ next.
        elements_sim at at' number g g' (suc n) more next (λ x. ((f x).0, next_more n more g.count (f x).1)))

    rest_with_sim : {X : Type 0} (at at' : Site) (f g : Last → M (Unit {0})) → ((last : Last) → R X (Unit {0}) (Unit {0}) Same (f last) (g last)) → (last : Last) (next : Option ℕ) → R X (Unit {0}) (Unit {0}) Same (rest_with at f last next) (rest_with at' g last next)
    rest_with_sim at at' f g r Nothing None = closed.stops h Same (Faulted code.End at) (Faulted code.End at') refl
    rest_with_sim at at' f g r Amid None = gives tt
    rest_with_sim at at' f g r Over None = gives tt
    rest_with_sim at at' f g r Nothing (Some byte) = r (last_of byte)
    rest_with_sim at at' f g r Amid (Some byte) = r (last_of byte)
    rest_with_sim at at' f g r Over (Some byte) = r (last_of byte)

    tail_sim : {X : Type 0} (at at' : Site) (n : ℕ) (last : Last) → R X (Unit {0}) (Unit {0}) Same (rest_of at n last) (rest_of at' n last)
    tail_sim at at' zero last = closed.stops h Same Cut Cut refl
    tail_sim at at' (suc n) Over = gives tt
    tail_sim at at' (suc n) Nothing = same _ _ _ _ _ (closed.taken h) (rest_with_sim at at' (rest_of at n) (rest_of at' n) (tail_sim at at' n) Nothing)
    tail_sim at at' (suc n) Amid = same _ _ _ _ _ (closed.taken h) (rest_with_sim at at' (rest_of at n) (rest_of at' n) (tail_sim at at' n) Amid)

    read_at_sim : {X : Type 0} (at at' : Site) (p p' : Place) → (X → PlaceSame pairing old new p p') → R X Value Value Same (asks (read_at at p)) (asks (read_at at' p'))
    read_at_sim at at' p p' f = closed.asked h Same (read_at at p) (read_at at' p') (λ x m m' q _. read_same pairing old new premises h at at' m m' p p' q (f x))

    out_sim : {X : Type 0} (at at' : Site) (number : ℕ) (g g' : Holding) (n more : ℕ) → (X → Holds pairing old new number g g' × (n + more ≤ g.count)) → R X (List Value) (List Value) Same (elements_out at g n more) (elements_out at' g' n more)
    out_sim at at' number g g' n zero f = gives []
    out_sim at at' number g g' n (suc more) f =
        step _ _ _ (same _ _ _ _ _ (read_at_sim at at' (element_at g n) (element_at g' n) (λ x. element_same pairing old new premises number g g' n (f x).0 (here_more n more g.count (f x).1))) (λ v.
        same _ _ _ _ _ (out_sim at at' number g g' (suc n) more (λ x. ((f x).0, next_more n more g.count (f x).1))) (λ vs. gives (v ∷ vs))))

    copies_sim : {X : Type 0} (v : Value) (more : ℕ) → R X (List Value) (List Value) Same (copies_out v more) (copies_out v more)
    copies_sim v zero = gives []
    copies_sim v (suc more) = step _ _ _ (same _ _ _ _ _ (copies_sim v more) (λ vs. gives (v ∷ vs)))

    filled_sim : {X : Type 0} (number : ℕ) (g g' : Holding) (v : Value) (n more : ℕ) → (X → Holds pairing old new number g g' × (n + more ≤ g.count)) → R X Way Way Same (filled g v n more) (filled g' v n more)
    filled_sim number g g' v n zero f = gives GoOn
    filled_sim number g g' v n (suc more) f =
        step _ _ _ (closed.binds h h h _ _ _ _ _ _ (closed.put h (element_at g n) (element_at g' n) v v (λ x. (element_same pairing old new premises number g g' n (f x).0 (here_more n more g.count (f x).1), refl))) (λ _ _.
        filled_sim number g g' v (suc n) more (λ x. ((f x.0).0, next_more n more g.count (f x.0).1))))

    -- for all elements of an array
    all_sim : {A : Type 0} (number : ℕ) (g g' : Holding) (f f' : ℕ → M A) → ((n : ℕ) → R (Holds pairing old new number g g' × (n ≡ g.count)) A A Same (f n) (f' n)) → R (Holds pairing old new number g g') A A Same (f g.count) (f' g'.count)
    all_sim number g g' f f' r =
        closed.knows h h Same _ _ (λ x. ((x, refl), count_same number g g' x))
        (closed.equals h h (λ n. Holds pairing old new number g g' × (n ≡ g.count)) Same f f' r g.count g'.count)

    whole_array : (number : ℕ) (g g' : Holding) (n : ℕ) → Holds pairing old new number g g' × (n ≡ g.count) → Holds pairing old new number g g' × (0 + n ≤ g.count)
    whole_array number g g' n x = let e : n ≡ g.count = x.1 in (x.0, omega arith)

    grown_sim : {X : Type 0} (at at' : Site) (number : ℕ) (g g' : Holding) (by : ℤ) → (X → Holds pairing old new number g g' × (g.count ≡ 1)) → R X (Unit {0}) (Unit {0}) Any (grown at g by) (grown at' g' by)
    grown_sim at at' number g g' by f =
        same _ _ _ _ _ (read_at_sim at at' (element_at g 0) (element_at g' 0) (λ x. element_same pairing old new premises number g g' 0 (f x).0 (above_zero g.count (f x).1))) (λ v.
        same _ _ _ _ _ (tells _ _ (itself (as_whole v))) (λ z. same _ _ _ _ _ (tells _ _ (whole_site at at' (sum z by))) (λ w.
        closed.put h (element_at g 0) (element_at g' 0) w w (λ x. (element_same pairing old new premises number g g' 0 (f x).0 (above_zero g.count (f x).1), refl)))))

    around_sim : {X : Type 0} (m m' : M Way) → R X Way Way Same m m' → (way : Way) → R X Way Way Same (around m way) (around m' way)
    around_sim m m' r GoOn = r
    around_sim m m' r (Exit zero) = gives GoOn
    around_sim m m' r (Exit (suc depth)) = gives (Exit depth)
    around_sim m m' r (Cycle zero) = r
    around_sim m m' r (Cycle (suc depth)) = gives (Cycle depth)
    around_sim m m' r Return = gives Return

    onward_sim : {X : Type 0} (m m' : M Way) → R X Way Way Same m m' → (way : Way) → R X Way Way Same (onward m way) (onward m' way)
    onward_sim m m' r GoOn = r
    onward_sim m m' r (Exit depth) = gives (Exit depth)
    onward_sim m m' r (Cycle depth) = gives (Cycle depth)
    onward_sim m m' r Return = gives Return

    rounds_sim : {X : Type 0} (n : ℕ) (after after' : M (Unit {0})) (turn turn' : M Way) → R X (Unit {0}) (Unit {0}) Any after after' → R X Way Way Same turn turn' → R X Way Way Same (rounds n after turn) (rounds n after' turn')
    rounds_sim zero after after' turn turn' r t = gives GoOn
    rounds_sim (suc n) after after' turn turn' r t =
        step _ _ _ (same _ _ _ _ _ t (around_sim _ _ (closed.binds h h h _ _ _ _ _ _ r (λ _ _. closed.knows h h Same _ _ (λ x. x.0) (rounds_sim n after after' turn turn' r t)))))

    abbrev Sorted : Term → Type 0
    Sorted t = CoversTerm pairing t × Has (sort_of old t)

    whole_sim : (t : Term) → R (Sorted t) ℤ ℤ Same (whole_of old body t) (whole_of new body' (renamed_term pairing swap t))
    whole_sim t = same _ _ _ _ _ (value_sim t) (λ v. tells _ _ (itself (as_whole v)))

    truth_sim : (t : Term) → R (Sorted t) Bool Bool Same (truth_of old body t) (truth_of new body' (renamed_term pairing swap t))
    truth_sim t = same _ _ _ _ _ (value_sim t) (λ v. tells _ _ (itself (as_truth v)))

    written_sim : (w : act.Written) → R (CoversWritten pairing w × (are_written old w ≡ true)) (List Value) (List Value) Same (written old body w) (written new body' (renamed_written pairing swap w))
    written_sim act.no_written = gives []
    written_sim (act.scalar t rest) =
        same _ _ _ _ _ (closed.knows h h Same _ _ (λ x. (x.0.0, some_has (sort_of old t) (both (has_sort (sort_of old t)) (are_written old rest) x.1).0)) (value_sim t)) (λ v.
        same _ _ _ _ _ (closed.knows h h Same _ _ (λ x. (x.0.1, (both (has_sort (sort_of old t)) (are_written old rest) x.1).1)) (written_sim rest)) (λ vs. gives (v ∷ vs)))
    written_sim (act.array at number rest) =
        step _ _ _ (closed.binds h h h _ _ _ _ _ _ (holds_at number (λ x. x.0.0)) (λ g g'.
        same _ _ _ _ _ (closed.knows h h Same _ _ (λ x. x.1) (all_sim number g g' (elements_out at g 0) (elements_out (pairing.site at) g' 0) (λ n. out_sim at (pairing.site at) number g g' 0 n (whole_array number g g' n)))) (λ vs.
        same _ _ _ _ _ (closed.knows h h Same _ _ (λ x. (x.0.0.1, (both (has_sort (array_sort old number)) (are_written old rest) x.0.1).1)) (written_sim rest)) (λ ws. gives (vs ++ ws)))))
    written_sim (act.constants v bounds rest) =
        step _ _ _ (same _ _ _ _ _ (copies_sim v (elements (map axis_from bounds))) (λ vs. same _ _ _ _ _ (written_sim rest) (λ ws. gives (vs ++ ws))))

    wanted_sim : (w : act.Wanted) (last : Last) → R (CoversWanted pairing w × (are_wanted old w ≡ true)) Last Last Same (wanted old body w last) (wanted new body' (renamed_wanted pairing swap w) last)
    wanted_sim act.no_wanted last = gives last
    wanted_sim (act.one (designator at number subscripts range) rest) last =
        closed.binds h h h _ _ _ _ _ _
        (closed.knows h h (PlaceSame pairing old new) _ _ (λ x. (x.0.0, some_has (sort_of_designator old (designator at number subscripts range)) (both (has_sort (sort_of_designator old (designator at number subscripts range))) (are_wanted old rest) x.1).0)) (place_sim (designator at number subscripts range))) (λ p p'.
        same _ _ _ _ _ (scalar_sim at (pairing.site at) p p' (λ x. x.1)) (λ next.
        closed.knows h h Same _ _ (λ x. (x.0.0.1, (both (has_sort (sort_of_designator old (designator at number subscripts range))) (are_wanted old rest) x.0.1).1)) (wanted_sim rest next)))
    wanted_sim (act.each at number rest) last =
        closed.binds h h h _ _ _ _ _ _ (holds_at number (λ x. x.0.0)) (λ g g'.
        same _ _ _ _ _ (closed.knows h h Same _ _ (λ x. x.1) (all_sim number g g' (λ n. elements_in at g 0 n last) (λ n. elements_in (pairing.site at) g' 0 n last) (λ n. elements_sim at (pairing.site at) number g g' 0 n last (whole_array number g g' n)))) (λ next.
        closed.knows h h Same _ _ (λ x. (x.0.0.1, (both (has_sort (array_sort old number)) (are_wanted old rest) x.0.1).1)) (wanted_sim rest next)))

    -- ---- statements

    counted_sim : {X : Type 0} (at at' : Site) (number : ℕ) (turn turn' : M Way) → (X → IsPairedScalar pairing old number) → R X Way Way Same turn turn' → (from to by : ℤ) →
        R X Way Way Same (counted old body at number turn from to by) (counted new body' at' (partner pairing.variable number) turn' from to by)
    counted_sim at at' number turn turn' p t from to by =
        same _ _ _ _ _ (tells _ _ (not_zero_site at at' by)) (λ _.
        closed.binds h h h _ _ _ _ _ _ (holds_at number (λ x. (p x).0)) (λ g g'.
        closed.binds h h h _ _ _ _ _ _ (closed.put h (element_at g 0) (element_at g' 0) (Whole from) (Whole from) (λ x. (element_same pairing old new premises number g g' 0 x.1 (above_zero g.count (x.1.one (p x.0).1)), refl))) (λ _ _.
        rounds_sim (turn_count from to by) _ _ _ _ (grown_sim at at' number g g' by (λ x. (x.0.1, x.0.1.one (p x.0.0).1))) (closed.knows h h Same _ _ (λ x. x.0.0) t))))

    abbrev Assigning : ℕ → Bool → Designator → Term → Type 0
    Assigning depth inside target t = CoversAction pairing (act.assign target t) × (is_action old depth inside (act.assign target t) ≡ true)

    module _ (assigns : (depth : ℕ) (inside : Bool) (target : Designator) (t : Term) (s : Swap) → swap_of swap (number_of target) ≡ Some s →
        R (Assigning depth inside target t) Way Way Same (stmts.act old body (act.assign target t)) (stmts.act new body' (act.call (pairing.site (site_of target)) s.setter (passed_of pairing swap t)))) where
      -- an assignment, or a call in its place
      assigned_sim : (depth : ℕ) (inside : Bool) (target : Designator) (t : Term) (o : Option Swap) → swap_of swap (number_of target) ≡ o →
          R (Assigning depth inside target t) Way Way Same (stmts.act old body (act.assign target t)) (stmts.act new body' (assigned_as o (pairing.site (site_of target)) (renamed_designator pairing swap target) (renamed_term pairing swap t) (passed_of pairing swap t)))
      assigned_sim depth inside target t None e =
          step _ _ _ (closed.binds h h h _ _ _ _ _ _ (closed.knows h h (PlaceSame pairing old new) _ _ (λ x. (x.0.0, (agree_has (sort_of_designator old target) (sort_of old t) x.1).0)) (place_sim target)) (λ p p'.
          same _ _ _ _ _ (closed.knows h h Same _ _ (λ x. (x.0.0.1, (agree_has (sort_of_designator old target) (sort_of old t) x.0.1).1)) (value_sim t)) (λ v. closed.binds h h h _ _ _ _ _ _ (closed.put h p p' v v (λ x. (x.1, refl))) (λ _ _. gives GoOn))))
      assigned_sim depth inside target t (Some s) e = assigns depth inside target t s e

      act_sim : (depth : ℕ) (inside : Bool) (a : act.Action) → R (CoversAction pairing a × (is_action old depth inside a ≡ true)) Way Way Same (stmts.act old body a) (stmts.act new body' (renamed_action pairing swap a))
      act_sim depth inside (act.assign target t) = assigned_sim depth inside target t (swap_of swap (number_of target)) refl
      act_sim depth inside (act.fill number t) =
          step _ _ _ (same _ _ _ _ _ (closed.knows h h Same _ _ (λ x. (x.0.1, (agree_has (array_sort old number) (sort_of old t) x.1).1)) (value_sim t)) (λ v.
          closed.binds h h h _ _ _ _ _ _ (holds_at number (λ x. x.0.0)) (λ g g'.
          closed.knows h h Same _ _ (λ x. x.1) (all_sim number g g' (filled g v 0) (filled g' v 0) (λ n. filled_sim number g g' v 0 n (whole_array number g g' n))))))
      act_sim depth inside (act.call at number args) =
          step _ _ _ (closed.binds h h h _ _ _ _ _ _ (closed.knows h h (ArgumentsSame pairing old new premises) _ _ (λ x. (x.0.1, subroutine_passed old args (slice_get old.procedures number) x.1)) (arguments_sim args (dummies_at old (slice_get old.procedures number)))) (λ given given'.
          same _ _ _ _ _ (called_same pairing old new premises Rel closed body body' bodies h at (pairing.site at) number given given' (λ x. (x.0.0.0, x.1))) (λ _. gives GoOn)))
      act_sim depth inside (act.exit number) = step _ _ _ (gives (Exit number))
      act_sim depth inside (act.cycle number) = step _ _ _ (gives (Cycle number))
      act_sim depth inside act.return = step _ _ _ (gives Return)
      act_sim depth inside act.stop = step _ _ _ (closed.stops h Same Stopped Stopped refl)
      act_sim depth inside act.continue = step _ _ _ (gives GoOn)
      act_sim depth inside (act.print items) = step _ _ _ (same _ _ _ _ _ (written_sim items) (λ vs. closed.binds h h h _ _ _ _ _ _ (closed.emitted h (record_of vs) (record_of vs) (λ _. refl)) (λ _ _. gives GoOn)))
      act_sim depth inside (act.read at items) =
          step _ _ _ (same _ _ _ _ _ (wanted_sim items Nothing) (λ last.
          same _ _ _ _ _ (closed.inputs h Same (λ n. rest_of at n last) (λ n. rest_of (pairing.site at) n last) (λ n. tail_sim at (pairing.site at) n last)) (λ _. gives GoOn)))

      abbrev Doing : ℕ → Bool → act.Block → Type 0
      Doing depth inside b = CoversBlock pairing b × (is_block old depth inside b ≡ true)

      -- what a lawful DO construct with a variable says of its parts
      five : (a b c d e : Bool) → (a && b && c && d && e) ≡ true → (a ≡ true) × (b ≡ true) × (c ≡ true) × (d ≡ true) × (e ≡ true)
      five a b c d e x = let p = both (a && b && c && d) e x in let q = both (a && b && c) d p.0 in let r = both (a && b) c q.0 in let s = both a b r.0 in (s.0, s.1, r.1, q.1, p.1)

      counted_parts : (depth : ℕ) (inside : Bool) (number : ℕ) (from to : Term) (by : Bound) (turn : act.Block) →
          (is_sort types.Whole (scalar_sort old number) && is_sort types.Whole (sort_of old from) && is_sort types.Whole (sort_of old to) && is_whole old by && is_block old (suc depth) inside turn) ≡ true →
          (is_sort types.Whole (scalar_sort old number) ≡ true) × (is_sort types.Whole (sort_of old from) ≡ true) × (is_sort types.Whole (sort_of old to) ≡ true) × (is_whole old by ≡ true) × (is_block old (suc depth) inside turn ≡ true)
      counted_parts depth inside number from to by turn x =
          five (is_sort types.Whole (scalar_sort old number)) (is_sort types.Whole (sort_of old from)) (is_sort types.Whole (sort_of old to)) (is_whole old by) (is_block old (suc depth) inside turn) x

      arm_parts : (depth : ℕ) (inside : Bool) (t : Term) (turn : act.Block) (rest : act.Arms) → (is_sort types.Truth (sort_of old t) && is_block old depth inside turn && are_arms old depth inside rest) ≡ true →
          (is_sort types.Truth (sort_of old t) ≡ true) × (is_block old depth inside turn ≡ true) × (are_arms old depth inside rest ≡ true)
      arm_parts depth inside t turn rest x =
          let p = both (is_sort types.Truth (sort_of old t) && is_block old depth inside turn) (are_arms old depth inside rest) x in let q = both (is_sort types.Truth (sort_of old t)) (is_block old depth inside turn) p.0 in (q.0, q.1, p.1)

      mutual
        perform_sim : (depth : ℕ) (inside : Bool) (s : act.Statement) → R (CoversStatement pairing s × (is_statement old depth inside s ≡ true)) Way Way Same (stmts.perform old body s) (stmts.perform new body' (renamed_statement pairing swap s))
        perform_sim depth inside (act.does action) = act_sim depth inside action
        perform_sim depth inside (act.choose arms otherwise) =
            closed.knows h h Same _ _ (λ x. ((x.0.0, (both (are_arms old depth inside arms) (is_block old depth inside otherwise) x.1).0), (x.0.1, (both (are_arms old depth inside arms) (is_block old depth inside otherwise) x.1).1)))
            (chosen_sim depth inside arms otherwise _ _ (block_sim depth inside otherwise))
        perform_sim depth inside (act.select t cases otherwise) =
            step _ _ _ (same _ _ _ _ _ (closed.knows h h Same _ _ (λ x. (x.0.0, sort_has types.Whole (sort_of old t) (both (is_sort types.Whole (sort_of old t)) (are_cases old depth inside cases && is_block old depth inside otherwise) x.1).0)) (whole_sim t)) (λ z.
            closed.knows h h Same _ _ (λ x. let p = both (are_cases old depth inside cases) (is_block old depth inside otherwise) (both (is_sort types.Whole (sort_of old t)) (are_cases old depth inside cases && is_block old depth inside otherwise) x.1).1 in ((x.0.1, p.0), (x.0.2, p.1)))
            (selected_sim depth inside z cases otherwise _ _ (block_sim depth inside otherwise))))
        perform_sim depth inside (act.count at number from to by turn) =
            step _ _ _ (same _ _ _ _ _ (closed.knows h h Same _ _ (λ x. (x.0.1, sort_has types.Whole (sort_of old from) (counted_parts depth inside number from to by turn x.1).1)) (whole_sim from)) (λ a.
            same _ _ _ _ _ (closed.knows h h Same _ _ (λ x. (x.0.2, sort_has types.Whole (sort_of old to) (counted_parts depth inside number from to by turn x.1).2)) (whole_sim to)) (λ b.
            same _ _ _ _ _ (closed.knows h h Same _ _ (λ x. (x.0.3, (counted_parts depth inside number from to by turn x.1).3)) (bound_sim (pos 1) by)) (λ c.
            counted_sim at (pairing.site at) number _ _ (λ x. (x.0.0, scalar_sorted old number (sort_has types.Whole (scalar_sort old number) (counted_parts depth inside number from to by turn x.1).0)))
            (closed.knows h h Same _ _ (λ x. (x.0.4, (counted_parts depth inside number from to by turn x.1).4)) (block_sim (suc depth) inside turn)) a b c))))
        perform_sim depth inside (act.while t turn) =
            step _ _ _ (closed.loops h _ _ _ _ (closed.knows h h Same _ _ (λ x. (x.0.0, sort_has types.Truth (sort_of old t) (both (is_sort types.Truth (sort_of old t)) (is_block old (suc depth) inside turn) x.1).0)) (truth_sim t))
            (closed.knows h h Same _ _ (λ x. (x.0.1, (both (is_sort types.Truth (sort_of old t)) (is_block old (suc depth) inside turn) x.1).1)) (block_sim (suc depth) inside turn)))
        perform_sim depth inside (act.forever turn) = step _ _ _ (closed.loops h _ _ _ _ (gives true) (block_sim (suc depth) inside turn))

        pub block_sim : (depth : ℕ) (inside : Bool) (s : act.Block) → R (Doing depth inside s) Way Way Same (block old body s) (block new body' (renamed_block pairing swap s))
        block_sim depth inside act.empty = gives GoOn
        block_sim depth inside (act.row first rest) =
            same _ _ _ _ _ (closed.knows h h Same _ _ (λ x. (x.0.0, (both (is_statement old depth inside first) (is_block old depth inside rest) x.1).0)) (perform_sim depth inside first))
            (onward_sim _ _ (closed.knows h h Same _ _ (λ x. (x.0.1, (both (is_statement old depth inside first) (is_block old depth inside rest) x.1).1)) (block_sim depth inside rest)))

        chosen_sim : (depth : ℕ) (inside : Bool) (arms : act.Arms) (last : act.Block) (m m' : M Way) → R (Doing depth inside last) Way Way Same m m' →
            R ((CoversArms pairing arms × (are_arms old depth inside arms ≡ true)) × Doing depth inside last) Way Way Same (chosen old body arms m) (chosen new body' (renamed_arms pairing swap arms) m')
        chosen_sim depth inside act.no_arms last m m' r = closed.knows h h Same _ _ (λ x. x.1) r
        chosen_sim depth inside (act.arm t turn rest) last m m' r =
            step _ _ _ (same _ _ _ _ _ (closed.knows h h Same _ _ (λ x. (x.0.0.0, sort_has types.Truth (sort_of old t) (arm_parts depth inside t turn rest x.0.1).0)) (truth_sim t)) (λ b.
            choice_sim b _ _ _ _ (closed.knows h h Same _ _ (λ x. (x.0.0.1, (arm_parts depth inside t turn rest x.0.1).1)) (block_sim depth inside turn))
            (closed.knows h h Same _ _ (λ x. ((x.0.0.2, (arm_parts depth inside t turn rest x.0.1).2), x.1)) (chosen_sim depth inside rest last m m' r))))

        selected_sim : (depth : ℕ) (inside : Bool) (z : ℤ) (cases : act.Cases) (last : act.Block) (m m' : M Way) → R (Doing depth inside last) Way Way Same m m' →
            R ((CoversCases pairing cases × (are_cases old depth inside cases ≡ true)) × Doing depth inside last) Way Way Same (selected old body z cases m) (selected new body' z (renamed_cases pairing swap cases) m')
        selected_sim depth inside z act.no_cases last m m' r = closed.knows h h Same _ _ (λ x. x.1) r
        selected_sim depth inside z (act.case values turn rest) last m m' r =
            choice_sim (list_any (has z) values) _ _ _ _ (closed.knows h h Same _ _ (λ x. (x.0.0.0, (both (is_block old depth inside turn) (are_cases old depth inside rest) x.0.1).0)) (block_sim depth inside turn))
            (closed.knows h h Same _ _ (λ x. ((x.0.0.1, (both (is_block old depth inside turn) (are_cases old depth inside rest) x.0.1).1), x.1)) (selected_sim depth inside z rest last m m' r))
