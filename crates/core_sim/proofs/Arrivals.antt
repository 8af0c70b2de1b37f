-- What a procedure and its partner find at their entry and leave at their exit.
use Rattle.std.proofs.Common.{inl, inr, ◌≡◌, ◌≤◌, ◌<◌, ◌+◌, ◌-◌, ◌*◌, ℕ, zero, suc, List, [], ◌∷◌, ◌++◌, length, take, drop, map, refl, sym, ap, subst, ◌∙◌, arith}
use Rattle.std.specs.Prelude.{ℤ, ◌⊎◌, ◌==◌, Bool, true, false, ◌&&◌, nat_le, nat_lt, slice_get, sum_by, if◌then◌else◌, Option, Some, None, Result, Ok, Err}
use Rattle.std.specs.List.{list_any, repeat}
use Rattle.std.specs.Option.{option_map, option_map_or}
use Rattle.std.proofs.lemmas.Bool.{and_right}
use Rattle.std.proofs.lemmas.Bool.Decides.{nat_tests}
use Rattle.std.proofs.lemmas.List.{length-append, length-take-le}
use Rattle.std.proofs.lemmas.Option.{slice_get_past}
use Rattle.ftn_base.specs.declared.entity.Ty.{Ty}
use Rattle.ftn_tree.specs.declared.value.Value.{Value}
use Rattle.core_prog.specs.declared.site.Site.{Site}
use Rattle.core_prog.specs.declared.outcome.FaultCode.TheVariants as code
use Rattle.core_prog.specs.declared.storage.Area.{Area}
use Rattle.core_prog.specs.declared.storage.Content.{Content}
use Rattle.core_prog.specs.declared.storage.Content.TheVariants.{Nothing}
use Rattle.core_prog.specs.declared.storage.Dimension.{Dimension}
use Rattle.core_prog.specs.declared.storage.Limit.{Limit}
use Rattle.core_prog.specs.declared.storage.Limit.TheVariants as limit
use Rattle.core_prog.specs.declared.storage.Variable.{Variable}
use Rattle.core_prog.specs.Ends.{End, Faulted, ◌>>=◌, found}
use Rattle.core_prog.specs.Operations.{as_whole}
use Rattle.core_prog.specs.Contents.{contents_of, units_of}
use Rattle.ftn_tree.specs.Arrays.{Axis, span}
use Rattle.core_prog.specs.Memory.{Holding, Frame, Memory, element_at, read_at}
use Rattle.core_prog.specs.Programs.{Program, Procedure}
use Rattle.core_prog.specs.Holdings.{holding}
use Rattle.core_prog.specs.Entries.{Argument, units, own, Taken, taken, own_contents, is_emptied_by, emptied, begun, limit_at, upper_at, axes_at, unit_taken, count_taken, holding_taken, within, held_at, with_frame, prepared, entered, left, result_at}
use Rattle.core_prog.specs.Sorts.{is_scalar}
use Rattle.core_prog.specs.Lawful.{IsLawful, IsResult, scalar_sort}
use Rattle.core_sim.specs.Pairings.{Pairing, partner, IsPaired}
use Rattle.core_sim.specs.Units.{units_in, is_emptied}
use Rattle.core_sim.specs.Premises.{Premises, SameVariable, Both, ArePaired, CoversLimit, CoversDimensions, CoversResult, renamed_limit, renamed_dimension}
use Rattle.core_sim.specs.Paired.{Meets, Near, Holds, Held, SameFrames, PairedMemory}
use Rattle.core_sim.proofs.Answering.{Same, Answers}
use Rattle.core_sim.proofs.Sites.{as_whole_same}
use Rattle.core_sim.proofs.Cells.{append_get, append_past, take_get, replaced, replaced_same, emptied_get, length_emptied}
use Rattle.core_sim.proofs.Counting.{area_end}
use Rattle.core_sim.proofs.Places.{unit_below, read_same, element_same}
use Rattle.core_sim.proofs.Typed.{IsPairedScalar, IsScalarLimit, AreScalarLimits, limits_scalar, scalar_sorted, some_has}
use Rattle.core_sim.proofs.Lodging.{holding_same}

pub answers_on : {A B C D : Type 0} (R : A → B → Type 0) (S : C → D → Type 0) (r : Result A End) (r' : Result B End) (f : A → Result C End) (g : B → Result D End) →
    Answers R r r' → ((a : A) (b : B) → R a b → Answers S (f a) (g b)) → Answers S (r >>= f) (r' >>= g)
answers_on R S (Ok a) (Ok b) f g h k = k a b h
answers_on R S (Ok a) (Err e') f g h k = absurd h
answers_on R S (Err e) (Ok b) f g h k = absurd h
answers_on R S (Err e) (Err e') f g h k = h

-- ---- places beyond all areas

beyond : (start size all at : ℕ) → start + size ≤ all → all ≤ at → (nat_le start at && nat_lt at (start + size)) ≡ false
beyond start size all at h k = grind (arith, nat_tests)

no_area : (number at : ℕ) (areas : List Area) → ((k : ℕ) (area : Area) → slice_get areas k ≡ Some area → (is_emptied_by number area.emptied && (nat_le area.start at && nat_lt at (area.start + area.size))) ≡ false) →
    list_any (λ (area : Area). is_emptied_by number area.emptied && (nat_le area.start at && nat_lt at (area.start + area.size))) areas ≡ false
no_area number at [] h = refl
no_area number at (area ∷ areas) h =
    let first : (is_emptied_by number area.emptied && (nat_le area.start at && nat_lt at (area.start + area.size))) ≡ false = h 0 area refl in
    let rest : list_any (λ (area : Area). is_emptied_by number area.emptied && (nat_le area.start at && nat_lt at (area.start + area.size))) areas ≡ false = no_area number at areas (λ k a e. h (suc k) a e) in
    cc (first, rest)

starts_below : (begins size before all : ℕ) → begins ≡ before → before + size ≤ all → begins + size ≤ all
starts_below begins size before all e h = omega arith

pub not_emptied : (program : Program) → IsLawful program → (number at : ℕ) → units_in program ≤ at → is_emptied program number at ≡ false
not_emptied program lawful number at h =
    no_area number at program.areas (λ k area e.
    and_right (is_emptied_by number area.emptied) (nat_le area.start at && nat_lt at (area.start + area.size))
    (beyond area.start area.size (units_in program) at
    (starts_below area.start area.size (sum_by (λ (a : Area). a.size) (take k program.areas)) (units_in program) (lawful.areas k area e).begins (area_end program.areas k area e)) h))

pub below_or : (i h : ℕ) → (i < h) ⊎ (h ≤ i)
below_or zero zero = inr (omega arith)
below_or zero (suc h) = inl (omega arith)
below_or (suc i) zero = inr (omega arith)
below_or (suc i) (suc h) = raised i h (below_or i h)
  where
    raised : (i h : ℕ) → (i < h) ⊎ (h ≤ i) → (suc i < suc h) ⊎ (suc h ≤ suc i)
    raised i h (inl q) = inl (omega arith)
    raised i h (inr q) = inr (omega arith)

module _ (pairing : Pairing) (old new : Program) (premises : Premises pairing old new) where
  abbrev pub ArgumentSame : Argument → Argument → Type 0
  ArgumentSame (units first n unit) (units first' n' unit') = (n' ≡ n) × (unit' ≡ unit) × Near pairing old new n first first'
  ArgumentSame (own v n) (own v' n') = (v' ≡ v) × (n' ≡ n)
  ArgumentSame a a' = ⊥

  abbrev pub ArgumentsSame : List Argument → List Argument → Type 0
  ArgumentsSame [] [] = Unit {0}
  ArgumentsSame (a ∷ args) (a' ∷ args') = ArgumentSame a a' × ArgumentsSame args args'
  ArgumentsSame args args' = ⊥

  record TakenSame (t t' : Taken) : Type 0 where
    units : t'.units ≡ t.units
    unit : t'.unit ≡ t.unit
    near : Near pairing old new t.units t.first t'.first

  abbrev TakensSame : List Taken → List Taken → Type 0
  TakensSame [] [] = Unit {0}
  TakensSame (t ∷ ts) (t' ∷ ts') = TakenSame t t' × TakensSame ts ts'
  TakensSame ts ts' = ⊥

  next_own : (next all i more : ℕ) → next ≡ all + i → next + more ≡ all + (i + more)
  next_own next all i more e = omega arith

  same_more : (n n' : ℕ) (v v' : Value) → v' ≡ v → n' ≡ n → n' * units_of v' ≡ n * units_of v
  same_more n n' v v' e f = ap (λ w. n' * units_of w) e ∙ ap (λ m. m * units_of v) f

  takes_same : (args args' : List Argument) (next next' i : ℕ) → next ≡ units_in old + i → next' ≡ units_in new + i → ArgumentsSame args args' → TakensSame (taken next args) (taken next' args')
  takes_same [] [] next next' i e f h = tt
  takes_same [] (a' ∷ args') next next' i e f h = absurd h
  takes_same (units first n unit ∷ args) [] next next' i e f h = absurd h
  takes_same (own v n ∷ args) [] next next' i e f h = absurd h
  takes_same (units first n unit ∷ args) (units first' n' unit' ∷ args') next next' i e f h = (record { units = h.0.0; unit = h.0.1; near = h.0.2 }, takes_same args args' next next' i e f h.1)
  takes_same (units first n unit ∷ args) (own v' n' ∷ args') next next' i e f h = absurd h.0
  takes_same (own v n ∷ args) (units first' n' unit' ∷ args') next next' i e f h = absurd h.0
  takes_same (own v n ∷ args) (own v' n' ∷ args') next next' i e f h = (
    record { units = same_more n n' v v' h.0.0 h.0.1; unit = ap units_of h.0.0; near = λ k q. inr (i + k, next_own next (units_in old) i k e, next_own next' (units_in new) i k f) },
    takes_same args args' (next + n * units_of v) (next' + n' * units_of v') (i + n * units_of v) (next_own next (units_in old) i (n * units_of v) e)
        (ap (λ m. next' + m) (same_more n n' v v' h.0.0 h.0.1) ∙ next_own next' (units_in new) i (n * units_of v) f) h.1,
  )

  pub own_same : (args args' : List Argument) → ArgumentsSame args args' → own_contents args' ≡ own_contents args
  own_same [] [] h = refl
  own_same [] (a' ∷ args') h = absurd h
  own_same (units first n unit ∷ args) [] h = absurd h
  own_same (own v n ∷ args) [] h = absurd h
  own_same (units first n unit ∷ args) (units first' n' unit' ∷ args') h = own_same args args' h.1
  own_same (units first n unit ∷ args) (own v' n' ∷ args') h = absurd h.0
  own_same (own v n ∷ args) (units first' n' unit' ∷ args') h = absurd h.0
  own_same (own v n ∷ args) (own v' n' ∷ args') h =
      ap (λ w. repeat n' (contents_of (units_of w) w) ++ own_contents args') h.0.0 ∙ ap (λ m. repeat m (contents_of (units_of v) v) ++ own_contents args') h.0.1
      ∙ ap (λ cs. repeat n (contents_of (units_of v) v) ++ cs) (own_same args args' h.1)

  -- ---- memory at an entry

  added : (all more before cs : ℕ) (xs : ℕ) → xs ≡ before + cs → before ≡ all + more → xs ≡ all + (more + cs)
  added all more before cs xs e f = omega arith

  longer : (program : Program) (number : ℕ) (cells cs : List Content) (all h : ℕ) → length cells ≡ all + h → length (emptied number program.areas cells ++ cs) ≡ all + (h + length cs)
  longer program number cells cs all h e =
      added all h (length cells) (length cs) (length (emptied number program.areas cells ++ cs))
      (length-append (emptied number program.areas cells) cs ∙ ap (λ n. n + length cs) (length_emptied number program.areas cells)) e

  front : (program : Program) (number at : ℕ) (cells cs : List Content) → at < length cells → slice_get (emptied number program.areas cells ++ cs) at ≡ replaced Nothing (is_emptied program number at) (slice_get cells at)
  front program number at cells cs h =
      append_get (emptied number program.areas cells) cs at (subst (λ n. at < n) (sym (length_emptied number program.areas cells)) h) ∙ emptied_get number program.areas cells at

  within_all : (at all h n : ℕ) → at < all → n ≡ all + h → at < n
  within_all at all h n q e = omega arith

  before_height : (at all h i n : ℕ) → at ≡ all + i → i < h → n ≡ all + h → at < n
  before_height at all h i n e q f = omega arith

  past_height : (at all h i n : ℕ) → at ≡ all + i → h ≤ i → n ≡ all + h → at ≡ n + (i - h)
  past_height at all h i n e q f = omega arith

  all_below : (at all i : ℕ) → at ≡ all + i → all ≤ at
  all_below at all i e = omega arith

  prepared_contents : (number h : ℕ) (m m' : Memory) (cs : List Content) → IsPaired pairing.procedure number → PairedMemory pairing old new h m m' → (at at' : ℕ) → Meets pairing old new at at' →
      slice_get (emptied number old.areas m.cells ++ cs) at ≡ slice_get (emptied (partner pairing.procedure number) new.areas m'.cells ++ cs) at'
  prepared_contents number h m m' cs p paired at at' (inl u) =
      front old number at m.cells cs (within_all at (units_in old) h (length m.cells) (unit_below old premises.lawful u.number u.unit at u.before) paired.places)
      ∙ replaced_same Nothing (is_emptied old number at) (is_emptied new (partner pairing.procedure number) at') (slice_get m.cells at) (slice_get m'.cells at') (premises.storage.emptied at at' number u p) (paired.contents at at' (inl u))
      ∙ sym (front new (partner pairing.procedure number) at' m'.cells cs (within_all at' (units_in new) h (length m'.cells) (unit_below new premises.lawful_new (partner pairing.variable u.number) u.unit at' u.after) paired.places_new))
  prepared_contents number h m m' cs p paired at at' (inr u) = by_height (below_or u.0 h)
    where
      by_height : (u.0 < h) ⊎ (h ≤ u.0) → slice_get (emptied number old.areas m.cells ++ cs) at ≡ slice_get (emptied (partner pairing.procedure number) new.areas m'.cells ++ cs) at'
      by_height (inl q) =
          front old number at m.cells cs (before_height at (units_in old) h u.0 (length m.cells) u.1 q paired.places)
          ∙ replaced_same Nothing (is_emptied old number at) (is_emptied new (partner pairing.procedure number) at') (slice_get m.cells at) (slice_get m'.cells at')
          (not_emptied old premises.lawful number at (all_below at (units_in old) u.0 u.1) ∙ sym (not_emptied new premises.lawful_new (partner pairing.procedure number) at' (all_below at' (units_in new) u.0 u.2)))
          (paired.contents at at' (inr u))
          ∙ sym (front new (partner pairing.procedure number) at' m'.cells cs (before_height at' (units_in new) h u.0 (length m'.cells) u.2 q paired.places_new))
      by_height (inr q) =
          append_past (emptied number old.areas m.cells) cs (u.0 - h) at (past_height at (units_in old) h u.0 (length (emptied number old.areas m.cells)) u.1 q (length_emptied number old.areas m.cells ∙ paired.places))
          ∙ sym (append_past (emptied (partner pairing.procedure number) new.areas m'.cells) cs (u.0 - h) at'
          (past_height at' (units_in new) h u.0 (length (emptied (partner pairing.procedure number) new.areas m'.cells)) u.2 q (length_emptied (partner pairing.procedure number) new.areas m'.cells ∙ paired.places_new)))

  prepared_same : (number h : ℕ) (m m' : Memory) (args args' : List Argument) → IsPaired pairing.procedure number → ArgumentsSame args args' → PairedMemory pairing old new h m m' →
      PairedMemory pairing old new (h + length (own_contents args)) (prepared old number args m) (prepared new (partner pairing.procedure number) args' m')
  prepared_same number h m m' args args' p same paired =
      subst (λ own. PairedMemory pairing old new (h + length (own_contents args)) (prepared old number args m) (record m' { cells = emptied (partner pairing.procedure number) new.areas m'.cells ++ own })) (sym (own_same args args' same)) (record {
        places = longer old number m.cells (own_contents args) (units_in old) h paired.places;
        places_new = longer new (partner pairing.procedure number) m'.cells (own_contents args) (units_in new) h paired.places_new;
        contents = prepared_contents number h m m' (own_contents args) p paired;
        active = paired.active;
      })

  framed : (number h : ℕ) (proc : Procedure) (m m' : Memory) (held held' : List Holding) → slice_get old.procedures number ≡ Some proc → IsPaired pairing.procedure number → Held pairing old new proc.dummies held held' → PairedMemory pairing old new h m m' →
      PairedMemory pairing old new h (with_frame number held m) (with_frame (partner pairing.procedure number) held' m')
  framed number h proc m m' held held' there p same paired = record {
    places = paired.places;
    places_new = paired.places_new;
    contents = paired.contents;
    active = (record { procedure = proc; there = there; paired = p; held = same }, paired.active);
  }

  only_first : (k n : ℕ) → k ≤ 1 * 1 - 1 → k ≤ n - 1
  only_first k n h = omega arith

  begun_same : (numbers : List ℕ) (ts ts' : List Taken) → TakensSame ts ts' → Held pairing old new numbers (map begun ts) (map begun ts')
  begun_same [] ts ts' h = tt
  begun_same (n ∷ numbers) [] [] h = tt
  begun_same (n ∷ numbers) [] (t' ∷ ts') h = absurd h
  begun_same (n ∷ numbers) (t ∷ ts) [] h = absurd h
  begun_same (n ∷ numbers) (t ∷ ts) (t' ∷ ts') h = (record { same = refl; near = λ k q. h.0.near k (only_first k t.units q); one = λ _. refl }, begun_same numbers ts ts' h.1)

  -- ---- bounds

  above_zero : (c : ℕ) → c ≡ 1 → 0 < c
  above_zero c e = omega arith

  -- the value of a scalar
  pub scalar_read : {C D : Type 0} (S : C → D → Type 0) (at at' : Site) (number h : ℕ) (m m' : Memory) (f : Value → Result C End) (g : Value → Result D End) → IsPairedScalar pairing old number → PairedMemory pairing old new h m m' →
      ((v w : Value) → v ≡ w → Answers S (f v) (g w)) →
      Answers S (holding old number m >>= (λ x. read_at at (element_at x 0) m >>= f)) (holding new (partner pairing.variable number) m' >>= (λ x. read_at at' (element_at x 0) m' >>= g))
  scalar_read S at at' number h m m' f g p paired same =
      answers_on (Holds pairing old new number) S (holding old number m) (holding new (partner pairing.variable number) m') (λ x. read_at at (element_at x 0) m >>= f) (λ x. read_at at' (element_at x 0) m' >>= g)
      (holding_same pairing old new premises number p.0 h m m' paired) (λ x y holds.
      answers_on Same S (read_at at (element_at x 0) m) (read_at at' (element_at y 0) m') f g
      (read_same pairing old new premises h at at' m m' (element_at x 0) (element_at y 0) paired (element_same pairing old new premises number x y 0 holds (above_zero x.count (holds.one p.1)))) same)

  limit_same : (at at' : Site) (h : ℕ) (m m' : Memory) (l : Limit) → CoversLimit pairing l → IsScalarLimit old l → PairedMemory pairing old new h m m' → Answers Same (limit_at old at m l) (limit_at new at' m' (renamed_limit pairing l))
  limit_same at at' h m m' (limit.Number z) p q paired = refl
  limit_same at at' h m m' (limit.Dummy number) p q paired = scalar_read Same at at' number h m m' as_whole as_whole (p, q) paired as_whole_same
  limit_same at at' h m m' limit.Open p q paired = refl

  abbrev up_to : ℤ → ℤ → Axis
  up_to low z = record { low = low; extent = Some (span low z) }

  upper_from : (low : ℤ) (r r' : Result ℤ End) → Answers Same r r' → Answers {A = Axis} {B = Axis} Same (r >>= (λ z. Ok (up_to low z))) (r' >>= (λ z. Ok (up_to low z)))
  upper_from low r r' h = answers_on Same Same r r' (λ z. Ok (up_to low z)) (λ z. Ok (up_to low z)) h (λ y z e. ap (up_to low) e)

  upper_same : (at at' : Site) (h : ℕ) (m m' : Memory) (low : ℤ) (l : Limit) → CoversLimit pairing l → IsScalarLimit old l → PairedMemory pairing old new h m m' → Answers Same (upper_at old at m low l) (upper_at new at' m' low (renamed_limit pairing l))
  upper_same at at' h m m' low (limit.Number z) p q paired = refl
  upper_same at at' h m m' low (limit.Dummy number) p q paired =
      upper_from low (limit_at old at m (limit.Dummy number)) (limit_at new at' m' (limit.Dummy (partner pairing.variable number))) (limit_same at at' h m m' (limit.Dummy number) p q paired)
  upper_same at at' h m m' low limit.Open p q paired = refl

  -- equal, and none where there are no dimensions
  abbrev AxesSame : List Dimension → List Axis → List Axis → Type 0
  AxesSame ds axes axes' = (axes ≡ axes') × ((length ds == 0) ≡ true → axes ≡ [])

  not_none : (d : Dimension) (ds : List Dimension) → (length (d ∷ ds) == 0) ≡ true → ⊥
  not_none d ds h = grind (arith, nat_tests)

  axes_same : (at at' : Site) (h : ℕ) (m m' : Memory) (ds : List Dimension) → CoversDimensions pairing ds → AreScalarLimits old ds → PairedMemory pairing old new h m m' → Answers (AxesSame ds) (axes_at old at m ds) (axes_at new at' m' (map (renamed_dimension pairing) ds))
  axes_same at at' h m m' [] p s paired = (refl, λ _. refl)
  axes_same at at' h m m' (d ∷ ds) p s paired =
      answers_on Same (AxesSame (d ∷ ds)) (limit_at old at m d.low) (limit_at new at' m' (renamed_limit pairing d.low))
      (λ low. upper_at old at m low d.high >>= (λ axis. axes_at old at m ds >>= (λ axes. Ok (axis ∷ axes))))
      (λ low. upper_at new at' m' low (renamed_limit pairing d.high) >>= (λ axis. axes_at new at' m' (map (renamed_dimension pairing) ds) >>= (λ axes. Ok (axis ∷ axes))))
      (limit_same at at' h m m' d.low p.0 s.0 paired) (λ low low' e.
      answers_on Same (AxesSame (d ∷ ds)) (upper_at old at m low d.high) (upper_at new at' m' low' (renamed_limit pairing d.high))
      (λ axis. axes_at old at m ds >>= (λ axes. Ok (axis ∷ axes))) (λ axis. axes_at new at' m' (map (renamed_dimension pairing) ds) >>= (λ axes. Ok (axis ∷ axes)))
      (subst (λ z. Answers Same (upper_at old at m low d.high) (upper_at new at' m' z (renamed_limit pairing d.high))) e (upper_same at at' h m m' low d.high p.1 s.1 paired)) (λ axis axis' f.
      answers_on (AxesSame ds) (AxesSame (d ∷ ds)) (axes_at old at m ds) (axes_at new at' m' (map (renamed_dimension pairing) ds)) (λ axes. Ok (axis ∷ axes)) (λ axes. Ok (axis' ∷ axes))
      (axes_same at at' h m m' ds p.2 s.2 paired) (λ axes axes' g. (cc (f, g.0), λ q. absurd (not_none d ds q)))))

  -- ---- dummy arguments

  abbrev got : Ty → List Axis → ℕ → ℕ → ℕ → Holding
  got ty axes n unit first = record { ty = ty; first = first; unit = unit_taken ty unit; axes = axes; count = count_taken axes n (unit_taken ty unit) }

  fits : (k c n : ℕ) → c ≤ n → k ≤ c - 1 → k ≤ n - 1
  fits k c n h q = omega arith

  within_same : (at at' : Site) (number : ℕ) (v : Variable) (axes : List Axis) (t t' : Taken) → slice_get old.variables number ≡ Some v → ((length v.dimensions == 0) ≡ true → axes ≡ []) → TakenSame t t' →
      Answers (Holds pairing old new number) (within at t.units (got v.ty axes t.units t.unit t.first)) (within at' t.units (got v.ty axes t.units t.unit t'.first))
  within_same at at' number v axes t t' d none same =
      by_test (nat_le ((got v.ty axes t.units t.unit t.first).count * (got v.ty axes t.units t.unit t.first).unit) t.units) (λ e. grind (arith, nat_tests))
    where
      by_test : (p : Bool) → (p ≡ true → (got v.ty axes t.units t.unit t.first).count * (got v.ty axes t.units t.unit t.first).unit ≤ t.units) →
          Answers (Holds pairing old new number) (if p then Ok (got v.ty axes t.units t.unit t.first) else Err (Faulted code.Extent at)) (if p then Ok (got v.ty axes t.units t.unit t'.first) else Err (Faulted code.Extent at'))
      by_test true e = record {
        same = refl;
        near = λ k q. same.near k (fits k ((got v.ty axes t.units t.unit t.first).count * (got v.ty axes t.units t.unit t.first).unit) t.units (e refl) q);
        one = λ q. ap (λ a. count_taken a t.units (unit_taken v.ty t.unit)) (none (subst (λ o. option_map_or is_scalar o false ≡ true) d q));
      }
      by_test false e = refl

  taken_held : (at at' : Site) (number : ℕ) (v v' : Variable) (axes axes' : List Axis) (t t' : Taken) → slice_get old.variables number ≡ Some v → v'.ty ≡ v.ty → axes ≡ axes' → ((length v.dimensions == 0) ≡ true → axes ≡ []) → TakenSame t t' →
      Answers (Holds pairing old new number) (within at t.units (holding_taken v axes t)) (within at' t'.units (holding_taken v' axes' t'))
  taken_held at at' number v v' axes axes' t t' d e f none same =
      subst (λ h. Answers (Holds pairing old new number) (within at t.units (holding_taken v axes t)) (within at' t'.units h))
      (ap (λ ty. got ty axes t.units t.unit t'.first) (sym e) ∙ ap (λ a. got v'.ty a t.units t.unit t'.first) f ∙ ap (λ n. got v'.ty axes' n t.unit t'.first) (sym same.units) ∙ ap (λ u. got v'.ty axes' t'.units u t'.first) (sym same.unit))
      (subst (λ n. Answers (Holds pairing old new number) (within at t.units (holding_taken v axes t)) (within at' n (got v.ty axes t.units t.unit t'.first))) (sym same.units)
      (within_same at at' number v axes t t' d none same))

  held_same : (at at' : Site) (h : ℕ) (m m' : Memory) (numbers : List ℕ) (ts ts' : List Taken) → ArePaired pairing numbers → TakensSame ts ts' → PairedMemory pairing old new h m m' →
      Answers (Held pairing old new numbers) (held_at old at m numbers ts) (held_at new at' m' (map (partner pairing.variable) numbers) ts')
  held_same at at' h m m' [] [] [] p same paired = tt
  held_same at at' h m m' [] [] (t' ∷ ts') p same paired = absurd same
  held_same at at' h m m' [] (t ∷ ts) [] p same paired = absurd same
  held_same at at' h m m' [] (t ∷ ts) (t' ∷ ts') p same paired = tt
  held_same at at' h m m' (number ∷ numbers) [] [] p same paired = tt
  held_same at at' h m m' (number ∷ numbers) [] (t' ∷ ts') p same paired = absurd same
  held_same at at' h m m' (number ∷ numbers) (t ∷ ts) [] p same paired = absurd same
  held_same at at' h m m' (number ∷ numbers) (t ∷ ts) (t' ∷ ts') p same paired =
      by_variables (slice_get old.variables number) (slice_get new.variables (partner pairing.variable number)) refl (premises.variables number p.0) (held_same at at' h m m' numbers ts ts' p.1 same.1 paired)
    where
      by_variables : (o o' : Option Variable) → slice_get old.variables number ≡ o → Both (SameVariable pairing) o o' →
          Answers (Held pairing old new numbers) (held_at old at m numbers ts) (held_at new at' m' (map (partner pairing.variable) numbers) ts') →
          Answers (Held pairing old new (number ∷ numbers))
          (found o >>= (λ v. axes_at old at m v.dimensions >>= (λ axes. within at t.units (holding_taken v axes t) >>= (λ x. held_at old at m numbers ts >>= (λ xs. Ok (x ∷ xs))))))
          (found o' >>= (λ v. axes_at new at' m' v.dimensions >>= (λ axes. within at' t'.units (holding_taken v axes t') >>= (λ x. held_at new at' m' (map (partner pairing.variable) numbers) ts' >>= (λ xs. Ok (x ∷ xs))))))
      by_variables None None d b rest = absurd b
      by_variables None (Some v') d b rest = absurd b
      by_variables (Some v) None d b rest = absurd b
      by_variables (Some v) (Some v') d b rest =
          answers_on (AxesSame v.dimensions) (Held pairing old new (number ∷ numbers)) (axes_at old at m v.dimensions) (axes_at new at' m' v'.dimensions)
          (λ axes. within at t.units (holding_taken v axes t) >>= (λ x. held_at old at m numbers ts >>= (λ xs. Ok (x ∷ xs))))
          (λ axes. within at' t'.units (holding_taken v' axes t') >>= (λ x. held_at new at' m' (map (partner pairing.variable) numbers) ts' >>= (λ xs. Ok (x ∷ xs))))
          (subst (λ ds. Answers (AxesSame v.dimensions) (axes_at old at m v.dimensions) (axes_at new at' m' ds)) (sym b.dimensions) (axes_same at at' h m m' v.dimensions b.bounds (limits_scalar old number v v.home (premises.lawful.variables number v d)) paired)) (λ axes axes' e.
          answers_on (Holds pairing old new number) (Held pairing old new (number ∷ numbers)) (within at t.units (holding_taken v axes t)) (within at' t'.units (holding_taken v' axes' t'))
          (λ x. held_at old at m numbers ts >>= (λ xs. Ok (x ∷ xs))) (λ x. held_at new at' m' (map (partner pairing.variable) numbers) ts' >>= (λ xs. Ok (x ∷ xs)))
          (taken_held at at' number v v' axes axes' t t' d b.ty e.0 e.1 same.0) (λ x x' f.
          answers_on (Held pairing old new numbers) (Held pairing old new (number ∷ numbers)) (held_at old at m numbers ts) (held_at new at' m' (map (partner pairing.variable) numbers) ts')
          (λ xs. Ok (x ∷ xs)) (λ xs. Ok (x' ∷ xs)) rest (λ xs xs' g. (f, g))))

  pub entered_same : (at at' : Site) (number h : ℕ) (proc : Procedure) (m m' : Memory) (args args' : List Argument) → slice_get old.procedures number ≡ Some proc → IsPaired pairing.procedure number → ArePaired pairing proc.dummies →
      ArgumentsSame args args' → PairedMemory pairing old new h m m' →
      Answers (PairedMemory pairing old new (h + length (own_contents args))) (entered old at number proc.dummies args m) (entered new at' (partner pairing.procedure number) (map (partner pairing.variable) proc.dummies) args' m')
  entered_same at at' number h proc m m' args args' there p dummies same paired =
      let after = prepared_same number h m m' args args' p same paired in
      let ts : TakensSame (taken (length m.cells) args) (taken (length m'.cells) args') = takes_same args args' (length m.cells) (length m'.cells) h paired.places paired.places_new same in
      answers_on (Held pairing old new proc.dummies) (PairedMemory pairing old new (h + length (own_contents args)))
      (held_at old at (with_frame number (map begun (taken (length m.cells) args)) (prepared old number args m)) proc.dummies (taken (length m.cells) args))
      (held_at new at' (with_frame (partner pairing.procedure number) (map begun (taken (length m'.cells) args')) (prepared new (partner pairing.procedure number) args' m')) (map (partner pairing.variable) proc.dummies) (taken (length m'.cells) args'))
      (λ held. Ok (with_frame number held (prepared old number args m))) (λ held. Ok (with_frame (partner pairing.procedure number) held (prepared new (partner pairing.procedure number) args' m')))
      (held_same at at' (h + length (own_contents args)) (with_frame number (map begun (taken (length m.cells) args)) (prepared old number args m))
      (with_frame (partner pairing.procedure number) (map begun (taken (length m'.cells) args')) (prepared new (partner pairing.procedure number) args' m'))
      proc.dummies (taken (length m.cells) args) (taken (length m'.cells) args') dummies ts
      (framed number (h + length (own_contents args)) proc (prepared old number args m) (prepared new (partner pairing.procedure number) args' m') (map begun (taken (length m.cells) args)) (map begun (taken (length m'.cells) args')) there p
      (begun_same proc.dummies (taken (length m.cells) args) (taken (length m'.cells) args') ts) after))
      (λ held held' e. framed number (h + length (own_contents args)) proc (prepared old number args m) (prepared new (partner pairing.procedure number) args' m') held held' there p e after)

  -- ---- the exit

  one_frame_less : (frames frames' : List Frame) → SameFrames pairing old new frames frames' → SameFrames pairing old new (drop 1 frames) (drop 1 frames')
  one_frame_less [] [] h = tt
  one_frame_less [] (f' ∷ frames') h = absurd h
  one_frame_less (f ∷ frames) [] h = absurd h
  one_frame_less (f ∷ frames) (f' ∷ frames') h = h.1

  enough : (n all h more : ℕ) → n ≡ all + (h + more) → all + h ≤ n
  enough n all h more e = omega arith

  kept_length : (cells : List Content) (mark all h more : ℕ) → mark ≡ all + h → length cells ≡ all + (h + more) → length (take mark cells) ≡ all + h
  kept_length cells mark all h more e f =
      length-take-le mark cells (subst (λ n. n ≤ length cells) (sym e) (enough (length cells) all h more f)) ∙ e

  past_end : (cells : List Content) (mark all h more at i : ℕ) → mark ≡ all + h → length cells ≡ all + (h + more) → at ≡ all + i → h ≤ i → slice_get (take mark cells) at ≡ None
  past_end cells mark all h more at i e f g q =
      slice_get_past (take mark cells) at (subst (λ n. n ≤ at) (sym (kept_length cells mark all h more e f)) (omega arith))

  pub left_same : (h more mark mark' : ℕ) (m m' : Memory) → mark ≡ units_in old + h → mark' ≡ units_in new + h → PairedMemory pairing old new (h + more) m m' → PairedMemory pairing old new h (left mark m) (left mark' m')
  left_same h more mark mark' m m' e e' paired = record {
    places = kept_length m.cells mark (units_in old) h more e paired.places;
    places_new = kept_length m'.cells mark' (units_in new) h more e' paired.places_new;
    contents = λ at at' meets. contents at at' meets;
    active = one_frame_less m.active m'.active paired.active;
  }
    where
      contents : (at at' : ℕ) → Meets pairing old new at at' → slice_get (take mark m.cells) at ≡ slice_get (take mark' m'.cells) at'
      contents at at' (inl u) =
          take_get mark m.cells at (within_all at (units_in old) h mark (unit_below old premises.lawful u.number u.unit at u.before) e)
          ∙ paired.contents at at' (inl u)
          ∙ sym (take_get mark' m'.cells at' (within_all at' (units_in new) h mark' (unit_below new premises.lawful_new (partner pairing.variable u.number) u.unit at' u.after) e'))
      contents at at' (inr u) = by_height (below_or u.0 h)
        where
          by_height : (u.0 < h) ⊎ (h ≤ u.0) → slice_get (take mark m.cells) at ≡ slice_get (take mark' m'.cells) at'
          by_height (inl q) =
              take_get mark m.cells at (before_height at (units_in old) h u.0 mark u.1 q e) ∙ paired.contents at at' (inr u) ∙ sym (take_get mark' m'.cells at' (before_height at' (units_in new) h u.0 mark' u.2 q e'))
          by_height (inr q) = past_end m.cells mark (units_in old) h more at u.0 e paired.places u.1 q ∙ sym (past_end m'.cells mark' (units_in new) h more at' u.0 e' paired.places_new u.2 q)

  pub result_same : (at at' : Site) (h : ℕ) (m m' : Memory) (result : Option ℕ) → CoversResult pairing result → IsResult old result → PairedMemory pairing old new h m m' →
      Answers Same (result_at old at result m) (result_at new at' (option_map (partner pairing.variable) result) m')
  result_same at at' h m m' None p q paired = refl
  result_same at at' h m m' (Some number) p q paired =
      scalar_read Same at at' number h m m' (λ v. Ok (Some v)) (λ v. Ok (Some v)) (p, scalar_sorted old number (some_has (scalar_sort old number) q)) paired (λ v w e. ap Some e)
