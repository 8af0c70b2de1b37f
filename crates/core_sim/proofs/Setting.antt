-- A call of the subroutine that stands for an assignment of a variable stores what its argument holds.
use Rattle.std.proofs.Common.{inl, inr, ◌≡◌, ◌≤◌, ◌<◌, ◌⊎◌, ◌+◌, ◌*◌, ℕ, zero, suc, List, [], ◌∷◌, ◌++◌, length, take, drop, map, refl, sym, ap, subst, ◌∙◌, arith}
use Rattle.std.specs.Prelude.{Bool, true, false, not, nat_eq, nat_le, slice_get, slice_set, if◌then◌else◌, Option, Some, None, Ok, Err}
use Rattle.std.specs.Option.{option_map_or}
use Rattle.std.proofs.lemmas.Bool.Decides.{nat_tests}
use Rattle.std.proofs.lemmas.List.{length-append, length-take-le}
use Rattle.std.proofs.lemmas.Option.{slice_get_past}
use Rattle.ftn_base.specs.declared.entity.Ty.{Ty}
use Rattle.ftn_base.specs.declared.entity.Ty.TheVariants.{Integer, Logical, Character}
use Rattle.ftn_tree.specs.declared.value.Value.{Value}
use Rattle.ftn_tree.specs.declared.value.Value.TheVariants as value
use Rattle.core_prog.specs.declared.site.Site.{Site}
use Rattle.core_prog.specs.declared.outcome.FaultCode.TheVariants as code
use Rattle.core_prog.specs.declared.storage.Content.{Content}
use Rattle.core_prog.specs.declared.storage.Content.TheVariants as content
use Rattle.core_prog.specs.declared.storage.Home.TheVariants as home
use Rattle.core_prog.specs.declared.storage.Variable.{Variable}
use Rattle.core_prog.specs.Ends.{Faulted, ◌>>=◌, or_end, found}
use Rattle.core_prog.specs.Contents.{contents_of, stored, units_from, value_in, units_of}
use Rattle.core_prog.specs.Memory.{Holding, Frame, Memory, Place, frame_of, read_at, with_value}
use Rattle.core_prog.specs.Programs.{Program}
use Rattle.core_prog.specs.Holdings.{holding, home_of}
use Rattle.core_prog.specs.Entries.{Argument, units, own, Taken, taken, own_contents, begun, emptied, axes_at, holding_taken, within, held_at, with_frame, prepared, entered, left}
use Rattle.ftn_tree.specs.Sorts.{Text, is_sort, sort_of_type, sort_of_value}
use Rattle.core_prog.specs.Sorts.{is_scalar}
use Rattle.core_prog.specs.Lawful.{IsDummyOf}
use Rattle.core_prog.specs.Values.{called}
use Rattle.core_prog.specs.Runs.{bodies}
use Rattle.core_sim.specs.Pairings.{Pairing, Swap, partner}
use Rattle.core_sim.specs.Swaps.{IsSwap, IsMade}
use Rattle.core_sim.specs.Premises.{Premises}
use Rattle.core_sim.specs.Paired.{Meets, Holds, PairedMemory, is_scalar_at}
use Rattle.core_sim.specs.Copying.{Does, Is, Got, whole_of}
use Rattle.core_sim.proofs.Answering.{Same, Answers, PlaceSame}
use Rattle.core_sim.proofs.Cells.{take_get, length_emptied, same_from}
use Rattle.core_sim.proofs.Copying.{copy_calls}
use Rattle.core_sim.proofs.Places.{or_same, place_same, put_memory}
use Rattle.core_sim.proofs.Typed.{both}
use Rattle.core_sim.proofs.HeldTypes.{one_unit_taken}
use Rattle.core_sim.proofs.Lodging.{holding_same}
use Rattle.core_sim.proofs.Arrivals.{below_or}
use Rattle.core_sim.proofs.Swapping.{free_at, entry_keeps, source_old, source_new}

-- ---- an argument

-- what the dummy argument takes
abbrev pub took : ℕ → Argument → Taken
took next (units first n unit) = record { first = first; units = n; unit = unit }
took next (own v n) = record { first = next; units = n * units_of v; unit = units_of v }

taken_one : (next : ℕ) (a : Argument) → taken next (a ∷ []) ≡ took next a ∷ []
taken_one next (units first n unit) = refl
taken_one next (own v n) = refl

take_set : {A : Type 0} (n : ℕ) (xs : List A) (c : ℕ) (x : A) → take n (slice_set xs c x) ≡ slice_set (take n xs) c x
take_set zero [] c x = refl
take_set zero (y ∷ xs) c x = refl
take_set (suc n) [] c x = refl
take_set (suc n) (y ∷ xs) zero x = refl
take_set (suc n) (y ∷ xs) (suc c) x = ap (λ ys. y ∷ ys) (take_set n xs c x)

-- what is put below an end stays when the rest is cut off
take_stored : (n first : ℕ) (cs cells : List Content) → take n (stored first cs cells) ≡ stored first cs (take n cells)
take_stored n first [] cells = refl
take_stored n first (c ∷ cs) cells = take_stored n (first + 1) cs (slice_set cells first c) ∙ ap (stored (first + 1) cs) (take_set n cells first c)

last_one : {A : Type 0} (xs : List A) (x : A) (n : ℕ) → n ≡ length xs → take 1 (drop n (xs ++ x ∷ [])) ≡ x ∷ []
last_one [] x zero e = refl
last_one [] x (suc n) e = absurd (omega arith)
last_one (y ∷ xs) x zero e = absurd (omega arith)
last_one (y ∷ xs) x (suc n) e = last_one xs x n (omega arith)

-- a value of the type is read where it was put alone
own_read : (ty : Ty) (at : Site) (v : Value) (cells : List Content) (n : ℕ) → not (is_sort Text (Some (sort_of_type ty))) ≡ true → sort_of_value v ≡ sort_of_type ty → n ≡ length cells →
    or_end (Faulted code.Undefined at) (value_in ty (units_from n 1 (cells ++ own_contents (own v 1 ∷ [])))) ≡ Ok v
own_read (Character m) at v cells n t e f = absurd (cc t)
own_read Integer at (value.Whole z) cells n t e f = ap (λ xs. or_end (Faulted code.Undefined at) (value_in Integer xs)) (last_one cells (content.Whole z) n f)
own_read Integer at (value.Truth b) cells n t e f = absurd (cc e)
own_read Integer at (value.Chars text) cells n t e f = absurd (cc e)
own_read Logical at (value.Whole z) cells n t e f = absurd (cc e)
own_read Logical at (value.Truth b) cells n t e f = ap (λ xs. or_end (Faulted code.Undefined at) (value_in Logical xs)) (last_one cells (content.Truth b) n f)
own_read Logical at (value.Chars text) cells n t e f = absurd (cc e)

pub one_taken : (ty : Ty) (v : Value) (next : ℕ) → not (is_sort Text (Some (sort_of_type ty))) ≡ true → sort_of_value v ≡ sort_of_type ty → (took next (own v 1)).units ≡ 1
one_taken ty (value.Whole z) next t e = refl
one_taken ty (value.Truth b) next t e = refl
one_taken Integer (value.Chars text) next t e = absurd (cc e)
one_taken Logical (value.Chars text) next t e = absurd (cc e)
one_taken (Character m) (value.Chars text) next t e = absurd (cc t)

frame_here : (number : ℕ) (f : Frame) (frames : List Frame) → f.procedure ≡ number → frame_of number (f ∷ frames) ≡ Some f
frame_here number f frames e = by_test (nat_eq f.procedure number) (is_true f.procedure number e)
  where
    is_true : (a b : ℕ) → a ≡ b → nat_eq a b ≡ true
    is_true a b q = grind (arith, nat_tests)

    by_test : (b : Bool) → b ≡ true → (if b then Some f else frame_of number frames) ≡ Some f
    by_test true q = refl
    by_test false q = absurd (cc q)

is_within : (at : Site) (n : ℕ) (h : Holding) → n ≡ 1 → h.unit ≡ 1 → h.count ≡ 1 → within at n h ≡ Ok h
is_within at n h e f g = by_test (nat_le (h.count * h.unit) n) (fits h.count h.unit n e f g)
  where
    fits : (c u n : ℕ) → n ≡ 1 → u ≡ 1 → c ≡ 1 → nat_le (c * u) n ≡ true
    fits c u n e f g = ap (λ x. nat_le (x * u) n) g ∙ ap (λ x. nat_le (1 * x) n) f ∙ ap (λ x. nat_le (1 * 1) x) e

    by_test : (b : Bool) → b ≡ true → (if b then Ok h else Err (Faulted code.Extent at)) ≡ Ok h
    by_test true q = refl
    by_test false q = absurd (cc q)

module _ (pairing : Pairing) (old new : Program) (premises : Premises pairing old new) where
  -- memory after a procedure that is no partner, where it put nothing
  entry_leaves : (number h : ℕ) (m m0 : Memory) (cs : List Content) → IsMade pairing old new number → PairedMemory pairing old new h m m0 →
      PairedMemory pairing old new h m (record { cells = take (length m0.cells) (emptied number new.areas m0.cells ++ cs); active = m0.active })
  entry_leaves number h m m0 cs made paired = record {
    places = paired.places;
    places_new = full ∙ paired.places_new;
    contents = λ at at' q. by_length at at' q (below_or at' (length m0.cells));
    active = paired.active;
  }
    where
      long : (a b c : ℕ) → c ≡ a + b → a ≤ c
      long a b c e = omega arith

      full : length (take (length m0.cells) (emptied number new.areas m0.cells ++ cs)) ≡ length m0.cells
      full =
          length-take-le (length m0.cells) (emptied number new.areas m0.cells ++ cs)
          (long (length m0.cells) (length cs) (length (emptied number new.areas m0.cells ++ cs))
          (length-append (emptied number new.areas m0.cells) cs ∙ ap (λ n. n + length cs) (length_emptied number new.areas m0.cells)))

      by_length : (at at' : ℕ) → Meets pairing old new at at' → (at' < length m0.cells) ⊎ (length m0.cells ≤ at') → slice_get m.cells at ≡ slice_get (take (length m0.cells) (emptied number new.areas m0.cells ++ cs)) at'
      by_length at at' q (inl l) = entry_keeps pairing old new premises number h m m0 cs made paired at at' q l ∙ sym (take_get (length m0.cells) (emptied number new.areas m0.cells ++ cs) at' l)
      by_length at at' q (inr l) =
          paired.contents at at' q ∙ slice_get_past m0.cells at' l ∙ sym (slice_get_past (take (length m0.cells) (emptied number new.areas m0.cells ++ cs)) at' (subst (λ n. n ≤ at') (sym full) l))

module _ (pairing : Pairing) (old new : Program) (premises : Premises pairing old new) (s : Swap) (w : IsSwap pairing old new s) where
  pub no_text : not (is_sort Text (Some (sort_of_type w.variable.ty))) ≡ true
  no_text = (both (is_scalar w.variable) (not (is_sort Text (Some (sort_of_type w.variable.ty)))) w.one_unit).1

  no_text_dummy : not (is_sort Text (Some (sort_of_type w.setter.like.like.ty))) ≡ true
  no_text_dummy = subst (λ ty. not (is_sort Text (Some (sort_of_type ty))) ≡ true) (sym w.setter.like.ty) no_text

  dummy_home : w.setter.like.like.home ≡ home.Dummy s.setter 0
  dummy_home = by_variable (slice_get new.variables w.setter.dummy) w.setter.like.declared ((premises.lawful_new.procedures s.setter _ w.setter.there).dummies 0 w.setter.dummy refl)
    where
      by_variable : (o : Option Variable) → o ≡ Some w.setter.like.like → IsDummyOf new s.setter 0 o → w.setter.like.like.home ≡ home.Dummy s.setter 0
      by_variable None e d = absurd (cc e)
      by_variable (Some v) e d = let same : v ≡ w.setter.like.like = cc e in ap (λ (x : Variable). x.home) (sym same) ∙ d

  -- where the dummy argument is
  abbrev pub dummy_held : Taken → Holding
  dummy_held t = holding_taken w.setter.like.like [] t

  -- memory inside the subroutine
  abbrev pub in_setter : Argument → Memory → Memory
  in_setter a m0 = with_frame s.setter (dummy_held (took (length m0.cells) a) ∷ []) (prepared new s.setter (a ∷ []) m0)

  held_in : (a : Argument) (m0 : Memory) → holding new w.setter.dummy (in_setter a m0) ≡ Ok (dummy_held (took (length m0.cells) a))
  held_in a m0 =
      ap (λ o. found o >>= (λ v. home_of new v v.home (in_setter a m0))) w.setter.like.declared ∙ ap (λ x. home_of new w.setter.like.like x (in_setter a m0)) dummy_home
      ∙ ap (λ o. found o >>= (λ (f : Frame). found (slice_get f.held 0))) (frame_here s.setter (record { procedure = s.setter; held = dummy_held (took (length m0.cells) a) ∷ [] }) m0.active refl)

  one_held : (at : Site) (m : Memory) (t : Taken) → t.units ≡ 1 → held_at new at m (w.setter.dummy ∷ []) (t ∷ []) ≡ Ok (dummy_held t ∷ [])
  one_held at m t e =
      ap (λ o. found o >>= (λ v. axes_at new at m v.dimensions >>= (λ axes. within at t.units (holding_taken v axes t) >>= (λ h. Ok (h ∷ []))))) w.setter.like.declared
      ∙ ap (λ ds. axes_at new at m ds >>= (λ axes. within at t.units (holding_taken w.setter.like.like axes t) >>= (λ h. Ok (h ∷ [])))) w.setter.like.scalar
      ∙ ap (λ r. r >>= (λ h. Ok (h ∷ []))) (is_within at t.units (dummy_held t) e (one_unit_taken w.setter.like.like.ty t.unit no_text_dummy) refl)

  pub setter_enters : (at : Site) (a : Argument) (m0 : Memory) → (took (length m0.cells) a).units ≡ 1 → entered new at s.setter (w.setter.dummy ∷ []) (a ∷ []) m0 ≡ Ok (in_setter a m0)
  setter_enters at a m0 e =
      ap (λ ts. held_at new at (with_frame s.setter (map begun ts) (prepared new s.setter (a ∷ []) m0)) (w.setter.dummy ∷ []) ts >>= (λ held. Ok (with_frame s.setter held (prepared new s.setter (a ∷ []) m0)))) (taken_one (length m0.cells) a)
      ∙ ap (λ r. r >>= (λ held. Ok (with_frame s.setter held (prepared new s.setter (a ∷ []) m0))))
      (one_held at (with_frame s.setter (begun (took (length m0.cells) a) ∷ []) (prepared new s.setter (a ∷ []) m0)) (took (length m0.cells) a) e)

  -- the call, in four steps
  pub setter_call : (room : ℕ) (at : Site) (a : Argument) (h : ℕ) (m m0 : Memory) → PairedMemory pairing old new h m m0 → (took (length m0.cells) a).units ≡ 1 →
      Does 4 (Is m0) (called new (bodies new (suc room)) at s.setter (a ∷ [])) (Got w.setter.from (source_new pairing old new premises s w).h (dummy_held (took (length m0.cells) a)) m0 (in_setter a m0) (λ _. None))
      (λ e. read_at w.setter.from (whole_of (dummy_held (took (length m0.cells) a))) (in_setter a m0) ≡ Err e)
  setter_call room at a h m m0 paired one = copy_calls new room at s.setter (a ∷ []) m0 (in_setter a m0)
      (record {
        dummies = w.setter.dummy ∷ [];
        result = None;
        to_at = w.setter.at;
        to = partner pairing.variable s.variable;
        from_at = w.setter.from;
        from = w.setter.dummy;
        there = ap found w.setter.there;
        free = free_at pairing old new premises at s.setter h m m0 w.setter.made paired;
        enters = setter_enters at a m0 one;
      })
      (record {
        target = (source_new pairing old new premises s w).h;
        source = dummy_held (took (length m0.cells) a);
        target_held = (source_new pairing old new premises s w).held (in_setter a m0);
        source_held = held_in a m0;
        given = λ _. None;
        gives = λ v e. refl;
      })

  -- ---- what it reads

  first_place : (f u : ℕ) → f + 0 * u + 0 ≡ f
  first_place f u = omega arith

  dummy_read : (at : Site) (t : Taken) (m : Memory) → read_at at (whole_of (dummy_held t)) m ≡ or_end (Faulted code.Undefined at) (value_in w.variable.ty (units_from t.first 1 m.cells))
  dummy_read at t m =
      ap (λ ty. or_end (Faulted code.Undefined at) (value_in ty (units_from (t.first + 0 * (dummy_held t).unit + 0) (dummy_held t).unit m.cells))) w.setter.like.ty
      ∙ ap (λ n. or_end (Faulted code.Undefined at) (value_in w.variable.ty (units_from n (dummy_held t).unit m.cells))) (first_place t.first (dummy_held t).unit)
      ∙ ap (λ n. or_end (Faulted code.Undefined at) (value_in w.variable.ty (units_from t.first n m.cells))) (one_unit_taken w.setter.like.like.ty t.unit no_text_dummy)

  -- a value of the variable's type
  pub reads_own : (v : Value) (m0 : Memory) → sort_of_value v ≡ sort_of_type w.variable.ty → read_at w.setter.from (whole_of (dummy_held (took (length m0.cells) (own v 1)))) (in_setter (own v 1) m0) ≡ Ok v
  reads_own v m0 e =
      dummy_read w.setter.from (took (length m0.cells) (own v 1)) (in_setter (own v 1) m0)
      ∙ own_read w.variable.ty w.setter.from v (emptied s.setter new.areas m0.cells) (length m0.cells) no_text e (sym (length_emptied s.setter new.areas m0.cells))

  -- what units hold that are one with units of the old program, as its type says
  pub reads_units : (at : Site) (p : Place) (first h : ℕ) (m m0 : Memory) → PairedMemory pairing old new h m m0 → Meets pairing old new p.first first → p.ty ≡ w.variable.ty → p.units ≡ 1 →
      Answers Same (read_at at p m) (read_at w.setter.from (whole_of (dummy_held (took (length m0.cells) (units first 1 1)))) (in_setter (units first 1 1) m0))
  reads_units at p first h m m0 paired meets ty one =
      subst (λ r. Answers Same (read_at at p m) r) (sym (dummy_read w.setter.from (took (length m0.cells) (units first 1 1)) (in_setter (units first 1 1) m0)))
      (or_same pairing old new premises code.Undefined at w.setter.from (value_in p.ty (units_from p.first p.units m.cells)) (value_in w.variable.ty (units_from first 1 (in_setter (units first 1 1) m0).cells))
      (ap (λ x. value_in x (units_from p.first p.units m.cells)) ty ∙ ap (λ n. value_in w.variable.ty (units_from p.first n m.cells)) one
      ∙ ap (value_in w.variable.ty) (same_from 1 p.first first m.cells (in_setter (units first 1 1) m0).cells (λ k q. here k q))))
    where
      none_added : (a k : ℕ) → k < 1 → a + k ≡ a
      none_added a k q = omega arith

      full : length (in_setter (units first 1 1) m0).cells ≡ length m0.cells
      full = length-append (emptied s.setter new.areas m0.cells) [] ∙ no_more (length (emptied s.setter new.areas m0.cells)) (length m0.cells) (length_emptied s.setter new.areas m0.cells)
        where
          no_more : (a b : ℕ) → a ≡ b → a + 0 ≡ b
          no_more a b e = omega arith

      by_length : (first < length m0.cells) ⊎ (length m0.cells ≤ first) → slice_get m.cells p.first ≡ slice_get (in_setter (units first 1 1) m0).cells first
      by_length (inl l) = entry_keeps pairing old new premises s.setter h m m0 [] w.setter.made paired p.first first meets l
      by_length (inr l) = paired.contents p.first first meets ∙ slice_get_past m0.cells first l ∙ sym (slice_get_past (in_setter (units first 1 1) m0).cells first (subst (λ n. n ≤ first) (sym full) l))

      here : (k : ℕ) → k < 1 → slice_get m.cells (p.first + k) ≡ slice_get (in_setter (units first 1 1) m0).cells (first + k)
      here k q =
          ap (slice_get m.cells) (none_added p.first k q) ∙ by_length (below_or first (length m0.cells))
          ∙ ap (slice_get (in_setter (units first 1 1) m0).cells) (sym (none_added first k q))

  -- ---- what it leaves

  scalar_here : is_scalar_at old s.variable ≡ true
  scalar_here = ap (λ o. option_map_or is_scalar o false) w.declared ∙ (both (is_scalar w.variable) (not (is_sort Text (Some (sort_of_type w.variable.ty)))) w.one_unit).0

  both_held : (h : ℕ) (m m0 : Memory) → PairedMemory pairing old new h m m0 → Holds pairing old new s.variable (source_old pairing old new premises s w).h (source_new pairing old new premises s w).h
  both_held h m m0 paired =
      subst (λ r. Answers (Holds pairing old new s.variable) (Ok (source_old pairing old new premises s w).h) r) ((source_new pairing old new premises s w).held m0)
      (subst (λ r. Answers (Holds pairing old new s.variable) r (holding new (partner pairing.variable s.variable) m0)) ((source_old pairing old new premises s w).held m) (holding_same pairing old new premises s.variable w.paired h m m0 paired))

  target_same : (h : ℕ) (m m0 : Memory) → PairedMemory pairing old new h m m0 → PlaceSame pairing old new (whole_of (source_old pairing old new premises s w).h) (whole_of (source_new pairing old new premises s w).h)
  target_same h m m0 paired =
      place_same pairing old new premises s.variable w.setter.at w.setter.at (source_old pairing old new premises s w).h (source_new pairing old new premises s w).h [] None (both_held h m m0 paired) (λ _. (both_held h m m0 paired).one scalar_here)

  -- what the call leaves is paired with what the assignment leaves
  pub setter_leaves : (a : Argument) (h : ℕ) (m m0 : Memory) (v : Value) → PairedMemory pairing old new h m m0 →
      PairedMemory pairing old new h (with_value (whole_of (source_old pairing old new premises s w).h) v m) (left (length m0.cells) (with_value (whole_of (source_new pairing old new premises s w).h) v (in_setter a m0)))
  setter_leaves a h m m0 v paired =
      subst (λ cells. PairedMemory pairing old new h (with_value (whole_of (source_old pairing old new premises s w).h) v m) (record { cells = cells; active = m0.active }))
      (sym (take_stored (length m0.cells) (whole_of (source_new pairing old new premises s w).h).first (contents_of (whole_of (source_new pairing old new premises s w).h).units v) (prepared new s.setter (a ∷ []) m0).cells))
      (put_memory pairing old new premises h m (record { cells = take (length m0.cells) (prepared new s.setter (a ∷ []) m0).cells; active = m0.active }) (whole_of (source_old pairing old new premises s w).h) (whole_of (source_new pairing old new premises s w).h) v
      (entry_leaves pairing old new premises s.setter h m m0 (own_contents (a ∷ [])) w.setter.made paired) (target_same h m m0 paired))
