-- Variables and their partners are held by places that are one; active procedures are partners.
use Rattle.std.proofs.Common.{inl, ◌≡◌, ◌≤◌, ◌<◌, ◌+◌, ◌-◌, ◌*◌, ℕ, zero, suc, List, [], ◌∷◌, length, map, refl, sym, ap, subst, ◌∙◌, arith}
use Rattle.std.specs.Prelude.{◌==◌, Bool, true, false, nat_eq, slice_get, if◌then◌else◌, Option, Some, None, Ok, Err}
use Rattle.std.specs.List.{list_any}
use Rattle.std.specs.Option.{option_map_or}
use Rattle.std.proofs.lemmas.Bool.Decides.{nat_tests}
use Rattle.ftn_base.specs.declared.entity.Ty.{Ty}
use Rattle.core_prog.specs.declared.site.Site.{Site}
use Rattle.core_prog.specs.declared.storage.Area.{Area}
use Rattle.core_prog.specs.declared.storage.Dimension.{Dimension}
use Rattle.core_prog.specs.declared.storage.Limit.{Limit}
use Rattle.core_prog.specs.declared.storage.Limit.TheVariants as limit
use Rattle.core_prog.specs.declared.storage.Home.{Home}
use Rattle.core_prog.specs.declared.storage.Home.TheVariants as home
use Rattle.core_prog.specs.declared.storage.Variable.{Variable}
use Rattle.core_prog.specs.declared.outcome.FaultCode.TheVariants as code
use Rattle.core_prog.specs.Ends.{Faulted, ◌>>=◌, found}
use Rattle.ftn_tree.specs.Arrays.{Axis, elements}
use Rattle.core_prog.specs.Memory.{Holding, Frame, Memory, frame_of, is_active}
use Rattle.core_prog.specs.Programs.{Program, Procedure}
use Rattle.core_prog.specs.Holdings.{unit_of, number_in, fixed_axis, stored_in, home_of, holding}
use Rattle.core_prog.specs.Entries.{not_active}
use Rattle.core_prog.specs.Sorts.{is_scalar}
use Rattle.core_prog.specs.Lawful.{IsAtHome, IsStored, IsTaken, units_of_all}
use Rattle.core_sim.specs.Pairings.{Pairing, partner, IsPaired}
use Rattle.core_sim.specs.Premises.{Premises, SameHome, SameVariable, Both, renamed_limit, renamed_dimension}
use Rattle.core_sim.specs.Paired.{is_scalar_at, Holds, Held, SameFrame, SameFrames, PairedMemory}
use Rattle.core_sim.proofs.Answering.{Any, Answers}
use Rattle.core_sim.proofs.Cells.{same_test}
use Rattle.core_sim.proofs.Places.{only_one}

module _ (pairing : Pairing) (old new : Program) (premises : Premises pairing old new) where
  -- ---- variables in areas

  axis_of_limit : (l : Limit) → number_in (renamed_limit pairing l) ≡ number_in l
  axis_of_limit (limit.Number z) = refl
  axis_of_limit (limit.Dummy number) = refl
  axis_of_limit limit.Open = refl

  same_axes : (ds : List Dimension) → map fixed_axis (map (renamed_dimension pairing) ds) ≡ map fixed_axis ds
  same_axes [] = refl
  same_axes (d ∷ ds) =
      let low : number_in (renamed_limit pairing d.low) ≡ number_in d.low = axis_of_limit d.low in
      let high : number_in (renamed_limit pairing d.high) ≡ number_in d.high = axis_of_limit d.high in
      let first : fixed_axis (renamed_dimension pairing d) ≡ fixed_axis d = cc (low, high) in
      let rest : map fixed_axis (map (renamed_dimension pairing) ds) ≡ map fixed_axis ds = same_axes ds in
      cc (first, rest)

  abbrev laid : Ty → List Axis → ℕ → Holding
  laid ty axes first = record { ty = ty; first = first; unit = unit_of ty; axes = axes; count = elements axes }

  laid_same : (ty ty' : Ty) (axes axes' : List Axis) (first first' : ℕ) → ty' ≡ ty → axes' ≡ axes → laid ty' axes' first' ≡ record (laid ty axes first) { first = first' }
  laid_same ty ty' axes axes' first first' e f = ap (λ t. laid t axes' first') e ∙ ap (λ a. laid ty a first') f

  none_of : (ds : List Dimension) → (length ds == 0) ≡ true → elements (map fixed_axis ds) ≡ 1
  none_of [] h = refl
  none_of (d ∷ ds) h = absurd (grind (arith, nat_tests))

  one_element : (number : ℕ) (v : Variable) → slice_get old.variables number ≡ Some v → is_scalar_at old number ≡ true → elements (map fixed_axis v.dimensions) ≡ 1
  one_element number v e h = none_of v.dimensions (subst (λ o. option_map_or is_scalar o false ≡ true) e h)

  below : (k n : ℕ) → 0 < n → k ≤ n - 1 → k < n
  below k n h q = omega arith

  at_unit : (a b k : ℕ) → a + b + k ≡ a + b + k
  at_unit a b k = refl

  stored_held : (number : ℕ) (v v' : Variable) (place offset : ℕ) (owner : Option ℕ) (place' offset' : ℕ) (owner' : Option ℕ) → IsPaired pairing.variable number →
      slice_get old.variables number ≡ Some v → slice_get new.variables (partner pairing.variable number) ≡ Some v' →
      v.home ≡ home.Stored place offset owner → v'.home ≡ home.Stored place' offset' owner' → SameVariable pairing v v' →
      (s : IsStored old v place offset owner) → (s' : IsStored new v' place' offset' owner') → Holds pairing old new number (stored_in v offset s.area) (stored_in v' offset' s'.area)
  stored_held number v v' place offset owner place' offset' owner' p d d' h h' same s s' =
      let axes : map fixed_axis v'.dimensions ≡ map fixed_axis v.dimensions = ap (map fixed_axis) same.dimensions ∙ same_axes v.dimensions in
      let count : units_of_all new v' ≡ units_of_all old v = ap (λ a. elements a * unit_of v'.ty) axes ∙ ap (λ t. elements (map fixed_axis v.dimensions) * unit_of t) same.ty in
      record {
        same = laid_same v.ty v'.ty (map fixed_axis v.dimensions) (map fixed_axis v'.dimensions) (s.area.start + offset) (s'.area.start + offset') same.ty axes;
        near = λ k q.
            let inside : k < units_of_all old v = below k (units_of_all old v) s.some q in
            inl (record {
              number = number;
              unit = k;
              paired = p;
              before = record { variable = v; declared = d; place = place; offset = offset; owner = owner; stored = h; area = s.area; laid = s.there; inside = inside; here = refl };
              after = record { variable = v'; declared = d'; place = place'; offset = offset'; owner = owner'; stored = h'; area = s'.area; laid = s'.there; inside = subst (λ n. k < n) (sym count) inside; here = refl };
            });
        one = one_element number v d;
      }

  -- ---- active procedures

  abbrev Frames : List Frame → List Frame → Type 0
  Frames = SameFrames pairing old new

  same_number : (number number' one one' : ℕ) → pairing.procedure number ≡ Some number' → pairing.procedure one ≡ Some one' → nat_eq one number ≡ nat_eq one' number'
  same_number number number' one one' e f =
      same_test one number one' number' (λ q. forth (subst (λ n. pairing.procedure n ≡ Some one') q f) e) (λ q. premises.one_procedure one number one' f (subst (λ n. pairing.procedure number ≡ Some n) (sym q) e))
    where
      forth : {a b : ℕ} {o : Option ℕ} → o ≡ Some a → o ≡ Some b → a ≡ b
      forth {a} {b} {o} e f = only_one o a b e f

  -- both are there, with that number
  abbrev Found : ℕ → Option Frame → Option Frame → Type 0
  Found number None None = Unit {0}
  Found number (Some frame) (Some frame') = (frame.procedure ≡ number) × SameFrame pairing old new frame frame'
  Found number o o' = ⊥

  frames_found : (number number' : ℕ) → pairing.procedure number ≡ Some number' → (frames frames' : List Frame) → Frames frames frames' → Found number (frame_of number frames) (frame_of number' frames')
  frames_found number number' e [] [] h = tt
  frames_found number number' e [] (frame' ∷ frames') h = absurd h
  frames_found number number' e (frame ∷ frames) [] h = absurd h
  frames_found number number' e (frame ∷ frames) (frame' ∷ frames') h =
      by_test (nat_eq frame.procedure number) (nat_eq frame'.procedure number') (same_number number number' frame.procedure frame'.procedure e h.0.paired) (is_number frame.procedure number)
      (frames_found number number' e frames frames' h.1)
    where
      is_number : (a b : ℕ) → nat_eq a b ≡ true → a ≡ b
      is_number a b q = grind (arith, nat_tests)

      by_test : (p q : Bool) → p ≡ q → (p ≡ true → frame.procedure ≡ number) → Found number (frame_of number frames) (frame_of number' frames') →
          Found number (if p then Some frame else frame_of number frames) (if q then Some frame' else frame_of number' frames')
      by_test true true w f r = (f refl, h.0)
      by_test true false w f r = absurd (cc w)
      by_test false true w f r = absurd (cc w)
      by_test false false w f r = r

  pub active_same : (number number' : ℕ) → pairing.procedure number ≡ Some number' → (frames frames' : List Frame) → Frames frames frames' →
      list_any (λ (frame : Frame). nat_eq frame.procedure number) frames ≡ list_any (λ (frame : Frame). nat_eq frame.procedure number') frames'
  active_same number number' e [] [] h = refl
  active_same number number' e [] (frame' ∷ frames') h = absurd h
  active_same number number' e (frame ∷ frames) [] h = absurd h
  active_same number number' e (frame ∷ frames) (frame' ∷ frames') h =
      let first : nat_eq frame.procedure number ≡ nat_eq frame'.procedure number' = same_number number number' frame.procedure frame'.procedure e h.0.paired in
      let rest : list_any (λ (f : Frame). nat_eq f.procedure number) frames ≡ list_any (λ (f : Frame). nat_eq f.procedure number') frames' = active_same number number' e frames frames' h.1 in
      cc (first, rest)

  held_at_position : (numbers : List ℕ) (hs hs' : List Holding) (position number : ℕ) → Held pairing old new numbers hs hs' → slice_get numbers position ≡ Some number →
      Answers (Holds pairing old new number) (found (slice_get hs position)) (found (slice_get hs' position))
  held_at_position [] hs hs' position number h e = absurd (cc e)
  held_at_position (n ∷ numbers) [] [] position number h e = refl
  held_at_position (n ∷ numbers) [] (g' ∷ hs') position number h e = absurd h
  held_at_position (n ∷ numbers) (g ∷ hs) [] position number h e = absurd h
  held_at_position (n ∷ numbers) (g ∷ hs) (g' ∷ hs') zero number h e = let f : n ≡ number = cc e in subst (λ m. Holds pairing old new m g g') f h.0
  held_at_position (n ∷ numbers) (g ∷ hs) (g' ∷ hs') (suc position) number h e = held_at_position numbers hs hs' position number h.1 e

  dummy_held : (number place place' position : ℕ) (v : Variable) → slice_get old.variables number ≡ Some v → pairing.procedure place ≡ Some place' → IsTaken old v number place position → (m m' : Memory) → Frames m.active m'.active →
      Answers (Holds pairing old new number) (home_of old v (home.Dummy place position) m) (home_of new v (home.Dummy place' position) m')
  dummy_held number place place' position v d e t m m' h =
      by_frames (frame_of place m.active) (frame_of place' m'.active) (frames_found place place' e m.active m'.active h)
    where
      by_frames : (o o' : Option Frame) → Found place o o' → Answers (Holds pairing old new number) (found o >>= (λ frame. found (slice_get frame.held position))) (found o' >>= (λ frame. found (slice_get frame.held position)))
      by_frames None None f = refl
      by_frames None (Some frame') f = absurd f
      by_frames (Some frame) None f = absurd f
      by_frames (Some frame) (Some frame') f =
          let there : slice_get old.procedures place ≡ Some f.1.procedure = subst (λ n. slice_get old.procedures n ≡ Some f.1.procedure) f.0 f.1.there in
          let same : t.proc ≡ f.1.procedure = only_one (slice_get old.procedures place) t.proc f.1.procedure t.there there in
          held_at_position f.1.procedure.dummies frame.held frame'.held position number f.1.held (subst (λ (p : Procedure). slice_get p.dummies position ≡ Some number) same t.listed)

  -- ---- any variable

  some_area : (o : Option Area) (area : Area) (f : Area → Holding) → o ≡ Some area → (found o >>= (λ a. Ok (f a))) ≡ Ok (f area)
  some_area o area f e = ap (λ p. found p >>= (λ a. Ok (f a))) e

  homes : (number : ℕ) (v v' : Variable) (w w' : Home) → IsPaired pairing.variable number → slice_get old.variables number ≡ Some v → slice_get new.variables (partner pairing.variable number) ≡ Some v' →
      v.home ≡ w → v'.home ≡ w' → SameVariable pairing v v' → SameHome pairing w w' → IsAtHome old number v w → IsAtHome new (partner pairing.variable number) v' w' → (m m' : Memory) → Frames m.active m'.active →
      Answers (Holds pairing old new number) (home_of old v w m) (home_of new v' w' m')
  homes number v v' (home.Stored place offset owner) (home.Stored place' offset' owner') p d d' h h' same w s s' m m' f =
      subst (λ r. Answers (Holds pairing old new number) r (home_of new v' (home.Stored place' offset' owner') m')) (sym (some_area (slice_get old.areas place) s.area (stored_in v offset) s.there))
      (subst (λ r. Answers (Holds pairing old new number) (Ok (stored_in v offset s.area)) r) (sym (some_area (slice_get new.areas place') s'.area (stored_in v' offset') s'.there))
      (stored_held number v v' place offset owner place' offset' owner' p d d' h h' same s s'))
  homes number v v' (home.Stored place offset owner) (home.Dummy place' position') p d d' h h' same w s s' m m' f = absurd w
  homes number v v' (home.Dummy place position) (home.Stored place' offset' owner') p d d' h h' same w s s' m m' f = absurd w
  homes number v v' (home.Dummy place position) (home.Dummy place' position') p d d' h h' same w s s' m m' f =
      subst (λ n. Answers (Holds pairing old new number) (home_of old v (home.Dummy place position) m) (home_of new v' (home.Dummy place' n) m')) (sym w.1)
      (dummy_held number place place' position v d w.0 s m m' f)

  pub holding_same : (number : ℕ) → IsPaired pairing.variable number → (h : ℕ) (m m' : Memory) → PairedMemory pairing old new h m m' →
      Answers (Holds pairing old new number) (holding old number m) (holding new (partner pairing.variable number) m')
  holding_same number p h m m' paired =
      by_variables (slice_get old.variables number) (slice_get new.variables (partner pairing.variable number)) refl refl (premises.variables number p)
    where
      by_variables : (o o' : Option Variable) → slice_get old.variables number ≡ o → slice_get new.variables (partner pairing.variable number) ≡ o' → Both (SameVariable pairing) o o' →
          Answers (Holds pairing old new number) (found o >>= (λ v. home_of old v v.home m)) (found o' >>= (λ v. home_of new v v.home m'))
      by_variables None None d d' b = absurd b
      by_variables None (Some v') d d' b = absurd b
      by_variables (Some v) None d d' b = absurd b
      by_variables (Some v) (Some v') d d' b =
          homes number v v' v.home v'.home p d d' refl refl b b.home (premises.lawful.variables number v d) (premises.lawful_new.variables (partner pairing.variable number) v' d') m m' paired.active

  pub not_active_same : (at at' : Site) (number : ℕ) → IsPaired pairing.procedure number → (h : ℕ) (m m' : Memory) → PairedMemory pairing old new h m m' →
      Answers {A = Unit {0}} {B = Unit {0}} Any (not_active at number m) (not_active at' (partner pairing.procedure number) m')
  not_active_same at at' number p h m m' paired =
      by_test at at' (is_active number m) (is_active (partner pairing.procedure number) m') (active_same number (partner pairing.procedure number) p m.active m'.active paired.active)
    where
      by_test : (at at' : Site) (p q : Bool) → p ≡ q → Answers {A = Unit {0}} {B = Unit {0}} Any (if p then Err (Faulted code.Recursion at) else Ok tt) (if q then Err (Faulted code.Recursion at') else Ok tt)
      by_test at at' true true e = refl
      by_test at at' true false e = absurd (cc e)
      by_test at at' false true e = absurd (cc e)
      by_test at at' false false e = tt
