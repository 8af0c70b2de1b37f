-- Units are of the type of the variable that they hold, in areas and at the entry of a procedure.
use Rattle.std.proofs.Common.{◌≡◌, ◌*◌, ℕ, zero, suc, List, [], ◌∷◌, length, drop, map, refl, sym, subst}
use Rattle.std.specs.Prelude.{Bool, true, false, not, nat_eq, nat_le, slice_get, if◌then◌else◌, Option, Some, None, Result, Ok, Err}
use Rattle.ftn_base.specs.declared.entity.Ty.{Ty}
use Rattle.ftn_base.specs.declared.entity.Ty.TheVariants.{Integer, Logical, Character}
use Rattle.core_prog.specs.declared.site.Site.{Site}
use Rattle.core_prog.specs.declared.outcome.FaultCode.TheVariants as code
use Rattle.core_prog.specs.declared.storage.Home.{Home}
use Rattle.core_prog.specs.declared.storage.Home.TheVariants as home
use Rattle.core_prog.specs.declared.storage.Variable.{Variable}
use Rattle.core_prog.specs.Ends.{End, Faulted, ◌>>=◌, found}
use Rattle.ftn_tree.specs.Arrays.{Axis}
use Rattle.core_prog.specs.Memory.{Holding, Frame, Memory, frame_of}
use Rattle.core_prog.specs.Programs.{Program, Procedure}
use Rattle.core_prog.specs.Holdings.{unit_of, stored_in, home_of, holding}
use Rattle.core_prog.specs.Entries.{Argument, Taken, taken, begun, axes_at, unit_taken, holding_taken, within, held_at, with_frame, prepared, entered}
use Rattle.ftn_tree.specs.Sorts.{Text, is_sort, sort_of_type}
use Rattle.core_prog.specs.Lawful.{IsLawful, IsAtHome}
use Rattle.core_sim.specs.Paired.{IsTyped, AreTyped, HasTypes}
use Rattle.core_sim.proofs.Cells.{is_eq}
use Rattle.core_sim.proofs.Places.{only_one}

-- what was asked first had an answer
pub first_ok : {A B : Type 0} (r : Result A End) (f : A → Result B End) (b : B) → (r >>= f) ≡ Ok b → (a : A) × (r ≡ Ok a) × (f a ≡ Ok b)
first_ok (Ok a) f b e = (a, refl, e)
first_ok (Err x) f b e = absurd (cc e)

pub found_ok : {A : Type 0} (o : Option A) (a : A) → found o ≡ Ok a → o ≡ Some a
found_ok None a e = absurd (cc e)
found_ok (Some b) a e = cc e

pub one_unit : (ty : Ty) → not (is_sort Text (Some (sort_of_type ty))) ≡ true → unit_of ty ≡ 1
one_unit Integer h = refl
one_unit Logical h = refl
one_unit (Character n) h = absurd (cc h)

pub one_unit_taken : (ty : Ty) (n : ℕ) → not (is_sort Text (Some (sort_of_type ty))) ≡ true → unit_taken ty n ≡ 1
one_unit_taken Integer n h = refl
one_unit_taken Logical n h = refl
one_unit_taken (Character m) n h = absurd (cc h)

abbrev Rows : Result (List Holding) End → Result (List Holding) End → Type 0
Rows r r' = r ≡ r'

module _ (program : Program) where
  -- ---- at an entry

  within_ok : (at : Site) (n : ℕ) (h g : Holding) → within at n h ≡ Ok g → h ≡ g
  within_ok at n h g e = by_test (nat_le (h.count * h.unit) n) e
    where
      by_test : (b : Bool) → (if b then Ok h else Err (Faulted code.Extent at)) ≡ Ok g → h ≡ g
      by_test true e = cc e
      by_test false e = absurd (cc e)

  taken_typed : (number : ℕ) (v : Variable) (axes : List Axis) (t : Taken) → slice_get program.variables number ≡ Some v → IsTyped program number (holding_taken v axes t)
  taken_typed number v axes t d = record { variable = v; declared = d; ty = refl; unit = λ q. one_unit_taken v.ty t.unit q }

  held_as : (number : ℕ) (at : Site) (n : ℕ) (g h : Holding) → within at n g ≡ Ok h → IsTyped program number g → IsTyped program number h
  held_as number at n g h e t = subst (IsTyped program number) (within_ok at n g h e) t

  held_row : (number : ℕ) (numbers : List ℕ) (h : Holding) (hs all : List Holding) → Rows (Ok (h ∷ hs)) (Ok all) → IsTyped program number h → AreTyped program numbers hs → AreTyped program (number ∷ numbers) all
  held_row number numbers h hs all e t ts = let same : (h ∷ hs) ≡ all = cc e in subst (AreTyped program (number ∷ numbers)) same (t, ts)

  held_typed : (at : Site) (m : Memory) (numbers : List ℕ) (ts : List Taken) (hs : List Holding) → held_at program at m numbers ts ≡ Ok hs → AreTyped program numbers hs
  held_typed at m [] ts hs e = tt
  held_typed at m (number ∷ numbers) [] [] e = tt
  held_typed at m (number ∷ numbers) [] (h ∷ hs) e = absurd (cc e)
  held_typed at m (number ∷ numbers) (t ∷ ts) hs e =
      let v = first_ok (found (slice_get program.variables number)) (λ v. axes_at program at m v.dimensions >>= (λ axes. within at t.units (holding_taken v axes t) >>= (λ h. held_at program at m numbers ts >>= (λ hs. Ok (h ∷ hs))))) hs e in
      let axes = first_ok (axes_at program at m v.0.dimensions) (λ axes. within at t.units (holding_taken v.0 axes t) >>= (λ h. held_at program at m numbers ts >>= (λ hs. Ok (h ∷ hs)))) hs v.2 in
      let h = first_ok (within at t.units (holding_taken v.0 axes.0 t)) (λ h. held_at program at m numbers ts >>= (λ hs. Ok (h ∷ hs))) hs axes.2 in
      let rest = first_ok (held_at program at m numbers ts) (λ hs. Ok (h.0 ∷ hs)) hs h.2 in
      held_row number numbers h.0 rest.0 hs rest.2 (held_as number at t.units (holding_taken v.0 axes.0 t) h.0 h.1 (taken_typed number v.0 axes.0 t (found_ok (slice_get program.variables number) v.0 v.1)))
      (held_typed at m numbers ts rest.0 rest.1)

  framed_types : (number : ℕ) (proc : Procedure) (hs : List Holding) (frames : List Frame) → slice_get program.procedures number ≡ Some proc → AreTyped program proc.dummies hs → HasTypes program frames →
      HasTypes program (record { procedure = number; held = hs } ∷ frames)
  framed_types number proc hs frames there h k = (λ p e. subst (λ (q : Procedure). AreTyped program q.dummies hs) (only_one (slice_get program.procedures number) proc p there e) h, k)

  pub entered_types : (at : Site) (number : ℕ) (proc : Procedure) (args : List Argument) (m m1 : Memory) → slice_get program.procedures number ≡ Some proc → HasTypes program m.active → entered program at number proc.dummies args m ≡ Ok m1 → HasTypes program m1.active
  entered_types at number proc args m m1 there h e =
      let hs = first_ok (held_at program at (with_frame number (map begun (taken (length m.cells) args)) (prepared program number args m)) proc.dummies (taken (length m.cells) args)) (λ held. Ok (with_frame number held (prepared program number args m))) m1 e in
      let same : with_frame number hs.0 (prepared program number args m) ≡ m1 = cc hs.2 in
      subst (λ (n : Memory). HasTypes program n.active) same
      (framed_types number proc hs.0 m.active there (held_typed at (with_frame number (map begun (taken (length m.cells) args)) (prepared program number args m)) proc.dummies (taken (length m.cells) args) hs.0 hs.1) h)

  -- so it stays at an exit
  pub types_left : (frames : List Frame) → HasTypes program frames → HasTypes program (drop 1 frames)
  types_left [] h = tt
  types_left (frame ∷ frames) h = h.1

  -- ---- any variable

  at_position : (numbers : List ℕ) (hs : List Holding) (position number : ℕ) (h : Holding) → AreTyped program numbers hs → slice_get numbers position ≡ Some number → slice_get hs position ≡ Some h → IsTyped program number h
  at_position [] hs position number h t e f = absurd (cc e)
  at_position (n ∷ numbers) [] position number h t e f = absurd (cc f)
  at_position (n ∷ numbers) (g ∷ hs) zero number h t e f = let same : n ≡ number = cc e in let held : g ≡ h = cc f in subst (λ k. IsTyped program k h) same (subst (IsTyped program n) held t.0)
  at_position (n ∷ numbers) (g ∷ hs) (suc position) number h t e f = at_position numbers hs position number h t.1 e f

  framed_typed : (number : ℕ) (proc : Procedure) (frames : List Frame) (frame : Frame) → slice_get program.procedures number ≡ Some proc → HasTypes program frames → frame_of number frames ≡ Some frame → AreTyped program proc.dummies frame.held
  framed_typed number proc [] frame there h e = absurd (cc e)
  framed_typed number proc (f ∷ frames) frame there h e = by_test (nat_eq f.procedure number) (is_eq f.procedure number) (λ k. framed_typed number proc frames frame there h.1 k) e
    where
      by_test : (b : Bool) → (b ≡ true → f.procedure ≡ number) → (frame_of number frames ≡ Some frame → AreTyped program proc.dummies frame.held) → (if b then Some f else frame_of number frames) ≡ Some frame → AreTyped program proc.dummies frame.held
      by_test true q k e =
          let same : f ≡ frame = cc e in
          subst (λ (x : Frame). AreTyped program proc.dummies x.held) same (h.0 proc (subst (λ n. slice_get program.procedures n ≡ Some proc) (sym (q refl)) there))
      by_test false q k e = k e

  pub holding_typed : IsLawful program → (number : ℕ) (m : Memory) (h : Holding) → HasTypes program m.active → holding program number m ≡ Ok h → IsTyped program number h
  holding_typed lawful number m h types e =
      let v = first_ok (found (slice_get program.variables number)) (λ v. home_of program v v.home m) h e in
      let d : slice_get program.variables number ≡ Some v.0 = found_ok (slice_get program.variables number) v.0 v.1 in
      by_home v.0 d v.0.home (lawful.variables number v.0 d) v.2
    where
      by_home : (v : Variable) → slice_get program.variables number ≡ Some v → (w : Home) → IsAtHome program number v w → home_of program v w m ≡ Ok h → IsTyped program number h
      by_home v d (home.Stored place offset owner) s e =
          let a = first_ok (found (slice_get program.areas place)) (λ a. Ok (stored_in v offset a)) h e in
          let same : stored_in v offset a.0 ≡ h = cc a.2 in
          subst (IsTyped program number) same (record { variable = v; declared = d; ty = refl; unit = λ q. one_unit v.ty q })
      by_home v d (home.Dummy place position) s e =
          let frame = first_ok (found (frame_of place m.active)) (λ (f : Frame). found (slice_get f.held position)) h e in
          at_position s.proc.dummies frame.0.held position number h
          (framed_typed place s.proc m.active frame.0 s.there types (found_ok (frame_of place m.active) frame.0 frame.1)) s.listed (found_ok (slice_get frame.0.held position) h frame.2)
