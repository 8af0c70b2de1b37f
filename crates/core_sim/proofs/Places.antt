-- Places of two programs that are one: what is put there and read there, and where variables are.
use Rattle.std.proofs.Common.{inl, inr, ◌≡◌, ◌≤◌, ◌<◌, ◌+◌, ◌-◌, ◌*◌, ℕ, zero, suc, List, [], ◌∷◌, ◌++◌, length, take, map, refl, sym, ap, subst, ◌∙◌, arith}
use Rattle.std.specs.Prelude.{ℤ, ◌⊎◌, nat_eq, replicate, slice_get, slice_set, sum_by, Option, Some, None, Result, Ok}
use Rattle.ftn_tree.specs.declared.value.Value.{Value}
use Rattle.ftn_tree.specs.declared.value.Value.TheVariants as value
use Rattle.core_prog.specs.declared.site.Site.{Site}
use Rattle.core_prog.specs.declared.outcome.FaultCode.{FaultCode}
use Rattle.core_prog.specs.declared.outcome.FaultCode.TheVariants as code
use Rattle.core_prog.specs.declared.storage.Area.{Area}
use Rattle.core_prog.specs.declared.storage.Content.{Content}
use Rattle.core_prog.specs.declared.storage.Content.TheVariants.{Byte}
use Rattle.core_prog.specs.Ends.{End, Faulted, ◌>>=◌, or_end}
use Rattle.core_prog.specs.Contents.{contents_of, stored, units_from, value_in}
use Rattle.ftn_tree.specs.Arrays.{Axis, element, part}
use Rattle.core_prog.specs.Memory.{Holding, Memory, Place, in_bounds, place_of, element_at, read_at, with_value}
use Rattle.core_prog.specs.Programs.{Program}
use Rattle.core_prog.specs.Lawful.{IsLawful, IsAtHome, IsStored, IsArea, units_of_all}
use Rattle.core_prog.proofs.Returning.{length_stored}
use Rattle.core_sim.specs.Pairings.{Pairing, partner}
use Rattle.core_sim.specs.Units.{units_in, IsUnit}
use Rattle.core_sim.specs.Premises.{Premises}
use Rattle.core_sim.specs.Paired.{Meets, Near, Holds, PairedMemory}
use Rattle.core_sim.proofs.Answering.{Same, Answers, PlaceSame}
use Rattle.core_sim.proofs.Cells.{set_get, same_test, replaced_same, same_from}
use Rattle.core_sim.proofs.Counting.{within_element, within_rest, element_below, part_first, area_end}

pub only_one : {A : Type 0} (o : Option A) (a b : A) → o ≡ Some a → o ≡ Some b → a ≡ b
only_one o a b e f = cc (e, f)

-- ---- a unit of a lawful program is one of all

below_sum : (at begins offset units size unit before all : ℕ) → at ≡ begins + offset + unit → unit < units → offset + units ≤ size → begins ≡ before → before + size ≤ all → at < all
below_sum at begins offset units size unit before all e h i j k = omega arith

stored_below : (program : Program) → IsLawful program → (number unit at : ℕ) (u : IsUnit program number unit at) → IsStored program u.variable u.place u.offset u.owner → at < units_in program
stored_below program lawful number unit at u s =
    let same : s.area ≡ u.area = only_one (slice_get program.areas u.place) s.area u.area s.there u.laid in
    let inside : u.offset + units_of_all program u.variable ≤ u.area.size = subst (λ (a : Area). u.offset + units_of_all program u.variable ≤ a.size) same s.inside in
    let area : IsArea program u.place u.area = lawful.areas u.place u.area u.laid in
    below_sum at u.area.start u.offset (units_of_all program u.variable) u.area.size unit (sum_by (λ (a : Area). a.size) (take u.place program.areas)) (units_in program)
    u.here u.inside inside area.begins (area_end program.areas u.place u.area u.laid)

pub unit_below : (program : Program) → IsLawful program → (number unit at : ℕ) → IsUnit program number unit at → at < units_in program
unit_below program lawful number unit at u =
    stored_below program lawful number unit at u (subst (λ w. IsAtHome program number u.variable w) u.stored (lawful.variables number u.variable u.declared))

length_bytes : (n : ℕ) (text : List ℕ) → length (map Byte (take n text)) ≤ n
length_bytes zero text = omega arith
length_bytes (suc n) [] = omega arith
length_bytes (suc n) (byte ∷ text) = let h : length (map Byte (take n text)) ≤ n = length_bytes n text in omega arith

one_alone : (n k : ℕ) → k < 1 → k ≤ n - 1
one_alone n k h = omega arith

below_last : (n m k : ℕ) → k < m → m ≤ n → k ≤ n - 1
below_last n m k h i = omega arith

-- a value takes no more units than there are, the first one aside
pub few_contents : (n : ℕ) (v : Value) (k : ℕ) → k < length (contents_of n v) → k ≤ n - 1
few_contents n (value.Whole z) k h = one_alone n k h
few_contents n (value.Truth z) k h = one_alone n k h
few_contents n (value.Chars text) k h = below_last n (length (contents_of n (value.Chars text))) k h (length_bytes n (text ++ replicate n 32))

module _ (pairing : Pairing) (old new : Program) (premises : Premises pairing old new) where
  abbrev Meet : ℕ → ℕ → Type 0
  Meet = Meets pairing old new

  pub meets_at : (a b c d : ℕ) → a ≡ c → b ≡ d → Meet a b → Meet c d
  meets_at a b c d e f m = subst (λ y. Meet c y) f (subst (λ x. Meet x b) e m)

  not_there : (a n at number : ℕ) → a < number → at ≡ number + n → a ≡ at → ⊥
  not_there a n at number h e f = omega arith

  same_place : (a b c d u v n m : ℕ) → a ≡ u + n → b ≡ v + n → c ≡ u + m → d ≡ v + m → (a ≡ c → b ≡ d) × (b ≡ d → a ≡ c)
  same_place a b c d u v n m e f g h = (λ q. omega arith, λ q. omega arith)

  pub meets_once : (a b c d : ℕ) → Meet a b → Meet c d → (a ≡ c → b ≡ d) × (b ≡ d → a ≡ c)
  meets_once a b c d (inl u) (inl v) = premises.storage.shared a b c d u v
  meets_once a b c d (inl u) (inr v) = (
    λ e. absurd (not_there a v.0 c (units_in old) (unit_below old premises.lawful u.number u.unit a u.before) v.1 e),
    λ e. absurd (not_there b v.0 d (units_in new) (unit_below new premises.lawful_new (partner pairing.variable u.number) u.unit b u.after) v.2 e),
  )
  meets_once a b c d (inr u) (inl v) = (
    λ e. absurd (not_there c u.0 a (units_in old) (unit_below old premises.lawful v.number v.unit c v.before) u.1 (sym e)),
    λ e. absurd (not_there d u.0 b (units_in new) (unit_below new premises.lawful_new (partner pairing.variable v.number) v.unit d v.after) u.2 (sym e)),
  )
  meets_once a b c d (inr u) (inr v) = same_place a b c d (units_in old) (units_in new) u.0 v.0 u.1 u.2 v.1 v.2

  -- ---- contents

  abbrev pub Agree : List Content → List Content → Type 0
  Agree xs ys = (at at' : ℕ) → Meet at at' → slice_get xs at ≡ slice_get ys at'

  put_one : (xs ys : List Content) (c c' : ℕ) (x : Content) → Agree xs ys → Meet c c' → Agree (slice_set xs c x) (slice_set ys c' x)
  put_one xs ys c c' x h m at at' q =
      let once = meets_once at at' c c' q m in
      set_get xs c at x ∙ replaced_same x (nat_eq at c) (nat_eq at' c') (slice_get xs at) (slice_get ys at') (same_test at c at' c' once.0 once.1) (h at at' q) ∙ sym (set_get ys c' at' x)

  pub put_all : (cs : List Content) (first first' : ℕ) (xs ys : List Content) → Agree xs ys → ((k : ℕ) → k < length cs → Meet (first + k) (first' + k)) → Agree (stored first cs xs) (stored first' cs ys)
  put_all [] first first' xs ys h m = h
  put_all (c ∷ cs) first first' xs ys h m =
      put_all cs (first + 1) (first' + 1) (slice_set xs first c) (slice_set ys first' c)
      (put_one xs ys first first' c h (meets_at (first + 0) (first' + 0) first first' (omega arith) (omega arith) (m 0 (omega arith))))
      (λ k q. meets_at (first + suc k) (first' + suc k) (first + 1 + k) (first' + 1 + k) (omega arith) (omega arith) (m (suc k) (omega arith)))

  pub put_memory : (h : ℕ) (m m' : Memory) (p p' : Place) (v : Value) → PairedMemory pairing old new h m m' → PlaceSame pairing old new p p' → PairedMemory pairing old new h (with_value p v m) (with_value p' v m')
  put_memory h m m' p p' v paired place =
      subst (λ q. PairedMemory pairing old new h (with_value p v m) (with_value q v m')) (sym place.same) (record {
        places = length_stored p.first (contents_of p.units v) m.cells ∙ paired.places;
        places_new = length_stored p'.first (contents_of p.units v) m'.cells ∙ paired.places_new;
        contents = put_all (contents_of p.units v) p.first p'.first m.cells m'.cells paired.contents (λ k q. place.near k (few_contents p.units v k q));
        active = paired.active;
      })

  pub or_same : {A : Type 0} (fault : FaultCode) (at at' : Site) (o o' : Option A) → o ≡ o' → Answers {A = A} {B = A} Same (or_end (Faulted fault at) o) (or_end (Faulted fault at') o')
  or_same fault at at' None None e = refl
  or_same fault at at' None (Some b) e = absurd (cc (e))
  or_same fault at at' (Some a) None e = absurd (cc (e))
  or_same fault at at' (Some a) (Some b) e = cc (e)

  to_last : (k n : ℕ) → k < n → k ≤ n - 1
  to_last k n h = omega arith

  pub read_same : (h : ℕ) (at at' : Site) (m m' : Memory) (p p' : Place) → PairedMemory pairing old new h m m' → PlaceSame pairing old new p p' → Answers Same (read_at at p m) (read_at at' p' m')
  read_same h at at' m m' p p' paired place =
      subst (λ q. Answers Same (read_at at p m) (read_at at' q m')) (sym place.same)
      (or_same code.Undefined at at' (value_in p.ty (units_from p.first p.units m.cells)) (value_in p.ty (units_from p'.first p.units m'.cells))
      (ap (value_in p.ty) (same_from p.units p.first p'.first m.cells m'.cells (λ k q. paired.contents (p.first + k) (p'.first + k) (place.near k (to_last k p.units q))))))

  -- ---- places of variables

  at_element : (first n unit k : ℕ) → first + (n * unit + k) ≡ first + n * unit + k
  at_element first n unit k = omega arith

  pub element_same : (number : ℕ) (h h' : Holding) (n : ℕ) → Holds pairing old new number h h' → n < h.count → PlaceSame pairing old new (element_at h n) (element_at h' n)
  element_same number h h' n holds below =
      subst (λ g. PlaceSame pairing old new (element_at h n) (element_at g n)) (sym holds.same) (record {
        same = refl;
        near = λ k q.
            meets_at (h.first + (n * h.unit + k)) (h'.first + (n * h.unit + k)) (h.first + n * h.unit + k) (h'.first + n * h.unit + k)
            (at_element h.first n h.unit k) (at_element h'.first n h.unit k) (holds.near (n * h.unit + k) (within_element h.count n h.unit k below q));
      })

  bounds_then : {A B C : Type 0} (R : B → C → Type 0) (at at' : Site) (o : Option A) (f : A → Result B End) (g : A → Result C End) → ((a : A) → o ≡ Some a → Answers R (f a) (g a)) → Answers R (in_bounds at o >>= f) (in_bounds at' o >>= g)
  bounds_then R at at' None f g h = refl
  bounds_then R at at' (Some a) f g h = h a refl

  at_part : (first n unit from k : ℕ) → first + (n * unit + (from + k)) ≡ first + n * unit + from + k
  at_part first n unit from k = omega arith

  -- a scalar, an element or a substring
  pub place_same : (number : ℕ) (at at' : Site) (h h' : Holding) (zs : List ℤ) (r : Option (ℤ × ℤ)) → Holds pairing old new number h h' → (zs ≡ [] → h.count ≡ 1) →
      Answers (PlaceSame pairing old new) (place_of at h zs r) (place_of at' h' zs r)
  place_same number at at' h h' zs r holds one =
      subst (λ g. Answers (PlaceSame pairing old new) (place_of at h zs r) (place_of at' g zs r)) (sym holds.same)
      (bounds_then (PlaceSame pairing old new) at at' (element h.count h.axes zs)
      (λ n. in_bounds at (part h.unit r) >>= (λ s. Ok (record { ty = h.ty; first = h.first + n * h.unit + s.0; units = s.1; unit = h.unit; behind = (h.count - n) * h.unit })))
      (λ n. in_bounds at' (part h.unit r) >>= (λ s. Ok (record { ty = h.ty; first = h'.first + n * h.unit + s.0; units = s.1; unit = h.unit; behind = (h.count - n) * h.unit }))) (λ n e.
      bounds_then (PlaceSame pairing old new) at at' (part h.unit r)
      (λ s. Ok (record { ty = h.ty; first = h.first + n * h.unit + s.0; units = s.1; unit = h.unit; behind = (h.count - n) * h.unit }))
      (λ s. Ok (record { ty = h.ty; first = h'.first + n * h.unit + s.0; units = s.1; unit = h.unit; behind = (h.count - n) * h.unit })) (λ s f. record {
        same = refl;
        near = λ k q.
            meets_at (h.first + (n * h.unit + (s.0 + k))) (h'.first + (n * h.unit + (s.0 + k))) (h.first + n * h.unit + s.0 + k) (h'.first + n * h.unit + s.0 + k)
            (at_part h.first n h.unit s.0 k) (at_part h'.first n h.unit s.0 k)
            (holds.near (n * h.unit + (s.0 + k)) (within_element h.count n h.unit (s.0 + k) (element_below h.count h.axes zs n one e) (part_first h.unit r s f k q)));
      })))

  -- an array from an element to its end
  pub record RestSame (p p' : Place) : Type 0 where
    pub same : p' ≡ record p { first = p'.first }
    pub near : Near pairing old new p.behind p.first p'.first

  element_or_first : (count : ℕ) (axes : List Axis) (zs : List ℤ) (n : ℕ) → element count axes zs ≡ Some n → (n < count) ⊎ (n ≡ 0)
  element_or_first count axes [] n e = let f : 0 ≡ n = cc (e) in inr (sym f)
  element_or_first count axes (z ∷ zs) n e = inl (element_below count axes (z ∷ zs) n (λ f. absurd (cc (f))) e)

  pub rest_same : (number : ℕ) (at at' : Site) (h h' : Holding) (zs : List ℤ) → Holds pairing old new number h h' → Answers RestSame (place_of at h zs None) (place_of at' h' zs None)
  rest_same number at at' h h' zs holds =
      subst (λ g. Answers RestSame (place_of at h zs None) (place_of at' g zs None)) (sym holds.same)
      (bounds_then RestSame at at' (element h.count h.axes zs)
      (λ n. Ok (record { ty = h.ty; first = h.first + n * h.unit + 0; units = h.unit; unit = h.unit; behind = (h.count - n) * h.unit }))
      (λ n. Ok (record { ty = h.ty; first = h'.first + n * h.unit + 0; units = h.unit; unit = h.unit; behind = (h.count - n) * h.unit })) (λ n e. record {
        same = refl;
        near = λ k q.
            meets_at (h.first + (n * h.unit + (0 + k))) (h'.first + (n * h.unit + (0 + k))) (h.first + n * h.unit + 0 + k) (h'.first + n * h.unit + 0 + k)
            (at_part h.first n h.unit 0 k) (at_part h'.first n h.unit 0 k)
            (holds.near (n * h.unit + (0 + k)) (within_rest h.count n h.unit (0 + k) (element_or_first h.count h.axes zs n e) (no_more k ((h.count - n) * h.unit) q)));
      }))
    where
      no_more : (k n : ℕ) → k ≤ n - 1 → 0 + k ≤ n - 1
      no_more k n h = omega arith
