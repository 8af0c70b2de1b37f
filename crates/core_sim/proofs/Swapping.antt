-- A read of a variable and a call of the function that stands for it do the same, in five steps for one.
use Rattle.std.proofs.Common.{inl, inr, ◌≡◌, ◌≤◌, ◌<◌, ◌+◌, ◌*◌, ℕ, zero, suc, List, [], ◌∷◌, ◌++◌, length, take, drop, refl, sym, ap, subst, ◌∙◌, arith}
use Rattle.std.specs.Prelude.{◌⊎◌, Bool, true, false, not, nat_eq, slice_get, slice_set, if◌then◌else◌, Option, Some, None, Ok, Err}
use Rattle.std.specs.List.{list_any}
use Rattle.std.proofs.lemmas.List.{length-append, length-take-le, length-set}
use Rattle.std.proofs.lemmas.Option.{slice_get_past}
use Rattle.ftn_base.specs.declared.entity.Ty.{Ty}
use Rattle.ftn_base.specs.declared.entity.Ty.TheVariants.{Integer, Logical, Character}
use Rattle.ftn_tree.specs.declared.value.Value.{Value}
use Rattle.ftn_tree.specs.declared.value.Value.TheVariants as value
use Rattle.core_prog.specs.declared.site.Site.{Site}
use Rattle.core_prog.specs.declared.outcome.FaultCode.TheVariants as code
use Rattle.core_prog.specs.declared.storage.Area.{Area}
use Rattle.core_prog.specs.declared.storage.Content.{Content}
use Rattle.core_prog.specs.declared.storage.Content.TheVariants as content
use Rattle.core_prog.specs.declared.storage.Home.{Home}
use Rattle.core_prog.specs.declared.storage.Home.TheVariants as home
use Rattle.core_prog.specs.declared.storage.Variable.{Variable}
use Rattle.core_prog.specs.Ends.{Faulted, ◌>>=◌, or_end, found}
use Rattle.core_prog.specs.Contents.{contents_of, stored, units_from, value_in}
use Rattle.core_prog.specs.Memory.{Holding, Frame, Memory, element_at, read_at, with_value}
use Rattle.core_prog.specs.Programs.{Program}
use Rattle.core_prog.specs.Holdings.{unit_of, stored_in, home_of, holding}
use Rattle.core_prog.specs.Entries.{emptied, with_frame, prepared, left, not_active, result_at}
use Rattle.ftn_tree.specs.Sorts.{Text, is_sort, sort_of_type}
use Rattle.core_prog.specs.Sorts.{is_scalar}
use Rattle.core_prog.specs.Lawful.{IsLawful, IsAtHome}
use Rattle.core_sim.specs.Pairings.{Pairing, Swap, partner, IsPaired}
use Rattle.core_sim.specs.Units.{units_in, IsUnit, SameUnit, is_emptied}
use Rattle.core_sim.specs.Swaps.{IsSwap, IsMade, is_one_unit, is_stored}
use Rattle.core_sim.specs.Premises.{Premises, SameHome, SameVariable, Both}
use Rattle.core_sim.specs.Paired.{Meets, SameFrames, PairedMemory}
use Rattle.core_prog.specs.Values.{called}
use Rattle.core_prog.specs.Runs.{bodies}
use Rattle.core_sim.specs.Copying.{Does, Is, Got, whole_of}
use Rattle.core_sim.proofs.Copying.{copy_calls}
use Rattle.core_sim.proofs.Answering.{Same, Answers}
use Rattle.core_sim.proofs.Cells.{set_get, replaced, append_get, take_get, same_from, emptied_get, length_emptied, is_eq}
use Rattle.core_sim.proofs.Places.{unit_below, or_same}
use Rattle.core_sim.proofs.Typed.{both}
use Rattle.core_sim.proofs.HeldTypes.{one_unit}
use Rattle.core_sim.proofs.Arrivals.{not_emptied, below_or}

-- ---- variables in areas

pub record StoredAt (program : Program) (number : ℕ) (v : Variable) : Type 0 where
  pub h : Holding
  pub held : (m : Memory) → holding program number m ≡ Ok h
  pub ty : h.ty ≡ v.ty
  pub unit : h.unit ≡ unit_of v.ty
  pub at : IsUnit program number 0 h.first

found_as : (program : Program) (number : ℕ) (v : Variable) (place offset : ℕ) (owner : Option ℕ) (a : Area) (m : Memory) → slice_get program.variables number ≡ Some v → v.home ≡ home.Stored place offset owner → slice_get program.areas place ≡ Some a →
    holding program number m ≡ Ok (stored_in v offset a)
found_as program number v place offset owner a m d e l =
    ap (λ o. found o >>= (λ w. home_of program w w.home m)) d ∙ ap (λ w. home_of program v w m) e ∙ ap (λ o. found o >>= (λ b. Ok (stored_in v offset b))) l

plus_none : (a b : ℕ) → a + b ≡ a + b + 0
plus_none a b = omega arith

pub stored_at : (program : Program) → IsLawful program → (number : ℕ) (v : Variable) → slice_get program.variables number ≡ Some v → is_stored v.home ≡ true → StoredAt program number v
stored_at program lawful number v d q = by_home v.home refl q (lawful.variables number v d)
  where
    by_home : (w : Home) → v.home ≡ w → is_stored w ≡ true → IsAtHome program number v w → StoredAt program number v
    by_home (home.Stored place offset owner) e q s = record {
      h = stored_in v offset s.area;
      held = λ m. found_as program number v place offset owner s.area m d e s.there;
      ty = refl;
      unit = refl;
      at = record { variable = v; declared = d; place = place; offset = offset; owner = owner; stored = e; area = s.area; laid = s.there; inside = s.some; here = plus_none s.area.start offset };
    }
    by_home (home.Dummy place position) e q s = absurd (cc q)

pub one_of_unit : (v : Variable) → is_one_unit v ≡ true → unit_of v.ty ≡ 1
one_of_unit v h = one_unit v.ty (both (is_scalar v) (not (is_sort Text (Some (sort_of_type v.ty)))) h).1

set_read : {A : Type 0} (cells : List A) (first : ℕ) (x : A) → first < length cells → take 1 (drop first (slice_set cells first x)) ≡ x ∷ []
set_read [] first x h = absurd (omega arith)
set_read (y ∷ cells) zero x h = refl
set_read (y ∷ cells) (suc first) x h = set_read cells first x (omega arith)

-- a value that was read is read again where it was put
pub put_and_read : (ty : Ty) → not (is_sort Text (Some (sort_of_type ty))) ≡ true → (first : ℕ) (v : Value) (xs cells : List Content) → first < length cells → value_in ty xs ≡ Some v →
    value_in ty (units_from first 1 (stored first (contents_of 1 v) cells)) ≡ Some v
put_and_read (Character n) t first v xs cells h e = absurd (cc t)
put_and_read Integer t first v [] cells h e = absurd (cc e)
put_and_read Integer t first v (content.Nothing ∷ xs) cells h e = absurd (cc e)
put_and_read Integer t first v (content.Truth b ∷ xs) cells h e = absurd (cc e)
put_and_read Integer t first v (content.Byte b ∷ xs) cells h e = absurd (cc e)
put_and_read Integer t first v (content.Whole z ∷ xs) cells h e =
    let same : value.Whole z ≡ v = cc e in
    subst (λ w. value_in Integer (units_from first 1 (stored first (contents_of 1 w) cells)) ≡ Some w) same (ap (value_in Integer) (set_read cells first (content.Whole z) h))
put_and_read Logical t first v [] cells h e = absurd (cc e)
put_and_read Logical t first v (content.Nothing ∷ xs) cells h e = absurd (cc e)
put_and_read Logical t first v (content.Whole z ∷ xs) cells h e = absurd (cc e)
put_and_read Logical t first v (content.Byte b ∷ xs) cells h e = absurd (cc e)
put_and_read Logical t first v (content.Truth b ∷ xs) cells h e =
    let same : value.Truth b ≡ v = cc e in
    subst (λ w. value_in Logical (units_from first 1 (stored first (contents_of 1 w) cells)) ≡ Some w) same (ap (value_in Logical) (set_read cells first (content.Truth b) h))

-- one content is put
one_content : (ty : Ty) → not (is_sort Text (Some (sort_of_type ty))) ≡ true → (v : Value) (xs : List Content) → value_in ty xs ≡ Some v → (x : Content) × (contents_of 1 v ≡ x ∷ [])
one_content (Character n) t v xs e = absurd (cc t)
one_content Integer t (value.Whole z) xs e = (content.Whole z, refl)
one_content Integer t (value.Truth b) xs e = (content.Truth b, refl)
one_content Integer t (value.Chars text) [] e = absurd (cc e)
one_content Integer t (value.Chars text) (content.Nothing ∷ xs) e = absurd (cc e)
one_content Integer t (value.Chars text) (content.Truth b ∷ xs) e = absurd (cc e)
one_content Integer t (value.Chars text) (content.Byte b ∷ xs) e = absurd (cc e)
one_content Integer t (value.Chars text) (content.Whole z ∷ xs) e = absurd (cc e)
one_content Logical t (value.Whole z) xs e = (content.Whole z, refl)
one_content Logical t (value.Truth b) xs e = (content.Truth b, refl)
one_content Logical t (value.Chars text) [] e = absurd (cc e)
one_content Logical t (value.Chars text) (content.Nothing ∷ xs) e = absurd (cc e)
one_content Logical t (value.Chars text) (content.Truth b ∷ xs) e = absurd (cc e)
one_content Logical t (value.Chars text) (content.Byte b ∷ xs) e = absurd (cc e)
one_content Logical t (value.Chars text) (content.Whole z ∷ xs) e = absurd (cc e)

-- ---- made procedures

module _ (pairing : Pairing) (old new : Program) (premises : Premises pairing old new) where
  pub is_free : (number : ℕ) → ((other : ℕ) → pairing.procedure other ≡ Some number → ⊥) → (frames frames' : List Frame) → SameFrames pairing old new frames frames' → list_any (λ (f : Frame). nat_eq f.procedure number) frames' ≡ false
  is_free number n [] [] h = refl
  is_free number n [] (f' ∷ frames') h = absurd h
  is_free number n (f ∷ frames) [] h = absurd h
  is_free number n (f ∷ frames) (f' ∷ frames') h =
      let first : nat_eq f'.procedure number ≡ false = by_test (nat_eq f'.procedure number) (λ e. n f.procedure (subst (λ k. pairing.procedure f.procedure ≡ Some k) (is_eq f'.procedure number e) h.0.paired)) in
      let rest : list_any (λ (g : Frame). nat_eq g.procedure number) frames' ≡ false = is_free number n frames frames' h.1 in cc (first, rest)
    where
      by_test : (b : Bool) → (b ≡ true → ⊥) → b ≡ false
      by_test true k = absurd (k refl)
      by_test false k = refl

  pub free_at : (at : Site) (number h : ℕ) (m m0 : Memory) → IsMade pairing old new number → PairedMemory pairing old new h m m0 → not_active at number m0 ≡ Ok tt
  free_at at number h m m0 made paired = ap (λ b. if b then Err (Faulted code.Recursion at) else Ok tt) (is_free number made.no_partner m.active m0.active paired.active)

  within_both : (at all h n : ℕ) → at < all → n ≡ all + h → at < n
  within_both at all h n q e = omega arith

  -- what units of partners hold stays at the entry of such a procedure
  pub entry_keeps : (number h : ℕ) (m m0 : Memory) (cs : List Content) → IsMade pairing old new number → PairedMemory pairing old new h m m0 → (at at' : ℕ) → Meets pairing old new at at' → at' < length m0.cells →
      slice_get m.cells at ≡ slice_get (emptied number new.areas m0.cells ++ cs) at'
  entry_keeps number h m m0 cs made paired at at' q below =
      paired.contents at at' q ∙ ap (λ b. replaced content.Nothing b (slice_get m0.cells at')) (sym (not_here q))
      ∙ sym (append_get (emptied number new.areas m0.cells) cs at' (subst (λ n. at' < n) (sym (length_emptied number new.areas m0.cells)) below) ∙ emptied_get number new.areas m0.cells at')
    where
      past : (at all i : ℕ) → at ≡ all + i → all ≤ at
      past at all i e = omega arith

      not_here : Meets pairing old new at at' → is_emptied new number at' ≡ false
      not_here (inl u) = made.keeps at at' u
      not_here (inr u) = not_emptied new premises.lawful_new number at' (past at' (units_in new) u.0 u.2)

  -- so it is behind the exit where what was put is no unit of a partner
  pub exit_keeps : (number h : ℕ) (m m0 : Memory) (cs : List Content) (to : ℕ) (x : Content) → IsMade pairing old new number → PairedMemory pairing old new h m m0 → to < units_in new → ((at at' : ℕ) → SameUnit pairing old new at at' → at' ≡ to → ⊥) →
      PairedMemory pairing old new h m (record { cells = take (length m0.cells) (slice_set (emptied number new.areas m0.cells ++ cs) to x); active = m0.active })
  exit_keeps number h m m0 cs to x made paired below apart = record {
    places = paired.places;
    places_new = full ∙ paired.places_new;
    contents = λ at at' q. by_length at at' q (below_or at' (length m0.cells));
    active = paired.active;
  }
    where
      not_to : (at at' all h n : ℕ) → at' ≡ all + n → to < all → at' ≡ to → ⊥
      not_to at at' all h n e f g = omega arith

      other : (at at' : ℕ) → Meets pairing old new at at' → at' ≡ to → ⊥
      other at at' (inl u) = apart at at' u
      other at at' (inr u) = not_to at at' (units_in new) h u.0 u.2 below

      false_of : (b : Bool) → (b ≡ true → ⊥) → b ≡ false
      false_of true k = absurd (k refl)
      false_of false k = refl

      long : (a b c : ℕ) → c ≡ a + b → a ≤ c
      long a b c e = omega arith

      full : length (take (length m0.cells) (slice_set (emptied number new.areas m0.cells ++ cs) to x)) ≡ length m0.cells
      full =
          length-take-le (length m0.cells) (slice_set (emptied number new.areas m0.cells ++ cs) to x)
          (long (length m0.cells) (length cs) (length (slice_set (emptied number new.areas m0.cells ++ cs) to x))
          (length-set (emptied number new.areas m0.cells ++ cs) to x ∙ length-append (emptied number new.areas m0.cells) cs ∙ ap (λ n. n + length cs) (length_emptied number new.areas m0.cells)))

      by_length : (at at' : ℕ) → Meets pairing old new at at' → (at' < length m0.cells) ⊎ (length m0.cells ≤ at') → slice_get m.cells at ≡ slice_get (take (length m0.cells) (slice_set (emptied number new.areas m0.cells ++ cs) to x)) at'
      by_length at at' q (inl l) =
          entry_keeps number h m m0 cs made paired at at' q l
          ∙ sym (take_get (length m0.cells) (slice_set (emptied number new.areas m0.cells ++ cs) to x) at' l ∙ set_get (emptied number new.areas m0.cells ++ cs) to at' x
          ∙ ap (λ b. replaced x b (slice_get (emptied number new.areas m0.cells ++ cs) at')) (false_of (nat_eq at' to) (λ e. other at at' q (is_eq at' to e))))
      by_length at at' q (inr l) =
          paired.contents at at' q ∙ slice_get_past m0.cells at' l ∙ sym (slice_get_past (take (length m0.cells) (slice_set (emptied number new.areas m0.cells ++ cs) to x)) at' (subst (λ n. n ≤ at') (sym full) l))

  -- the partner of a variable that lies in an area
  pub record PartnerAt (number : ℕ) (v : Variable) : Type 0 where
    pub new_one : Variable
    pub declared : slice_get new.variables (partner pairing.variable number) ≡ Some new_one
    pub ty : new_one.ty ≡ v.ty
    pub stored : is_stored new_one.home ≡ true

  pub partner_at : (number : ℕ) (v : Variable) → slice_get old.variables number ≡ Some v → IsPaired pairing.variable number → is_stored v.home ≡ true → PartnerAt number v
  partner_at number v d p q = by_variables (slice_get old.variables number) (slice_get new.variables (partner pairing.variable number)) d refl (premises.variables number p)
    where
      homes : (w w' : Home) → is_stored w ≡ true → SameHome pairing w w' → is_stored w' ≡ true
      homes (home.Stored place offset owner) (home.Stored place' offset' owner') e s = refl
      homes (home.Stored place offset owner) (home.Dummy place' position') e s = absurd s
      homes (home.Dummy place position) w' e s = absurd (cc e)

      by_variables : (o o' : Option Variable) → o ≡ Some v → slice_get new.variables (partner pairing.variable number) ≡ o' → Both (SameVariable pairing) o o' → PartnerAt number v
      by_variables None o' e f b = absurd (cc e)
      by_variables (Some w) None e f b = absurd b
      by_variables (Some w) (Some w') e f b =
          let same : w ≡ v = cc e in
          record { new_one = w'; declared = f; ty = b.ty ∙ ap (λ (x : Variable). x.ty) same; stored = homes v.home w'.home q (subst (λ (x : Variable). SameHome pairing x.home w'.home) same b.home) }

read_back : (ty ty' : Ty) (unit f g : ℕ) (at at' : Site) (v : Value) (xs cells : List Content) → not (is_sort Text (Some (sort_of_type ty))) ≡ true → ty' ≡ ty → unit ≡ 1 → f ≡ g → g < length cells → or_end (Faulted code.Undefined at) (value_in ty xs) ≡ Ok v →
    or_end (Faulted code.Undefined at') (value_in ty' (units_from f unit (stored g (contents_of unit v) cells))) ≡ Ok v
read_back ty ty' unit f g at at' v xs cells t e u p l q =
    ap (λ x. or_end (Faulted code.Undefined at') (value_in x (units_from f unit (stored g (contents_of unit v) cells)))) e
    ∙ ap (λ n. or_end (Faulted code.Undefined at') (value_in ty (units_from f n (stored g (contents_of n v) cells)))) u
    ∙ ap (λ n. or_end (Faulted code.Undefined at') (value_in ty (units_from n 1 (stored g (contents_of 1 v) cells)))) p
    ∙ ap (or_end (Faulted code.Undefined at')) (put_and_read ty t g v xs cells l (value_of_ok (value_in ty xs) q))
  where
    value_of_ok : (o : Option Value) → or_end (Faulted code.Undefined at) o ≡ Ok v → o ≡ Some v
    value_of_ok None q = absurd (cc q)
    value_of_ok (Some w) q = cc q

module _ (pairing : Pairing) (old new : Program) (premises : Premises pairing old new) (s : Swap) (w : IsSwap pairing old new s) where
  pub source_old : StoredAt old s.variable w.variable
  source_old = stored_at old premises.lawful s.variable w.variable w.declared w.stored

  pub the_partner : PartnerAt pairing old new premises s.variable w.variable
  the_partner = partner_at pairing old new premises s.variable w.variable w.declared w.paired w.stored

  pub source_new : StoredAt new (partner pairing.variable s.variable) the_partner.new_one
  source_new = stored_at new premises.lawful_new (partner pairing.variable s.variable) the_partner.new_one the_partner.declared the_partner.stored

  pub result_new : StoredAt new w.getter.result w.getter.like.like
  result_new = stored_at new premises.lawful_new w.getter.result w.getter.like.like w.getter.like.declared w.getter.stored

  -- memory inside the function
  abbrev pub in_getter : Memory → Memory
  in_getter m0 = with_frame s.getter [] (prepared new s.getter [] m0)

  no_zero : (f u : ℕ) → f + 0 * u ≡ f + 0 * u + 0
  no_zero f u = omega arith

  inside : (f u all h n k : ℕ) → f < all → n ≡ all + h → k ≡ n + 0 → f + 0 * u + 0 < k
  inside f u all h n k e g i = omega arith

  pub source_type : source_new.h.ty ≡ w.variable.ty
  source_type = source_new.ty ∙ the_partner.ty

  no_text_here : not (is_sort Text (Some (sort_of_type w.variable.ty))) ≡ true
  no_text_here = (both (is_scalar w.variable) (not (is_sort Text (Some (sort_of_type w.variable.ty)))) w.one_unit).1

  old_unit : source_old.h.unit ≡ 1
  old_unit = source_old.unit ∙ one_of_unit w.variable w.one_unit

  new_unit : source_new.h.unit ≡ 1
  new_unit = source_new.unit ∙ ap unit_of the_partner.ty ∙ one_of_unit w.variable w.one_unit

  getter_given : (at : Site) (h : ℕ) (m m0 : Memory) → PairedMemory pairing old new h m m0 → (v : Value) → read_at w.getter.from (whole_of source_new.h) (in_getter m0) ≡ Ok v →
      result_at new at (Some w.getter.result) (with_value (whole_of result_new.h) v (in_getter m0)) ≡ Ok (Some v)
  getter_given at h m m0 paired v e =
      ap (λ q. q >>= (λ x. read_at at (element_at x 0) (with_value (whole_of result_new.h) v (in_getter m0)) >>= (λ y. Ok (Some y)))) (result_new.held (with_value (whole_of result_new.h) v (in_getter m0)))
      ∙ ap (λ q. q >>= (λ y. Ok (Some y)))
      (read_back source_new.h.ty result_new.h.ty result_new.h.unit (result_new.h.first + 0 * result_new.h.unit) (result_new.h.first + 0 * result_new.h.unit + 0) w.getter.from at v
      (units_from (source_new.h.first + 0 * source_new.h.unit + 0) source_new.h.unit (in_getter m0).cells) (in_getter m0).cells
      (subst (λ ty. not (is_sort Text (Some (sort_of_type ty))) ≡ true) (sym source_type) no_text_here) (result_new.ty ∙ w.getter.like.ty ∙ sym source_type)
      (result_new.unit ∙ ap unit_of w.getter.like.ty ∙ one_of_unit w.variable w.one_unit) (no_zero result_new.h.first result_new.h.unit)
      (inside result_new.h.first result_new.h.unit (units_in new) h (length m0.cells) (length (in_getter m0).cells) (unit_below new premises.lawful_new w.getter.result 0 result_new.h.first result_new.at) paired.places_new
      (length-append (emptied s.getter new.areas m0.cells) [] ∙ ap (λ n. n + 0) (length_emptied s.getter new.areas m0.cells))) e)

  -- the call, in four steps
  pub getter_call : (room : ℕ) (at : Site) (h : ℕ) (m m0 : Memory) → PairedMemory pairing old new h m m0 →
      Does 4 (Is m0) (called new (bodies new (suc room)) at s.getter []) (Got w.getter.from result_new.h source_new.h m0 (in_getter m0) Some) (λ e. read_at w.getter.from (whole_of source_new.h) (in_getter m0) ≡ Err e)
  getter_call room at h m m0 paired = copy_calls new room at s.getter [] m0 (in_getter m0)
      (record {
        dummies = [];
        result = Some w.getter.result;
        to_at = w.getter.at;
        to = w.getter.result;
        from_at = w.getter.from;
        from = partner pairing.variable s.variable;
        there = ap found w.getter.there;
        free = free_at pairing old new premises at s.getter h m m0 w.getter.made paired;
        enters = refl;
      })
      (record { target = result_new.h; source = source_new.h; target_held = result_new.held (in_getter m0); source_held = source_new.held (in_getter m0); given = Some; gives = getter_given at h m m0 paired })

  -- the read of the one and that of the other
  pub getter_reads : (at : Site) (h : ℕ) (m m0 : Memory) → PairedMemory pairing old new h m m0 → Answers Same (read_at at (whole_of source_old.h) m) (read_at w.getter.from (whole_of source_new.h) (in_getter m0))
  getter_reads at h m m0 paired =
      or_same pairing old new premises code.Undefined at w.getter.from
      (value_in source_old.h.ty (units_from (source_old.h.first + 0 * source_old.h.unit + 0) source_old.h.unit m.cells))
      (value_in source_new.h.ty (units_from (source_new.h.first + 0 * source_new.h.unit + 0) source_new.h.unit (in_getter m0).cells))
      (ap (λ ty. value_in ty (units_from (source_old.h.first + 0 * source_old.h.unit + 0) source_old.h.unit m.cells)) (source_old.ty ∙ sym source_type)
      ∙ ap (λ n. value_in source_new.h.ty (units_from (source_old.h.first + 0 * source_old.h.unit + 0) n m.cells)) (old_unit ∙ sym new_unit)
      ∙ ap (value_in source_new.h.ty) (same_from source_new.h.unit (source_old.h.first + 0 * source_old.h.unit + 0) (source_new.h.first + 0 * source_new.h.unit + 0) m.cells (in_getter m0).cells (λ k q. at_place k (subst (λ n. k < n) new_unit q))))
    where
      meets : Meets pairing old new source_old.h.first source_new.h.first
      meets = inl (record { number = s.variable; unit = 0; paired = w.paired; before = source_old.at; after = source_new.at })

      place : (f u k : ℕ) → k < 1 → f ≡ f + 0 * u + 0 + k
      place f u k q = omega arith

      below : (f all h n : ℕ) → f < all → n ≡ all + h → f < n
      below f all h n q e = omega arith

      at_place : (k : ℕ) → k < 1 → slice_get m.cells (source_old.h.first + 0 * source_old.h.unit + 0 + k) ≡ slice_get (in_getter m0).cells (source_new.h.first + 0 * source_new.h.unit + 0 + k)
      at_place k q =
          ap (slice_get m.cells) (sym (place source_old.h.first source_old.h.unit k q))
          ∙ entry_keeps pairing old new premises s.getter h m m0 [] w.getter.made paired source_old.h.first source_new.h.first meets
          (below source_new.h.first (units_in new) h (length m0.cells) (unit_below new premises.lawful_new (partner pairing.variable s.variable) 0 source_new.h.first source_new.at) paired.places_new)
          ∙ ap (slice_get (in_getter m0).cells) (place source_new.h.first source_new.h.unit k q)

  -- what the call leaves is paired with what the read leaves
  pub getter_leaves : (h : ℕ) (m m0 : Memory) (v : Value) → PairedMemory pairing old new h m m0 → read_at w.getter.from (whole_of source_new.h) (in_getter m0) ≡ Ok v →
      PairedMemory pairing old new h m (left (length m0.cells) (with_value (whole_of result_new.h) v (in_getter m0)))
  getter_leaves h m m0 v paired e =
      subst (λ cells. PairedMemory pairing old new h m (record { cells = take (length m0.cells) cells; active = m0.active })) (sym put)
      (exit_keeps pairing old new premises s.getter h m m0 [] result_new.h.first one.0 w.getter.made paired (unit_below new premises.lawful_new w.getter.result 0 result_new.h.first result_new.at)
      (λ at at' u q. w.getter.apart at at' u (subst (IsUnit new w.getter.result 0) (sym q) result_new.at)))
    where
      value_of_ok : (at : Site) (o : Option Value) → or_end (Faulted code.Undefined at) o ≡ Ok v → o ≡ Some v
      value_of_ok at None q = absurd (cc q)
      value_of_ok at (Some x) q = cc q

      xs : List Content
      xs = units_from (source_new.h.first + 0 * source_new.h.unit + 0) source_new.h.unit (in_getter m0).cells

      one : (x : Content) × (contents_of 1 v ≡ x ∷ [])
      one = one_content source_new.h.ty (subst (λ ty. not (is_sort Text (Some (sort_of_type ty))) ≡ true) (sym source_type) no_text_here) v xs (value_of_ok w.getter.from (value_in source_new.h.ty xs) e)

      first_place : (f u : ℕ) → f + 0 * u + 0 ≡ f
      first_place f u = omega arith

      put : stored (result_new.h.first + 0 * result_new.h.unit + 0) (contents_of result_new.h.unit v) (in_getter m0).cells ≡ slice_set (in_getter m0).cells result_new.h.first one.0
      put =
          ap (λ n. stored n (contents_of result_new.h.unit v) (in_getter m0).cells) (first_place result_new.h.first result_new.h.unit)
          ∙ ap (λ n. stored result_new.h.first (contents_of n v) (in_getter m0).cells) (result_new.unit ∙ ap unit_of w.getter.like.ty ∙ one_of_unit w.variable w.one_unit)
          ∙ ap (λ cs. stored result_new.h.first cs (in_getter m0).cells) one.1
