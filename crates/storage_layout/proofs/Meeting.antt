-- Units of two objects meet exactly where a span begins before those before it end.
use Rattle.std.proofs.Common.{zero, ◌≡◌, ◌≢◌, ℕ, ◌+◌, ◌-◌, ◌<◌, ◌≤◌, max, List, [], ◌∷◌, Bool, true, false, Some, Contains, All, cond, nat_eq, nat_lt, length, take, get_or, slice_get, refl, sym, ◌∙◌, subst, ap, arith}
use Rattle.std.proofs.lemmas.List.{get_or-take, length-take-le}
use Rattle.std.proofs.lemmas.List.Elements.{All-contains, All-get_or}
use Rattle.std.proofs.lemmas.Option.{slice_get_within, slice_get-get_or, get_or_from_slice_get, same_Some}
use Rattle.std.proofs.lemmas.Bool.{ltb-true, ltb-false, eqb-true, eqb-false, eq-eqb}
use Rattle.std.specs.List.Sorted.{IsNonDecreasingBy}
use Rattle.ftn_base.specs.declared.entity.Sort.{Sort}
use Rattle.ftn_base.specs.declared.entity.Sort.TheVariants.{Numeric, Character}
use Rattle.ftn_base.specs.declared.storage.Object.{Object}
use Rattle.ftn_base.specs.StorageFaults.{IsPair}
use Rattle.storage_layout.specs.declared.span.Span.{Span}
use Rattle.storage_layout.specs.steps.Reaching.{is_other, further}
use Rattle.storage_layout.specs.steps.Spans.{IsSpanOf, AreSpans}
use Rattle.storage_layout.specs.steps.Mixing.{AreMet, reach_over, HasCrossing}
use Rattle.storage_layout.proofs.Numbers.{test_apart}
use Rattle.storage_layout.proofs.Potential.{either, cons_cases, cons_more}

other_sorts : (one other : Sort) → one ≢ other → is_other one other ≡ true
other_sorts Numeric Numeric apart = absurd (apart refl)
other_sorts Numeric Character apart = refl
other_sorts Character Numeric apart = refl
other_sorts Character Character apart = absurd (apart refl)

not_same : (sort : Sort) → is_other sort sort ≡ true → ⊥
not_same Numeric e = cc e
not_same Character e = cc e

sorts_apart : (one other : Sort) → is_other one other ≡ true → one ≢ other
sorts_apart one other e same = not_same other (subst (λ (s : Sort). is_other s other ≡ true) same e)

-- ---- how far spans reach

-- the span is one of the class, but of the other sort and of another group
record IsAgainst (span : Span) (class : ℕ) (sort : Sort) (group : ℕ) : Type 0 where
  one_class : span.class ≡ class
  other_sort : is_other span.sort sort ≡ true
  other_group : span.group ≢ group

record Reaches (spans : List Span) (class : ℕ) (sort : Sort) (group x : ℕ) : Type 0 where
  span : Span
  there : Contains spans span
  against : IsAgainst span class sort group
  past : x < span.end

reach_reached : (spans : List Span) (class : ℕ) (sort : Sort) (group x : ℕ) → x < reach_over spans class sort group → Reaches spans class sort group x
reach_reached [] class sort group x less = absurd (omega (arith, less))
reach_reached (span ∷ spans) class sort group x less = by_case (reach_reached spans class sort group x) (nat_eq span.class class) (is_other span.sort sort) (nat_eq span.group group) refl refl refl less
  where
    later : Reaches spans class sort group x → Reaches (span ∷ spans) class sort group x
    later found = record { span = found.span; there = cons_more span spans found.span found.there; against = found.against; past = found.past }

    by_size : (x < reach_over spans class sort group → Reaches spans class sort group x) → nat_eq span.class class ≡ true → is_other span.sort sort ≡ true → nat_eq span.group group ≡ false
        → (b : Bool) → nat_lt x span.end ≡ b → x < max (reach_over spans class sort group) span.end → Reaches (span ∷ spans) class sort group x
    by_size rest e f g true near less = record { span = span; there = (zero, (omega arith), refl); against = record { one_class = eqb-true span.class class e; other_sort = f; other_group = eqb-false span.group group g }; past = ltb-true x span.end near }
    by_size rest e f g false far less = let high : span.end ≤ x = ltb-false x span.end far in later (rest (omega (arith, less, high)))

    by_case : (x < reach_over spans class sort group → Reaches spans class sort group x) → (a b c : Bool) → nat_eq span.class class ≡ a → is_other span.sort sort ≡ b → nat_eq span.group group ≡ c
        → x < cond a (cond b (cond c (reach_over spans class sort group) (max (reach_over spans class sort group) span.end)) (reach_over spans class sort group)) (reach_over spans class sort group)
        → Reaches (span ∷ spans) class sort group x
    by_case rest false b c e f g less = later (rest less)
    by_case rest true false c e f g less = later (rest less)
    by_case rest true true true e f g less = later (rest less)
    by_case rest true true false e f g less = by_size rest e f g (nat_lt x span.end) refl less

reach_past : (spans : List Span) (span : Span) (class : ℕ) (sort : Sort) (group : ℕ) → Contains spans span → IsAgainst span class sort group → span.end ≤ reach_over spans class sort group
reach_past [] span class sort group there is = absurd (omega (arith, there.1))
reach_past (first ∷ spans) span class sort group there is =
    either
    (λ same. here (subst (λ (s : Span). IsAgainst s class sort group) (sym same) is) (ap (λ (s : Span). s.end) same))
    (λ later. more (reach_past spans span class sort group later is))
    (cons_cases first spans span there)
  where
    here : IsAgainst first class sort group → first.end ≡ span.end → span.end ≤ reach_over (first ∷ spans) class sort group
    here is e =
        let is_max : reach_over (first ∷ spans) class sort group ≡ max (reach_over spans class sort group) first.end =
        ap (λ (a : Bool). cond a (further first.sort first.group first.end sort group (reach_over spans class sort group)) (reach_over spans class sort group)) (eq-eqb first.class class is.one_class)
        ∙ ap (λ (b : Bool). cond b (cond (nat_eq first.group group) (reach_over spans class sort group) (max (reach_over spans class sort group) first.end)) (reach_over spans class sort group)) is.other_sort
        ∙ ap (λ (d : Bool). cond d (reach_over spans class sort group) (max (reach_over spans class sort group) first.end)) (test_apart first.group group is.other_group) in
        omega (arith, is_max, e)

    more : span.end ≤ reach_over spans class sort group → span.end ≤ reach_over (first ∷ spans) class sort group
    more le = by_case (nat_eq first.class class) (is_other first.sort sort) (nat_eq first.group group) le
      where
        by_case : (a b d : Bool) → span.end ≤ reach_over spans class sort group
            → span.end ≤ cond a (cond b (cond d (reach_over spans class sort group) (max (reach_over spans class sort group) first.end)) (reach_over spans class sort group)) (reach_over spans class sort group)
        by_case false b d le = le
        by_case true false d le = le
        by_case true true true le = le
        by_case true true false le = omega (arith, le)

-- ---- spans in order

module _ (objects : List Object) (class offset group : List ℕ) (spans : List Span) (are : AreSpans objects class offset group (length objects) spans) (rising : IsNonDecreasingBy (λ (span : Span). span.start) spans)
    (filled : All (λ (object : Object). 1 ≤ object.units) objects) where
  -- two spans that meet
  cross_at : (a b : Span) (j k : ℕ) → j < k → k < length spans → get_or spans j a ≡ a → get_or spans k b ≡ b → IsAgainst a b.class b.sort b.group → b.start < a.end → HasCrossing spans
  cross_at a b j k less lt at_j at_k against near =
      let inside : j < length (take k spans) = (let l : length (take k spans) ≡ k = length-take-le k spans (omega (arith, lt)) in omega (arith, less, l)) in
      let there : Contains (take k spans) a = (j, inside, get_or-take k spans j a less ∙ at_j) in
      let far : a.end ≤ reach_over (take k spans) b.class b.sort b.group = reach_past (take k spans) a b.class b.sort b.group there against in
      (k, record { span = b; there = slice_get-get_or spans k b lt ∙ ap Some at_k; before = omega (arith, near, far) })

  one_at : (a b : Span) (j k : ℕ) → j ≡ k → j < length spans → get_or spans j a ≡ a → get_or spans k b ≡ b → a ≡ b
  one_at a b j k same lt at_j at_k = sym at_j ∙ by_default ∙ ap (λ (n : ℕ). get_or spans n b) same ∙ at_k
    where
      by_default : get_or spans j a ≡ get_or spans j b
      by_default = same_Some (get_or spans j a) (get_or spans j b) (sym (slice_get-get_or spans j a lt) ∙ slice_get-get_or spans j b lt)

  -- ---- units that meet make a crossing

  same_object : (v : ℕ) (span : Span) (is : IsSpanOf objects class offset group v span) (found : Object) → slice_get objects v ≡ Some found → is.object ≡ found
  same_object v span is found there = same_Some is.object found (sym is.there ∙ there)

  against_from : (v w : ℕ) (a b : Span) (one other : Object) → IsSpanOf objects class offset group v a → IsSpanOf objects class offset group w b → slice_get objects v ≡ Some one → slice_get objects w ≡ Some other
      → one.sort ≢ other.sort → get_or class v 0 ≡ get_or class w 0 → get_or group v 0 ≢ get_or group w 0 → IsAgainst a b.class b.sort b.group
  against_from v w a b one other is_a is_b there_v there_w apart classes groups = record {
    one_class = is_a.class_is ∙ classes ∙ sym is_b.class_is;
    other_sort = other_sorts a.sort b.sort (λ same. apart (ap (λ (o : Object). o.sort) (sym (same_object v a is_a one there_v)) ∙ sym is_a.sort_is ∙ same ∙ is_b.sort_is ∙ ap (λ (o : Object). o.sort) (same_object w b is_b other there_w)));
    other_group = λ same. groups (sym is_a.group_is ∙ same ∙ is_b.group_is);
  }

  units_near : (v i w j : ℕ) (a b : Span) (one : Object) → IsSpanOf objects class offset group v a → IsSpanOf objects class offset group w b → slice_get objects v ≡ Some one → i < one.units
      → get_or offset v 0 + i ≡ get_or offset w 0 + j → b.start < a.end
  units_near v i w j a b one is_a is_b there_v unit place =
      let end : a.end ≡ get_or offset v 0 + is_a.object.units = is_a.end_is in
      let units : is_a.object.units ≡ one.units = ap (λ (o : Object). o.units) (same_object v a is_a one there_v) in
      let start : b.start ≡ get_or offset w 0 = is_b.start_is in
      omega (arith, end, units, start, unit, place)

  pub crossing_from : AreMet objects class offset group → HasCrossing spans
  crossing_from met = by_place (are.all met.v (slice_get_within objects met.v met.pair.one met.pair.one_there)) (are.all met.w (slice_get_within objects met.w met.pair.other met.pair.other_there))
    where
      by_place : (span : Span) × Contains spans span × IsSpanOf objects class offset group met.v span → (span : Span) × Contains spans span × IsSpanOf objects class offset group met.w span → HasCrossing spans
      by_place a b = by_case (nat_lt a.1.0 b.1.0) (nat_lt b.1.0 a.1.0) refl refl
        where
          forward : IsAgainst a.0 b.0.class b.0.sort b.0.group
          forward = against_from met.v met.w a.0 b.0 met.pair.one met.pair.other a.2 b.2 met.pair.one_there met.pair.other_there met.pair.apart met.one_class met.apart

          by_case : (p q : Bool) → nat_lt a.1.0 b.1.0 ≡ p → nat_lt b.1.0 a.1.0 ≡ q → HasCrossing spans
          by_case true q e f = cross_at a.0 b.0 a.1.0 b.1.0 (ltb-true a.1.0 b.1.0 e) b.1.1 a.1.2 b.1.2 forward
              (units_near met.v met.i met.w met.j a.0 b.0 met.pair.one a.2 b.2 met.pair.one_there met.pair.one_unit met.place)
          by_case false true e f = cross_at b.0 a.0 b.1.0 a.1.0 (ltb-true b.1.0 a.1.0 f) a.1.1 b.1.2 a.1.2
              (against_from met.w met.v b.0 a.0 met.pair.other met.pair.one b.2 a.2 met.pair.other_there met.pair.one_there (λ same. met.pair.apart (sym same)) (sym met.one_class) (λ same. met.apart (sym same)))
              (units_near met.w met.j met.v met.i b.0 a.0 met.pair.other b.2 a.2 met.pair.other_there met.pair.other_unit (sym met.place))
          by_case false false e f =
              let low : b.1.0 ≤ a.1.0 = ltb-false a.1.0 b.1.0 e in
              let high : a.1.0 ≤ b.1.0 = ltb-false b.1.0 a.1.0 f in
              let same = one_at a.0 b.0 a.1.0 b.1.0 (omega (arith, low, high)) a.1.1 a.1.2 b.1.2 in
              absurd (sorts_apart a.0.sort b.0.sort forward.other_sort (ap (λ (s : Span). s.sort) same))

  -- ---- a crossing gives units that meet

  units_filled : (v : ℕ) (found : Object) → slice_get objects v ≡ Some found → 1 ≤ found.units
  units_filled v found there =
      let lt = slice_get_within objects v found there in
      subst (λ (o : Object). 1 ≤ o.units) (get_or_from_slice_get objects v found found there) (All-get_or (λ (o : Object). 1 ≤ o.units) objects v found lt filled)

  met_at : (a b : Span) (v w : ℕ) → IsSpanOf objects class offset group v a → IsSpanOf objects class offset group w b → IsAgainst a b.class b.sort b.group → a.start ≤ b.start → b.start < a.end → AreMet objects class offset group
  met_at a b v w is_a is_b against order near =
      let end : a.end ≡ get_or offset v 0 + is_a.object.units = is_a.end_is in
      let first : a.start ≡ get_or offset v 0 = is_a.start_is in
      let second : b.start ≡ get_or offset w 0 = is_b.start_is in
      let some = units_filled w is_b.object is_b.there in
      let pair : IsPair objects v (b.start - a.start) w 0 = record {
        one = is_a.object;
        other = is_b.object;
        one_there = is_a.there;
        other_there = is_b.there;
        one_unit = omega (arith, end, first, order, near);
        other_unit = omega (arith, some);
        apart = λ same. sorts_apart a.sort b.sort against.other_sort (is_a.sort_is ∙ same ∙ sym is_b.sort_is);
      } in
      record {
        v = v;
        i = b.start - a.start;
        w = w;
        j = 0;
        pair = pair;
        one_class = sym is_a.class_is ∙ against.one_class ∙ is_b.class_is;
        place = omega (arith, first, second, order);
        apart = λ same. against.other_group (is_a.group_is ∙ same ∙ sym is_b.group_is);
      }

  pub met_from : HasCrossing spans → AreMet objects class offset group
  met_from found =
      let k : ℕ = found.0 in
      let b : Span = found.1.span in
      let lt : k < length spans = slice_get_within spans k b found.1.there in
      let earlier = reach_reached (take k spans) b.class b.sort b.group b.start found.1.before in
      let a : Span = earlier.span in
      let short : length (take k spans) ≡ k = length-take-le k spans (omega (arith, lt)) in
      let place : ℕ = earlier.there.0 in
      let inside : place < length (take k spans) = earlier.there.1 in
      let less : place < k = omega (arith, inside, short) in
      let at_a : get_or spans place a ≡ a = sym (get_or-take k spans place a less) ∙ earlier.there.2 in
      let at_b : get_or spans k a ≡ b = get_or_from_slice_get spans k b a found.1.there in
      let a_inside : place < length spans = omega (arith, less, lt) in
      let of_a = All-contains (λ (s : Span). (v : ℕ) × (v < length objects) × IsSpanOf objects class offset group v s) spans a are.known (place, a_inside, at_a) in
      let of_b = All-contains (λ (s : Span). (v : ℕ) × (v < length objects) × IsSpanOf objects class offset group v s) spans b are.known (k, lt, get_or_from_slice_get spans k b b found.1.there) in
      let order : a.start ≤ b.start =
      subst (λ (s : Span). s.start ≤ b.start) at_a (subst (λ (s : Span). (get_or spans place a).start ≤ s.start) at_b (rising place k a (omega (arith, less)) lt)) in
      met_at a b of_a.0 of_b.0 of_a.2 of_b.2 earlier.against order earlier.past
