-- The kept lists before the first tie, and with each tie more.
use Rattle.std.proofs.Common.{◌≡◌, ◌≢◌, ℕ, ◌+◌, ◌*◌, ◌<◌, ◌≤◌, ◌^◌, pos, neg_ℤ, ◌-ℤ◌, None, List, [], ◌∷◌, ◌++◌, length, get_or, sum, All, AllPairs, Contains, inl, inr, refl, sym, ◌∙◌, subst, ap, arith}
use Rattle.std.proofs.lemmas.Int.{ints}
use Rattle.std.proofs.lemmas.Bool.{cases_lt}
use Rattle.std.proofs.lemmas.List.{get_or_append_left, get_or_default, get_or_past, get_or_push, length_push, map-append}
use Rattle.std.proofs.lemmas.List.Elements.{All-nil, All-push, Contains-push_cases}
use Rattle.std.proofs.lemmas.List.Sums.{get_or-le-sum_by, sum_by-le}
use Rattle.ftn_base.specs.declared.entity.Tie.{Tie}
use Rattle.ftn_base.specs.Storage.{Link, object, Leads, tie_link, tie_links}
use Rattle.ftn_base.proofs.WalkLaws.{leads_backward, leads_by, leads_forward, leads_more, leads_nowhere, leads_through}
use Rattle.ftn_base.specs.Storage.{IsWithin}
use Rattle.equiv_class.specs.declared.sequences.TheConstants.{MIDDLE}
use Rattle.equiv_class.specs.steps.Lists.{IsAlone, IsReady, Lists, members_of}
use Rattle.equiv_class.specs.steps.Joins.{IsAbsorbed, IsMerged, IsMet, Joins, turned}
use Rattle.equiv_class.specs.steps.Joining.{IsJoined, IsSpanned, IsTied}
use Rattle.equiv_class.proofs.MergedLists.{listed_next}
use Rattle.equiv_class.proofs.MergedSpans.{spanned_next}
use Rattle.equiv_class.proofs.MergedTies.{link_here, links_more, more_ties, tied_next}

-- ---- no tie yet

module _ (sizes : List ℕ) (s : Lists) (alone : IsAlone sizes s) where
  known : (v : ℕ) → v < length s.label → v < length sizes
  known v lt = let size = alone.labels in omega arith

  only : (l v : ℕ) → Contains (members_of s.members l) v → (v < length s.label) × (get_or s.label v 0 ≡ l)
  only l v c = elim (cases_lt l (length sizes)) [
    | inl lt ↦
        let one : Contains (l ∷ []) v = subst (λ (list : List ℕ). Contains list v) (alone.members l lt) c in
        elim (Contains-push_cases [] l v one) [
          | inl none ↦ absurd (let lt_none : none.0 < 0 = none.1 in omega arith)
          | inr e ↦ subst (λ (k : ℕ). (k < length s.label) × (get_or s.label k 0 ≡ l)) e ((let size = alone.labels in omega arith), alone.label l lt)
        ]
    | inr le ↦
        let past : length s.members ≤ l = (let size = alone.lists in omega arith) in
        let none : Contains [] v = subst (λ (list : List ℕ). Contains list v) (get_or_past s.members l [] past) c in
        absurd (let lt_none : none.0 < 0 = none.1 in omega arith)
  ]

  once : (l : ℕ) → AllPairs (λ earlier later. earlier ≢ later) (members_of s.members l)
  once l = elim (cases_lt l (length sizes)) [
    | inl lt ↦
        let one : AllPairs (λ earlier later. earlier ≢ later) (l ∷ []) = λ (i j d : ℕ) less lt_j. absurd (let lt_one : j < 1 = lt_j in omega arith) in
        subst (λ (list : List ℕ). AllPairs (λ earlier later. earlier ≢ later) list) (sym (alone.members l lt)) one
    | inr le ↦
        let past : length s.members ≤ l = (let size = alone.lists in omega arith) in
        let none : AllPairs (λ earlier later. earlier ≢ later) [] = λ (i j d : ℕ) less lt_j. absurd (let lt_none : j < 0 = lt_j in omega arith) in
        subst (λ (list : List ℕ). AllPairs (λ earlier later. earlier ≢ later) list) (sym (get_or_past s.members l [] past)) none
  ]

  among : (v : ℕ) → v < length s.label → Contains (members_of s.members (get_or s.label v 0)) v
  among v lt =
      let one : Contains (v ∷ []) v = (0, (omega arith), refl) in
      subst (λ (l : ℕ). Contains (members_of s.members l) v) (sym (alone.label v (known v lt)))
      (subst (λ (list : List ℕ). Contains list v) (sym (alone.members v (known v lt))) one)

  above_at : (v : ℕ) → v < length s.label → get_or s.above (get_or s.label v 0) 0 ≡ get_or sizes v 0
  above_at v lt = ap (λ (list : List ℕ). get_or list (get_or s.label v 0) 0) alone.above ∙ ap (λ (l : ℕ). get_or sizes l 0) (alone.label v (known v lt))

  begin : (v : ℕ) → v < length s.label → get_or s.place v 0 + get_or s.below (get_or s.label v 0) 0 ≡ MIDDLE
  begin v lt =
      let place : get_or s.place v 0 ≡ MIDDLE = alone.place v (known v lt) in
      let below : get_or s.below (get_or s.label v 0) 0 ≡ 0 = alone.below (get_or s.label v 0) in
      omega arith

  end : (v : ℕ) → v < length s.label → get_or s.place v 0 + get_or sizes v 0 ≡ MIDDLE + get_or s.above (get_or s.label v 0) 0
  end v lt =
      let place : get_or s.place v 0 ≡ MIDDLE = alone.place v (known v lt) in
      let above = above_at v lt in
      omega arith

  no_sum : sum s.below ≤ length s.below * 0
  no_sum = sum_by-le (λ (x : ℕ). x) 0 s.below (λ k d lt. let none : get_or s.below k 0 ≡ 0 = alone.below k in let same : get_or s.below k d ≡ get_or s.below k 0 = get_or_default s.below k d 0 lt in omega arith)

  led : (v w : ℕ) → v < length s.label → w < length s.label → get_or s.label v 0 ≡ get_or s.label w 0 → Leads (tie_links []) (object v) (object w) (pos (get_or s.place w 0) -ℤ pos (get_or s.place v 0))
  led v w lt_v lt_w e =
      let same : v ≡ w = sym (alone.label v (known v lt_v)) ∙ e ∙ alone.label w (known w lt_w) in
      let none : pos 0 ≡ pos (get_or s.place v 0) -ℤ pos (get_or s.place v 0) = omega (arith, ints) in
      subst (λ (k : ℕ). Leads (tie_links []) (object v) (object k) (pos (get_or s.place k 0) -ℤ pos (get_or s.place v 0))) same
      (leads_by (tie_links []) (object v) (object v) (pos 0) (pos (get_or s.place v 0) -ℤ pos (get_or s.place v 0)) (leads_nowhere (tie_links []) (object v)) none)

  pub joined_first : IsJoined sizes [] s
  joined_first = record {
    listed = record {
      places = alone.places ∙ sym alone.labels;
      lists = alone.lists ∙ sym alone.labels;
      belows = alone.belows ∙ sym alone.labels;
      aboves = ap length alone.above ∙ sym alone.labels;
      known = λ v lt. subst (λ (k : ℕ). k < length s.label) (sym (alone.label v (known v lt))) lt;
      listed = only;
      among = among;
      once = once;
    };
    spanned = record {
      counted = alone.labels;
      low = λ v lt. (let e = begin v lt in omega arith);
      high = λ v lt. (let e = end v lt in omega arith);
      least = λ v lt. (v, lt, refl, begin v lt);
      greatest = λ v lt. (v, lt, refl, end v lt);
      small = let none = no_sum in let all : sum s.above ≡ sum sizes = ap sum alone.above in omega arith;
    };
    tied = record { met = All-nil (IsMet s); led = led };
  }

-- ---- a tie is ready to be taken in

reach_le : (list : List ℕ) (l : ℕ) → get_or list l 0 ≤ sum list
reach_le list l = elim (cases_lt l (length list)) [
  | inl lt ↦ get_or-le-sum_by (λ (x : ℕ). x) list l 0 lt
  | inr le ↦ let none : get_or list l 0 ≡ 0 = get_or_past list l 0 le in omega arith
]

pub reach_small : (sizes : List ℕ) (s : Lists) → IsSpanned sizes s → sum sizes < 2 ^ 31 → (l : ℕ) → get_or s.below l 0 + get_or s.above l 0 < 2 ^ 31
reach_small sizes s spanned few l =
    let below = reach_le s.below l in
    let above = reach_le s.above l in
    let all : sum s.below + sum s.above ≤ sum sizes = spanned.small in
    omega arith

pub is_ready : (sizes : List ℕ) (ties : List Tie) (s : Lists) (tie : Tie) → IsJoined sizes ties s → IsWithin sizes tie → sum sizes < 2 ^ 31 → IsReady s tie
is_ready sizes ties s tie joined within few =
    let size : length s.label ≡ length sizes = joined.spanned.counted in
    let a : tie.a < length sizes = within.a in
    let b : tie.b < length sizes = within.b in
    let at_a : tie.at_a < get_or sizes tie.a 0 = within.at_a in
    let at_b : tie.at_b < get_or sizes tie.b 0 = within.at_b in
    let a_there : tie.a < length s.label = omega arith in
    let b_there : tie.b < length s.label = omega arith in
    record {
      listed = joined.listed;
      a = a_there;
      b = b_there;
      low = joined.spanned.low;
      high = λ v lt. (let most : get_or s.place v 0 + get_or sizes v 0 ≤ MIDDLE + get_or s.above (get_or s.label v 0) 0 = joined.spanned.high v lt in omega arith);
      unit_a = let most : get_or s.place tie.a 0 + get_or sizes tie.a 0 ≤ MIDDLE + get_or s.above (get_or s.label tie.a 0) 0 = joined.spanned.high tie.a a_there in omega arith;
      unit_b = let most : get_or s.place tie.b 0 + get_or sizes tie.b 0 ≤ MIDDLE + get_or s.above (get_or s.label tie.b 0) 0 = joined.spanned.high tie.b b_there in omega arith;
      small = reach_small sizes s joined.spanned few;
    }

-- ---- a tie more

module _ (sizes : List ℕ) (ties : List Tie) (tie : Tie) (within : All (IsWithin sizes) ties) (there : IsWithin sizes tie) where
  met_next : (s : Lists) → IsJoined sizes ties s → IsMet s tie → IsJoined sizes (more_ties ties tie) s
  met_next s joined met = record {
    listed = joined.listed;
    spanned = joined.spanned;
    tied = record {
      met = All-push (IsMet s) ties tie joined.tied.met met;
      led = λ v w lt_v lt_w e. leads_more (tie_links ties) (tie_links (more_ties ties tie)) (object v) (object w) (pos (get_or s.place w 0) -ℤ pos (get_or s.place v 0)) (links_more ties tie) (joined.tied.led v w lt_v lt_w e);
    };
  }

  absorbed_next : (s new : Lists) → IsJoined sizes ties s → IsAbsorbed s tie new → IsJoined sizes (more_ties ties tie) new
  absorbed_next s new joined is =
      let size : length s.label ≡ length sizes = joined.spanned.counted in
      let a : tie.a < length sizes = there.a in
      let b : tie.b < length sizes = there.b in
      let a_there : tie.a < length s.label = omega arith in
      let b_there : tie.b < length s.label = omega arith in
      record {
        listed = listed_next s new tie joined.listed a_there b_there is;
        spanned = spanned_next sizes s new tie joined.listed there is joined.spanned;
        tied = tied_next sizes ties tie s new joined.spanned.counted within joined.listed a_there b_there is joined.tied;
      }

pub turned_within : (sizes : List ℕ) (tie : Tie) → IsWithin sizes tie → IsWithin sizes (turned tie)
turned_within sizes tie within = record { a = within.b; b = within.a; at_a = within.at_b; at_b = within.at_a }

-- a walk over a tie told from its other object is one over the tie
module _ (ties : List Tie) (tie : Tie) where
  abbrev links : List Link
  links = tie_links (more_ties ties tie)

  turned_link : (link : Link) → Contains (tie_links (more_ties ties (turned tie))) link → Leads links link.from link.to link.by
  turned_link link c =
      let both : Contains (tie_links ties ++ tie_link (turned tie) ∷ []) link = subst (λ (l : List Link). Contains l link) (map-append tie_link ties (turned tie ∷ [])) c in
      elim (Contains-push_cases (tie_links ties) (tie_link (turned tie)) link both) [
        | inl old ↦ leads_forward links link (links_more ties tie link old)
        | inr e ↦ subst (λ (l : Link). Leads links l.from l.to l.by) e
            (leads_by links (object tie.b) (object tie.a) (neg_ℤ (pos tie.at_a -ℤ pos tie.at_b)) (pos tie.at_b -ℤ pos tie.at_a) (leads_backward links (tie_link tie) (link_here ties tie)) (omega (arith, ints)))
      ]

  all_before : (P : Tie → Type 0) (last : Tie) → All P (ties ++ last ∷ []) → All P ties
  all_before P last all k d lt = let more = length_push ties last in subst P (get_or_append_left ties (last ∷ []) d k lt) (all k d (omega arith))

  all_last : (P : Tie → Type 0) (last : Tie) → All P (ties ++ last ∷ []) → P last
  all_last P last all = let more = length_push ties last in subst P (get_or_push ties last last (length ties) refl) (all (length ties) last (omega arith))

  turned_tied : (s : Lists) → IsTied (more_ties ties (turned tie)) s → IsTied (more_ties ties tie) s
  turned_tied s tied =
      let last = all_last (IsMet s) (turned tie) tied.met in
      record {
        met = All-push (IsMet s) ties tie (all_before (IsMet s) (turned tie) tied.met) (record { label = sym last.label; unit = sym last.unit });
        led = λ v w lt_v lt_w e. leads_through (tie_links (more_ties ties (turned tie))) links (object v) (object w) (pos (get_or s.place w 0) -ℤ pos (get_or s.place v 0)) turned_link (tied.led v w lt_v lt_w e);
      }

module _ (sizes : List ℕ) (ties : List Tie) (tie : Tie) (within : All (IsWithin sizes) ties) (there : IsWithin sizes tie) (s new : Lists) (joined : IsJoined sizes ties s) where
  merged_next : IsMerged s tie new → IsJoined sizes (more_ties ties tie) new
  merged_next (inl is) = absorbed_next sizes ties tie within there s new joined is
  merged_next (inr is) =
      let other = absorbed_next sizes ties (turned tie) within (turned_within sizes tie there) s new joined is in
      record { listed = other.listed; spanned = other.spanned; tied = turned_tied ties tie new other.tied }

  pub joined_next : Joins s tie None new → IsJoined sizes (more_ties ties tie) new
  joined_next (inl same) = subst (λ (lists : Lists). IsJoined sizes (more_ties ties tie) lists) (sym same.1) (met_next sizes ties tie within there s joined same.0)
  joined_next (inr merged) = merged_next merged
