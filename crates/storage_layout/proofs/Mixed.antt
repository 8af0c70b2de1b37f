-- Units of both sorts are one by links and were not exactly where they have one class and one place, and lie in two groups.
use Rattle.std.proofs.Common.{zero, suc, ◌≡◌, ◌≢◌, ◌↔◌, ℕ, ◌+◌, ◌<◌, ℤ, pos, neg_ℤ, ◌+ℤ◌, ◌-ℤ◌, List, [], ◌∷◌, ◌++◌, Contains, All, AllPairs, min, take, drop, length, get_or, refl, sym, ◌∙◌, subst, ap, arith}
use Rattle.std.proofs.lemmas.Int.{ints}
use Rattle.std.proofs.lemmas.List.{append-nil, length-map, length-append, length-take, get_or-take, take-append-drop}
use Rattle.std.proofs.lemmas.List.Elements.{Contains-append_left}
use Rattle.std.proofs.lemmas.Option.{slice_get_within}
use Rattle.ftn_base.specs.declared.entity.Tie.{Tie}
use Rattle.ftn_base.specs.Storage.{Thing, Link, object, tie_links, Leads, AreJoined, AreOneUnit, IsContradicted}
use Rattle.ftn_base.proofs.WalkLaws.{leads_kept, leads_nowhere, leads_on, leads_back, leads_by, leads_more}
use Rattle.ftn_base.specs.declared.storage.Object.{Object}
use Rattle.ftn_base.specs.declared.storage.Member.{Member}
use Rattle.ftn_base.specs.StorageMembers.{sizes_of, list_links, links}
use Rattle.ftn_base.specs.StorageFaults.{AreMixed}
use Rattle.equiv_class.specs.Sound as classes
use Rattle.storage_layout.specs.steps.Numbered.{named, AreMemberTies}
use Rattle.storage_layout.specs.steps.Mixing.{AreMet}
use Rattle.storage_layout.proofs.Numbers.{zero_by}
use Rattle.storage_layout.proofs.Potential.{lists_agree}
use Rattle.storage_layout.proofs.Carried.{walk_on, walk_back, object_named, contradicts_on}

Contains-take : {X : Type 0} (n : ℕ) (xs : List X) (x : X) → Contains (take n xs) x → Contains xs x
Contains-take n xs x there = subst (λ (list : List _). Contains list x) (take-append-drop n xs) (Contains-append_left (take n xs) (drop n xs) x there)

AllPairs-take : {X : Type 0} (R : X → X → Type 0) (n : ℕ) (xs : List X) → AllPairs R xs → AllPairs R (take n xs)
AllPairs-take R n xs all i j d less lt =
    let short : length (take n xs) ≡ min n (length xs) = length-take n xs in
    let i_early : i < n = omega (arith, less, lt, short) in
    let j_early : j < n = omega (arith, lt, short) in
    let j_there : j < length xs = omega (arith, lt, short) in
    subst (λ (x : _). R x (get_or (take n xs) j d)) (sym (get_or-take n xs i d i_early)) (subst (λ (y : _). R (get_or xs i d) y) (sym (get_or-take n xs j d j_early)) (all i j d less j_there))

-- ---- by what classes and groups tell of walks

module _ (objects : List Object) (those these : List Link) (class offset group : List ℕ)
    (share : (v i w j : ℕ) → v < length objects → w < length objects → AreOneUnit these (object v) i (object w) j ↔ ((get_or class v 0 ≡ get_or class w 0) × (get_or offset v 0 + i ≡ get_or offset w 0 + j)))
    (grouped : (v w : ℕ) → v < length objects → w < length objects → AreJoined those (object v) (object w) ↔ (get_or group v 0 ≡ get_or group w 0))
    (fewer : (v w : ℕ) (by : ℤ) → Leads those (object v) (object w) by → Leads these (object v) (object w) by)
    (agree : IsContradicted these → ⊥) where
  -- what two walks between two things tell is the same
  one_way : (v w : ℕ) (by other : ℤ) → Leads these (object v) (object w) by → Leads these (object v) (object w) other → by ≡ other
  one_way v w by other one two =
      let round : Leads these (object v) (object v) (by +ℤ neg_ℤ other) = leads_on these (object v) (object w) (object v) by (neg_ℤ other) one (leads_back these (object v) (object w) other two) in
      let none : by +ℤ neg_ℤ other ≡ pos 0 = zero_by (by +ℤ neg_ℤ other) (λ apart. agree (record { thing = object v; by = by +ℤ neg_ℤ other; apart = apart; back = round })) in
      omega (arith, ints, none)

  pub mixed_by : AreMet objects class offset group → AreMixed objects those these
  mixed_by met =
      let v_there = slice_get_within objects met.v met.pair.one met.pair.one_there in
      let w_there = slice_get_within objects met.w met.pair.other met.pair.other_there in
      record {
        v = met.v;
        i = met.i;
        w = met.w;
        j = met.j;
        pair = met.pair;
        now = (share met.v met.i met.w met.j v_there w_there).1 (met.one_class, met.place);
        before = λ walk. met.apart ((grouped met.v met.w v_there w_there).0 (pos met.i -ℤ pos met.j, walk));
      }

  pub met_by : AreMixed objects those these → AreMet objects class offset group
  met_by mixed =
      let v_there = slice_get_within objects mixed.v mixed.pair.one mixed.pair.one_there in
      let w_there = slice_get_within objects mixed.w mixed.pair.other mixed.pair.other_there in
      let now = (share mixed.v mixed.i mixed.w mixed.j v_there w_there).0 mixed.now in
      record {
        v = mixed.v;
        i = mixed.i;
        w = mixed.w;
        j = mixed.j;
        pair = mixed.pair;
        one_class = now.0;
        place = now.1;
        apart = λ same. (
            let walk = (grouped mixed.v mixed.w v_there w_there).1 same in
            mixed.before (leads_by those (object mixed.v) (object mixed.w) walk.0 (pos mixed.i -ℤ pos mixed.j) walk.1
            (one_way mixed.v mixed.w walk.0 (pos mixed.i -ℤ pos mixed.j) (fewer mixed.v mixed.w walk.0 walk.1) mixed.now)));
      }

-- ---- what the classes of the kept ties tell

take_ties : (count : ℕ) (names sizes : List ℕ) (before members : List Member) (ties : List Tie) (n : ℕ) → AreMemberTies count names sizes before members ties → AreMemberTies count names sizes before (take n members) (take n ties)
take_ties count names sizes before members ties zero are = tt
take_ties count names sizes before [] [] (suc n) are = tt
take_ties count names sizes before [] (tie ∷ ties) (suc n) are = absurd are
take_ties count names sizes before (member ∷ rest) [] (suc n) are = absurd are
take_ties count names sizes before (member ∷ rest) (tie ∷ ties) (suc n) are = (are.0, take_ties count names sizes (before ++ member ∷ []) rest ties n are.1)

none_known : (count : ℕ) → All {X = Tie} (λ (tie : Tie). (tie.a < count) × (tie.b < count)) []
none_known count k d lt = absurd (omega (arith, lt))

module _ (names sizes : List ℕ) (members : List Member) (given member_ties : List Tie)
    (are : AreMemberTies (length sizes) names sizes [] members member_ties)
    (known : All (λ tie. (tie.a < length sizes) × (tie.b < length sizes)) given) (there : (member : Member) → Contains members member → member.object < length sizes) where
  kept_on : (v w : ℕ) (by : ℤ) → Leads (links sizes members given) (object v) (object w) by → Leads (tie_links (member_ties ++ given)) (object v) (object w) by
  kept_on v w by = walk_on names sizes members given member_ties are known there (object v) (object w) by

  kept_back : (v w : ℕ) (by : ℤ) → v < length sizes → w < length sizes → Leads (tie_links (member_ties ++ given)) (object v) (object w) by → Leads (links sizes members given) (object v) (object w) by
  kept_back v w by lt_v lt_w walk =
      subst (λ (x : Thing). Leads (links sizes members given) x (object w) by) (object_named (length sizes) names v lt_v)
      (subst (λ (y : Thing). Leads (links sizes members given) (named (length sizes) names (object v)) y by) (object_named (length sizes) names w lt_w)
      (walk_back names sizes members given member_ties are known there (object v) (object w) by walk))

  module _ (block_sizes class offset size : List ℕ) (found : classes.IsSound (sizes ++ block_sizes) (tie_links (member_ties ++ given)) class offset size) where
    in_all : (v : ℕ) → v < length sizes → v < length (sizes ++ block_sizes)
    in_all v lt = let w = length-append sizes block_sizes in omega (arith, lt, w)

    units_shared : (v i w j : ℕ) → v < length sizes → w < length sizes
        → AreOneUnit (links sizes members given) (object v) i (object w) j ↔ ((get_or class v 0 ≡ get_or class w 0) × (get_or offset v 0 + i ≡ get_or offset w 0 + j))
    units_shared v i w j lt_v lt_w =
        let both = found.units v i w j (in_all v lt_v) (in_all w lt_w) in
        ((λ walk. both.0 (kept_on v w (pos i -ℤ pos j) walk)), (λ same. kept_back v w (pos i -ℤ pos j) lt_v lt_w (both.1 same)))

    all_joined : (v w : ℕ) → v < length sizes → w < length sizes → AreJoined (links sizes members given) (object v) (object w) ↔ (get_or class v 0 ≡ get_or class w 0)
    all_joined v w lt_v lt_w =
        let both = found.classes.joined v w (in_all v lt_v) (in_all w lt_w) in
        ((λ walk. both.0 (walk.0, kept_on v w walk.0 walk.1)), (λ same. (let walk = both.1 same in (walk.0, kept_back v w walk.0 lt_v lt_w walk.1))))

-- the same where there are no ties but those of members
module _ (names sizes : List ℕ) (members : List Member) (member_ties : List Tie)
    (are : AreMemberTies (length sizes) names sizes [] members member_ties) (there : (member : Member) → Contains members member → member.object < length sizes)
    (block_sizes class offset size : List ℕ) (found : classes.IsSound (sizes ++ block_sizes) (tie_links member_ties) class offset size) where
  sound_alone : classes.IsSound (sizes ++ block_sizes) (tie_links (member_ties ++ [])) class offset size
  sound_alone = subst (λ (ties : List Tie). classes.IsSound (sizes ++ block_sizes) (tie_links ties) class offset size) (sym (append-nil member_ties)) found

  units_alone : (v i w j : ℕ) → v < length sizes → w < length sizes
      → AreOneUnit (list_links sizes members) (object v) i (object w) j ↔ ((get_or class v 0 ≡ get_or class w 0) × (get_or offset v 0 + i ≡ get_or offset w 0 + j))
  units_alone v i w j lt_v lt_w =
      subst (λ (list : List Link). AreOneUnit list (object v) i (object w) j ↔ ((get_or class v 0 ≡ get_or class w 0) × (get_or offset v 0 + i ≡ get_or offset w 0 + j))) (append-nil (list_links sizes members))
      (units_shared names sizes members [] member_ties are (none_known (length sizes)) there block_sizes class offset size sound_alone v i w j lt_v lt_w)

  joined_alone : (v w : ℕ) → v < length sizes → w < length sizes → AreJoined (list_links sizes members) (object v) (object w) ↔ (get_or class v 0 ≡ get_or class w 0)
  joined_alone v w lt_v lt_w =
      subst (λ (list : List Link). AreJoined list (object v) (object w) ↔ (get_or class v 0 ≡ get_or class w 0)) (append-nil (list_links sizes members))
      (all_joined names sizes members [] member_ties are (none_known (length sizes)) there block_sizes class offset size sound_alone v w lt_v lt_w)

-- ---- ties make units of both sorts one

module _ (objects : List Object) (names block_sizes : List ℕ) (members : List Member) (some member_ties : List Tie)
    (are : AreMemberTies (length (sizes_of objects)) names (sizes_of objects) [] members member_ties)
    (known : All (λ tie. (tie.a < length (sizes_of objects)) × (tie.b < length (sizes_of objects))) some)
    (there : (member : Member) → Contains members member → member.object < length (sizes_of objects))
    (class offset size : List ℕ) (found : classes.IsSound (sizes_of objects ++ block_sizes) (tie_links (member_ties ++ some)) class offset size)
    (agree : IsContradicted (tie_links (member_ties ++ some)) → ⊥)
    (alone alone_offset alone_size : List ℕ) (by_lists : classes.IsSound (sizes_of objects ++ block_sizes) (tie_links member_ties) alone alone_offset alone_size) where
  inside : (v : ℕ) → v < length objects → v < length (sizes_of objects)
  inside v lt = subst (λ (n : ℕ). v < n) (sym (length-map objects (λ (o : Object). o.units))) lt

  share : (v i w j : ℕ) → v < length objects → w < length objects
      → AreOneUnit (links (sizes_of objects) members some) (object v) i (object w) j ↔ ((get_or class v 0 ≡ get_or class w 0) × (get_or offset v 0 + i ≡ get_or offset w 0 + j))
  share v i w j lt_v lt_w = units_shared names (sizes_of objects) members some member_ties are known there block_sizes class offset size found v i w j (inside v lt_v) (inside w lt_w)

  grouped : (v w : ℕ) → v < length objects → w < length objects → AreJoined (list_links (sizes_of objects) members) (object v) (object w) ↔ (get_or alone v 0 ≡ get_or alone w 0)
  grouped v w lt_v lt_w = joined_alone names (sizes_of objects) members member_ties are there block_sizes alone alone_offset alone_size by_lists v w (inside v lt_v) (inside w lt_w)

  fewer : (v w : ℕ) (by : ℤ) → Leads (list_links (sizes_of objects) members) (object v) (object w) by → Leads (links (sizes_of objects) members some) (object v) (object w) by
  fewer v w by walk =
      leads_more (list_links (sizes_of objects) members) (links (sizes_of objects) members some) (object v) (object w) by
      (λ link in_list. Contains-append_left (list_links (sizes_of objects) members) (tie_links some) link in_list) walk

  links_agree : IsContradicted (links (sizes_of objects) members some) → ⊥
  links_agree bad = agree (contradicts_on names (sizes_of objects) members some member_ties are known there bad)

  pub mixed_on : AreMet objects class offset alone → AreMixed objects (list_links (sizes_of objects) members) (links (sizes_of objects) members some)
  mixed_on = mixed_by objects (list_links (sizes_of objects) members) (links (sizes_of objects) members some) class offset alone share grouped fewer links_agree

  pub mixed_back : AreMixed objects (list_links (sizes_of objects) members) (links (sizes_of objects) members some) → AreMet objects class offset alone
  mixed_back = met_by objects (list_links (sizes_of objects) members) (links (sizes_of objects) members some) class offset alone share grouped fewer links_agree

-- ---- lists make units of both sorts one

no_link : {A : Type 0} (link : Link) → Contains [] link → A
no_link link there = absurd (omega (arith, there.1))

object_same : (v w : ℕ) → object v ≡ object w → v ≡ w
object_same v w e = cc e

module _ (objects : List Object) (names block_sizes : List ℕ) (members : List Member) (member_ties : List Tie)
    (are : AreMemberTies (length (sizes_of objects)) names (sizes_of objects) [] members member_ties)
    (there : (member : Member) → Contains members member → member.object < length (sizes_of objects))
    (once : AllPairs (λ earlier later. earlier.object ≢ later.object) members) (count : ℕ)
    (class offset size : List ℕ) (found : classes.IsSound (sizes_of objects ++ block_sizes) (tie_links (take count member_ties)) class offset size)
    (group : List ℕ) (own : (v : ℕ) → v < length objects → get_or group v 0 ≡ v) where
  inside_too : (v : ℕ) → v < length objects → v < length (sizes_of objects)
  inside_too v lt = subst (λ (n : ℕ). v < n) (sym (length-map objects (λ (o : Object). o.units))) lt

  some_there : (member : Member) → Contains (take count members) member → member.object < length (sizes_of objects)
  some_there member in_some = there member (Contains-take count members member in_some)

  share_some : (v i w j : ℕ) → v < length objects → w < length objects
      → AreOneUnit (list_links (sizes_of objects) (take count members)) (object v) i (object w) j ↔ ((get_or class v 0 ≡ get_or class w 0) × (get_or offset v 0 + i ≡ get_or offset w 0 + j))
  share_some v i w j lt_v lt_w =
      units_alone names (sizes_of objects) (take count members) (take count member_ties) (take_ties (length (sizes_of objects)) names (sizes_of objects) [] members member_ties count are) some_there
      block_sizes class offset size found v i w j (inside_too v lt_v) (inside_too w lt_w)

  alone_only : (v w : ℕ) → AreJoined [] (object v) (object w) → v ≡ w
  alone_only v w walk = sym (object_same w v (leads_kept [] (λ thing at. thing ≡ object v) (λ link in_none at e. no_link link in_none) (λ link in_none at e. no_link link in_none) (object v) (object w) (pos 0) walk.0 walk.1 refl))

  grouped_alone : (v w : ℕ) → v < length objects → w < length objects → AreJoined [] (object v) (object w) ↔ (get_or group v 0 ≡ get_or group w 0)
  grouped_alone v w lt_v lt_w = (
    (λ walk. ap (λ (k : ℕ). get_or group k 0) (alone_only v w walk)),
    (λ same. (let e : v ≡ w = sym (own v lt_v) ∙ same ∙ own w lt_w in (pos 0, subst (λ (k : ℕ). Leads [] (object v) (object k) (pos 0)) e (leads_nowhere [] (object v))))),
  )

  fewer_still : (v w : ℕ) (by : ℤ) → Leads [] (object v) (object w) by → Leads (list_links (sizes_of objects) (take count members)) (object v) (object w) by
  fewer_still v w by walk = leads_more [] (list_links (sizes_of objects) (take count members)) (object v) (object w) by (λ link in_none. no_link link in_none) walk

  some_agree : IsContradicted (list_links (sizes_of objects) (take count members)) → ⊥
  some_agree = lists_agree (sizes_of objects) (take count members) (AllPairs-take (λ earlier later. earlier.object ≢ later.object) count members once)

  pub mixed_lists_on : AreMet objects class offset group → AreMixed objects [] (list_links (sizes_of objects) (take count members))
  mixed_lists_on = mixed_by objects [] (list_links (sizes_of objects) (take count members)) class offset group share_some grouped_alone fewer_still some_agree

  pub mixed_lists_back : AreMixed objects [] (list_links (sizes_of objects) (take count members)) → AreMet objects class offset group
  mixed_lists_back = met_by objects [] (list_links (sizes_of objects) (take count members)) class offset group share_some grouped_alone fewer_still some_agree
