-- The layout, from the classes of objects and blocks by the kept ties.
use Rattle.std.proofs.Common.{◌≡◌, ℕ, ◌+◌, ◌-◌, ◌<◌, ◌≤◌, ℤ, pos, ◌+ℤ◌, ◌<ℤ◌, List, [], ◌∷◌, ◌++◌, ◌⊎◌, inl, inr, Bool, true, false, Option, None, Some, slice_get, Contains, All, take, nat_eq, nat_lt, length, get_or, refl, sym, ◌∙◌, subst, ap, arith}
use Rattle.std.specs.List.{position_or_len}
use Rattle.std.proofs.lemmas.Int.{ints}
use Rattle.std.proofs.lemmas.Bool.Decides.{nat_tests}
use Rattle.std.proofs.lemmas.List.{length-append, get_or_append_left, get_or-append-add, get_or-take, length-take-le}
use Rattle.std.proofs.lemmas.List.Elements.{Contains-append_left, Contains-append_cases}
use Rattle.std.proofs.lemmas.List.Sums.{passes_at_first}
use Rattle.std.proofs.lemmas.Bool.{eqb-true, ltb-true, ltb-false}
use Rattle.ftn_base.specs.declared.entity.Tie.{Tie}
use Rattle.ftn_base.specs.Storage.{Thing, Link, object, block, member_link, tie_links, Leads, AreJoined}
use Rattle.ftn_base.proofs.WalkLaws.{leads_kept, leads_forward}
use Rattle.ftn_base.specs.declared.storage.Member.{Member}
use Rattle.ftn_base.specs.StorageMembers.{units_in, start_after, links_after, list_links, links}
use Rattle.ftn_base.specs.StorageFaults.{IsExtended, AreBlocksJoined}
use Rattle.ftn_base.specs.StorageLayout.{AreAreas, AreNumbered, AreApart, AreBegun, AreEnds, AreBlocks, IsSound}
use Rattle.equiv_class.specs.Sound as classes
use Rattle.storage_layout.specs.steps.Numbered.{numbered, named, AreMemberTies, AreNames, IsBlockOf, AreBlocksOf}
use Rattle.storage_layout.proofs.Potential.{either, cons_cases}
use Rattle.storage_layout.proofs.Carried.{walk_on, walk_back, object_named, block_named, tie_from}
use Rattle.storage_layout.proofs.Start.{only_block, none_before}
use Rattle.storage_layout.proofs.Ending.{ends_all}

pub no_object : (a b : ℕ) → object a ≡ block b → ⊥
no_object a b e = cc e

pub one_block : (a b : ℕ) → block a ≡ block b → a ≡ b
one_block a b e = cc e

neither : (a b : ℕ) → nat_lt a b ≡ false → nat_lt b a ≡ false → a ≡ b
neither a b e f = let one = ltb-false a b e in let other = ltb-false b a f in omega arith

above_zero : (a : ℕ) → nat_eq a 0 ≡ false → 0 < a
above_zero a e = grind (arith, nat_tests)

none_is_some : (f : Option ℕ) (number : ℕ) → f ≡ None → Some f ≡ Some (Some number) → ⊥
none_is_some f number is e = cc (is, e)

some_is_some : (a b : ℕ) → Some (Some a) ≡ Some (Some b) → a ≡ b
some_is_some a b e = cc e

none_or_some : (f : Option ℕ) (told : Option (Option ℕ)) → told ≡ Some f → (told ≡ Some None) ⊎ ((number : ℕ) × (told ≡ Some (Some number)))
none_or_some None told e = inl e
none_or_some (Some number) told e = inr (number, e)

-- a block with a link has its number
pub known_from : (count : ℕ) (names sizes : List ℕ) (before members : List Member) (ties : List Tie) → AreMemberTies count names sizes before members ties
    → (link : Link) → Contains (links_after sizes before members) link → (b : ℕ) → link.from ≡ block b → position_or_len (nat_eq b) names < length names
known_from count names sizes before [] ties are link there b from = absurd (omega (arith, there.1))
known_from count names sizes before (member ∷ rest) [] are link there b from = absurd are
known_from count names sizes before (member ∷ rest) (tie ∷ ties) are link there b from =
    either
    (λ e. subst (λ (k : ℕ). position_or_len (nat_eq k) names < length names) (one_block member.block b (ap (λ (l : Link). l.from) e ∙ from)) are.0.known)
    (λ later. known_from count names sizes (before ++ member ∷ []) rest ties are.1 link later b from)
    (cons_cases (member_link member.block member.object (start_after sizes before member)) (links_after sizes (before ++ member ∷ []) rest) link there)

pub to_object : (sizes : List ℕ) (before members : List Member) (link : Link) → Contains (links_after sizes before members) link → (m : ℕ) × (link.to ≡ object m)
to_object sizes before [] link there = absurd (omega (arith, there.1))
to_object sizes before (member ∷ rest) link there =
    either (λ e. (member.object, ap (λ (l : Link). l.to) (sym e))) (λ later. to_object sizes (before ++ member ∷ []) rest link later)
    (cons_cases (member_link member.block member.object (start_after sizes before member)) (links_after sizes (before ++ member ∷ []) rest) link there)

module _ (sizes names block_sizes : List ℕ) (members : List Member) (given member_ties : List Tie)
    (are : AreMemberTies (length sizes) names sizes [] members member_ties) (names_are : AreNames sizes members names block_sizes)
    (known : All (λ tie. (tie.a < length sizes) × (tie.b < length sizes)) given) (there : (member : Member) → Contains members member → member.object < length sizes)
    (class offset size : List ℕ) (found : classes.IsSound (sizes ++ block_sizes) (tie_links (member_ties ++ given)) class offset size)
    (not_extended : IsExtended sizes members given → ⊥) (apart : AreBlocksJoined sizes members given → ⊥) where
  abbrev all : List Link
  all = links sizes members given

  abbrev kept : List Link
  kept = tie_links (member_ties ++ given)

  whole : length (sizes ++ block_sizes) ≡ length sizes + length names
  whole = length-append sizes block_sizes ∙ ap (λ (n : ℕ). length sizes + n) names_are.sized

  on : (first last : Thing) (by : ℤ) → Leads all first last by → Leads kept (numbered (length sizes) names first) (numbered (length sizes) names last) by
  on = walk_on names sizes members given member_ties are known there

  back : (v w : ℕ) (by : ℤ) → v < length sizes → w < length sizes → Leads kept (object v) (object w) by → Leads all (object v) (object w) by
  back v w by lt_v lt_w walk =
      subst (λ (x : Thing). Leads all x (object w) by) (object_named (length sizes) names v lt_v)
      (subst (λ (y : Thing). Leads all (named (length sizes) names (object v)) y by) (object_named (length sizes) names w lt_w)
      (walk_back names sizes members given member_ties are known there (object v) (object w) by walk))

  back_block : (i v : ℕ) (by : ℤ) → v < length sizes → Leads kept (object (length sizes + i)) (object v) by → Leads all (block (get_or names i 0)) (object v) by
  back_block i v by lt_v walk =
      subst (λ (x : Thing). Leads all x (object v) by) (block_named (length sizes) i names)
      (subst (λ (y : Thing). Leads all (named (length sizes) names (object (length sizes + i))) y by) (object_named (length sizes) names v lt_v)
      (walk_back names sizes members given member_ties are known there (object (length sizes + i)) (object v) by walk))

  back_blocks : (i j : ℕ) (by : ℤ) → Leads kept (object (length sizes + i)) (object (length sizes + j)) by → Leads all (block (get_or names i 0)) (block (get_or names j 0)) by
  back_blocks i j by walk =
      subst (λ (x : Thing). Leads all x (block (get_or names j 0)) by) (block_named (length sizes) i names)
      (subst (λ (y : Thing). Leads all (named (length sizes) names (object (length sizes + i))) y by) (block_named (length sizes) j names)
      (walk_back names sizes members given member_ties are known there (object (length sizes + i)) (object (length sizes + j)) by walk))

  in_all : (v : ℕ) → v < length sizes → v < length (sizes ++ block_sizes)
  in_all v lt = let w = whole in omega arith

  block_in_all : (i : ℕ) → i < length names → length sizes + i < length (sizes ++ block_sizes)
  block_in_all i lt = let w = whole in omega arith

  area_at : (v : ℕ) → v < length sizes → get_or (take (length sizes) class) v 0 ≡ get_or class v 0
  area_at v lt = get_or-take (length sizes) class v 0 lt

  offset_at : (v : ℕ) → v < length sizes → get_or (take (length sizes) offset) v 0 ≡ get_or offset v 0
  offset_at v lt = get_or-take (length sizes) offset v 0 lt

  -- ---- blocks

  same_name : (i j : ℕ) → i < length names → j < length names → get_or names i 0 ≡ get_or names j 0 → i ≡ j
  same_name i j lt_i lt_j e = by_case (nat_lt i j) (nat_lt j i) refl refl
    where
      by_case : (a b : Bool) → nat_lt i j ≡ a → nat_lt j i ≡ b → i ≡ j
      by_case true b less other = absurd (names_are.once i j 0 (ltb-true i j less) lt_j e)
      by_case false true other less = absurd (names_are.once j i 0 (ltb-true j i less) lt_i (sym e))
      by_case false false one other = neither i j one other

  starts_at : (i : ℕ) → i < length names → (first : ℕ) → first < length (sizes ++ block_sizes) → (by : ℤ) → Leads kept (object (length sizes + i)) (object first) by
      → get_or offset first 0 ≡ 0 → get_or offset (length sizes + i) 0 ≡ 0
  starts_at i lt first lt_first by walk zero_there = by_case (nat_lt first (length sizes)) (nat_eq (get_or offset (length sizes + i) 0) 0) refl refl
    where
      away : pos (get_or offset first 0) ≡ pos (get_or offset (length sizes + i) 0) +ℤ by
      away = found.offsets.apart (length sizes + i) first by (block_in_all i lt) lt_first walk

      before : nat_eq (get_or offset (length sizes + i) 0) 0 ≡ false → by <ℤ pos 0
      before more = let some : 0 < get_or offset (length sizes + i) 0 = above_zero (get_or offset (length sizes + i) 0) more in let e = away in let z : get_or offset first 0 ≡ 0 = zero_there in omega (arith, ints)

      other_block : nat_lt first (length sizes) ≡ false → get_or offset (length sizes + i) 0 ≡ 0
      other_block past =
          let j : ℕ = first - length sizes in
          let high : length sizes ≤ first = ltb-false first (length sizes) past in
          let same : length sizes + j ≡ first = omega arith in
          let w = whole in
          let lt_j : j < length names = omega arith in
          let joined = back_blocks i j by (subst (λ (k : ℕ). Leads kept (object (length sizes + i)) (object k) by) (sym same) walk) in
          let name = only_block sizes members given apart (get_or names i 0) (get_or names j 0) by joined in
          let one : i ≡ j = same_name i j lt lt_j name in
          ap (λ (k : ℕ). get_or offset (length sizes + k) 0) one ∙ ap (λ (k : ℕ). get_or offset k 0) same ∙ zero_there

      by_case : (a b : Bool) → nat_lt first (length sizes) ≡ a → nat_eq (get_or offset (length sizes + i) 0) 0 ≡ b → get_or offset (length sizes + i) 0 ≡ 0
      by_case a true in_objects e = eqb-true (get_or offset (length sizes + i) 0) 0 e
      by_case true false in_objects e = absurd (none_before sizes members given apart (get_or names i 0) not_extended first by (back_block i first by (ltb-true first (length sizes) in_objects) walk) (before e))
      by_case false false past e = other_block past

  -- the first unit of a block is that of its class
  starts_zero : (i : ℕ) → i < length names → get_or offset (length sizes + i) 0 ≡ 0
  starts_zero i lt =
      let least = found.offsets.least (length sizes + i) (block_in_all i lt) in
      let walk = (found.classes.joined (length sizes + i) least.0 (block_in_all i lt) least.1).1 (sym least.2) in
      starts_at i lt least.0 least.1 walk.0 walk.1 least.3

  -- ---- walks from blocks to objects

  abbrev HasNumber : ℕ → Thing → ℤ → Type 0
  HasNumber b thing at = (thing ≡ block b) ⊎ (position_or_len (nat_eq b) names < length names)

  from_known : (b : ℕ) (link : Link) → Contains all link → link.from ≡ block b → position_or_len (nat_eq b) names < length names
  from_known b link in_all_links from =
      either
      (λ in_list. known_from (length sizes) names sizes [] members member_ties are link in_list b from)
      (λ in_ties. (let tie = tie_from given link in_ties in absurd (no_object tie.0.a b (ap (λ (l : Link). l.from) tie.2 ∙ from))))
      (Contains-append_cases (list_links sizes members) (tie_links given) link in_all_links)

  no_block : (b : ℕ) (link : Link) → Contains all link → link.to ≡ block b → ⊥
  no_block b link in_all_links to =
      either
      (λ in_list. (let m = to_object sizes [] members link in_list in no_object m.0 b (sym m.1 ∙ to)))
      (λ in_ties. (let tie = tie_from given link in_ties in no_object tie.0.b b (ap (λ (l : Link). l.to) tie.2 ∙ to)))
      (Contains-append_cases (list_links sizes members) (tie_links given) link in_all_links)

  number_known : (b v : ℕ) (by : ℤ) → Leads all (block b) (object v) by → position_or_len (nat_eq b) names < length names
  number_known b v by walk =
      either
      (λ e. absurd (no_object v b e)) (λ lt. lt)
      (leads_kept all (HasNumber b)
      (λ link in_links at p. either (λ from. inr (from_known b link in_links from)) (λ lt. inr lt) p)
      (λ link in_links at p. either (λ to. absurd (no_block b link in_links to)) (λ lt. inr lt) p)
      (block b) (object v) (pos 0) by walk (inl refl))

  name_is : (b : ℕ) → position_or_len (nat_eq b) names < length names → get_or names (position_or_len (nat_eq b) names) 0 ≡ b
  name_is b lt = sym (eqb-true b (get_or names (position_or_len (nat_eq b) names) 0) (passes_at_first (nat_eq b) names 0 lt))

  -- an object that a walk from a block leads to begins as far from the first unit as from the block
  begins : (b v : ℕ) (by : ℤ) → v < length sizes → Leads all (block b) (object v) by → pos (get_or offset v 0) ≡ by
  begins b v by lt walk =
      let lt_b = number_known b v by walk in
      let first : get_or offset (length sizes + position_or_len (nat_eq b) names) 0 ≡ 0 = starts_zero (position_or_len (nat_eq b) names) lt_b in
      let away : pos (get_or offset v 0) ≡ pos (get_or offset (length sizes + position_or_len (nat_eq b) names) 0) +ℤ by =
      found.offsets.apart (length sizes + position_or_len (nat_eq b) names) v by (block_in_all (position_or_len (nat_eq b) names) lt_b) (in_all v lt) (on (block b) (object v) by walk) in
      omega (arith, ints)

  -- ---- the answer's parts

  are_areas : AreAreas (length sizes) all (take (length sizes) class)
  are_areas = record {
    all = (let w = whole in let l : length class ≡ length (sizes ++ block_sizes) = found.classes.all in length-take-le (length sizes) class (omega arith));
    joined = λ v w lt_v lt_w. (
      (λ walk. area_at v lt_v ∙ (found.classes.joined v w (in_all v lt_v) (in_all w lt_w)).0 (walk.0, on (object v) (object w) walk.0 walk.1) ∙ sym (area_at w lt_w)),
      (λ same. (let walk = (found.classes.joined v w (in_all v lt_v) (in_all w lt_w)).1 (sym (area_at v lt_v) ∙ same ∙ area_at w lt_w) in (walk.0, back v w walk.0 lt_v lt_w walk.1))),
    );
  }

  are_numbered : AreNumbered (length sizes) (take (length sizes) class)
  are_numbered v number lt less =
      let earlier = found.classes.rising v number (in_all v lt) (subst (λ (k : ℕ). number < k) (area_at v lt) less) in
      let before : earlier.0 < length sizes = (let one = earlier.1 in omega arith) in
      (earlier.0, earlier.1, area_at earlier.0 before ∙ earlier.2)

  are_apart : AreApart (length sizes) all (take (length sizes) offset)
  are_apart v w by lt_v lt_w walk =
      ap pos (offset_at w lt_w) ∙ found.offsets.apart v w by (in_all v lt_v) (in_all w lt_w) (on (object v) (object w) by walk) ∙ ap (λ (k : ℕ). pos k +ℤ by) (sym (offset_at v lt_v))

  least_of : (v : ℕ) → v < length sizes → ((number : ℕ) → AreJoined all (block number) (object v) → ⊥) → (first : ℕ) → first < length (sizes ++ block_sizes)
      → get_or class first 0 ≡ get_or class v 0 → first < length sizes
  least_of v lt alone first lt_first same = by_case (nat_lt first (length sizes)) refl
    where
      beyond : length sizes ≤ first → ⊥
      beyond high =
          let j : ℕ = first - length sizes in
          let at : length sizes + j ≡ first = omega arith in
          let walk = (found.classes.joined first v lt_first (in_all v lt)).1 same in
          alone (get_or names j 0) (walk.0, back_block j v walk.0 lt (subst (λ (k : ℕ). Leads kept (object k) (object v) walk.0) (sym at) walk.1))

      by_case : (a : Bool) → nat_lt first (length sizes) ≡ a → first < length sizes
      by_case true e = ltb-true first (length sizes) e
      by_case false e = absurd (beyond (ltb-false first (length sizes) e))

  are_begun : AreBegun (length sizes) all (take (length sizes) class) (take (length sizes) offset)
  are_begun = record {
    from_block = λ v number by lt walk. ap pos (offset_at v lt) ∙ begins number v by lt walk;
    least = λ v lt alone. (
        let least = found.offsets.least v (in_all v lt) in
        let inside = least_of v lt alone least.0 least.1 least.2 in
        (least.0, inside, area_at least.0 inside ∙ least.2 ∙ sym (area_at v lt), offset_at least.0 inside ∙ least.3));
  }

  -- ---- sizes

  size_of : (v : ℕ) → v < length sizes → get_or (sizes ++ block_sizes) v 0 ≡ get_or sizes v 0
  size_of v lt = get_or_append_left sizes block_sizes 0 v lt

  -- the last unit of a block is one of a member
  member_end : (j : ℕ) → j < length names → (number : ℕ) → get_or class (length sizes + j) 0 ≡ number → get_or block_sizes j 0 ≡ get_or size number 0
      → (last : ℕ) × (last < length sizes) × (get_or class last 0 ≡ number) × (get_or offset last 0 + get_or sizes last 0 ≡ get_or size number 0)
  member_end j lt number same ends =
      let longest = names_are.reached j lt in
      let some : 1 ≤ get_or block_sizes j 0 = names_are.filled j lt in
      let whole_is : units_in sizes members (get_or names j 0) longest.0 ≡ get_or block_sizes j 0 = longest.1 in
      either
      (λ nothing. absurd (let none : 0 ≡ units_in sizes members (get_or names j 0) longest.0 = nothing in omega arith))
      (λ it. (
      let walk : Leads all (block (get_or names j 0)) (object it.member.object) (pos it.start) =
      leads_forward all (member_link (get_or names j 0) it.member.object it.start) (Contains-append_left (list_links sizes members) (tie_links given) (member_link (get_or names j 0) it.member.object it.start) it.link) in
      let inside : it.member.object < length sizes = there it.member it.there in
      let at : pos (get_or offset it.member.object 0) ≡ pos it.start = begins (get_or names j 0) it.member.object (pos it.start) inside walk in
      let end : it.start + get_or sizes it.member.object 0 ≡ units_in sizes members (get_or names j 0) longest.0 = it.end in
      let lt_b = number_known (get_or names j 0) it.member.object (pos it.start) walk in
      let one : position_or_len (nat_eq (get_or names j 0)) names ≡ j = same_name (position_or_len (nat_eq (get_or names j 0)) names) j lt_b lt (name_is (get_or names j 0) lt_b) in
      let joined = (found.classes.joined (length sizes + position_or_len (nat_eq (get_or names j 0)) names) it.member.object (block_in_all (position_or_len (nat_eq (get_or names j 0)) names) lt_b) (in_all it.member.object inside)).0
      (pos it.start, on (block (get_or names j 0)) (object it.member.object) (pos it.start) walk) in
      (it.member.object, inside, sym joined ∙ ap (λ (k : ℕ). get_or class (length sizes + k) 0) one ∙ same, (omega (arith, ints)))))
      (ends_all sizes [] members (get_or names j 0) longest.0)

  end_from : (number : ℕ) → number < length size → (last : ℕ) × (last < length sizes) × (get_or class last 0 ≡ number) × (get_or offset last 0 + get_or sizes last 0 ≡ get_or size number 0)
  end_from number lt = by_case (nat_lt last.0 (length sizes)) refl
    where
      last : (last : ℕ) × (last < length (sizes ++ block_sizes)) × (get_or class last 0 ≡ number) × (get_or offset last 0 + get_or (sizes ++ block_sizes) last 0 ≡ get_or size number 0)
      last = found.ends.reached number lt

      of_object : last.0 < length sizes → (o : ℕ) × (o < length sizes) × (get_or class o 0 ≡ number) × (get_or offset o 0 + get_or sizes o 0 ≡ get_or size number 0)
      of_object inside = (last.0, inside, last.2, ap (λ (k : ℕ). get_or offset last.0 0 + k) (sym (size_of last.0 inside)) ∙ last.3)

      of_block : length sizes ≤ last.0 → (o : ℕ) × (o < length sizes) × (get_or class o 0 ≡ number) × (get_or offset o 0 + get_or sizes o 0 ≡ get_or size number 0)
      of_block high =
          let j : ℕ = last.0 - length sizes in
          let at : length sizes + j ≡ last.0 = omega arith in
          let w = whole in
          let inside = last.1 in
          let lt_j : j < length names = omega arith in
          let zero_there : get_or offset (length sizes + j) 0 ≡ 0 = starts_zero j lt_j in
          let first : get_or offset last.0 0 ≡ 0 = ap (λ (k : ℕ). get_or offset k 0) (sym at) ∙ zero_there in
          let block_size : get_or (sizes ++ block_sizes) last.0 0 ≡ get_or block_sizes j 0 = ap (λ (k : ℕ). get_or (sizes ++ block_sizes) k 0) (sym at) ∙ get_or-append-add sizes block_sizes j 0 in
          let end : get_or offset last.0 0 + get_or (sizes ++ block_sizes) last.0 0 ≡ get_or size number 0 = last.3 in
          member_end j lt_j number (ap (λ (k : ℕ). get_or class k 0) at ∙ last.2) (omega arith)

      by_case : (a : Bool) → nat_lt last.0 (length sizes) ≡ a → (o : ℕ) × (o < length sizes) × (get_or class o 0 ≡ number) × (get_or offset o 0 + get_or sizes o 0 ≡ get_or size number 0)
      by_case true e = of_object (ltb-true last.0 (length sizes) e)
      by_case false e = of_block (ltb-false last.0 (length sizes) e)

  are_ends : AreEnds sizes (take (length sizes) class) (take (length sizes) offset) size
  are_ends = record {
    within = λ v lt. (
        let inside : get_or offset v 0 + get_or (sizes ++ block_sizes) v 0 ≤ get_or size (get_or class v 0) 0 = found.ends.within v (in_all v lt) in
        let units : get_or (sizes ++ block_sizes) v 0 ≡ get_or sizes v 0 = size_of v lt in
        let at : get_or (take (length sizes) offset) v 0 ≡ get_or offset v 0 = offset_at v lt in
        subst (λ (area : ℕ). get_or (take (length sizes) offset) v 0 + get_or sizes v 0 ≤ get_or size area 0) (sym (area_at v lt)) (omega arith));
    reached = λ number lt. (
        let last = end_from number lt in
        (last.0, last.1, area_at last.0 last.1 ∙ last.2, ap (λ (k : ℕ). k + get_or sizes last.0 0) (offset_at last.0 last.1) ∙ last.3));
  }

  -- ---- blocks of areas

  module _ (of_area : List (Option ℕ)) (blocks : AreBlocksOf (length sizes) names class size of_area) where
    block_on : (v number : ℕ) → v < length sizes → AreJoined all (block number) (object v) → slice_get of_area (get_or class v 0) ≡ Some (Some number)
    block_on v number lt walk = by_found each.0 each.1 each.2
      where
        each : (found : Option ℕ) × (slice_get of_area (get_or class v 0) ≡ Some found) × IsBlockOf (length sizes) names class (get_or class v 0) found
        each = blocks.each (get_or class v 0) (found.ends.known v (in_all v lt))

        index : ℕ
        index = position_or_len (nat_eq number) names

        lt_index : position_or_len (nat_eq number) names < length names
        lt_index = number_known number v walk.0 walk.1

        joined : get_or class (length sizes + position_or_len (nat_eq number) names) 0 ≡ get_or class v 0
        joined = (found.classes.joined (length sizes + position_or_len (nat_eq number) names) v (block_in_all (position_or_len (nat_eq number) names) lt_index) (in_all v lt)).0 (walk.0, on (block number) (object v) walk.0 walk.1)

        by_found : (f : Option ℕ) → slice_get of_area (get_or class v 0) ≡ Some f → IsBlockOf (length sizes) names class (get_or class v 0) f → slice_get of_area (get_or class v 0) ≡ Some (Some number)
        by_found None e is = absurd (is (position_or_len (nat_eq number) names) lt_index joined)
        by_found (Some other) e is =
            let twins = (found.classes.joined (length sizes + position_or_len (nat_eq number) names) (length sizes + is.0) (block_in_all (position_or_len (nat_eq number) names) lt_index) (block_in_all is.0 is.1)).1 (joined ∙ sym is.2) in
            let one : get_or names (position_or_len (nat_eq number) names) 0 ≡ get_or names is.0 0 =
            only_block sizes members given apart (get_or names (position_or_len (nat_eq number) names) 0) (get_or names is.0 0) twins.0 (back_blocks (position_or_len (nat_eq number) names) is.0 twins.0 twins.1) in
            let same : other ≡ number = sym is.3 ∙ sym one ∙ name_is number lt_index in
            e ∙ ap (λ (k : ℕ). Some (Some k)) same

    block_back : (v number : ℕ) → v < length sizes → slice_get of_area (get_or class v 0) ≡ Some (Some number) → AreJoined all (block number) (object v)
    block_back v number lt told = by_found each.0 each.1 each.2
      where
        each : (found : Option ℕ) × (slice_get of_area (get_or class v 0) ≡ Some found) × IsBlockOf (length sizes) names class (get_or class v 0) found
        each = blocks.each (get_or class v 0) (found.ends.known v (in_all v lt))

        by_found : (f : Option ℕ) → slice_get of_area (get_or class v 0) ≡ Some f → IsBlockOf (length sizes) names class (get_or class v 0) f → AreJoined all (block number) (object v)
        by_found None e is = absurd (none_is_some None number refl (sym e ∙ told))
        by_found (Some other) e is =
            let same : other ≡ number = some_is_some other number (sym e ∙ told) in
            let walk = (found.classes.joined (length sizes + is.0) v (block_in_all is.0 is.1) (in_all v lt)).1 is.2 in
            (walk.0, subst (λ (b : ℕ). Leads all (block b) (object v) walk.0) (is.3 ∙ same) (back_block is.0 v walk.0 lt walk.1))

    are_blocks : AreBlocks (length sizes) all (take (length sizes) class) of_area
    are_blocks = record {
      named = λ v number lt. (
        (λ walk. ap (slice_get of_area) (area_at v lt) ∙ block_on v number lt walk),
        (λ told. block_back v number lt (sym (ap (slice_get of_area) (area_at v lt)) ∙ told)),
      );
      unnamed = λ v lt. (
          let each = blocks.each (get_or class v 0) (found.ends.known v (in_all v lt)) in
          none_or_some each.0 (slice_get of_area (get_or (take (length sizes) class) v 0)) (ap (slice_get of_area) (area_at v lt) ∙ each.1));
    }

    -- the answer is the layout
    pub sound : IsSound sizes (links sizes members given) (take (length sizes) class) (take (length sizes) offset) size of_area
    sound = record {
      areas = are_areas;
      numbered = are_numbered;
      apart = are_apart;
      begun = are_begun;
      ends = are_ends;
      of_blocks = are_blocks;
      counted = (let w = whole in let l : length offset ≡ length (sizes ++ block_sizes) = found.offsets.all in length-take-le (length sizes) offset (omega arith));
      blocks_counted = blocks.all;
    }
