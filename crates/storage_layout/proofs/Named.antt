-- Blocks are numbered, and their sizes and ends kept, as members are taken in one after another.
use Rattle.std.proofs.Common.{◌≡◌, ◌≢◌, ℕ, ◌+◌, ◌<◌, ◌≤◌, take, List, [], ◌∷◌, ◌++◌, ◌⊎◌, inl, inr, Bool, true, false, cond, Contains, AllPairs, Option, Some, map, max, sum, nat_eq, nat_lt, length, get_or, refl, sym, ◌∙◌, subst, ap, arith}
use Rattle.std.specs.Option.{unwrap_or}
use Rattle.std.specs.List.{position_or_len, list_any}
use Rattle.std.proofs.lemmas.Bool.Decides.{nat_tests}
use Rattle.std.proofs.lemmas.List.{length-append, get_or_append_left, get_or_push, get_or_past, take_more, map_push, append-nil, append_assoc}
use Rattle.std.proofs.lemmas.List.Elements.{Contains-append_left, Contains-push}
use Rattle.std.proofs.lemmas.List.Quantifiers.{all_pairs_push}
use Rattle.std.proofs.lemmas.List.Sums.{passes_at_first, fails_before_first, position_or_len_is, prefix_len-le-length, sum_by_push}
use Rattle.std.proofs.lemmas.Bool.{eqb-true, eq-eqb}
use Rattle.indexmap.specs.IndexMap.{IndexMap, get}
use Rattle.indexmap.specs.IndexSet.{insert_key}
use Rattle.ftn_base.specs.declared.entity.Tie.{Tie}
use Rattle.ftn_base.specs.declared.storage.Member.{Member}
use Rattle.ftn_base.specs.StorageMembers.{is_in, units_in}
use Rattle.storage_layout.specs.steps.Numbered.{AreNames, IsMemberTie, AreMemberTies}
use Rattle.storage_layout.specs.steps.Naming.{is_same, end_in, AreLonger, IsRaised, IsNaming}
use Rattle.storage_layout.proofs.Start.{clash}
use Rattle.storage_layout.proofs.Ending.{units_more, units_same}

-- ---- ends

same_place : (number scope one other : ℕ) → is_same (one, other) (number, scope) ≡ cond (nat_eq number one) (nat_eq scope other) false
same_place number scope one other = grind (arith, nat_tests)

block_of : (number scope : ℕ) (member : Member) → is_in number scope member ≡ true → member.block ≡ number
block_of number scope member e = grind (arith, nat_tests)

scope_of : (number scope : ℕ) (member : Member) → is_in number scope member ≡ true → member.scope ≡ scope
scope_of number scope member e = grind (arith, nat_tests)

chosen : (b : Bool) (now before : Option ℕ) (start units : ℕ) → now ≡ cond b (Some (start + units)) before → (b ≡ true → start ≡ unwrap_or before 0)
    → unwrap_or now 0 ≡ cond b (unwrap_or before 0 + units) (unwrap_or before 0)
chosen true now before start units e same = ap (λ (o : Option ℕ). unwrap_or o 0) e ∙ ap (λ (k : ℕ). k + units) (same refl)
chosen false now before start units e same = ap (λ (o : Option ℕ). unwrap_or o 0) e

pub longer : {H : Type 0} (ends now : IndexMap (ℕ × ℕ) ℕ H) (member : Member) (start units : ℕ) → start ≡ end_in ends member.block member.scope
    → ((q : ℕ × ℕ) → get is_same now q ≡ cond (is_same (member.block, member.scope) q) (Some (start + units)) (get is_same ends q)) → AreLonger ends member units now
longer ends now member start units at updates number scope =
    chosen (is_in number scope member) (get is_same now (number, scope)) (get is_same ends (number, scope)) start units
    (updates (number, scope) ∙ ap (λ (b : Bool). cond b (Some (start + units)) (get is_same ends (number, scope))) (same_place number scope member.block member.scope))
    (λ e. at ∙ ap (λ (k : ℕ). end_in ends k member.scope) (block_of number scope member e) ∙ ap (end_in ends number) (scope_of number scope member e))

-- ---- names

none_passes : (p : ℕ → Bool) (xs : List ℕ) → list_any p xs ≡ false → position_or_len p xs ≡ length xs
none_passes p [] e = refl
none_passes p (x ∷ xs) e = by_case (none_passes p xs) (p x) refl
  where
    by_case : (list_any p xs ≡ false → position_or_len p xs ≡ length xs) → (b : Bool) → p x ≡ b → position_or_len p (x ∷ xs) ≡ length (x ∷ xs)
    by_case later true is = absurd (clash (list_any p (x ∷ xs)) (grind arith) e)
    by_case later false is = let rest : position_or_len p xs ≡ length xs = later (grind arith) in grind arith

one_passes : (p : ℕ → Bool) (xs : List ℕ) → list_any p xs ≡ true → position_or_len p xs < length xs
one_passes p [] e = absurd (clash (list_any p []) e refl)
one_passes p (x ∷ xs) e = by_case (one_passes p xs) (p x) refl
  where
    by_case : (list_any p xs ≡ true → position_or_len p xs < length xs) → (b : Bool) → p x ≡ b → position_or_len p (x ∷ xs) < length (x ∷ xs)
    by_case later true is = grind arith
    by_case later false is = let rest : position_or_len p xs < length xs = later (grind arith) in grind arith

module _ (names : List ℕ) (number : ℕ) where
  abbrev at : ℕ
  at = position_or_len (nat_eq number) names

  abbrev pub with_it : List ℕ
  with_it = insert_key nat_eq names number

  inserted : ((with_it ≡ names) × (at < length names)) ⊎ ((with_it ≡ names ++ number ∷ []) × (at ≡ length names))
  inserted = by_case (list_any (nat_eq number) names) refl
    where
      by_case : (b : Bool) → list_any (nat_eq number) names ≡ b → ((with_it ≡ names) × (at < length names)) ⊎ ((with_it ≡ names ++ number ∷ []) × (at ≡ length names))
      by_case true e = inl (ap (λ (b : Bool). cond b names (names ++ number ∷ [])) e, one_passes (nat_eq number) names e)
      by_case false e = inr (ap (λ (b : Bool). cond b names (names ++ number ∷ [])) e, none_passes (nat_eq number) names e)

  pub at_most : at ≤ length names
  at_most = prefix_len-le-length _ names

  pub length_with : length with_it ≡ max (length names) (at + 1)
  length_with = by_case inserted
    where
      by_case : ((with_it ≡ names) × (at < length names)) ⊎ ((with_it ≡ names ++ number ∷ []) × (at ≡ length names)) → length with_it ≡ max (length names) (at + 1)
      by_case (inl old) = let e : length with_it ≡ length names = ap length old.0 in let lt : at < length names = old.1 in omega arith
      by_case (inr new) = let e : length with_it ≡ length names + 1 = ap length new.0 ∙ length-append names (number ∷ []) in let last : at ≡ length names = new.1 in omega arith

  pub get_kept : (i : ℕ) → i < length names → get_or with_it i 0 ≡ get_or names i 0
  get_kept i lt = by_case inserted
    where
      by_case : ((with_it ≡ names) × (at < length names)) ⊎ ((with_it ≡ names ++ number ∷ []) × (at ≡ length names)) → get_or with_it i 0 ≡ get_or names i 0
      by_case (inl old) = ap (λ (ks : List ℕ). get_or ks i 0) old.0
      by_case (inr new) = ap (λ (ks : List ℕ). get_or ks i 0) new.0 ∙ get_or_append_left names (number ∷ []) 0 i lt

  pub get_new : get_or with_it at 0 ≡ number
  get_new = by_case inserted
    where
      by_case : ((with_it ≡ names) × (at < length names)) ⊎ ((with_it ≡ names ++ number ∷ []) × (at ≡ length names)) → get_or with_it at 0 ≡ number
      by_case (inl old) = ap (λ (ks : List ℕ). get_or ks at 0) old.0 ∙ sym (eqb-true number (get_or names at 0) (passes_at_first (nat_eq number) names 0 old.1))
      by_case (inr new) = ap (λ (ks : List ℕ). get_or ks at 0) new.0 ∙ get_or_push names number 0 at (sym new.1)

  other_before : (i : ℕ) (d : ℕ) → i < at → get_or names i d ≢ number
  other_before i d lt e = clash (nat_eq number (get_or names i d)) (eq-eqb number (get_or names i d) (sym e)) (fails_before_first (nat_eq number) names i d lt)

  pub once_with : AllPairs (λ earlier later. earlier ≢ later) names → AllPairs (λ earlier later. earlier ≢ later) with_it
  once_with once = by_case inserted
    where
      by_case : ((with_it ≡ names) × (at < length names)) ⊎ ((with_it ≡ names ++ number ∷ []) × (at ≡ length names)) → AllPairs (λ earlier later. earlier ≢ later) with_it
      by_case (inl old) = subst (λ (ks : List ℕ). AllPairs (λ earlier later. earlier ≢ later) ks) (sym old.0) once
      by_case (inr new) = subst (λ (ks : List ℕ). AllPairs (λ earlier later. earlier ≢ later) ks) (sym new.0)
          (all_pairs_push (λ earlier later. earlier ≢ later) names number once (λ k d lt. other_before k d (subst (λ (n : ℕ). k < n) (sym new.1) lt)))

  -- a name elsewhere is another one
  pub other_name : AllPairs (λ earlier later. earlier ≢ later) names → (i : ℕ) → i < length names → i ≢ at → get_or names i 0 ≢ number
  other_name once i lt apart e = by_case (nat_lt i at) refl
    where
      by_case : (b : Bool) → nat_lt i at ≡ b → ⊥
      by_case true is = other_before i 0 (grind (arith, nat_tests)) e
      by_case false is =
          let high : at ≤ i = grind (arith, nat_tests) in
          let less : at < i = omega arith in
          let passes = eqb-true number (get_or names at 0) (passes_at_first (nat_eq number) names 0 (omega arith)) in
          once at i 0 less lt (sym passes ∙ sym e)

  pub place_kept : (other : ℕ) → position_or_len (nat_eq other) names < length names → position_or_len (nat_eq other) with_it ≡ position_or_len (nat_eq other) names
  place_kept other lt =
      let longer : length with_it ≡ max (length names) (at + 1) = length_with in
      position_or_len_is (nat_eq other) with_it (position_or_len (nat_eq other) names) 0 (omega arith)
      (λ k before. ap (nat_eq other) (get_kept k (omega arith)) ∙ fails_before_first (nat_eq other) names k 0 before)
      (λ inside. ap (nat_eq other) (get_kept (position_or_len (nat_eq other) names) lt) ∙ passes_at_first (nat_eq other) names 0 lt)

  pub place_new : position_or_len (nat_eq number) with_it ≡ at
  place_new =
      let longer : length with_it ≡ max (length names) (at + 1) = length_with in
      let most : at ≤ length names = at_most in
      position_or_len_is (nat_eq number) with_it at 0 (omega arith)
      (λ k before. ap (nat_eq number) (get_kept k (omega arith)) ∙ fails_before_first (nat_eq number) names k 0 before)
      (λ inside. ap (nat_eq number) get_new ∙ eq-eqb number number refl)

-- ---- one member more

not_in : (number scope : ℕ) (member : Member) → number ≢ member.block → is_in number scope member ≡ false
not_in number scope member apart = grind (arith, nat_tests)

is_here : (scope : ℕ) (member : Member) → is_in member.block scope member ≡ nat_eq scope member.scope
is_here scope member = grind (arith, nat_tests)

module _ (sizes : List ℕ) (members : List Member) (names block_sizes new_sizes : List ℕ) (end new_end : ℕ → ℕ → ℕ) (member : Member)
    (naming : IsNaming sizes members names block_sizes end)
    (raised : IsRaised block_sizes (position_or_len (nat_eq member.block) names) (end member.block member.scope + get_or sizes member.object 0) new_sizes)
    (longer_ends : (number scope : ℕ) → new_end number scope ≡ cond (is_in number scope member) (end number scope + get_or sizes member.object 0) (end number scope))
    (filled : 1 ≤ get_or sizes member.object 0) where
  abbrev place : ℕ
  place = position_or_len (nat_eq member.block) names

  abbrev more : List Member
  more = members ++ member ∷ []

  abbrev new_names : List ℕ
  new_names = insert_key nat_eq names member.block

  abbrev units : ℕ
  units = get_or sizes member.object 0

  is_end : (number scope : ℕ) → end number scope ≡ units_in sizes members number scope
  is_end = naming.ends

  new_is_end : (number scope : ℕ) → new_end number scope ≡ units_in sizes more number scope
  new_is_end number scope = by_case (is_in number scope member) refl
    where
      by_case : (b : Bool) → is_in number scope member ≡ b → new_end number scope ≡ units_in sizes more number scope
      by_case true e = longer_ends number scope ∙ ap (λ (b : Bool). cond b (end number scope + units) (end number scope)) e ∙ ap (λ (k : ℕ). k + units) (is_end number scope) ∙ sym (units_more sizes members member number scope e)
      by_case false e = longer_ends number scope ∙ ap (λ (b : Bool). cond b (end number scope + units) (end number scope)) e ∙ is_end number scope ∙ sym (units_same sizes members member number scope e)

  place_most : place ≤ length names
  place_most = prefix_len-le-length _ names

  -- no list of the block was longer
  before_le : (scope : ℕ) → units_in sizes members member.block scope ≤ get_or block_sizes place 0
  before_le scope = by_case (nat_lt place (length names)) refl
    where
      by_case : (b : Bool) → nat_lt place (length names) ≡ b → units_in sizes members member.block scope ≤ get_or block_sizes place 0
      by_case true is =
          let lt : place < length names = grind (arith, nat_tests) in
          let name = eqb-true member.block (get_or names place 0) (passes_at_first (nat_eq member.block) names 0 lt) in
          subst (λ (k : ℕ). units_in sizes members k scope ≤ get_or block_sizes place 0) (sym name) (naming.names_are.longest place scope lt)
      by_case false is =
          let high : length names ≤ place = grind (arith, nat_tests) in
          let none : units_in sizes members member.block scope ≡ 0 = naming.others member.block scope high in
          omega arith

  more_here : units_in sizes more member.block member.scope ≡ end member.block member.scope + units
  more_here = units_more sizes members member member.block member.scope (is_here member.scope member ∙ eq-eqb member.scope member.scope refl) ∙ ap (λ (k : ℕ). k + units) (sym (is_end member.block member.scope))

  after_le : (scope : ℕ) → units_in sizes more member.block scope ≤ get_or new_sizes place 0
  after_le scope = by_case (nat_eq scope member.scope) refl
    where
      here : get_or new_sizes place 0 ≡ max (get_or block_sizes place 0) (end member.block member.scope + units)
      here = raised.here

      by_case : (b : Bool) → nat_eq scope member.scope ≡ b → units_in sizes more member.block scope ≤ get_or new_sizes place 0
      by_case true e =
          let same : units_in sizes more member.block scope ≡ end member.block member.scope + units = ap (units_in sizes more member.block) (eqb-true scope member.scope e) ∙ more_here in
          let at = here in omega arith
      by_case false e =
          let same : units_in sizes more member.block scope ≡ units_in sizes members member.block scope = units_same sizes members member member.block scope (is_here scope member ∙ e) in
          let old : units_in sizes members member.block scope ≤ get_or block_sizes place 0 = before_le scope in
          let at = here in omega arith

  -- the longest is the one made longer now, or one from before
  after_reached : (scope : ℕ) × (units_in sizes more member.block scope ≡ get_or new_sizes place 0)
  after_reached = by_case (nat_lt (end member.block member.scope + units) (get_or block_sizes place 0)) refl
    where
      here : get_or new_sizes place 0 ≡ max (get_or block_sizes place 0) (end member.block member.scope + units)
      here = raised.here

      old_reached : end member.block member.scope + units < get_or block_sizes place 0 → (scope : ℕ) × (units_in sizes members member.block scope ≡ get_or block_sizes place 0)
      old_reached less = by_place (nat_lt place (length names)) refl
        where
          by_place : (b : Bool) → nat_lt place (length names) ≡ b → (scope : ℕ) × (units_in sizes members member.block scope ≡ get_or block_sizes place 0)
          by_place true is =
              let lt : place < length names = grind (arith, nat_tests) in
              let name = eqb-true member.block (get_or names place 0) (passes_at_first (nat_eq member.block) names 0 lt) in
              let old = naming.names_are.reached place lt in
              (old.0, ap (λ (k : ℕ). units_in sizes members k old.0) name ∙ old.1)
          by_place false is =
              let high : length names ≤ place = grind (arith, nat_tests) in
              let sized : length block_sizes ≡ length names = naming.names_are.sized in
              let none : get_or block_sizes place 0 ≡ 0 = get_or_past block_sizes place 0 (omega arith) in
              absurd (omega (arith, less, none))

      by_case : (b : Bool) → nat_lt (end member.block member.scope + units) (get_or block_sizes place 0) ≡ b → (scope : ℕ) × (units_in sizes more member.block scope ≡ get_or new_sizes place 0)
      by_case true is =
          let less : end member.block member.scope + units < get_or block_sizes place 0 = grind (arith, nat_tests) in
          let old = old_reached less in
          by_scope old.0 old.1 less (nat_eq old.0 member.scope) refl
        where
          by_scope : (scope : ℕ) → units_in sizes members member.block scope ≡ get_or block_sizes place 0 → end member.block member.scope + units < get_or block_sizes place 0 → (c : Bool) → nat_eq scope member.scope ≡ c
              → (scope : ℕ) × (units_in sizes more member.block scope ≡ get_or new_sizes place 0)
          by_scope scope full less true e =
              let start : end member.block member.scope ≡ units_in sizes members member.block scope = is_end member.block member.scope ∙ ap (units_in sizes members member.block) (sym (eqb-true scope member.scope e)) in
              absurd (omega (arith, less, start, full))
          by_scope scope full less false e = (scope, units_same sizes members member member.block scope (is_here scope member ∙ e) ∙ full ∙ (let at = here in omega (arith, less, at)))
      by_case false is = (member.scope, more_here ∙ (let high : get_or block_sizes place 0 ≤ end member.block member.scope + units = grind (arith, nat_tests) in let at = here in omega (arith, high, at)))

  new_length : length new_names ≡ max (length names) (place + 1)
  new_length = length_with names member.block

  elsewhere : (i : ℕ) → i < length new_names → i ≢ place → i < length names
  elsewhere i lt apart = let all : length new_names ≡ max (length names) (place + 1) = new_length in let most : place ≤ length names = place_most in omega arith

  -- at another name nothing changes
  same_units : (i scope : ℕ) → i < length names → i ≢ place → units_in sizes more (get_or new_names i 0) scope ≡ units_in sizes members (get_or names i 0) scope
  same_units i scope lt apart =
      ap (λ (k : ℕ). units_in sizes more k scope) (get_kept names member.block i lt)
      ∙ units_same sizes members member (get_or names i 0) scope (not_in (get_or names i 0) scope member (other_name names member.block naming.names_are.once i lt apart))

  here_or_not : {P : ℕ → Type 0} → P place → ((i : ℕ) → i < length names → i ≢ place → P i) → (i : ℕ) → i < length new_names → P i
  here_or_not {P} here other i lt = by_case (nat_eq i place) refl
    where
      by_case : (b : Bool) → nat_eq i place ≡ b → P i
      by_case true e = subst P (sym (eqb-true i place e)) here
      by_case false e = let apart : i ≢ place = (λ same. clash (nat_eq i place) (eq-eqb i place same) e) in other i (elsewhere i lt apart) apart

  pub next_names : AreNames sizes more new_names new_sizes
  next_names = record {
    sized = (let all : length new_names ≡ max (length names) (place + 1) = new_length in let len : length new_sizes ≡ max (length block_sizes) (place + 1) = raised.len in let sized : length block_sizes ≡ length names = naming.names_are.sized in omega arith);
    once = once_with names member.block naming.names_are.once;
    used = here_or_not {P = λ i. (m : Member) × Contains more m × (m.block ≡ get_or new_names i 0)} (member, Contains-push members member, sym (get_new names member.block))
        (λ i lt apart. (let old = naming.names_are.used i lt in (old.0, Contains-append_left members (member ∷ []) old.0 old.1, old.2 ∙ sym (get_kept names member.block i lt))));
    longest = λ i scope lt. here_or_not {P = λ i. units_in sizes more (get_or new_names i 0) scope ≤ get_or new_sizes i 0}
        (subst (λ (k : ℕ). units_in sizes more k scope ≤ get_or new_sizes place 0) (sym (get_new names member.block)) (after_le scope))
        (λ i lt apart. (let old : units_in sizes members (get_or names i 0) scope ≤ get_or block_sizes i 0 = naming.names_are.longest i scope lt in
        let same : units_in sizes more (get_or new_names i 0) scope ≡ units_in sizes members (get_or names i 0) scope = same_units i scope lt apart in
        let size : get_or new_sizes i 0 ≡ get_or block_sizes i 0 = raised.elsewhere i apart in omega (arith, old, same, size))) i lt;
    reached = here_or_not {P = λ i. (scope : ℕ) × (units_in sizes more (get_or new_names i 0) scope ≡ get_or new_sizes i 0)}
        (after_reached.0, ap (λ (k : ℕ). units_in sizes more k after_reached.0) (get_new names member.block) ∙ after_reached.1)
        (λ i lt apart. (let old = naming.names_are.reached i lt in (old.0, same_units i old.0 lt apart ∙ old.1 ∙ sym (raised.elsewhere i apart))));
    filled = here_or_not {P = λ i. 1 ≤ get_or new_sizes i 0}
        (let at : get_or new_sizes place 0 ≡ max (get_or block_sizes place 0) (end member.block member.scope + units) = raised.here in let some : 1 ≤ units = filled in omega arith)
        (λ i lt apart. (let size : get_or new_sizes i 0 ≡ get_or block_sizes i 0 = raised.elsewhere i apart in let old : 1 ≤ get_or block_sizes i 0 = naming.names_are.filled i lt in omega (arith, size, old)));
    small =
        let total : sum new_sizes + get_or block_sizes place 0 ≡ sum block_sizes + get_or new_sizes place 0 = raised.total in
        let at : get_or new_sizes place 0 ≡ max (get_or block_sizes place 0) (end member.block member.scope + units) = raised.here in
        let start : end member.block member.scope ≡ units_in sizes members member.block member.scope = is_end member.block member.scope in
        let old : units_in sizes members member.block member.scope ≤ get_or block_sizes place 0 = before_le member.scope in
        let few : sum block_sizes ≤ sum (map (λ m. get_or sizes m.object 0) members) = naming.names_are.small in
        let sums : sum (map (λ m. get_or sizes m.object 0) more) ≡ sum (map (λ m. get_or sizes m.object 0) members) + units =
        ap sum (map_push (λ m. get_or sizes m.object 0) members member) ∙ sum_by_push (λ (x : ℕ). x) (map (λ m. get_or sizes m.object 0) members) units in
        omega arith;
  }

  still_none : (number scope : ℕ) → length new_names ≤ position_or_len (nat_eq number) new_names → units_in sizes more number scope ≡ 0
  still_none number scope high = by_case (nat_eq number member.block) (nat_lt (position_or_len (nat_eq number) names) (length names)) refl refl
    where
      all : length new_names ≡ max (length names) (place + 1)
      all = new_length

      by_case : (a b : Bool) → nat_eq number member.block ≡ a → nat_lt (position_or_len (nat_eq number) names) (length names) ≡ b → units_in sizes more number scope ≡ 0
      by_case true b e is =
          let at : position_or_len (nat_eq number) new_names ≡ place = ap (λ (k : ℕ). position_or_len (nat_eq k) new_names) (eqb-true number member.block e) ∙ place_new names member.block in
          let len = all in absurd (omega (arith, high, at, len))
      by_case false true e is =
          let lt : position_or_len (nat_eq number) names < length names = grind (arith, nat_tests) in
          let at : position_or_len (nat_eq number) new_names ≡ position_or_len (nat_eq number) names = place_kept names member.block number lt in
          let len = all in absurd (omega (arith, high, at, len, lt))
      by_case false false e is =
          let past : length names ≤ position_or_len (nat_eq number) names = grind (arith, nat_tests) in
          units_same sizes members member number scope (not_in number scope member (λ same. clash (nat_eq number member.block) (eq-eqb number member.block same) e)) ∙ naming.others number scope past

  pub next_naming : IsNaming sizes more new_names new_sizes new_end
  next_naming = record { names_are = next_names; ends = new_is_end; others = still_none }

-- ---- ties of members, as names come

module _ (count : ℕ) (sizes : List ℕ) where
  tie_kept : (names : List ℕ) (number : ℕ) (before : List Member) (member : Member) (tie : Tie) → IsMemberTie count names sizes before member tie → IsMemberTie count (insert_key nat_eq names number) sizes before member tie
  tie_kept names number before member tie is = record {
    known = (let at : position_or_len (nat_eq member.block) (insert_key nat_eq names number) ≡ position_or_len (nat_eq member.block) names = place_kept names number member.block is.known in
        let all : length (insert_key nat_eq names number) ≡ max (length names) (position_or_len (nat_eq number) names + 1) = length_with names number in let lt : position_or_len (nat_eq member.block) names < length names = is.known in omega arith);
    a = is.a ∙ ap (λ (k : ℕ). count + k) (sym (place_kept names number member.block is.known));
    at_a = is.at_a;
    b = is.b;
    at_b = is.at_b;
  }

  pub ties_kept : (names : List ℕ) (number : ℕ) (before members : List Member) (ties : List Tie) → AreMemberTies count names sizes before members ties → AreMemberTies count (insert_key nat_eq names number) sizes before members ties
  ties_kept names number before [] [] are = are
  ties_kept names number before [] (tie ∷ ties) are = absurd are
  ties_kept names number before (member ∷ rest) [] are = absurd are
  ties_kept names number before (member ∷ rest) (tie ∷ ties) are = (tie_kept names number before member tie are.0, ties_kept names number (before ++ member ∷ []) rest ties are.1)

  pub ties_more : (names : List ℕ) (before members : List Member) (ties : List Tie) (member : Member) (tie : Tie) → AreMemberTies count names sizes before members ties
      → IsMemberTie count names sizes (before ++ members) member tie → AreMemberTies count names sizes before (members ++ member ∷ []) (ties ++ tie ∷ [])
  ties_more names before [] [] member tie are is = (subst (λ (ms : List Member). IsMemberTie count names sizes ms member tie) (append-nil before) is, tt)
  ties_more names before [] (first ∷ ties) member tie are is = absurd are
  ties_more names before (first ∷ rest) [] member tie are is = absurd are
  ties_more names before (first ∷ rest) (tie_first ∷ ties) member tie are is =
      (are.0, ties_more names (before ++ first ∷ []) rest ties member tie are.1 (subst (λ (ms : List Member). IsMemberTie count names sizes ms member tie) (sym (append_assoc before (first ∷ []) rest)) is))

-- ---- a turn of the loop

pub taken : (sizes : List ℕ) (members : List Member) (k : ℕ) (d : Member) → k < length members → (names block_sizes : List ℕ) (end : ℕ → ℕ → ℕ) (ties : List Tie)
    → IsNaming sizes (take k members) names block_sizes end → AreMemberTies (length sizes) names sizes [] (take k members) ties
    → (name start : ℕ) → name ≡ position_or_len (nat_eq (get_or members k d).block) names → start ≡ end (get_or members k d).block (get_or members k d).scope
    → (new_names new_sizes : List ℕ) (new_end : ℕ → ℕ → ℕ) (new_ties : List Tie) → new_names ≡ insert_key nat_eq names (get_or members k d).block
    → IsRaised block_sizes name (start + get_or sizes (get_or members k d).object 0) new_sizes
    → ((number scope : ℕ) → new_end number scope ≡ cond (is_in number scope (get_or members k d)) (end number scope + get_or sizes (get_or members k d).object 0) (end number scope))
    → new_ties ≡ ties ++ record { a = length sizes + name; at_a = start; b = (get_or members k d).object; at_b = 0 } ∷ []
    → 1 ≤ get_or sizes (get_or members k d).object 0
    → IsNaming sizes (take (k + 1) members) new_names new_sizes new_end × AreMemberTies (length sizes) new_names sizes [] (take (k + 1) members) new_ties
taken sizes members k d lt names block_sizes end ties naming are name start name_is start_is new_names new_sizes new_end new_ties names_is raised longer_ends ties_is filled = (
  subst (λ (ms : List Member). IsNaming sizes ms new_names new_sizes new_end) (sym (take_more members k d lt))
      (subst (λ (ks : List ℕ). IsNaming sizes (take k members ++ member ∷ []) ks new_sizes new_end) (sym names_is) stepped),
  subst (λ (ms : List Member). AreMemberTies (length sizes) new_names sizes [] ms new_ties) (sym (take_more members k d lt))
      (subst (λ (ks : List ℕ). AreMemberTies (length sizes) ks sizes [] (take k members ++ member ∷ []) new_ties) (sym names_is)
      (subst (λ (ts : List Tie). AreMemberTies (length sizes) with_it sizes [] (take k members ++ member ∷ []) ts) (sym ties_is)
      (ties_more (length sizes) sizes with_it [] (take k members) ties member tie (ties_kept (length sizes) sizes names member.block [] (take k members) ties are) tied))),
)
  where
    member : Member
    member = get_or members k d

    with_it : List ℕ
    with_it = insert_key nat_eq names (get_or members k d).block

    tie : Tie
    tie = record { a = length sizes + name; at_a = start; b = (get_or members k d).object; at_b = 0 }

    stepped : IsNaming sizes (take k members ++ get_or members k d ∷ []) (insert_key nat_eq names (get_or members k d).block) new_sizes new_end
    stepped = next_naming sizes (take k members) names block_sizes new_sizes end new_end (get_or members k d) naming
        (subst (λ (p : ℕ). IsRaised block_sizes p (end (get_or members k d).block (get_or members k d).scope + get_or sizes (get_or members k d).object 0) new_sizes) name_is
        (subst (λ (s : ℕ). IsRaised block_sizes name (s + get_or sizes (get_or members k d).object 0) new_sizes) start_is raised)) longer_ends filled

    tied : IsMemberTie (length sizes) (insert_key nat_eq names (get_or members k d).block) sizes (take k members) (get_or members k d) (record { a = length sizes + name; at_a = start; b = (get_or members k d).object; at_b = 0 })
    tied = record {
      known = (let at : position_or_len (nat_eq (get_or members k d).block) (insert_key nat_eq names (get_or members k d).block) ≡ position_or_len (nat_eq (get_or members k d).block) names = place_new names (get_or members k d).block in
          let all : length (insert_key nat_eq names (get_or members k d).block) ≡ max (length names) (position_or_len (nat_eq (get_or members k d).block) names + 1) = length_with names (get_or members k d).block in omega (arith, at, all));
      a = ap (λ (p : ℕ). length sizes + p) (name_is ∙ sym (place_new names (get_or members k d).block));
      at_a = start_is ∙ naming.ends (get_or members k d).block (get_or members k d).scope;
      b = refl;
      at_b = refl;
    }
