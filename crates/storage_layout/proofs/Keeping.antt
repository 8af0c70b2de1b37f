-- What the code keeps is of the objects, lists and ties given, and classes of it may be asked for.
use Rattle.std.proofs.Common.{suc, ◌≡◌, ℕ, ◌+◌, ◌<◌, ◌≤◌, ◌^◌, List, [], ◌∷◌, ◌++◌, inr, Bool, true, false, Option, Some, None, option_map, slice_get, All, map, filter, take, drop, sum, nat_eq, nat_lt, length, get_or, refl, sym, ◌∙◌, subst, ap, arith, take_all}
use Rattle.std.specs.List.{position_or_len}
use Rattle.std.proofs.lemmas.Bool.Decides.{nat_tests}
use Rattle.std.proofs.lemmas.Option.{slice_get_within}
use Rattle.std.proofs.lemmas.List.{length-append, append_assoc, get_or-map, get_or_append_left, get_or-append-add, map-append}
use Rattle.std.proofs.lemmas.List.Elements.{All-nil, All-cons, All-append, All-weaker, All-head, All-tail, filter-append}
use Rattle.std.proofs.lemmas.List.Sums.{passes_at_first, sum_by-append}
use Rattle.std.proofs.lemmas.Bool.{eqb-true}
use Rattle.ftn_base.specs.Limits.{most_units_of_all}
use Rattle.ftn_base.specs.declared.entity.Tie.{Tie}
use Rattle.ftn_base.specs.declared.entity.Sort.TheVariants as sort
use Rattle.ftn_base.specs.Storage.{IsWithin}
use Rattle.ftn_base.specs.declared.storage.Object.{Object}
use Rattle.ftn_base.specs.declared.storage.BlockList.{BlockList}
use Rattle.ftn_base.specs.declared.storage.Member.{Member}
use Rattle.ftn_base.specs.StorageMembers.{all_members, sizes_of, is_in, units_in}
use Rattle.ftn_base.specs.StorageGiven.{IsObjectOf, IsTieOf, AreGiven}
use Rattle.ftn_base.specs.StorageFaults.{AreSmall}
use Rattle.storage_layout.specs.declared.things.Things.{Things}
use Rattle.storage_layout.specs.steps.Numbered.{AreNames, IsMemberTie, AreMemberTies, AreThings}
use Rattle.storage_layout.specs.steps.Kept.{AreMembers, AreTied, AreLinkable, AreKept, given_of, sizes_in}
use Rattle.storage_layout.proofs.Ending.{units_more}
use Rattle.storage_layout.proofs.Counted.{length_least, part_sum, objects_few}

-- ---- members

pub sizes_counted : (objects : List Object) → length (sizes_of objects) ≡ length objects
sizes_counted [] = refl
sizes_counted (object ∷ rest) = ap suc (sizes_counted rest)

is_there : (found : Option Object) (scope : ℕ) → option_map (λ object. object.scope) found ≡ Some scope → (object : Object) × (found ≡ Some object)
is_there None scope e = absurd (no_some scope e)
  where
    no_some : (k : ℕ) → ◌≡◌ {A = Option ℕ} None (Some k) → ⊥
    no_some k e = cc e
is_there (Some object) scope e = (object, refl)

not_past : (sizes : List ℕ) → AreSmall sizes → sum sizes ≤ most_units_of_all
not_past [] small = omega arith
not_past (x ∷ xs) small = by_case (nat_lt most_units_of_all (sum (x ∷ xs))) refl
  where
    by_case : (b : Bool) → nat_lt most_units_of_all (sum (x ∷ xs)) ≡ b → sum (x ∷ xs) ≤ most_units_of_all
    by_case true e =
        let more : most_units_of_all < sum (x ∷ xs) = grind (arith, nat_tests) in
        let all : take (length xs + 1) (x ∷ xs) ≡ x ∷ xs = take_all (length xs + 1) (x ∷ xs) (omega arith) in
        absurd (small (length xs) (omega arith) (inr (subst (λ (list : List ℕ). most_units_of_all < sum list) (sym all) more)))
    by_case false e = grind (arith, nat_tests)

pub members_of_given : (objects : List Object) (blocks : List BlockList) (ties : List Tie) → AreGiven objects blocks ties → AreSmall (sizes_of objects) → AreMembers (sizes_of objects) (all_members blocks)
members_of_given objects blocks ties given small = record {
  there = All-weaker (λ member. IsObjectOf objects member.scope member.object) (λ member. member.object < length (sizes_of objects))
      (λ member is. (let found = is_there (slice_get objects member.object) member.scope is in let lt = slice_get_within objects member.object found.0 found.1 in let len : length (sizes_of objects) ≡ length objects = sizes_counted objects in omega (arith, lt, len)))
      (all_members blocks) given.members;
  once = given.once;
  filled = λ v lt. (let len : length (sizes_of objects) ≡ length objects = sizes_counted objects in let inside : v < length objects = omega arith in
      let at : get_or (sizes_of objects) v 0 ≡ (get_or objects v none).units = get_or-map (λ object. object.units) objects v none 0 inside in let some : 1 ≤ (get_or objects v none).units = given.filled v none inside in omega (arith, at, some));
  small = not_past (sizes_of objects) small;
}
  where
    none : Object
    none = record { units = 0; sort = sort.Numeric; scope = 0 }

-- ---- ties are of units that are there

units_on : (sizes : List ℕ) (before rest : List Member) (number scope : ℕ) → units_in sizes before number scope ≤ units_in sizes (before ++ rest) number scope
units_on sizes before rest number scope =
    let parts : sum (map (λ m. get_or sizes m.object 0) (filter (is_in number scope) (before ++ rest)))
    ≡ sum (map (λ m. get_or sizes m.object 0) (filter (is_in number scope) before)) + sum (map (λ m. get_or sizes m.object 0) (filter (is_in number scope) rest)) =
    ap (λ (ms : List Member). sum (map (λ m. get_or sizes m.object 0) ms)) (filter-append (is_in number scope) before rest)
    ∙ ap sum (map-append (λ (m : Member). get_or sizes m.object 0) (filter (is_in number scope) before) (filter (is_in number scope) rest))
    ∙ sum_by-append (λ (k : ℕ). k) (map (λ m. get_or sizes m.object 0) (filter (is_in number scope) before)) (map (λ m. get_or sizes m.object 0) (filter (is_in number scope) rest)) in
    omega (arith, parts)

own_list : (m : Member) → is_in m.block m.scope m ≡ true
own_list m = grind (arith, nat_tests)

pub within_all : (sizes more : List ℕ) (tie : Tie) → IsWithin sizes tie → IsWithin (sizes ++ more) tie
within_all sizes more tie is =
    let len : length (sizes ++ more) ≡ length sizes + length more = length-append sizes more in
    record {
      a = (let l = len in let lt : tie.a < length sizes = is.a in omega (arith, l, lt));
      b = (let l = len in let lt : tie.b < length sizes = is.b in omega (arith, l, lt));
      at_a = subst (λ (n : ℕ). tie.at_a < n) (sym (get_or_append_left sizes more 0 tie.a is.a)) is.at_a;
      at_b = subst (λ (n : ℕ). tie.at_b < n) (sym (get_or_append_left sizes more 0 tie.b is.b)) is.at_b;
    }

module _ (sizes names block_sizes : List ℕ) (all : List Member) (names_are : AreNames sizes all names block_sizes) (members_are : AreMembers sizes all) where
  member_within : (before rest : List Member) (member : Member) (tie : Tie) → all ≡ before ++ member ∷ rest → IsMemberTie (length sizes) names sizes before member tie → member.object < length sizes → IsWithin (sizes ++ block_sizes) tie
  member_within before rest member tie whole is inside =
      let place : ℕ = position_or_len (nat_eq member.block) names in
      let known : position_or_len (nat_eq member.block) names < length names = is.known in
      let sized : length block_sizes ≡ length names = names_are.sized in
      let len : length (sizes ++ block_sizes) ≡ length sizes + length block_sizes = length-append sizes block_sizes in
      let name = eqb-true member.block (get_or names (position_or_len (nat_eq member.block) names) 0) (passes_at_first (nat_eq member.block) names 0 is.known) in
      let longest : units_in sizes all member.block member.scope ≤ get_or block_sizes (position_or_len (nat_eq member.block) names) 0 =
      subst (λ (k : ℕ). units_in sizes all k member.scope ≤ get_or block_sizes (position_or_len (nat_eq member.block) names) 0) (sym name) (names_are.longest (position_or_len (nat_eq member.block) names) member.scope is.known) in
      let here : units_in sizes (before ++ member ∷ []) member.block member.scope ≡ units_in sizes before member.block member.scope + get_or sizes member.object 0 = units_more sizes before member member.block member.scope (own_list member) in
      let on : units_in sizes (before ++ member ∷ []) member.block member.scope ≤ units_in sizes ((before ++ member ∷ []) ++ rest) member.block member.scope = units_on sizes (before ++ member ∷ []) rest member.block member.scope in
      let same : units_in sizes ((before ++ member ∷ []) ++ rest) member.block member.scope ≡ units_in sizes all member.block member.scope =
      ap (λ (ms : List Member). units_in sizes ms member.block member.scope) (append_assoc before (member ∷ []) rest ∙ sym whole) in
      let some : 1 ≤ get_or sizes member.object 0 = members_are.filled member.object inside in
      let a : tie.a ≡ length sizes + position_or_len (nat_eq member.block) names = is.a in
      let at_a : tie.at_a ≡ units_in sizes before member.block member.scope = is.at_a in
      let b : tie.b ≡ member.object = is.b in
      let at_b : tie.at_b ≡ 0 = is.at_b in
      let size_a : get_or (sizes ++ block_sizes) tie.a 0 ≡ get_or block_sizes (position_or_len (nat_eq member.block) names) 0 =
      ap (λ (k : ℕ). get_or (sizes ++ block_sizes) k 0) is.a ∙ get_or-append-add sizes block_sizes (position_or_len (nat_eq member.block) names) 0 in
      let size_b : get_or (sizes ++ block_sizes) tie.b 0 ≡ get_or sizes member.object 0 = ap (λ (k : ℕ). get_or (sizes ++ block_sizes) k 0) is.b ∙ get_or_append_left sizes block_sizes 0 member.object inside in
      record {
        a = omega (arith, a, known, sized, len);
        b = omega (arith, b, inside, len);
        at_a = omega (arith, at_a, size_a, longest, here, on, same, some);
        at_b = omega (arith, at_b, size_b, some);
      }

  pub members_within : (before members : List Member) (ties : List Tie) → all ≡ before ++ members → AreMemberTies (length sizes) names sizes before members ties → All (λ m. m.object < length sizes) members → All (IsWithin (sizes ++ block_sizes)) ties
  members_within before [] [] whole are there = All-nil (IsWithin (sizes ++ block_sizes))
  members_within before [] (tie ∷ ties) whole are there = absurd are
  members_within before (member ∷ rest) [] whole are there = absurd are
  members_within before (member ∷ rest) (tie ∷ ties) whole are there =
      All-cons (IsWithin (sizes ++ block_sizes)) tie ties
      (member_within before rest member tie whole are.0 (All-head (λ m. m.object < length sizes) member rest there))
      (members_within (before ++ member ∷ []) rest ties (whole ∙ sym (append_assoc before (member ∷ []) rest)) are.1 (All-tail (λ m. m.object < length sizes) member rest there))

pub ties_counted : (count : ℕ) (names sizes : List ℕ) (before members : List Member) (ties : List Tie) → AreMemberTies count names sizes before members ties → length ties ≡ length members
ties_counted count names sizes before [] [] are = refl
ties_counted count names sizes before [] (tie ∷ ties) are = absurd are
ties_counted count names sizes before (member ∷ rest) [] are = absurd are
ties_counted count names sizes before (member ∷ rest) (tie ∷ ties) are = ap suc (ties_counted count names sizes (before ++ member ∷ []) rest ties are.1)

pub linkable : (sizes names block_sizes : List ℕ) (members : List Member) (given member_ties : List Tie) → AreMembers sizes members → AreTied sizes members names block_sizes member_ties → All (IsWithin sizes) given
    → length members + length given < 2 ^ 32 → AreLinkable (sizes ++ block_sizes) (member_ties ++ given)
linkable sizes names block_sizes members given member_ties are tied within few =
    let names_are : AreNames sizes members names block_sizes = tied.names_are in
    let objects : length sizes ≤ most_units_of_all = objects_few sizes members are in
    let small : sum sizes ≤ most_units_of_all = are.small in
    let sums : sum block_sizes ≤ sum (map (λ m. get_or sizes m.object 0) members) = names_are.small in
    let part : sum (map (λ m. get_or sizes m.object 0) (take (length members) members)) ≤ sum sizes = part_sum sizes members are (length members) in
    let whole : sum (map (λ m. get_or sizes m.object 0) (take (length members) members)) ≡ sum (map (λ m. get_or sizes m.object 0) members) = ap (λ (ms : List Member). sum (map (λ m. get_or sizes m.object 0) ms)) (take_all (length members) members (omega arith)) in
    let sized : length block_sizes ≡ length names = names_are.sized in
    let blocks : length block_sizes ≤ sum block_sizes = length_least block_sizes (λ i lt. names_are.filled i (omega (arith, lt, sized))) in
    let len : length (sizes ++ block_sizes) ≡ length sizes + length block_sizes = length-append sizes block_sizes in
    let total : sum (sizes ++ block_sizes) ≡ sum sizes + sum block_sizes = sum_by-append (λ (k : ℕ). k) sizes block_sizes in
    let count : length (member_ties ++ given) ≡ length member_ties + length given = length-append member_ties given in
    let own : length member_ties ≡ length members = ties_counted (length sizes) names sizes [] members member_ties tied.ties_are in
    record {
      few = omega (arith, objects, small, sums, part, whole, blocks, len);
      few_ties = omega (arith, count, own, few);
      within = All-append (IsWithin (sizes ++ block_sizes)) member_ties given (members_within sizes names block_sizes members names_are are [] members member_ties refl tied.ties_are are.there)
          (All-weaker (IsWithin sizes) (IsWithin (sizes ++ block_sizes)) (within_all sizes block_sizes) given within);
      small = omega (arith, small, sums, part, whole, total);
    }

-- ---- the things

pub take_front : {X : Type 0} (xs ys : List X) → take (length xs) (xs ++ ys) ≡ xs
take_front [] ys = refl
take_front {X} (x ∷ xs) ys = ap (λ (rest : List X). x ∷ rest) (take_front xs ys)

pub drop_front : {X : Type 0} (xs ys : List X) → drop (length xs) (xs ++ ys) ≡ ys
drop_front [] ys = refl
drop_front (x ∷ xs) ys = drop_front xs ys

pub sizes_are : (things : Things) (sizes block_sizes : List ℕ) → things.objects ≡ length sizes → things.sizes.items ≡ sizes ++ block_sizes → sizes_in things ≡ sizes
sizes_are things sizes block_sizes count whole = ap (λ (n : ℕ). take n things.sizes.items) count ∙ ap (take (length sizes)) whole ∙ take_front sizes block_sizes

pub given_are : (things : Things) (given member_ties : List Tie) → length things.members.items ≡ length member_ties → things.ties.items ≡ member_ties ++ given → given_of things ≡ given
given_are things given member_ties count whole = ap (λ (n : ℕ). drop n things.ties.items) count ∙ ap (drop (length member_ties)) whole ∙ drop_front member_ties given

pub are_kept : (things : Things) (sizes block_sizes : List ℕ) (members : List Member) (given member_ties : List Tie) → things.objects ≡ length sizes → things.sizes.items ≡ sizes ++ block_sizes → things.members.items ≡ members → things.ties.items ≡ member_ties ++ given
    → AreMembers sizes members → AreTied sizes members things.names.items block_sizes member_ties → All (IsWithin sizes) given → length members + length given < 2 ^ 32 → AreKept things
are_kept things sizes block_sizes members given member_ties count sizes_is members_is ties_is are tied within few =
    let own : length member_ties ≡ length members = ties_counted (length sizes) things.names.items sizes [] members member_ties tied.ties_are in
    let same_count : length things.members.items ≡ length member_ties = ap length members_is ∙ sym own in
    let same_sizes : sizes_in things ≡ sizes = sizes_are things sizes block_sizes count sizes_is in
    let same_given : given_of things ≡ given = given_are things given member_ties same_count ties_is in
    record {
      count = ap length same_sizes ∙ sym count;
      are = subst (λ (s : List ℕ). AreThings s things.members.items (given_of things) things.sizes.items things.names.items (length things.members.items) things.ties.items) (sym same_sizes)
          (subst (λ (ms : List Member). AreThings sizes ms (given_of things) things.sizes.items things.names.items (length ms) things.ties.items) (sym members_is)
          (subst (λ (g : List Tie). AreThings sizes members g things.sizes.items things.names.items (length members) things.ties.items) (sym same_given)
          (record { block_sizes = block_sizes; names_are = tied.names_are; sizes_are = sizes_is; member_ties = member_ties; members_are = tied.ties_are; entries_are = sym own; ties_are = ties_is })));
      members = subst (λ (s : List ℕ). AreMembers s things.members.items) (sym same_sizes) (subst (λ (ms : List Member). AreMembers sizes ms) (sym members_is) are);
      given = subst (λ (s : List ℕ). All (IsWithin s) (given_of things)) (sym same_sizes) (subst (λ (g : List Tie). All (IsWithin sizes) g) (sym same_given) within);
      linkable = subst (λ (s : List ℕ). AreLinkable s things.ties.items) (sym sizes_is) (subst (λ (ts : List Tie). AreLinkable (sizes ++ block_sizes) ts) (sym ties_is)
          (linkable sizes things.names.items block_sizes members given member_ties are tied within few));
    }

pub ties_within : (objects : List Object) (ties : List Tie) → All (IsTieOf objects) ties → All (IsWithin (sizes_of objects)) ties
ties_within objects ties tied = All-weaker (IsTieOf objects) (IsWithin (sizes_of objects)) (λ tie is. is.within) ties tied
