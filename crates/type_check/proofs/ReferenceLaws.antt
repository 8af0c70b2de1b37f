-- What references are, by the firsts of what is told of their parts.
use Rattle.std.proofs.Common.{◌≡◌, refl, sym, ◌∙◌, ap, ap₂, Bool, true, false, ℕ, suc, arith, List, [], ◌∷◌, ◌++◌, map, length, Option, Some, None, option_map}
use Rattle.std.specs.Prelude.{◌==◌, nat_lt, ◌&&◌, ◌||◌, not, if◌then◌else◌}
use Rattle.std.specs.List.{flat_map, zip}
use Rattle.std.specs.Option.{is_some, is_none, option_map_or, unwrap_or}
use Rattle.std.proofs.lemmas.Bool.Decides.{nat_tests}
use Rattle.std.proofs.lemmas.List.{length-map}
use Rattle.ftn_base.specs.declared.fault.FaultKind.TheVariants.{WrongType, WrongCount}
use Rattle.ftn_tree.specs.declared.intrinsic.Intrinsic as intrinsics
use Rattle.ftn_tree.specs.declared.intrinsic.Intrinsic.TheVariants.{Abs, Mod, Sign, Min, Max, Len, LenTrim, Trim, Ichar, Char, Index}
use Rattle.ftn_tree.specs.Intrinsics.{gives_of}
use Rattle.ftn_tree.specs.Sorts.{Sort, Whole, Text}
use Rattle.ftn_tree.specs.KeyKinds.{Kind, kind}
use Rattle.ftn_tree.specs.Procedures.{Signature, Sense, Data, Itself, Procedure, Generic, Intrinsic, Other}
use Rattle.ftn_tree.specs.ExpressionTypes as spec
use Rattle.ftn_tree.specs.ExpressionTypes.{Told, Typed, standing, if_nothing, integer, ends_of, scalar_of, meant_result}
use Rattle.type_check.specs.steps.Kept.{first_told, seen}
use Rattle.type_check.specs.steps.Sights as sights
use Rattle.type_check.specs.steps.Sights.{Choice, Unknown, NoneFits, One, Several, choice, sooner_told, told_where, kind_if, sight, among, in_range, given_told, range_seen}
use Rattle.type_check.proofs.FirstTold.{sooner_joins, joined, told_if, untold, among_first, given_first}
use Rattle.type_check.proofs.SightLaws.{sights_alike, outcome_seen, wanted_seen, passed_ends, range_first, ranged, data_seen, argument_told_seen, arguments_seen, misfits_seen, undefinables_seen}
use Rattle.type_check.proofs.ChoiceLaws.{generic_told_seen, meant_seen}

-- ---- calls

passed_in : (ts : List Typed) → first_told (spec.all_passed ts) ≡ among sights.passed_of (map seen ts)
passed_in ts = among_first sights.passed_of (λ (t : Typed). t.passed) (λ t. refl) ts

call_first :
    (name : ℕ) (k : Kind) (told : List Told) (range : spec.Range) (t : Option Told) → first_told told ≡ t →
    first_told (told ++ (spec.range_told range ++ spec.if_told (is_some range && is_some (if_nothing told k)) WrongType name)) ≡ sights.call_told name t (range_seen range)
call_first name k told range t is =
    joined told (spec.range_told range ++ spec.if_told (is_some range && is_some (if_nothing told k)) WrongType name) t
    (sooner_told (in_range (sights.wanted integer) (range_seen range)) (told_where (is_some (range_seen range) && is_none t) WrongType name)) is
    (joined (spec.range_told range) (spec.if_told (is_some range && is_some (if_nothing told k)) WrongType name) (in_range (sights.wanted integer) (range_seen range))
    (told_where (is_some (range_seen range) && is_none t) WrongType name) (range_first range)
    (told_if (is_some range && is_some (if_nothing told k)) WrongType name
    ∙ ap₂ (λ a b. told_where (a && b) WrongType name) (ranged range) (untold told k ∙ ap is_none is)))

call_passed :
    (ts : List Typed) (range : spec.Range) (passed : List Told) (p : Option Told) → first_told passed ≡ p →
    first_told (spec.all_passed (ts ++ ends_of range) ++ passed) ≡ sooner_told (among sights.passed_of (map seen ts)) (sooner_told (in_range sights.passed_of (range_seen range)) p)
call_passed ts range passed p is =
    joined (spec.all_passed (ts ++ ends_of range)) passed (sooner_told (first_told (spec.all_passed ts)) (in_range sights.passed_of (range_seen range))) p (passed_ends ts range) is
    ∙ sooner_joins (first_told (spec.all_passed ts)) (in_range sights.passed_of (range_seen range)) p
    ∙ ap (λ x. sooner_told x (sooner_told (in_range sights.passed_of (range_seen range)) p)) (passed_in ts)

call_seen :
    (name : ℕ) (k : Kind) (told passed : List Told) (ts : List Typed) (range : spec.Range) (t p : Option Told) → first_told told ≡ t → first_told passed ≡ p →
    seen (spec.call_typed name k told passed ts range) ≡ sights.call_typed name k t p (map seen ts) (range_seen range)
call_seen name k told passed ts range t p one other =
    outcome_seen name k (told ++ (spec.range_told range ++ spec.if_told (is_some range && is_some (if_nothing told k)) WrongType name))
    (spec.all_passed (ts ++ ends_of range) ++ passed) (standing true false false false) (sights.call_told name t (range_seen range))
    (sooner_told (among sights.passed_of (map seen ts)) (sooner_told (in_range sights.passed_of (range_seen range)) p)) (call_first name k told range t one)
    (call_passed ts range passed p other)

-- ---- functions

told_in : (ts : List Typed) → first_told (spec.all_told ts) ≡ among sights.told_of (map seen ts)
told_in ts = among_first sights.told_of (λ (t : Typed). t.told) (λ t. refl) ts

result_seen : (name : ℕ) (s : Signature) → first_told (spec.result_told name s) ≡ sights.result_told name s
result_seen name s = told_if (not s.function || sights.is_array_result s.result) WrongType name

function_seen :
    (name : ℕ) (s : Signature) (ts : List Typed) (range : spec.Range) → seen (spec.function_typed name s ts range) ≡ sights.function_typed name s (map seen ts) (range_seen range)
function_seen name s ts range =
    call_seen name (scalar_of s.result) (spec.all_told ts ++ (spec.misfits name s.formals ts ++ spec.result_told name s)) (spec.undefinables s.formals ts) ts range
    (sooner_told (among sights.told_of (map seen ts)) (sooner_told (sights.misfits name s.formals (map seen ts)) (sights.result_told name s)))
    (sights.undefinables s.formals (map seen ts))
    (joined (spec.all_told ts) (spec.misfits name s.formals ts ++ spec.result_told name s) (among sights.told_of (map seen ts))
    (sooner_told (sights.misfits name s.formals (map seen ts)) (sights.result_told name s)) (told_in ts)
    (joined (spec.misfits name s.formals ts) (spec.result_told name s) (sights.misfits name s.formals (map seen ts)) (sights.result_told name s)
    (misfits_seen name s.formals ts) (result_seen name s)))
    (undefinables_seen s.formals ts)

-- ---- generic names

result_of_meant : (name : ℕ) (found : Choice) → first_told (option_map_or (spec.result_told name) (sights.meant found) []) ≡ sights.result_of_choice name found
result_of_meant name Unknown = refl
result_of_meant name NoneFits = refl
result_of_meant name (One s) = result_seen name s
result_of_meant name Several = refl

undefinables_of_meant :
    (ts : List Typed) (found : Choice) →
    first_told (option_map_or (λ (s : Signature). spec.undefinables s.formals ts) (sights.meant found) []) ≡ sights.undefinables_of_choice found (map seen ts)
undefinables_of_meant ts Unknown = refl
undefinables_of_meant ts NoneFits = refl
undefinables_of_meant ts (One s) = undefinables_seen s.formals ts
undefinables_of_meant ts Several = refl

generic_seen :
    (name : ℕ) (specifics : List Signature) (ts : List Typed) (range : spec.Range) →
    seen (spec.generic_typed name specifics ts range) ≡ sights.generic_typed name (choice specifics (map seen ts)) (map seen ts) (range_seen range)
generic_seen name specifics ts range =
    let found = choice specifics (map seen ts) in
    ap (λ m. seen (spec.call_typed name (meant_result m) (spec.all_told ts ++ (spec.generic_told name specifics ts ++ option_map_or (spec.result_told name) m []))
    (option_map_or (λ (s : Signature). spec.undefinables s.formals ts) m []) ts range)) (meant_seen specifics ts)
    ∙ call_seen name (meant_result (sights.meant found))
    (spec.all_told ts ++ (spec.generic_told name specifics ts ++ option_map_or (spec.result_told name) (sights.meant found) []))
    (option_map_or (λ (s : Signature). spec.undefinables s.formals ts) (sights.meant found) []) ts range
    (sooner_told (among sights.told_of (map seen ts)) (sooner_told (sights.choice_told name found) (sights.result_of_choice name found)))
    (sights.undefinables_of_choice found (map seen ts))
    (joined (spec.all_told ts) (spec.generic_told name specifics ts ++ option_map_or (spec.result_told name) (sights.meant found) []) (among sights.told_of (map seen ts))
    (sooner_told (sights.choice_told name found) (sights.result_of_choice name found)) (told_in ts)
    (joined (spec.generic_told name specifics ts) (option_map_or (spec.result_told name) (sights.meant found) []) (sights.choice_told name found) (sights.result_of_choice name found)
    (generic_told_seen name specifics ts) (result_of_meant name found)))
    (undefinables_of_meant ts found)

-- ---- intrinsic functions

-- as many as it wants
enough_told :
    (name : ℕ) (sort : Sort) (ts : List Typed) (told : List Told) → first_told told ≡ among (sights.wanted (kind sort 0)) (map seen ts) → (b : Bool) →
    first_told (told ++ spec.if_told (not b) WrongCount name) ≡ sooner_told (among (sights.wanted (kind sort 0)) (map seen ts)) (told_where (not b) WrongCount name)
enough_told name sort ts told is b =
    joined told (spec.if_told (not b) WrongCount name) (among (sights.wanted (kind sort 0)) (map seen ts)) (told_where (not b) WrongCount name) is (told_if (not b) WrongCount name)

other_count :
    (name : ℕ) (ts : List Typed) → first_told (flat_map spec.argument_told ts ++ (WrongCount, name) ∷ []) ≡ sooner_told (among sights.argument_told (map seen ts)) (Some (WrongCount, name))
other_count name ts =
    joined (flat_map spec.argument_told ts) ((WrongCount, name) ∷ []) (among sights.argument_told (map seen ts)) (Some (WrongCount, name))
    (among_first sights.argument_told spec.argument_told argument_told_seen ts) refl

-- one more than that, or two
not_one : (n : ℕ) → (1 == suc (suc n)) ≡ false
not_one n = grind (arith, nat_tests)

not_one_of : (n : ℕ) → (suc (suc n) == 1) ≡ false
not_one_of n = grind (arith, nat_tests)

not_two : (n : ℕ) → (2 == suc (suc (suc n))) ≡ false
not_two n = grind (arith, nat_tests)

not_two_of : (n : ℕ) → (suc (suc (suc n)) == 2) ≡ false
not_two_of n = grind (arith, nat_tests)

neither :
    (b c : Bool) (xs ys : List Told) (x y : Option Told) → b ≡ false → c ≡ false → first_told ys ≡ y → first_told (if b then xs else ys) ≡ (if false || c then x else y)
neither b c xs ys x y p q is = ap (λ d. first_told (if d then xs else ys)) p ∙ is ∙ ap (λ d. if false || d then x else y) (sym q)

-- of one sort, one argument
one_wanted :
    (name : ℕ) (sort : Sort) (ts : List Typed) →
    first_told (if length (sort ∷ []) == length ts
    then flat_map spec.wanted_sort (zip (sort ∷ []) ts) ++ spec.if_told (not (length (sort ∷ []) == length ts)) WrongCount name
    else flat_map spec.argument_told ts ++ (WrongCount, name) ∷ [])
    ≡ (if false || (length (map seen ts) == 1)
    then sooner_told (among (sights.wanted (kind sort 0)) (map seen ts)) (told_where (not (length (map seen ts) == 1)) WrongCount name)
    else sooner_told (among sights.argument_told (map seen ts)) (Some (WrongCount, name)))
one_wanted name sort [] = other_count name []
one_wanted name sort (t ∷ []) =
    enough_told name sort (t ∷ []) (flat_map spec.wanted_sort ((sort, t) ∷ [])) (among_first (sights.wanted (kind sort 0)) (spec.wanted (kind sort 0)) (wanted_seen (kind sort 0)) (t ∷ [])) true
one_wanted name sort (t ∷ u ∷ ts) =
    let all = t ∷ u ∷ ts in
    neither (length (sort ∷ []) == length all) (length (map seen all) == 1)
    (flat_map spec.wanted_sort (zip (sort ∷ []) all) ++ spec.if_told (not (length (sort ∷ []) == length all)) WrongCount name)
    (flat_map spec.argument_told all ++ (WrongCount, name) ∷ [])
    (sooner_told (among (sights.wanted (kind sort 0)) (map seen all)) (told_where (not (length (map seen all) == 1)) WrongCount name))
    (sooner_told (among sights.argument_told (map seen all)) (Some (WrongCount, name))) (not_one (length ts)) (not_one_of (length (map seen ts))) (other_count name all)

two_wanted :
    (name : ℕ) (sort : Sort) (ts : List Typed) →
    first_told (if length (sort ∷ sort ∷ []) == length ts
    then flat_map spec.wanted_sort (zip (sort ∷ sort ∷ []) ts) ++ spec.if_told (not (length (sort ∷ sort ∷ []) == length ts)) WrongCount name
    else flat_map spec.argument_told ts ++ (WrongCount, name) ∷ [])
    ≡ (if false || (length (map seen ts) == 2)
    then sooner_told (among (sights.wanted (kind sort 0)) (map seen ts)) (told_where (not (length (map seen ts) == 2)) WrongCount name)
    else sooner_told (among sights.argument_told (map seen ts)) (Some (WrongCount, name)))
two_wanted name sort [] = other_count name []
two_wanted name sort (t ∷ []) = other_count name (t ∷ [])
two_wanted name sort (t ∷ u ∷ []) =
    enough_told name sort (t ∷ u ∷ []) (flat_map spec.wanted_sort ((sort, t) ∷ (sort, u) ∷ []))
    (among_first (sights.wanted (kind sort 0)) (spec.wanted (kind sort 0)) (wanted_seen (kind sort 0)) (t ∷ u ∷ [])) true
two_wanted name sort (t ∷ u ∷ v ∷ ts) =
    let all = t ∷ u ∷ v ∷ ts in
    neither (length (sort ∷ sort ∷ []) == length all) (length (map seen all) == 2)
    (flat_map spec.wanted_sort (zip (sort ∷ sort ∷ []) all) ++ spec.if_told (not (length (sort ∷ sort ∷ []) == length all)) WrongCount name)
    (flat_map spec.argument_told all ++ (WrongCount, name) ∷ [])
    (sooner_told (among (sights.wanted (kind sort 0)) (map seen all)) (told_where (not (length (map seen all) == 2)) WrongCount name))
    (sooner_told (among sights.argument_told (map seen all)) (Some (WrongCount, name))) (not_two (length ts)) (not_two_of (length (map seen ts))) (other_count name all)

-- MIN and MAX
each_whole : (ts : List Typed) → flat_map spec.wanted_sort (zip (map (λ (t : Typed). Whole) ts) ts) ≡ flat_map (spec.wanted integer) ts
each_whole [] = refl
each_whole (t ∷ ts) = ap (λ more. spec.wanted integer t ++ more) (each_whole ts)

same_count : (n m : ℕ) → n ≡ m → (n == m) ≡ true
same_count n m is = grind (arith, nat_tests, is)

any_wanted :
    (name : ℕ) (ts : List Typed) →
    first_told (if length (map (λ (t : Typed). Whole) ts) == length ts
    then flat_map spec.wanted_sort (zip (map (λ (t : Typed). Whole) ts) ts) ++ spec.if_told (not (nat_lt 1 (length ts))) WrongCount name
    else flat_map spec.argument_told ts ++ (WrongCount, name) ∷ [])
    ≡ sooner_told (among (sights.wanted integer) (map seen ts)) (told_where (not (nat_lt 1 (length (map seen ts)))) WrongCount name)
any_wanted name ts =
    ap (λ b. first_told (if b then flat_map spec.wanted_sort (zip (map (λ (t : Typed). Whole) ts) ts) ++ spec.if_told (not (nat_lt 1 (length ts))) WrongCount name
    else flat_map spec.argument_told ts ++ (WrongCount, name) ∷ [])) (same_count (length (map (λ (t : Typed). Whole) ts)) (length ts) (length-map ts (λ (t : Typed). Whole)))
    ∙ enough_told name Whole ts (flat_map spec.wanted_sort (zip (map (λ (t : Typed). Whole) ts) ts))
    (ap first_told (each_whole ts) ∙ among_first (sights.wanted integer) (spec.wanted integer) (wanted_seen integer) ts) (nat_lt 1 (length ts))
    ∙ ap (λ n. sooner_told (among (sights.wanted integer) (map seen ts)) (told_where (not (nat_lt 1 n)) WrongCount name)) (sym (length-map ts seen))

intrinsic_first :
    (name : ℕ) (function : intrinsics.Intrinsic) (ts : List Typed) → first_told (spec.intrinsic_told name function ts) ≡ sights.intrinsic_told name function (map seen ts)
intrinsic_first name Abs ts = one_wanted name Whole ts
intrinsic_first name Mod ts = two_wanted name Whole ts
intrinsic_first name Sign ts = two_wanted name Whole ts
intrinsic_first name Min ts = any_wanted name ts
intrinsic_first name Max ts = any_wanted name ts
intrinsic_first name Len ts = one_wanted name Text ts
intrinsic_first name LenTrim ts = one_wanted name Text ts
intrinsic_first name Trim ts = one_wanted name Text ts
intrinsic_first name Ichar ts = one_wanted name Text ts
intrinsic_first name Char ts = one_wanted name Whole ts
intrinsic_first name Index ts = two_wanted name Text ts

intrinsic_seen :
    (name : ℕ) (function : intrinsics.Intrinsic) (ts : List Typed) (range : spec.Range) →
    seen (spec.intrinsic_typed name function ts range) ≡ sights.intrinsic_typed name function (map seen ts) (range_seen range)
intrinsic_seen name function ts range =
    call_seen name (kind (gives_of function) 0) (spec.intrinsic_told name function ts) [] ts range (sights.intrinsic_told name function (map seen ts)) None
    (intrinsic_first name function ts) refl

-- ---- references

nothing_seen :
    (name : ℕ) (given : Option (List Typed)) (range : spec.Range) →
    seen (spec.nothing_typed name (unwrap_or given []) range) ≡ sights.nothing_typed name (option_map (map seen) given) (range_seen range)
nothing_seen name given range =
    let ts = unwrap_or given [] in
    sights_alike name (standing true false false false) None None (first_told (flat_map spec.argument_told ts ++ (spec.range_told range ++ (WrongType, name) ∷ [])))
    (sooner_told (given_told sights.argument_told (option_map (map seen) given)) (sooner_told (in_range (sights.wanted integer) (range_seen range)) (Some (WrongType, name))))
    (first_told (spec.all_passed (ts ++ ends_of range))) (sooner_told (given_told sights.passed_of (option_map (map seen) given)) (in_range sights.passed_of (range_seen range))) refl
    (joined (flat_map spec.argument_told ts) (spec.range_told range ++ (WrongType, name) ∷ []) (given_told sights.argument_told (option_map (map seen) given))
    (sooner_told (in_range (sights.wanted integer) (range_seen range)) (Some (WrongType, name))) (given_first sights.argument_told spec.argument_told argument_told_seen given)
    (joined (spec.range_told range) ((WrongType, name) ∷ []) (in_range (sights.wanted integer) (range_seen range)) (Some (WrongType, name)) (range_first range) refl))
    (passed_ends ts range
    ∙ ap (λ x. sooner_told x (in_range sights.passed_of (range_seen range))) (given_first sights.passed_of (λ (t : Typed). t.passed) (λ t. refl) given))

itself_seen : (t : Typed) → seen (spec.itself t) ≡ sights.itself (seen t)
itself_seen t = refl

pub reference_seen :
    (name : ℕ) (sense : Sense) (given : Option (List Typed)) (range : spec.Range) →
    seen (spec.reference_typed name sense given range) ≡ sights.reference_typed name sense (option_map (map seen) given) (range_seen range)
reference_seen name (Data k may) given range = data_seen name k may given range
reference_seen name (Itself s) None range = nothing_seen name None range
reference_seen name (Itself s) (Some ts) range =
    ap sights.itself (function_seen name s (map spec.argument ts) range) ∙ ap (λ ss. sights.itself (sights.function_typed name s ss (range_seen range))) (arguments_seen ts)
reference_seen name (Procedure s) None range = nothing_seen name None range
reference_seen name (Procedure s) (Some ts) range =
    function_seen name s (map spec.argument ts) range ∙ ap (λ ss. sights.function_typed name s ss (range_seen range)) (arguments_seen ts)
reference_seen name (Generic specifics) None range = nothing_seen name None range
reference_seen name (Generic specifics) (Some ts) range =
    generic_seen name specifics (map spec.argument ts) range ∙ ap (λ ss. sights.generic_typed name (choice specifics ss) ss (range_seen range)) (arguments_seen ts)
reference_seen name (Intrinsic function) None range = nothing_seen name None range
reference_seen name (Intrinsic function) (Some ts) range =
    intrinsic_seen name function ts range
reference_seen name Other given range = nothing_seen name given range
