-- Types of expressions, and the first of what is told of them, by the firsts of what is told of their parts. It serves the proof alone.
use Rattle.std.specs.Prelude.{ℕ, ◌==◌, nat_lt, Bool, true, false, not, ◌&&◌, ◌||◌, if◌then◌else◌, List, [], ◌∷◌, map, length, Option, Some, None}
use Rattle.std.specs.List.{filter}
use Rattle.std.specs.Option.{is_some, is_none, option_map, option_map_or, option_and_then}
use Rattle.ftn_base.specs.declared.fault.FaultKind.{FaultKind}
use Rattle.ftn_base.specs.declared.fault.FaultKind.TheVariants.{WrongType, WrongCount, NoSpecific, TwoSpecifics, NotDefinable}
use Rattle.ftn_tree.specs.declared.operator.Operator.{Operator}
use Rattle.ftn_tree.specs.declared.intrinsic.Intrinsic as intrinsics
use Rattle.ftn_tree.specs.declared.intrinsic.Intrinsic.TheVariants.{Mod, Sign, Min, Max, Len, LenTrim, Trim, Ichar, Index}
use Rattle.ftn_tree.specs.Intrinsics.{gives_of}
use Rattle.ftn_tree.specs.Sorts.{Sort, Whole, Text, same_sort, is_relation, sort_of_operator}
use Rattle.ftn_tree.specs.KeyKinds.{Kind, kind}
use Rattle.ftn_tree.specs.Procedures.{Formal, Signature, Sense, Data, Itself, Procedure, Generic, Intrinsic, Other}
use Rattle.ftn_tree.specs.ExpressionTypes as spec
use Rattle.ftn_tree.specs.ExpressionTypes.{Told, Standing, standing, no_reference, same_kind, is_kind, integer, logical, is_array, may_be_compared, takes, scalar_of, meant_result, chosen}
use Rattle.const_expr.specs.FirstTold.{sooner}
use Rattle.type_check.specs.steps.Kept.{Sight, told_key, seen}

abbrev pub sooner_told : Option Told → Option Told → Option Told
sooner_told one other = sooner told_key one other

abbrev pub told_where : Bool → FaultKind → ℕ → Option Told
told_where holds what token = if holds then Some (what, token) else None

abbrev pub kind_if : Option Told → Kind → Option Kind
kind_if None k = Some k
kind_if (Some told) k = None

abbrev pub sight : ℕ → Option Kind → Option Told → Option Told → Standing → Sight
sight first k told passed how = record { first = first; kind = k; told = told; passed = passed; standing = how }

abbrev pub expression : ℕ → Kind → Option Told → Option Told → Sight
expression first k told passed = sight first (kind_if told k) told passed no_reference

-- ---- what is told of several parts

abbrev pub among : (Sight → Option Told) → List Sight → Option Told
among told [] = None
among told (s ∷ rest) = sooner_told (told s) (among told rest)

abbrev pub told_of : Sight → Option Told
told_of s = s.told

abbrev pub passed_of : Sight → Option Told
passed_of s = s.passed

abbrev pub Range : Type 0
Range = Option (Option Sight × Option Sight)

abbrev pub range_seen : spec.Range → Range
range_seen None = None
range_seen (Some (low, high)) = Some (option_map seen low, option_map seen high)

abbrev pub end_told : (Sight → Option Told) → Option Sight → Option Told
end_told told None = None
end_told told (Some s) = told s

abbrev pub in_range : (Sight → Option Told) → Range → Option Told
in_range told None = None
in_range told (Some (low, high)) = sooner_told (end_told told low) (end_told told high)

abbrev pub given_told : (Sight → Option Told) → Option (List Sight) → Option Told
given_told told None = None
given_told told (Some ss) = among told ss

-- ---- what places want

abbrev pub fails : (Kind → Bool) → Sight → Bool
fails test s = option_map_or (λ k. not (test k)) s.kind false

abbrev pub wanted : Kind → Sight → Option Told
wanted k s = sooner_told s.told (told_where (fails (same_kind k) s) WrongType s.first)

-- ---- operators

abbrev pub in_parens : ℕ → Sight → Sight
in_parens token s = sight token s.kind s.told s.passed no_reference

abbrev pub unary_typed : ℕ → Operator → Sight → Sight
unary_typed op operator s = expression op (kind (sort_of_operator operator) 0) (wanted (kind (sort_of_operator operator) 0) s) s.passed

abbrev pub compared : Sight → Option Told
compared s = sooner_told s.told (told_where (fails may_be_compared s) WrongType s.first)

abbrev pub relation_typed : Sight → Sight → Sight
relation_typed left right =
    expression left.first logical (sooner_told (compared left) (sooner_told (compared right) (told_where (spec.differ left.kind right.kind) WrongType left.first)))
    (sooner_told left.passed right.passed)

abbrev pub other_typed : Operator → Sight → Sight → Sight
other_typed operator left right =
    expression left.first (kind (sort_of_operator operator) 0)
    (sooner_told (wanted (kind (sort_of_operator operator) 0) left) (wanted (kind (sort_of_operator operator) 0) right)) (sooner_told left.passed right.passed)

abbrev pub binary_typed : Operator → Sight → Sight → Sight
binary_typed operator left right = if is_relation operator then relation_typed left right else other_typed operator left right

-- ---- elements and substrings

abbrev pub count_told : ℕ → ℕ → Option (List Sight) → Option Told
count_told name rank None = None
count_told name rank (Some subscripts) =
    sooner_told (told_where (not (length subscripts == rank)) WrongCount name) (told_where ((length subscripts == 0) && (rank == 0)) WrongType name)

abbrev pub ranged_told : ℕ → Kind → Bool → Range → Option Told
ranged_told name k whole range = told_where (is_some range && (not (same_sort k.sort Text) || (whole && nat_lt 0 k.rank))) WrongType name

abbrev pub data_told : ℕ → Kind → Option (List Sight) → Range → Option Told
data_told name k given range =
    sooner_told (given_told (wanted integer) given)
    (sooner_told (in_range (wanted integer) range) (sooner_told (count_told name k.rank given) (ranged_told name k (is_none given) range)))

abbrev pub data_typed : ℕ → Kind → Bool → Option (List Sight) → Range → Sight
data_typed name k may given range =
    sight name (kind_if (data_told name k given range) (kind k.sort (if is_some given then 0 else k.rank))) (data_told name k given range)
    (sooner_told (given_told passed_of given) (in_range passed_of range))
    (standing true (is_some given && (is_none range && nat_lt 0 k.rank)) true may)

-- ---- actual arguments

-- it is an array that no reference gives
abbrev pub is_array_made : Sight → Bool
is_array_made s = not s.standing.reference && fails (λ k. not (is_array k)) s

abbrev pub argument_told : Sight → Option Told
argument_told s = sooner_told s.told (told_where (is_array_made s) WrongType s.first)

abbrev pub argument : Sight → Sight
argument s = sight s.first (option_and_then (kind_if (argument_told s)) s.kind) (argument_told s) s.passed s.standing

abbrev pub misfit : Formal → Sight → Option Told
misfit formal s = told_where (fails (takes formal.kind s.standing.element) s) WrongType s.first

abbrev pub undefinable : Formal → Sight → Option Told
undefinable formal s = told_where (formal.out && is_some s.kind && not s.standing.definable) NotDefinable s.first

-- the first of what is told of pairs
abbrev pub among_pairs : {A : Type 0} → (A → Sight → Option Told) → List A → List Sight → Option Told
among_pairs told [] ss = None
among_pairs told (a ∷ more) [] = None
among_pairs told (a ∷ more) (s ∷ rest) = sooner_told (told a s) (among_pairs told more rest)

abbrev pub misfits : ℕ → List Formal → List Sight → Option Told
misfits name formals actuals = if length formals == length actuals then among_pairs misfit formals actuals else Some (WrongCount, name)

abbrev pub undefinables : List Formal → List Sight → Option Told
undefinables formals actuals = if length formals == length actuals then among_pairs undefinable formals actuals else None

-- ---- generic references

abbrev pub is_exact : Formal → Sight → Bool
is_exact formal s = option_map_or (λ k. is_kind k s.kind) formal.kind false

abbrev pub are_exact : List Formal → List Sight → Bool
are_exact [] ss = true
are_exact (formal ∷ more) [] = true
are_exact (formal ∷ more) (s ∷ rest) = is_exact formal s && are_exact more rest

abbrev pub fits : List Sight → Signature → Bool
fits actuals signature = (length signature.formals == length actuals) && are_exact signature.formals actuals

-- nothing is told of an argument
abbrev pub have_kinds : List Sight → Bool
have_kinds [] = true
have_kinds (s ∷ rest) = is_some s.kind && have_kinds rest

-- which specific procedure is meant, where that is asked
pub data Choice : Type 0 where
  Unknown : Choice
  NoneFits : Choice
  One : Signature → Choice
  Several : Choice

abbrev pub choice_among : List Signature → Choice
choice_among [] = NoneFits
choice_among (specific ∷ []) = One specific
choice_among others = Several

abbrev pub if_fits : List Sight → Signature → Option Signature
if_fits actuals signature = if fits actuals signature then Some signature else None

-- with one more
abbrev pub choice_with : Choice → Option Signature → Choice
choice_with found None = found
choice_with NoneFits (Some specific) = One specific
choice_with other (Some specific) = Several

abbrev pub chosen_among : List Signature → List Sight → Choice
chosen_among specifics actuals = choice_among (filter (fits actuals) specifics)

abbrev pub choice : List Signature → List Sight → Choice
choice specifics actuals = if have_kinds actuals then chosen_among specifics actuals else Unknown

abbrev pub choice_told : ℕ → Choice → Option Told
choice_told name NoneFits = Some (NoSpecific, name)
choice_told name Several = Some (TwoSpecifics, name)
choice_told name other = None

abbrev pub meant : Choice → Option Signature
meant (One specific) = Some specific
meant other = None

-- ---- function references

abbrev pub is_array_result : Option Kind → Bool
is_array_result found = option_map_or is_array found false

abbrev pub result_told : ℕ → Signature → Option Told
result_told name signature = told_where (not signature.function || is_array_result signature.result) WrongType name

abbrev pub call_told : ℕ → Option Told → Range → Option Told
call_told name told range =
    sooner_told told (sooner_told (in_range (wanted integer) range) (told_where (is_some range && is_none told) WrongType name))

abbrev pub call_typed : ℕ → Kind → Option Told → Option Told → List Sight → Range → Sight
call_typed name k told passed actuals range =
    sight name (kind_if (call_told name told range) k) (call_told name told range)
    (sooner_told (among passed_of actuals) (sooner_told (in_range passed_of range) passed)) (standing true false false false)

abbrev pub function_typed : ℕ → Signature → List Sight → Range → Sight
function_typed name signature actuals range =
    call_typed name (scalar_of signature.result)
    (sooner_told (among told_of actuals) (sooner_told (misfits name signature.formals actuals) (result_told name signature)))
    (undefinables signature.formals actuals) actuals range

abbrev pub result_of_choice : ℕ → Choice → Option Told
result_of_choice name (One signature) = result_told name signature
result_of_choice name other = None

abbrev pub undefinables_of_choice : Choice → List Sight → Option Told
undefinables_of_choice (One signature) actuals = undefinables signature.formals actuals
undefinables_of_choice other actuals = None

abbrev pub generic_typed : ℕ → Choice → List Sight → Range → Sight
generic_typed name found actuals range =
    call_typed name (meant_result (meant found))
    (sooner_told (among told_of actuals) (sooner_told (choice_told name found) (result_of_choice name found)))
    (undefinables_of_choice found actuals) actuals range

-- the type that an intrinsic function wants of its arguments, and how many there are
abbrev pub want_of : intrinsics.Intrinsic → Sort
want_of Len = Text
want_of LenTrim = Text
want_of Trim = Text
want_of Ichar = Text
want_of Index = Text
want_of other = Whole

abbrev pub is_enough : intrinsics.Intrinsic → ℕ → Bool
is_enough Mod count = count == 2
is_enough Sign count = count == 2
is_enough Index count = count == 2
is_enough Min count = nat_lt 1 count
is_enough Max count = nat_lt 1 count
is_enough other count = count == 1

-- MIN and MAX look at their arguments however many there are
abbrev pub takes_any : intrinsics.Intrinsic → Bool
takes_any Min = true
takes_any Max = true
takes_any other = false

abbrev pub intrinsic_told : ℕ → intrinsics.Intrinsic → List Sight → Option Told
intrinsic_told name function actuals =
    if takes_any function || is_enough function (length actuals)
    then sooner_told (among (wanted (kind (want_of function) 0)) actuals) (told_where (not (is_enough function (length actuals))) WrongCount name)
    else sooner_told (among argument_told actuals) (Some (WrongCount, name))

abbrev pub intrinsic_typed : ℕ → intrinsics.Intrinsic → List Sight → Range → Sight
intrinsic_typed name function actuals range = call_typed name (kind (gives_of function) 0) (intrinsic_told name function actuals) None actuals range

-- ---- references

abbrev pub itself : Sight → Sight
itself s = sight s.first s.kind s.told s.passed (standing true false true false)

abbrev pub stray : ℕ → Option Told → Option Told → Range → Sight
stray name told passed range =
    sight name None (sooner_told told (sooner_told (in_range (wanted integer) range) (Some (WrongType, name)))) (sooner_told passed (in_range passed_of range))
    (standing true false false false)

abbrev pub nothing_typed : ℕ → Option (List Sight) → Range → Sight
nothing_typed name given range = stray name (given_told argument_told given) (given_told passed_of given) range

abbrev pub called_typed : ℕ → Sense → List Sight → Range → Sight
called_typed name (Itself signature) actuals range = itself (function_typed name signature actuals range)
called_typed name (Procedure signature) actuals range = function_typed name signature actuals range
called_typed name (Generic specifics) actuals range = generic_typed name (choice specifics actuals) actuals range
called_typed name _ actuals range = nothing_typed name (Some actuals) range

-- with arguments, a call
abbrev pub given_typed : ℕ → Sense → Option (List Sight) → Range → Sight
given_typed name sense None range = nothing_typed name None range
given_typed name sense (Some given) range = called_typed name sense (map argument given) range

abbrev pub intrinsic_given : ℕ → intrinsics.Intrinsic → Option (List Sight) → Range → Sight
intrinsic_given name function None range = nothing_typed name None range
intrinsic_given name function (Some given) range = intrinsic_typed name function given range

abbrev pub reference_typed : ℕ → Sense → Option (List Sight) → Range → Sight
reference_typed name (Data k may) given range = data_typed name k may given range
reference_typed name (Intrinsic function) given range = intrinsic_given name function given range
reference_typed name Other given range = nothing_typed name given range
reference_typed name sense given range = given_typed name sense given range
