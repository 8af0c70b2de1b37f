-- Types and ranks of expressions, and what is told of their parts (Fortran 90, 2.4.5, 6.1.1, 6.2.2, 7.1.4, 12.4.1, 13.10), by what names are. An
-- expression in which something is told has no type, and the place that holds it tells nothing more (this project's own).
use Rattle.std.specs.Prelude.{ℕ, ◌==◌, nat_lt, Bool, true, false, not, ◌&&◌, ◌||◌, if◌then◌else◌, List, [], ◌∷◌, ◌++◌, map, length, zip, Option, Some, None}
use Rattle.std.specs.List.{filter, filter_map, flat_map, list_all, list_any}
use Rattle.std.specs.Option.{is_some, is_none, option_map_or, option_and_then, unwrap_or}
use Rattle.ftn_base.specs.declared.fault.FaultKind.{FaultKind}
use Rattle.ftn_base.specs.declared.fault.FaultKind.TheVariants.{WrongType, WrongCount, NoSpecific, TwoSpecifics, NotDefinable}
use Rattle.ftn_tree.specs.declared.operator.Operator.{Operator}
use Rattle.ftn_tree.specs.Trees.{Tree, whole, truth, quoted, paren, unary, binary, refer, Args, no_args, args, Trees, none, more, Section, no_section, section, End, no_end, end}
use Rattle.ftn_tree.specs.Sorts.{Sort, Whole, Truth, Text, same_sort, is_relation, sort_of_operator, is_comparable}
use Rattle.ftn_tree.specs.declared.intrinsic.Intrinsic as intrinsics
use Rattle.ftn_tree.specs.declared.intrinsic.Intrinsic.TheVariants.{Min, Max}
use Rattle.ftn_tree.specs.Intrinsics.{wants_of, gives_of}
use Rattle.ftn_tree.specs.KeyKinds.{Kind, kind}
use Rattle.ftn_tree.specs.Procedures.{Formal, Signature, Sense, Data, Itself, Procedure, Generic, Intrinsic}

-- a fault with its token
abbrev pub Told : Type 0
Told = FaultKind × ℕ

-- how an expression stands where a variable may: a reference or not, an element of an array, by the name of a variable or the like, one that
-- may be defined
pub record Standing : Type 0 where
  pub reference : Bool
  pub element : Bool
  pub datum : Bool
  pub definable : Bool

abbrev pub standing : Bool → Bool → Bool → Bool → Standing
standing reference element datum definable = record { reference = reference; element = element; datum = datum; definable = definable }

abbrev pub no_reference : Standing
no_reference = standing false false false false

-- the first token of an expression; its type and rank; what is told of it; arguments that are passed to be defined and may not be; how it stands
pub record Typed : Type 0 where
  pub first : ℕ
  pub kind : Option Kind
  pub told : List Told
  pub passed : List Told
  pub standing : Standing

abbrev pub outcome : ℕ → Option Kind → List Told → List Told → Standing → Typed
outcome first k told passed how = record { first = first; kind = k; told = told; passed = passed; standing = how }

abbrev pub if_nothing : List Told → Kind → Option Kind
if_nothing [] k = Some k
if_nothing told k = None

abbrev pub if_told : Bool → FaultKind → ℕ → List Told
if_told holds what token = if holds then (what, token) ∷ [] else []

-- an expression that is no reference
abbrev pub expression : ℕ → Kind → List Told → List Told → Typed
expression first k told passed = outcome first (if_nothing told k) told passed no_reference

abbrev pub all_passed : List Typed → List Told
all_passed parts = flat_map (λ (t : Typed). t.passed) parts

-- ---- what places want

abbrev pub same_kind : Kind → Kind → Bool
same_kind one other = same_sort one.sort other.sort && (one.rank == other.rank)

abbrev pub is_kind : Kind → Option Kind → Bool
is_kind k None = false
is_kind k (Some found) = same_kind k found

-- it has a type, and that doesn't pass
abbrev pub fails : (Kind → Bool) → Typed → Bool
fails test t = option_map_or (λ k. not (test k)) t.kind false

-- of an expression in a place that wants a type and rank
abbrev pub wanted : Kind → Typed → List Told
wanted k t = t.told ++ if_told (fails (same_kind k) t) WrongType t.first

abbrev pub integer : Kind
integer = kind Whole 0

abbrev pub logical : Kind
logical = kind Truth 0

abbrev pub character : Kind
character = kind Text 0

-- ---- operators (7.1.4)

abbrev pub in_parens : ℕ → Typed → Typed
in_parens token inner = outcome token inner.kind inner.told inner.passed no_reference

abbrev pub unary_typed : ℕ → Operator → Typed → Typed
unary_typed op operator arg = let want = kind (sort_of_operator operator) 0 in expression op want (wanted want arg) arg.passed

-- 7.2.3: an operand of a relation
abbrev pub may_be_compared : Kind → Bool
may_be_compared k = is_comparable k.sort && (k.rank == 0)

abbrev pub compared : Typed → List Told
compared t = t.told ++ if_told (fails may_be_compared t) WrongType t.first

-- both operands may be compared, and their types differ
abbrev pub differ : Option Kind → Option Kind → Bool
differ (Some one) (Some other) = may_be_compared one && may_be_compared other && not (same_kind one other)
differ _ _ = false

abbrev pub relation_typed : Typed → Typed → Typed
relation_typed left right =
    expression left.first logical (compared left ++ (compared right ++ if_told (differ left.kind right.kind) WrongType left.first)) (left.passed ++ right.passed)

abbrev pub other_typed : Operator → Typed → Typed → Typed
other_typed operator left right =
    let want = kind (sort_of_operator operator) 0 in
    expression left.first want (wanted want left ++ wanted want right) (left.passed ++ right.passed)

abbrev pub binary_typed : Operator → Typed → Typed → Typed
binary_typed operator left right = if is_relation operator then relation_typed left right else other_typed operator left right

-- ---- elements and substrings (6.1.1, 6.2.2)

abbrev pub Range : Type 0
Range = Option (Option Typed × Option Typed)

abbrev pub ends_of : Range → List Typed
ends_of None = []
ends_of (Some (low, high)) = filter_map (λ part. part) (low ∷ high ∷ [])

abbrev pub range_told : Range → List Told
range_told range = flat_map (wanted integer) (ends_of range)

-- as many subscripts as dimensions, and none of a scalar
abbrev pub count_told : ℕ → ℕ → Option (List Typed) → List Told
count_told name rank None = []
count_told name rank (Some subscripts) = if_told (not (length subscripts == rank)) WrongCount name ++ if_told ((length subscripts == 0) && (rank == 0)) WrongType name

-- a substring range stands behind a text, and not behind an array
abbrev pub ranged_told : ℕ → Kind → Option (List Typed) → Range → List Told
ranged_told name k given None = []
ranged_told name k given (Some ends) = if_told (not (same_sort k.sort Text) || (is_none given && nat_lt 0 k.rank)) WrongType name

abbrev pub data_told : ℕ → Kind → Option (List Typed) → Range → List Told
data_told name k given range =
    flat_map (wanted integer) (unwrap_or given []) ++ (range_told range ++ (count_told name k.rank given ++ ranged_told name k given range))

-- an element or a substring is a scalar
abbrev pub kind_with : Kind → Option (List Typed) → Kind
kind_with k given = kind k.sort (if is_some given then 0 else k.rank)

abbrev pub is_element : Kind → Option (List Typed) → Range → Bool
is_element k given range = is_some given && is_none range && nat_lt 0 k.rank

abbrev pub data_typed : ℕ → Kind → Bool → Option (List Typed) → Range → Typed
data_typed name k may given range =
    outcome name (if_nothing (data_told name k given range) (kind_with k given)) (data_told name k given range)
    (all_passed (unwrap_or given [] ++ ends_of range)) (standing true (is_element k given range) true may)

-- ---- actual arguments (12.4.1)

abbrev pub is_array : Kind → Bool
is_array k = nat_lt 0 k.rank

-- a whole array is passed or put out by its name alone
abbrev pub argument_told : Typed → List Told
argument_told t = t.told ++ if_told (not t.standing.reference && fails (λ k. not (is_array k)) t) WrongType t.first

abbrev pub argument : Typed → Typed
argument t = outcome t.first (option_and_then (if_nothing (argument_told t)) t.kind) (argument_told t) t.passed t.standing

-- 12.4.1.1: it has its dummy argument's type; a scalar goes to a scalar, an array or an element of one to an array
abbrev pub takes : Option Kind → Bool → Kind → Bool
takes None element k = true
takes (Some want) element k = same_sort want.sort k.sort && (if is_array want then is_array k || element else not (is_array k))

abbrev pub misfit : Formal × Typed → List Told
misfit (formal, t) = if_told (fails (takes formal.kind t.standing.element) t) WrongType t.first

-- what is passed to be defined may be defined (5.1.2.3)
abbrev pub undefinable : Formal × Typed → List Told
undefinable (formal, t) = if_told (formal.out && is_some t.kind && not t.standing.definable) NotDefinable t.first

abbrev pub misfits : ℕ → List Formal → List Typed → List Told
misfits name formals actuals = if length formals == length actuals then flat_map misfit (zip formals actuals) else (WrongCount, name) ∷ []

abbrev pub undefinables : List Formal → List Typed → List Told
undefinables formals actuals = if length formals == length actuals then flat_map undefinable (zip formals actuals) else []

-- ---- generic references (12.4.4, 14.1.2.3)

abbrev pub is_exact : Formal × Typed → Bool
is_exact (formal, t) = option_map_or (λ k. is_kind k t.kind) formal.kind false

-- number, types and ranks of its dummy arguments are exactly the actual ones
abbrev pub fits : List Typed → Signature → Bool
fits actuals signature = (length signature.formals == length actuals) && list_all is_exact (zip signature.formals actuals)

abbrev pub fitting : List Typed → List Signature → List Signature
fitting actuals specifics = filter (fits actuals) specifics

abbrev pub choice_told : ℕ → List Signature → List Told
choice_told name [] = (NoSpecific, name) ∷ []
choice_told name (specific ∷ []) = []
choice_told name others = (TwoSpecifics, name) ∷ []

-- the one specific procedure that is meant
abbrev pub chosen : List Signature → Option Signature
chosen (specific ∷ []) = Some specific
chosen _ = None

-- where something is told of an argument no specific procedure is looked for
abbrev pub generic_told : ℕ → List Signature → List Typed → List Told
generic_told name specifics actuals =
    if list_any (λ (t : Typed). is_none t.kind) actuals then [] else choice_told name (fitting actuals specifics)

abbrev pub meant : List Signature → List Typed → Option Signature
meant specifics actuals = if list_any (λ (t : Typed). is_none t.kind) actuals then None else chosen (fitting actuals specifics)

-- ---- function references (12.4.2)

abbrev pub all_told : List Typed → List Told
all_told parts = flat_map (λ (t : Typed). t.told) parts

-- its result is a scalar, and it is a function
abbrev pub result_told : ℕ → Signature → List Told
result_told name signature = if_told (not signature.function || option_map_or is_array signature.result false) WrongType name

abbrev pub scalar_of : Option Kind → Kind
scalar_of None = integer
scalar_of (Some k) = kind k.sort 0

-- a function reference, by what is told of it and what its arguments can't be passed to. A range behind it isn't taken
abbrev pub call_typed : ℕ → Kind → List Told → List Told → List Typed → Range → Typed
call_typed name k told passed actuals range =
    let all = told ++ (range_told range ++ if_told (is_some range && is_some (if_nothing told k)) WrongType name) in
    outcome name (if_nothing all k) all (all_passed (actuals ++ ends_of range) ++ passed) (standing true false false false)

abbrev pub function_typed : ℕ → Signature → List Typed → Range → Typed
function_typed name signature actuals range =
    call_typed name (scalar_of signature.result) (all_told actuals ++ (misfits name signature.formals actuals ++ result_told name signature))
    (undefinables signature.formals actuals) actuals range

abbrev pub meant_result : Option Signature → Kind
meant_result None = integer
meant_result (Some signature) = scalar_of signature.result

abbrev pub generic_typed : ℕ → List Signature → List Typed → Range → Typed
generic_typed name specifics actuals range =
    let found = meant specifics actuals in
    call_typed name (meant_result found) (all_told actuals ++ (generic_told name specifics actuals ++ option_map_or (result_told name) found []))
    (option_map_or (λ (s : Signature). undefinables s.formals actuals) found []) actuals range

-- 13.10: MIN and MAX have two arguments or more, the others as many as they want
abbrev pub wants_for : intrinsics.Intrinsic → List Typed → List Sort
wants_for Min actuals = map (λ t. Whole) actuals
wants_for Max actuals = map (λ t. Whole) actuals
wants_for function actuals = wants_of function

abbrev pub is_enough : intrinsics.Intrinsic → ℕ → Bool
is_enough Min count = nat_lt 1 count
is_enough Max count = nat_lt 1 count
is_enough function count = length (wants_of function) == count

abbrev pub wanted_sort : Sort × Typed → List Told
wanted_sort (sort, t) = wanted (kind sort 0) t

abbrev pub intrinsic_told : ℕ → intrinsics.Intrinsic → List Typed → List Told
intrinsic_told name function actuals =
    if length (wants_for function actuals) == length actuals
    then flat_map wanted_sort (zip (wants_for function actuals) actuals) ++ if_told (not (is_enough function (length actuals))) WrongCount name
    else flat_map argument_told actuals ++ (WrongCount, name) ∷ []

abbrev pub intrinsic_typed : ℕ → intrinsics.Intrinsic → List Typed → Range → Typed
intrinsic_typed name function actuals range = call_typed name (kind (gives_of function) 0) (intrinsic_told name function actuals) [] actuals range

-- ---- references

-- a function in itself, with arguments: a call, of a name that is also its result's
abbrev pub itself : Typed → Typed
itself t = outcome t.first t.kind t.told t.passed (standing true false true false)

abbrev pub nothing_typed : ℕ → List Typed → Range → Typed
nothing_typed name actuals range =
    outcome name None (flat_map argument_told actuals ++ (range_told range ++ (WrongType, name) ∷ [])) (all_passed (actuals ++ ends_of range))
    (standing true false false false)

abbrev pub reference_typed : ℕ → Sense → Option (List Typed) → Range → Typed
reference_typed name (Data k may) given range = data_typed name k may given range
reference_typed name (Itself signature) (Some actuals) range = itself (function_typed name signature (map argument actuals) range)
reference_typed name (Procedure signature) (Some actuals) range = function_typed name signature (map argument actuals) range
reference_typed name (Generic specifics) (Some actuals) range = generic_typed name specifics (map argument actuals) range
reference_typed name (Intrinsic function) (Some actuals) range = intrinsic_typed name function actuals range
reference_typed name _ given range = nothing_typed name (unwrap_or given []) range

-- ---- expressions

module _ (sense : ℕ → Bool → Sense) where
  abbrev mutual
    pub typed : Tree → Typed
    typed (whole token z) = expression token integer [] []
    typed (truth token t) = expression token logical [] []
    typed (quoted token text) = expression token character [] []
    typed (paren token inner) = in_parens token (typed inner)
    typed (unary op operator arg) = unary_typed op operator (typed arg)
    typed (binary op operator left right) = binary_typed operator (typed left) (typed right)
    typed (refer name given part) =
        reference_typed name (sense name (is_some (typed_args given))) (typed_args given) (typed_section part)

    pub typed_args : Args → Option (List Typed)
    typed_args no_args = None
    typed_args (args given) = Some (typed_all given)

    pub typed_all : Trees → List Typed
    typed_all none = []
    typed_all (more tree rest) = typed tree ∷ typed_all rest

    pub typed_section : Section → Option (Option Typed × Option Typed)
    typed_section no_section = None
    typed_section (section low high) = Some (typed_end low, typed_end high)

    pub typed_end : End → Option Typed
    typed_end no_end = None
    typed_end (end tree) = Some (typed tree)
