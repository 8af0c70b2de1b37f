-- Types of expressions, without lengths (Fortran 90, 7.1.4, 7.2, 12.4.1): those of an expression whose parts have the types that they
-- are to have, else none.
use Rattle.std.specs.Prelude.{ℕ, ◌+◌, not, map, Bool, true, false, ◌&&◌, ◌||◌, ◌==◌, if◌then◌else◌, List, [], ◌∷◌, length, slice_get, Option, Some, None}
use Rattle.std.specs.List.{list_all}
use Rattle.ftn_tree.specs.Sorts.{Sort, Whole, Truth, Text, is_sort, sort_of_type, sort_of_value, is_relation}
use Rattle.ftn_tree.specs.declared.operator.Operator.{Operator}
use Rattle.ftn_tree.specs.declared.operator.Operator.TheVariants as operator
use Rattle.ftn_tree.specs.declared.intrinsic.Intrinsic.{Intrinsic}
use Rattle.ftn_tree.specs.declared.intrinsic.Intrinsic.TheVariants as function
use Rattle.core_prog.specs.declared.storage.Variable.{Variable}
use Rattle.core_prog.specs.Programs.{Program, Procedure}
use Rattle.core_prog.specs.Terms.{Term, literal, paren, unary, binary, variable, constant, intrinsic, call, Terms, none, more, Designator, designator, Named, named, Section, no_section, section, Bound, no_bound, bound, Passed, no_passed, by_value, alone, to_end, constants}

infixl 10 ◌>>=◌
abbrev pub ◌>>=◌ : {A B : Type 0} → Option A → (A → Option B) → Option B
None >>= f = None
Some a >>= f = f a

abbrev pub if_so : Bool → Sort → Option Sort
if_so holds sort = if holds then Some sort else None

abbrev pub is_arithmetic : Operator → Bool
is_arithmetic operator.Power = true
is_arithmetic operator.Times = true
is_arithmetic operator.Divide = true
is_arithmetic operator.Plus = true
is_arithmetic operator.Minus = true
is_arithmetic other = false

abbrev pub is_logical : Operator → Bool
is_logical operator.And = true
is_logical operator.Or = true
is_logical operator.Eqv = true
is_logical operator.Neqv = true
is_logical other = false

abbrev pub is_concat : Operator → Bool
is_concat operator.Concat = true
is_concat other = false

abbrev pub of_two : Operator → Sort → Sort → Option Sort
of_two operator Whole Whole = if is_arithmetic operator then Some Whole else if_so (is_relation operator) Truth
of_two operator Truth Truth = if_so (is_logical operator) Truth
of_two operator Text Text = if is_concat operator then Some Text else if_so (is_relation operator) Truth
of_two operator a b = None

abbrev pub of_one : Operator → Sort → Option Sort
of_one operator.Plus Whole = Some Whole
of_one operator.Minus Whole = Some Whole
of_one operator.Not Truth = Some Truth
of_one operator sort = None

-- 13.10: the result for one argument
abbrev pub of_single : Intrinsic → Sort → Option Sort
of_single function.Abs Whole = Some Whole
of_single function.Char Whole = Some Text
of_single function.Len Text = Some Whole
of_single function.LenTrim Text = Some Whole
of_single function.Trim Text = Some Text
of_single function.Ichar Text = Some Whole
of_single other sort = None

abbrev pub are_all_wholes : List Sort → Bool
are_all_wholes sorts = list_all (λ sort. is_sort Whole (Some sort)) sorts

-- 13.10: the result for two arguments and more
abbrev pub of_several : Intrinsic → Sort → Sort → List Sort → Option Sort
of_several function.Mod Whole Whole [] = Some Whole
of_several function.Sign Whole Whole [] = Some Whole
of_several function.Index Text Text [] = Some Whole
of_several function.Min Whole Whole rest = if_so (are_all_wholes rest) Whole
of_several function.Max Whole Whole rest = if_so (are_all_wholes rest) Whole
of_several other first second rest = None

abbrev pub of_intrinsic : Intrinsic → List Sort → Option Sort
of_intrinsic function [] = None
of_intrinsic function (sort ∷ []) = of_single function sort
of_intrinsic function (first ∷ second ∷ rest) = of_several function first second rest

abbrev pub is_scalar : Variable → Bool
is_scalar v = length v.dimensions == 0

-- a procedure's result
abbrev pub result_sort : Program → Procedure → Option Sort
result_sort program proc = proc.result >>= (λ number. slice_get program.variables number >>= (λ v. if_so (is_scalar v) (sort_of_type v.ty)))

-- a substring range stands behind a text
abbrev pub ranged : Bool → Sort → Option Sort
ranged has_range Text = Some Text
ranged has_range sort = if_so (not has_range) sort

-- so many subscripts as there are dimensions
abbrev pub element_sort : ℕ → ℕ → Bool → Sort → Option Sort
element_sort rank subscripts has_range sort = if rank == subscripts then ranged has_range sort else None

abbrev pub count_of : Terms → ℕ
count_of none = 0
count_of (more term rest) = 1 + count_of rest

abbrev pub is_empty : Terms → Bool
is_empty none = true
is_empty (more term rest) = false

abbrev pub has_range : Section → Bool
has_range no_section = false
has_range (section low high) = true

-- the dummy arguments of a procedure, as variables
abbrev pub dummies_of : Program → Procedure → List (Option Variable)
dummies_of program proc = map (λ number. slice_get program.variables number) proc.dummies

-- an actual argument has its dummy argument's type
abbrev pub fits : Option Sort → Bool → Option Variable → Bool
fits sort scalar None = false
fits sort scalar (Some v) = is_sort (sort_of_type v.ty) sort && (if scalar then is_scalar v else not (is_scalar v))

module _ (program : Program) where
  abbrev mutual
    pub sort_of : Term → Option Sort
    sort_of (literal v) = Some (sort_of_value v)
    sort_of (paren inner) = sort_of inner
    sort_of (unary at operator arg) = sort_of arg >>= of_one operator
    sort_of (binary at operator left right) = sort_of left >>= (λ a. sort_of right >>= of_two operator a)
    sort_of (variable of) = sort_of_designator of
    sort_of (constant of) = sort_of_named of
    sort_of (intrinsic at function args) = sorts_of args >>= of_intrinsic function
    sort_of (call at number args) = slice_get program.procedures number >>= (λ proc. if are_passed args (dummies_of program proc) then result_sort program proc else None)

    pub sorts_of : Terms → Option (List Sort)
    sorts_of none = Some []
    sorts_of (more term rest) = sort_of term >>= (λ sort. sorts_of rest >>= (λ sorts. Some (sort ∷ sorts)))

    pub are_wholes : Terms → Bool
    are_wholes none = true
    are_wholes (more term rest) = is_sort Whole (sort_of term) && are_wholes rest

    pub is_whole : Bound → Bool
    is_whole no_bound = true
    is_whole (bound term) = is_sort Whole (sort_of term)

    pub is_range : Section → Bool
    is_range no_section = true
    is_range (section low high) = is_whole low && is_whole high

    -- a scalar variable, an element or a substring
    pub sort_of_designator : Designator → Option Sort
    sort_of_designator (designator at number subscripts range) =
        slice_get program.variables number >>= (λ v.
        if are_wholes subscripts && is_range range then element_sort (length v.dimensions) (count_of subscripts) (has_range range) (sort_of_type v.ty) else None)

    -- the same, or a whole array
    pub sort_of_array : Designator → Option Sort
    sort_of_array (designator at number subscripts range) =
        slice_get program.variables number >>= (λ v.
        if are_wholes subscripts && (is_empty subscripts || count_of subscripts == length v.dimensions) && not (has_range range) && not (is_scalar v) then Some (sort_of_type v.ty) else None)

    pub sort_of_named : Named → Option Sort
    sort_of_named (named at v bounds subscripts range) = if are_wholes subscripts && is_range range then element_sort (length bounds) (count_of subscripts) (has_range range) (sort_of_value v) else None

    pub sort_of_constants : Named → Option Sort
    sort_of_constants (named at v bounds subscripts range) =
        if are_wholes subscripts && (is_empty subscripts || count_of subscripts == length bounds) && not (has_range range) && not (length bounds == 0) then Some (sort_of_value v) else None

    pub are_passed : Passed → List (Option Variable) → Bool
    are_passed no_passed [] = true
    are_passed (by_value term rest) (v ∷ vs) = fits (sort_of term) true v && are_passed rest vs
    are_passed (alone of rest) (v ∷ vs) = fits (sort_of_designator of) true v && are_passed rest vs
    are_passed (to_end of rest) (v ∷ vs) = fits (sort_of_array of) false v && are_passed rest vs
    are_passed (constants of rest) (v ∷ vs) = fits (sort_of_constants of) false v && are_passed rest vs
    are_passed args vs = false
