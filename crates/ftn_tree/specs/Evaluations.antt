-- Constant expressions (Fortran 90, 7.1.6.1): what they give, and what is told of their parts, by what names are in them.
use Rattle.std.specs.Prelude.{ℕ, ℤ, pos, ◌==◌, Bool, true, false, if◌then◌else◌, List, [], ◌∷◌, ◌++◌, map, length, take, drop, Option, Some, None, Result, Ok, Err}
use Rattle.std.specs.List.{filter_map, flat_map}
use Rattle.std.specs.Option.{is_some, option_map, option_and_then}
use Rattle.ftn_base.specs.declared.fault.FaultKind.{FaultKind}
use Rattle.ftn_base.specs.declared.fault.FaultKind.TheVariants.{Overflow, Zero, NotConstant}
use Rattle.ftn_tree.specs.declared.operator.Operator.{Operator}
use Rattle.ftn_tree.specs.declared.value.Value.{Value}
use Rattle.ftn_tree.specs.declared.value.Value.TheVariants as value
use Rattle.ftn_tree.specs.Trees.{Tree, whole, truth, quoted, paren, unary, binary, refer, Args, no_args, args, Trees, none, more, Section, no_section, section, End, no_end, end}
use Rattle.ftn_tree.specs.declared.intrinsic.ValueFault.{ValueFault}
use Rattle.ftn_tree.specs.declared.intrinsic.ValueFault.TheVariants.{TooBig, ByZero, OutOfRange, IllTyped}
use Rattle.ftn_tree.specs.Operations.{binary_of, unary_of}
use Rattle.ftn_tree.specs.declared.intrinsic.Intrinsic as intrinsics
use Rattle.ftn_tree.specs.Intrinsics.{intrinsic_value}
use Rattle.ftn_tree.specs.Arrays.{axis_from, place_in, substring}

-- what a name is in a constant expression: an intrinsic function; a named constant, with its value where it has one, its rank, and its bounds
-- where they are known; anything else, which has no place there
pub data Naming : Type 0 where
  Intrinsic : intrinsics.Intrinsic → Naming
  Constant : Option Value → ℕ → Option (List (ℤ × ℤ)) → Naming
  Stray : Naming

-- the first token of an expression; its value; the names in it that have no place there; the operations that have no value, each by the first
-- token of the smallest expression concerned
pub record Evaluated : Type 0 where
  pub first : ℕ
  pub value : Option Value
  pub strays : List ℕ
  pub breaches : List (ValueFault × ℕ)

abbrev pub sure : ℕ → Value → Evaluated
sure token v = record { first = token; value = Some v; strays = []; breaches = [] }

abbrev pub stray : ℕ → Evaluated
stray token = record { first = token; value = None; strays = token ∷ []; breaches = [] }

-- ---- operations on parts

abbrev pub value_in : Option (Result Value ValueFault) → Option Value
value_in (Some (Ok v)) = Some v
value_in _ = None

abbrev pub breach_in : ℕ → Option (Result Value ValueFault) → List (ValueFault × ℕ)
breach_in first (Some (Err breach)) = (breach, first) ∷ []
breach_in first _ = []

-- an operation on parts, by its first token and what it gives, where the values that it needs are there
abbrev pub operation : ℕ → List Evaluated → Option (Result Value ValueFault) → Evaluated
operation first parts found = record {
  first = first;
  value = value_in found;
  strays = flat_map (λ (part : Evaluated). part.strays) parts;
  breaches = flat_map (λ (part : Evaluated). part.breaches) parts ++ breach_in first found;
}

abbrev pub all_values : List Evaluated → Option (List Value)
all_values [] = Some []
all_values (part ∷ parts) = option_and_then (λ v. option_map (λ vs. v ∷ vs) (all_values parts)) part.value

abbrev pub binary_value : Operator → Option Value → Option Value → Option (Result Value ValueFault)
binary_value operator (Some a) (Some b) = Some (binary_of operator a b)
binary_value operator _ _ = None

-- ---- elements and substrings of constants (6.1.1, 6.2.2)

abbrev pub all_wholes : List Value → Option (List ℤ)
all_wholes [] = Some []
all_wholes (value.Whole z ∷ rest) = option_map (λ zs. z ∷ zs) (all_wholes rest)
all_wholes other = None

abbrev pub if_in_range : Bool → Value → Result Value ValueFault
if_in_range true v = Ok v
if_in_range false v = Err OutOfRange

-- so many subscripts as there are dimensions, all integers, and in range where the bounds are known
abbrev pub at_element : Value → ℕ → Option (List (ℤ × ℤ)) → Option (List ℤ) → Option (Result Value ValueFault)
at_element v rank bounds None = Some (Err IllTyped)
at_element v rank bounds (Some zs) =
    if rank == 0 then Some (Err IllTyped)
    else if length zs == rank then option_map (λ pairs. if_in_range (is_some (place_in (map axis_from pairs) zs)) v) bounds
    else Some (Err IllTyped)

abbrev pub element_of : ℕ → Option (List (ℤ × ℤ)) → Option (List Evaluated) → Value → Option (Result Value ValueFault)
element_of rank bounds None v = if rank == 0 then Some (Ok v) else Some (Err IllTyped)
element_of rank bounds (Some subscripts) v = option_and_then (λ vs. at_element v rank bounds (all_wholes vs)) (all_values subscripts)

abbrev pub cut : List ℕ → Option (ℕ × ℕ) → Result Value ValueFault
cut text (Some (from, count)) = Ok (value.Chars (take count (drop from text)))
cut text None = Err OutOfRange

-- of a text the characters from one to another
abbrev pub part_of : Value → Value → Value → Result Value ValueFault
part_of (value.Chars text) (value.Whole low) (value.Whole high) = cut text (substring (length text) low high)
part_of _ _ _ = Err IllTyped

-- a bound that isn't written is the first character or the last one
abbrev pub last_of : Value → Value
last_of (value.Chars text) = value.Whole (pos (length text))
last_of other = value.Whole (pos 1)

abbrev pub bound_or : Value → Option Evaluated → Option Value
bound_or v None = Some v
bound_or v (Some part) = part.value

abbrev pub substring_of : Option (Option Evaluated × Option Evaluated) → Value → Option (Result Value ValueFault)
substring_of None v = Some (Ok v)
substring_of (Some (low, high)) v =
    option_and_then (λ a. option_map (part_of v a) (bound_or (last_of v) high)) (bound_or (value.Whole (pos 1)) low)

abbrev pub then_part : Option (Option Evaluated × Option Evaluated) → Option (Result Value ValueFault) → Option (Result Value ValueFault)
then_part range (Some (Ok v)) = substring_of range v
then_part range other = other

-- ---- references

abbrev pub ends_of : Option (Option Evaluated × Option Evaluated) → List Evaluated
ends_of None = []
ends_of (Some (low, high)) = filter_map (λ part. part) (low ∷ high ∷ [])

abbrev pub parts_of : Option (List Evaluated) → Option (Option Evaluated × Option Evaluated) → List Evaluated
parts_of None range = ends_of range
parts_of (Some given) range = given ++ ends_of range

-- no range stands behind a function
abbrev pub function_value : intrinsics.Intrinsic → List Evaluated → Option (Option Evaluated × Option Evaluated) → Option (Result Value ValueFault)
function_value function given None = option_map (intrinsic_value function) (all_values given)
function_value function given (Some range) = None

abbrev pub reference : ℕ → Naming → Option (List Evaluated) → Option (Option Evaluated × Option Evaluated) → Evaluated
reference name (Intrinsic function) (Some given) range = operation name (parts_of (Some given) range) (function_value function given range)
reference name (Constant v rank bounds) given range =
    operation name (parts_of given range) (then_part range (option_and_then (element_of rank bounds given) v))
reference name _ given range = stray name

-- ---- expressions

abbrev pub in_parens : ℕ → Evaluated → Evaluated
in_parens token inner = record { first = token; value = inner.value; strays = inner.strays; breaches = inner.breaches }

abbrev pub unary_operation : ℕ → Operator → Evaluated → Evaluated
unary_operation op operator arg = operation op (arg ∷ []) (option_map (unary_of operator) arg.value)

abbrev pub binary_operation : Operator → Evaluated → Evaluated → Evaluated
binary_operation operator left right = operation left.first (left ∷ right ∷ []) (binary_value operator left.value right.value)

module _ (naming : ℕ → Naming) where
  abbrev mutual
    pub evaluated : Tree → Evaluated
    evaluated (whole token z) = sure token (value.Whole z)
    evaluated (truth token t) = sure token (value.Truth t)
    evaluated (quoted token text) = sure token (value.Chars text)
    evaluated (paren token inner) = in_parens token (evaluated inner)
    evaluated (unary op operator arg) = unary_operation op operator (evaluated arg)
    evaluated (binary op operator left right) = binary_operation operator (evaluated left) (evaluated right)
    evaluated (refer name given part) = reference name (naming name) (evaluated_args given) (evaluated_section part)

    pub evaluated_args : Args → Option (List Evaluated)
    evaluated_args no_args = None
    evaluated_args (args given) = Some (evaluated_all given)

    pub evaluated_all : Trees → List Evaluated
    evaluated_all none = []
    evaluated_all (more tree rest) = evaluated tree ∷ evaluated_all rest

    pub evaluated_section : Section → Option (Option Evaluated × Option Evaluated)
    evaluated_section no_section = None
    evaluated_section (section low high) = Some (evaluated_end low, evaluated_end high)

    pub evaluated_end : End → Option Evaluated
    evaluated_end no_end = None
    evaluated_end (end tree) = Some (evaluated tree)

-- ---- what is told of operations (this project's own)

abbrev pub told_of : ValueFault → Option FaultKind
told_of TooBig = Some Overflow
told_of ByZero = Some Zero
told_of OutOfRange = Some NotConstant
told_of IllTyped = None
