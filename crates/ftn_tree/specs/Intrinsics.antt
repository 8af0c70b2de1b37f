-- The intrinsic functions of the profile (Fortran 90, 13.10, 13.13), for constants and for runs.
use Rattle.std.specs.Prelude.{ℕ, ℤ, pos, neg_ℤ, ◌+◌, ◌-◌, ◌==◌, if◌then◌else◌, List, [], ◌∷◌, length, take, codes, unsigned_abs, int_lt, int_le, int_rem, bytes_eq, Option, Some, None, Result, Ok, Err}
use Rattle.std.specs.List.{suffix_len}
use Rattle.ftn_base.specs.declared.arithmetic.ArithmeticFault.{ArithmeticFault}
use Rattle.ftn_base.specs.declared.arithmetic.ArithmeticFault.TheVariants as arithmetic
use Rattle.ftn_base.specs.Arithmetic.{kept}
use Rattle.ftn_tree.specs.declared.value.Value.{Value}
use Rattle.ftn_tree.specs.declared.value.Value.TheVariants.{Whole, Chars}
use Rattle.ftn_tree.specs.declared.intrinsic.Intrinsic.{Intrinsic}
use Rattle.ftn_tree.specs.declared.intrinsic.Intrinsic.TheVariants.{Abs, Mod, Sign, Min, Max, Len, LenTrim, Trim, Ichar, Char, Index}
use Rattle.ftn_tree.specs.declared.intrinsic.ValueFault.{ValueFault}
use Rattle.ftn_tree.specs.declared.intrinsic.ValueFault.TheVariants.{OutOfRange, IllTyped}
use Rattle.ftn_tree.specs.Operations.{whole_of}
use Rattle.ftn_tree.specs.Sorts as sort
use Rattle.ftn_tree.specs.Sorts.{Sort}

-- the functions with their names
abbrev pub functions : List (List ℕ × Intrinsic)
functions =
    (codes "abs", Abs) ∷ (codes "mod", Mod) ∷ (codes "sign", Sign) ∷ (codes "min", Min) ∷ (codes "max", Max) ∷ (codes "len", Len) ∷
    (codes "len_trim", LenTrim) ∷ (codes "trim", Trim) ∷ (codes "ichar", Ichar) ∷ (codes "char", Char) ∷ (codes "index", Index) ∷ []

abbrev pub named_in : List ℕ → List (List ℕ × Intrinsic) → Option Intrinsic
named_in name [] = None
named_in name (one ∷ rest) = if bytes_eq one.0 name then Some one.1 else named_in name rest

abbrev pub function_named : List ℕ → Option Intrinsic
function_named name = named_in name functions

-- ---- arguments and results (13.10)

-- the types of the arguments, all scalars; MIN and MAX have two integers and more
abbrev pub wants_of : Intrinsic → List Sort
wants_of Abs = sort.Whole ∷ []
wants_of Mod = sort.Whole ∷ sort.Whole ∷ []
wants_of Sign = sort.Whole ∷ sort.Whole ∷ []
wants_of Min = sort.Whole ∷ sort.Whole ∷ []
wants_of Max = sort.Whole ∷ sort.Whole ∷ []
wants_of Char = sort.Whole ∷ []
wants_of Index = sort.Text ∷ sort.Text ∷ []
wants_of other = sort.Text ∷ []

abbrev pub gives_of : Intrinsic → Sort
gives_of Trim = sort.Text
gives_of Char = sort.Text
gives_of other = sort.Whole

-- ---- values (13.13)

-- MOD has the sign of its first argument
abbrev pub remainder : ℤ → ℤ → Result ℤ ArithmeticFault
remainder a b = if unsigned_abs b == 0 then Err arithmetic.Zero else kept (int_rem a b)

-- SIGN: the magnitude of the first, with the sign of the second
abbrev pub signed : ℤ → ℤ → ℤ
signed a b = if int_le (pos 0) b then pos (unsigned_abs a) else neg_ℤ (pos (unsigned_abs a))

abbrev pub lesser : ℤ → ℤ → ℤ
lesser least z = if int_lt z least then z else least

abbrev pub greater : ℤ → ℤ → ℤ
greater most z = if int_lt most z then z else most

-- MIN and MAX: one of the integers, where all are integers
abbrev pub picked : (ℤ → ℤ → ℤ) → ℤ → List Value → Result Value ValueFault
picked pick z [] = Ok (Whole z)
picked pick z (Whole y ∷ rest) = picked pick (pick z y) rest
picked pick z other = Err IllTyped

-- TRIM: without the blanks at its end
abbrev pub trimmed : List ℕ → List ℕ
trimmed text = take (length text - suffix_len (λ byte. byte == 32) text) text

-- INDEX: where a text first stands in another, from 1, or 0
abbrev pub index_from : ℕ → List ℕ → List ℕ → ℕ
index_from at part [] = if bytes_eq part [] then at else 0
index_from at part (byte ∷ text) = if bytes_eq (take (length part) (byte ∷ text)) part then at else index_from (at + 1) part text

-- ICHAR of one character
abbrev pub code_of : List ℕ → Result Value ValueFault
code_of (byte ∷ []) = Ok (Whole (pos byte))
code_of other = Err OutOfRange

-- CHAR of a byte
abbrev pub char_of : ℤ → Result Value ValueFault
char_of z = if int_le (pos 0) z then (if int_lt z (pos 256) then Ok (Chars (unsigned_abs z ∷ [])) else Err OutOfRange) else Err OutOfRange

abbrev pub count_of : ℕ → Result Value ValueFault
count_of n = whole_of (kept (pos n))

abbrev pub of_number : Intrinsic → ℤ → Result Value ValueFault
of_number Abs a = count_of (unsigned_abs a)
of_number Char a = char_of a
of_number other a = Err IllTyped

abbrev pub of_text : Intrinsic → List ℕ → Result Value ValueFault
of_text Len a = count_of (length a)
of_text LenTrim a = count_of (length (trimmed a))
of_text Trim a = Ok (Chars (trimmed a))
of_text Ichar a = code_of a
of_text other a = Err IllTyped

abbrev pub of_numbers : Intrinsic → ℤ → ℤ → List Value → Result Value ValueFault
of_numbers Mod a b [] = whole_of (remainder a b)
of_numbers Sign a b [] = whole_of (kept (signed a b))
of_numbers Min a b rest = picked lesser (lesser a b) rest
of_numbers Max a b rest = picked greater (greater a b) rest
of_numbers other a b rest = Err IllTyped

abbrev pub of_pair : Intrinsic → List ℕ → List ℕ → List Value → Result Value ValueFault
of_pair Index a b [] = count_of (index_from 1 b a)
of_pair other a b rest = Err IllTyped

abbrev pub intrinsic_value : Intrinsic → List Value → Result Value ValueFault
intrinsic_value function (Whole a ∷ []) = of_number function a
intrinsic_value function (Chars a ∷ []) = of_text function a
intrinsic_value function (Whole a ∷ Whole b ∷ rest) = of_numbers function a b rest
intrinsic_value function (Chars a ∷ Chars b ∷ rest) = of_pair function a b rest
intrinsic_value function other = Err IllTyped
