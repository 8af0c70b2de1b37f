-- Arithmetic on integers of 32 bits (Fortran 90, 7.1.5.2): each operation is the one on whole numbers without bounds, and its
-- result is kept where it has 32 bits. The width and the faults are this project's own.
use Rattle.std.specs.Prelude.{suc, ◌^◌, ◌==◌, Bool, if◌then◌else◌, ℤ, pos, negsuc, neg_ℤ, ◌+ℤ◌, ◌-ℤ◌, ◌*ℤ◌, nat_lt, int_div, unsigned_abs, Result, Ok, Err}
use Rattle.std.specs.Int.{int_pow}
use Rattle.ftn_base.specs.declared.arithmetic.ArithmeticFault.{ArithmeticFault}
use Rattle.ftn_base.specs.declared.arithmetic.ArithmeticFault.TheVariants.{Overflow, Zero}

-- an integer of 32 bits, from -2^31 to 2^31 - 1
abbrev pub is_integer : ℤ → Bool
is_integer (pos n) = nat_lt n (2 ^ 31)
is_integer (negsuc n) = nat_lt n (2 ^ 31)

-- the whole number, where it is an integer
abbrev pub kept : ℤ → Result ℤ ArithmeticFault
kept z = if is_integer z then Ok z else Err Overflow

abbrev pub sum : ℤ → ℤ → Result ℤ ArithmeticFault
sum a b = kept (a +ℤ b)

abbrev pub difference : ℤ → ℤ → Result ℤ ArithmeticFault
difference a b = kept (a -ℤ b)

abbrev pub product : ℤ → ℤ → Result ℤ ArithmeticFault
product a b = kept (a *ℤ b)

abbrev pub negative : ℤ → Result ℤ ArithmeticFault
negative a = kept (neg_ℤ a)

-- 7.1.5.2.1: the quotient is truncated toward zero
abbrev pub quotient : ℤ → ℤ → Result ℤ ArithmeticFault
quotient a b = if unsigned_abs b == 0 then Err Zero else kept (int_div a b)

-- a negative exponent gives 1 divided by the power; 0 to the power 0 is 1
abbrev pub power : ℤ → ℤ → Result ℤ ArithmeticFault
power base (pos n) = kept (int_pow base n)
power base (negsuc n) = quotient (pos 1) (int_pow base (suc n))
