-- Operators on values (Fortran 90, 7.2), for constants and for runs.
use Rattle.std.specs.Prelude.{ℕ, ℤ, ◌-◌, Bool, not, ◌&&◌, ◌||◌, if◌then◌else◌, List, ◌++◌, length, take, replicate, Option, Some, None, Result, Ok, Err}
use Rattle.std.specs.declared.cmp.Ordering.{Ordering}
use Rattle.std.specs.Ordering.{nat_cmp, int_cmp, is_eq, is_ne, is_lt, is_le, is_gt, is_ge}
use Rattle.std.specs.Cmp.Lexicographic.{slice_cmp}
use Rattle.ftn_base.specs.declared.arithmetic.ArithmeticFault.{ArithmeticFault}
use Rattle.ftn_base.specs.declared.arithmetic.ArithmeticFault.TheVariants as arithmetic
use Rattle.ftn_base.specs.Arithmetic.{sum, difference, product, quotient, power, negative}
use Rattle.ftn_tree.specs.declared.value.Value.{Value}
use Rattle.ftn_tree.specs.declared.value.Value.TheVariants.{Whole, Truth, Chars}
use Rattle.ftn_tree.specs.declared.operator.Operator.{Operator}
use Rattle.ftn_tree.specs.declared.operator.Operator.TheVariants as operator
use Rattle.ftn_tree.specs.declared.intrinsic.ValueFault.{ValueFault}
use Rattle.ftn_tree.specs.declared.intrinsic.ValueFault.TheVariants.{TooBig, ByZero, IllTyped}

abbrev pub whole_of : Result ℤ ArithmeticFault → Result Value ValueFault
whole_of (Ok z) = Ok (Whole z)
whole_of (Err arithmetic.Overflow) = Err TooBig
whole_of (Err arithmetic.Zero) = Err ByZero

abbrev pub truth_of : Option Bool → Result Value ValueFault
truth_of (Some truth) = Ok (Truth truth)
truth_of None = Err IllTyped

-- 7.1.4, 7.2.3: a relation, by how its operands compare
abbrev pub relation : Operator → Ordering → Option Bool
relation operator.Eq how = Some (is_eq how)
relation operator.Ne how = Some (is_ne how)
relation operator.Lt how = Some (is_lt how)
relation operator.Le how = Some (is_le how)
relation operator.Gt how = Some (is_gt how)
relation operator.Ge how = Some (is_ge how)
relation other how = None

-- 7.2.1, 7.2.3
abbrev pub of_wholes : Operator → ℤ → ℤ → Result Value ValueFault
of_wholes operator.Plus a b = whole_of (sum a b)
of_wholes operator.Minus a b = whole_of (difference a b)
of_wholes operator.Times a b = whole_of (product a b)
of_wholes operator.Divide a b = whole_of (quotient a b)
of_wholes operator.Power a b = whole_of (power a b)
of_wholes other a b = truth_of (relation other (int_cmp a b))

-- 7.2.4
abbrev pub of_truths : Operator → Bool → Bool → Result Value ValueFault
of_truths operator.And a b = Ok (Truth (a && b))
of_truths operator.Or a b = Ok (Truth (a || b))
of_truths operator.Eqv a b = Ok (Truth (if a then b else not b))
of_truths operator.Neqv a b = Ok (Truth (if a then not b else b))
of_truths other a b = Err IllTyped

-- 7.2.3: with blanks up to a length
abbrev pub padded : ℕ → List ℕ → List ℕ
padded n text = text ++ replicate (n - length text) 32

-- 7.2.3: as if the shorter had blanks at its end; the order is that of bytes
abbrev pub texts_cmp : List ℕ → List ℕ → Ordering
texts_cmp a b = slice_cmp nat_cmp (padded (length b) a) (padded (length a) b)

-- 7.5.1: cut, or with blanks at its end
abbrev pub fitted : ℕ → List ℕ → List ℕ
fitted n text = take n (text ++ replicate n 32)

-- 7.2.2, 7.2.3
abbrev pub of_texts : Operator → List ℕ → List ℕ → Result Value ValueFault
of_texts operator.Concat a b = Ok (Chars (a ++ b))
of_texts other a b = truth_of (relation other (texts_cmp a b))

abbrev pub binary_of : Operator → Value → Value → Result Value ValueFault
binary_of operator (Whole a) (Whole b) = of_wholes operator a b
binary_of operator (Truth a) (Truth b) = of_truths operator a b
binary_of operator (Chars a) (Chars b) = of_texts operator a b
binary_of operator a b = Err IllTyped

abbrev pub sign_of : Operator → ℤ → Result Value ValueFault
sign_of operator.Plus a = Ok (Whole a)
sign_of operator.Minus a = whole_of (negative a)
sign_of other a = Err IllTyped

abbrev pub denial_of : Operator → Bool → Result Value ValueFault
denial_of operator.Not a = Ok (Truth (not a))
denial_of other a = Err IllTyped

abbrev pub unary_of : Operator → Value → Result Value ValueFault
unary_of operator (Whole a) = sign_of operator a
unary_of operator (Truth a) = denial_of operator a
unary_of operator (Chars a) = Err IllTyped
