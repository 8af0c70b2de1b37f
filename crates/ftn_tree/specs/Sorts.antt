-- Types without lengths, and what operators want and give (Fortran 90, 4.3, 7.1.4, 7.2).
use Rattle.std.specs.Prelude.{Bool, true, false, Option, Some, None}
use Rattle.ftn_base.specs.declared.entity.Ty.{Ty}
use Rattle.ftn_base.specs.declared.entity.Ty.TheVariants as type
use Rattle.ftn_tree.specs.declared.operator.Operator.{Operator}
use Rattle.ftn_tree.specs.declared.operator.Operator.TheVariants as operator
use Rattle.ftn_tree.specs.declared.value.Value.{Value}
use Rattle.ftn_tree.specs.declared.value.Value.TheVariants as value

pub data Sort : Type 0 where
  Whole : Sort
  Truth : Sort
  Text : Sort

abbrev pub same_sort : Sort → Sort → Bool
same_sort Whole Whole = true
same_sort Truth Truth = true
same_sort Text Text = true
same_sort _ _ = false

abbrev pub is_sort : Sort → Option Sort → Bool
is_sort sort None = false
is_sort sort (Some found) = same_sort sort found

abbrev pub sort_of_type : Ty → Sort
sort_of_type type.Integer = Whole
sort_of_type type.Logical = Truth
sort_of_type (type.Character length) = Text

abbrev pub sort_of_value : Value → Sort
sort_of_value (value.Whole z) = Whole
sort_of_value (value.Truth truth) = Truth
sort_of_value (value.Chars text) = Text

-- ---- operators

abbrev pub is_relation : Operator → Bool
is_relation operator.Eq = true
is_relation operator.Ne = true
is_relation operator.Lt = true
is_relation operator.Le = true
is_relation operator.Gt = true
is_relation operator.Ge = true
is_relation other = false

-- 7.1.4, 7.2: what an operator that is no relation wants of its operands, and what it gives
abbrev pub sort_of_operator : Operator → Sort
sort_of_operator operator.Concat = Text
sort_of_operator operator.Not = Truth
sort_of_operator operator.And = Truth
sort_of_operator operator.Or = Truth
sort_of_operator operator.Eqv = Truth
sort_of_operator operator.Neqv = Truth
sort_of_operator other = Whole

-- 7.1.4, 7.2.3: a relation compares two integers or two character values, and gives a truth value
abbrev pub is_comparable : Sort → Bool
is_comparable Truth = false
is_comparable _ = true
