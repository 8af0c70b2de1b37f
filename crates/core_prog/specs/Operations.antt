-- What operators and intrinsic functions give in a run (Fortran 90, 7.2, 13.13): a value, or the fault at that token.
use Rattle.std.specs.Prelude.{ℤ, Bool, List, Result, Ok, Err}
use Rattle.ftn_base.specs.declared.arithmetic.ArithmeticFault.{ArithmeticFault}
use Rattle.ftn_tree.specs.declared.intrinsic.Intrinsic.{Intrinsic}
use Rattle.ftn_tree.specs.declared.intrinsic.ValueFault.{ValueFault}
use Rattle.ftn_tree.specs.declared.intrinsic.ValueFault.TheVariants.{TooBig, ByZero, OutOfRange, IllTyped}
use Rattle.ftn_tree.specs.declared.operator.Operator.{Operator}
use Rattle.ftn_tree.specs.declared.value.Value.{Value}
use Rattle.ftn_tree.specs.declared.value.Value.TheVariants.{Whole, Truth}
use Rattle.ftn_tree.specs.Operations.{whole_of}
use Rattle.ftn_tree.specs.Operations as values
use Rattle.ftn_tree.specs.Intrinsics.{intrinsic_value}
use Rattle.core_prog.specs.declared.site.Site.{Site}
use Rattle.core_prog.specs.declared.outcome.FaultCode.TheVariants as code
use Rattle.core_prog.specs.Ends.{End, Faulted, Cut}

abbrev pub end_at : Site → ValueFault → End
end_at at TooBig = Faulted code.Overflow at
end_at at ByZero = Faulted code.Zero at
end_at at OutOfRange = Faulted code.Range at
end_at at IllTyped = Cut

abbrev pub placed : Site → Result Value ValueFault → Result Value End
placed at (Ok v) = Ok v
placed at (Err fault) = Err (end_at at fault)

-- an integer, or the fault of the operation
abbrev pub whole_at : Site → Result ℤ ArithmeticFault → Result Value End
whole_at at made = placed at (whole_of made)

abbrev pub unary_of : Site → Operator → Value → Result Value End
unary_of at operator v = placed at (values.unary_of operator v)

abbrev pub binary_of : Site → Operator → Value → Value → Result Value End
binary_of at operator a b = placed at (values.binary_of operator a b)

abbrev pub intrinsic_of : Site → Intrinsic → List Value → Result Value End
intrinsic_of at function args = placed at (intrinsic_value function args)

abbrev pub as_whole : Value → Result ℤ End
as_whole (Whole z) = Ok z
as_whole other = Err Cut

abbrev pub as_truth : Value → Result Bool End
as_truth (Truth truth) = Ok truth
as_truth other = Err Cut
