use Rattle.unit_parse.proofs.Exact.{one_reading, one_fault, not_both, nests_or_not}
use Rattle.unit_parse.proofs.laws.nesting_is_decided.Goals as goal

pub returns : goal.returns
returns c = λ same marks. record {
  one_reading = one_reading same marks;
  one_fault = one_fault same marks;
  not_both = not_both same marks;
  one_of_them = nests_or_not same marks;
}
