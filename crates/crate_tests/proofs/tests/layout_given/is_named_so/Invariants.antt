use Rattle.std.proofs.Common.{◌≡◌, take, All}
use Rattle.crate_tests.proofs.tests.layout_given.is_named_so.Given as goal

abbrev pub invariant-loop-one : goal.invariant-loop-one
invariant-loop-one l = All (λ one. one.block ≡ l.list.block → one.named ≡ l.list.named) (take l.one-index l.earlier)
