use Rattle.std.proofs.Common.{◌++◌, drop}
use Rattle.free_scan.specs.steps.Fresh.{are_fresh}
use Rattle.free_scan.proofs.CleanLaws.{Gathers}
use Rattle.free_scan.proofs.first_form.names.add_all.Given as goal

abbrev pub invariant-loop-name : goal.invariant-loop-name
invariant-loop-name l = Gathers (are_fresh l.initial.set l.names) (l.initial.set ++ l.names) l.set (drop l.name-index l.names)
