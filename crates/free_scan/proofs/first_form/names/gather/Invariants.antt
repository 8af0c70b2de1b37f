use Rattle.std.proofs.Common.{drop}
use Rattle.free_scan.specs.Clean.{are_distinct}
use Rattle.free_scan.proofs.CleanLaws.{Gathers, joined}
use Rattle.free_scan.proofs.first_form.names.gather.Given as goal

abbrev pub invariant-loop-names : goal.invariant-loop-names
invariant-loop-names l = Gathers (are_distinct (joined l.lists)) (joined l.lists) l.set (joined (drop l.names-index l.lists))
