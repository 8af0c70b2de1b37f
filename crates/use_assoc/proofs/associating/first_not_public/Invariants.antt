use Rattle.std.proofs.Common.{◌≡◌, drop}
use Rattle.ftn_base.specs.Accessible.{first_from}
use Rattle.use_assoc.proofs.associating.first_not_public.Given as goal

abbrev pub invariant-loop-list : goal.invariant-loop-list
invariant-loop-list l = (l.at ≡ l.list-index) × (first_from 0 l.exports l.lists ≡ first_from l.at l.exports (drop l.list-index l.lists))
