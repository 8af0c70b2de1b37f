use Rattle.std.proofs.Common.{length, ◌≤◌}
use Rattle.plan_store.proofs.PlanPuts.{Going}
use Rattle.plan_store.proofs.putting.put_files.Given as goal

abbrev pub invariant-files : goal.invariant-files
invariant-files g l = record {
  going : Going l.fn.files l.left (g.S.Store.files l.initial.store) (g.S.Store.files l.store) (g.S.Store.spare l.store);
  later : g.S.Store.faults l.initial.store ≤ g.S.Store.faults l.store;
}

abbrev pub decreases-files : goal.decreases-files
decreases-files g l = length l.left
