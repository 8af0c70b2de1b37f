use Rattle.std.proofs.Common.{arith}
use Rattle.plan_store.proofs.PlanPuts.{first_left, next, on_err, stopped}
use Rattle.plan_store.proofs.putting.put_files.Goals as goal

pub files-preserved : goal.files-preserved
files-preserved g c = record {
  going = next c.args.files c.files.left c.remove-name.new.self c.remove-name.result (g.S.Store.files c.args.store.now) (g.S.Store.files c.files.store) (g.S.Store.spare c.files.store) c.files.invariant.going
      (first_left c.files.left c.remove-name.new.self c.remove-name.result c.remove-name.ensures.item c.remove-name.ensures.rest)
      (g.S.Store.files c.replace.new.self) (g.S.Store.spare c.replace.new.self) (rw c.into_vec.ensures at c.in_ok-replace.ensures.put) c.in_ok-replace.ensures.spare;
  later = omega (arith, c.files.invariant.later, c.in_ok-replace.ensures.later);
}

pub returns-in_err-replace-clause-part : goal.returns-in_err-replace-clause-part
returns-in_err-replace-clause-part g c =
    on_err c.from_residual.result
    (stopped c.args.files c.files.left c.remove-name.new.self c.remove-name.result (g.S.Store.files c.args.store.now) (g.S.Store.files c.files.store) (g.S.Store.spare c.files.store) c.files.invariant.going
    (first_left c.files.left c.remove-name.new.self c.remove-name.result c.remove-name.ensures.item c.remove-name.ensures.rest)
    (g.S.Store.files c.replace.new.self) (rw c.into_vec.ensures at c.in_err-replace.ensures.kept))
