use Rattle.std.proofs.lemmas.Result.{err_from_is_err_and}
use Rattle.ftn_tool.proofs.ProjectFiles.{passed_at, within_all}
use Rattle.ftn_tool.proofs.project.read_files.Goals as goal

pub returns-in_err-size-clause-past : goal.returns-in_err-size-clause-past
returns-in_err-size-clause-past g c =
    let p = err_from_is_err_and c.from_residual-in_err-size.result c.from_residual-in_err-size.ensures.1 in
    rw (p.1, p.2, ← c.names.invariant.same)
    (passed_at (g.S.Store.files c.names.store) c.args.names.now c.names.files.items c.names.name-index c.names.size c.name-item.result c.in-Some.text c.in_err-size.field-0.0
    c.names-test.true c.name-item.is c.names.invariant.found c.names.invariant.measured (rw c.in-Some.is at c.in_ok-text.ensures.found) c.in_err-size.ensures.past)

pub returns-clause-within : goal.returns-clause-within
returns-clause-within g c = within_all c.names.files.items c.names.size c.names.invariant.measured
