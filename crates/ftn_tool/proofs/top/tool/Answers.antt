use Rattle.ftn_tool.proofs.Promising.{misread_promised}
use Rattle.ftn_tool.proofs.top.tool.Goals as goal

pub returns-in-Err-Bad-clause-promises : goal.returns-in-Err-Bad-clause-promises
returns-in-Err-Bad-clause-promises g c =
    misread_promised _ c.in-Err-Bad.position _ c.misread.result (rw c.in-Err-Bad.field-0-is at c.in-Err-Bad.ensures) (c.misread.ensures (g.S.Store.files c.args.store.now) (g.S.Store.faults c.args.store.now))
