use Rattle.scope_bind.proofs.items.put.Goals as goal

pub returns : goal.returns
returns c = λ other. c.in_ok-insert.ensures.updates.0 other
