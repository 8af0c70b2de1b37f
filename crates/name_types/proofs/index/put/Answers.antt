use Rattle.name_types.proofs.index.put.Goals as goal

pub returns : goal.returns
returns c = λ u other. c.in_ok-insert.ensures.updates.0 (u, record c.args.name { now = other })
