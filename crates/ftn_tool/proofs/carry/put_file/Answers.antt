use Rattle.ftn_tool.proofs.carry.put_file.Goals as goal

pub returns-in-Ok-clause-put : goal.returns-in-Ok-clause-put
returns-in-Ok-clause-put g c = rw c.in-Ok.ensures.files at c.put_change.ensures.put
