use Rattle.scope_bind.proofs.known.Known.+denotes.Given as goal

abbrev pub decreases-denotes : goal.decreases-denotes
decreases-denotes l = l.scope
