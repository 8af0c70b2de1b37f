use Rattle.std.proofs.Common.{◌≡◌, take}
use Rattle.ftn_tree.specs.DeclarationFaults.{first_finding, declaration_rank}
use Rattle.decl_table.specs.steps.Statements.{conflicts}
use Rattle.decl_table.proofs.statements.first_at.Given as goal

abbrev pub invariant-loop-token : goal.invariant-loop-token
invariant-loop-token l = l.found ≡ first_finding declaration_rank (conflicts l.file (take l.token-index l.tokens))
