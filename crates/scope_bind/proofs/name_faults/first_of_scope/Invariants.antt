use Rattle.std.proofs.Common.{◌≡◌, take}
use Rattle.std.specs.List.{flat_map}
use Rattle.ftn_tree.specs.DeclarationFaults.{first_finding}
use Rattle.ftn_tree.specs.NameFaults.{name_rank}
use Rattle.scope_bind.specs.steps.Globals.{unit_at}
use Rattle.scope_bind.proofs.SaidNames.{findings_at}
use Rattle.scope_bind.proofs.name_faults.first_of_scope.Given as goal

abbrev pub invariant-loop-token : goal.invariant-loop-token
invariant-loop-token l = l.first ≡ first_finding name_rank (flat_map (findings_at l.known.files.now (unit_at l.known.files.now l.scope)) (take l.token-index l.token-items))
