use Rattle.std.proofs.Common.{◌≡◌, take}
use Rattle.std.specs.List.{flat_map}
use Rattle.ftn_tree.specs.DeclarationFaults.{first_finding, declaration_rank, scope_findings}
use Rattle.ftn_tree.specs.Extents.{scoping}
use Rattle.decl_table.proofs.scope_faults.scopes_fault.Given as goal

abbrev pub invariant-loop-at : goal.invariant-loop-at
invariant-loop-at l = l.found ≡ first_finding declaration_rank (flat_map (scope_findings l.files) (take l.at (scoping l.files)))
