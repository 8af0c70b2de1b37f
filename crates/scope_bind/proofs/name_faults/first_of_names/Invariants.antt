use Rattle.std.proofs.Common.{◌≡◌, take}
use Rattle.std.specs.List.{flat_map}
use Rattle.ftn_tree.specs.DeclarationFaults.{first_finding}
use Rattle.ftn_tree.specs.Extents.{scoping}
use Rattle.ftn_tree.specs.NameFaults.{name_findings, name_rank}
use Rattle.scope_bind.proofs.name_faults.first_of_names.Given as goal

abbrev pub invariant-loop-at : goal.invariant-loop-at
invariant-loop-at l = l.first ≡ first_finding name_rank (flat_map (name_findings l.known.files.now) (take l.at (scoping l.known.files.now)))
