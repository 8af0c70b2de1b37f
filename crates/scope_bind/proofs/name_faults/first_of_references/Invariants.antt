use Rattle.std.proofs.Common.{◌≡◌, take}
use Rattle.std.specs.List.{flat_map}
use Rattle.ftn_tree.specs.Bindings.{denotings}
use Rattle.ftn_tree.specs.DeclarationFaults.{first_finding}
use Rattle.ftn_tree.specs.NameFaults.{reference_findings, name_rank}
use Rattle.scope_bind.proofs.name_faults.first_of_references.Given as goal

abbrev pub invariant-loop-one : goal.invariant-loop-one
invariant-loop-one l = l.first ≡ first_finding name_rank (flat_map (reference_findings l.known.files.now) (take l.one-index (denotings l.known.files.now)))
