use Rattle.std.proofs.Common.{◌≡◌, ℕ, List, [], take, drop}
use Rattle.ftn_tree.specs.Sayings.{same_name}
use Rattle.ftn_tree.specs.DeclarationFaults.{declaration_rank, each_after, first_finding}
use Rattle.decl_table.specs.steps.Firsts.{firsts_of}
use Rattle.decl_table.specs.steps.Gathering.{gathered}
use Rattle.decl_table.specs.steps.KnownNames.{known}
use Rattle.decl_table.proofs.names.first_of_names.Given as goal

abbrev pub invariant-loop-index : goal.invariant-loop-index
invariant-loop-index l =
    ((name : List ℕ) → known l.names name ≡ firsts_of (same_name name) (take l.index l.said))
    × (first_finding declaration_rank (each_after l.kind l.file [] l.said) ≡ gathered l.found (each_after l.kind l.file (take l.index l.said) (drop l.index l.said)))
