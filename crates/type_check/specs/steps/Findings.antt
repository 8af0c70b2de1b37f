-- The first of findings that come one after the other. It serves the proof alone.
use Rattle.std.specs.Prelude.{Bool, if◌then◌else◌, List, [], ◌∷◌, Option, Some, None}
use Rattle.ftn_tree.specs.GlobalNames.{place}
use Rattle.ftn_tree.specs.DeclarationFaults as spec
use Rattle.ftn_tree.specs.DeclarationFaults.{found, before_in_place}
use Rattle.ftn_tree.specs.TypeFaults.{type_rank}
use Rattle.type_check.specs.declared.finding.Finding.{Finding}

abbrev pub finding_seen : Finding → spec.Finding
finding_seen f = found f.kind (place f.file f.token)

-- of two, the second only where it comes before the first
abbrev pub earlier : Option spec.Finding → Option spec.Finding → Option spec.Finding
earlier None second = second
earlier (Some one) None = Some one
earlier (Some one) (Some other) = if before_in_place type_rank other one then Some other else Some one

abbrev pub gathered : Option spec.Finding → List spec.Finding → Option spec.Finding
gathered first [] = first
gathered first (f ∷ more) = gathered (earlier first (Some f)) more

abbrev pub told_if : Bool → spec.Finding → List spec.Finding
told_if told finding = if told then finding ∷ [] else []
