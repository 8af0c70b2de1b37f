-- The first of findings that come one after the other.
use Rattle.std.specs.Prelude.{if◌then◌else◌, List, [], ◌∷◌, Option, Some, None}
use Rattle.ftn_tree.specs.DeclarationFaults.{Finding, before_in_place, declaration_rank}

-- of two, the second only where it comes before the first
abbrev pub earlier : Option Finding → Option Finding → Option Finding
earlier None second = second
earlier (Some one) None = Some one
earlier (Some one) (Some other) = if before_in_place declaration_rank other one then Some other else Some one

abbrev pub gathered : Option Finding → List Finding → Option Finding
gathered first [] = first
gathered first (f ∷ more) = gathered (earlier first (Some f)) more
