-- The first of findings that come one after the other, by the order of kinds at one place.
use Rattle.std.specs.Prelude.{ℕ, if◌then◌else◌, Option, Some, None}
use Rattle.ftn_base.specs.declared.fault.FaultKind.{FaultKind}
use Rattle.ftn_tree.specs.DeclarationFaults.{Finding, before_in_place}
use Rattle.ftn_tree.specs.NameFaults.{use_rank, name_rank}
use Rattle.scope_bind.specs.declared.finding.Kinds.{Kinds}
use Rattle.scope_bind.specs.declared.finding.Kinds.TheVariants as kinds

abbrev pub rank_of : Kinds → FaultKind → ℕ
rank_of kinds.Uses = use_rank
rank_of kinds.Names = name_rank

-- of two, the second only where it comes before the first
abbrev pub earlier : Kinds → Option Finding → Option Finding → Option Finding
earlier kinds None second = second
earlier kinds (Some one) None = Some one
earlier kinds (Some one) (Some other) = if before_in_place (rank_of kinds) other one then Some other else Some one
