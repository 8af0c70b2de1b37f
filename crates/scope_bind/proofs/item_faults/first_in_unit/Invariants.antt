use Rattle.std.proofs.Common.{◌≡◌, ◌+◌, ◌-◌}
use Rattle.std.specs.List.{flat_map, range_with_len}
use Rattle.ftn_tree.specs.DeclarationFaults.{first_finding}
use Rattle.ftn_tree.specs.NameFaults.{use_rank, not_public_at}
use Rattle.ftn_tree.specs.Scopes.{all_statements}
use Rattle.scope_bind.specs.declared.finding.Kinds.TheVariants as kinds
use Rattle.scope_bind.specs.steps.Findings.{earlier}
use Rattle.scope_bind.proofs.item_faults.first_in_unit.Given as goal

abbrev pub invariant-loop-at : goal.invariant-loop-at
invariant-loop-at l =
    first_finding use_rank (flat_map (not_public_at l.known.files.now l.unit.file) (all_statements l.unit))
    ≡ earlier kinds.Uses l.first (first_finding use_rank (flat_map (not_public_at l.known.files.now l.unit.file) (range_with_len l.at (l.unit.ending + 1 - l.at))))
