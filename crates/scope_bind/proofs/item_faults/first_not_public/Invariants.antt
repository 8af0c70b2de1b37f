use Rattle.std.proofs.Common.{◌≡◌, ◌-◌, length}
use Rattle.std.specs.List.{flat_map, range_with_len}
use Rattle.ftn_tree.specs.DeclarationFaults.{first_finding}
use Rattle.ftn_tree.specs.Extents.{scoping}
use Rattle.ftn_tree.specs.NameFaults.{use_rank}
use Rattle.scope_bind.specs.declared.finding.Kinds.TheVariants as kinds
use Rattle.scope_bind.specs.steps.Findings.{earlier}
use Rattle.scope_bind.specs.steps.ItemFaults.{outer_items}
use Rattle.scope_bind.proofs.item_faults.first_not_public.Given as goal

abbrev pub invariant-loop-at : goal.invariant-loop-at
invariant-loop-at l =
    first_finding use_rank (flat_map (outer_items l.known.files.now) (range_with_len 0 (length (scoping l.known.files.now))))
    ≡ earlier kinds.Uses l.first (first_finding use_rank (flat_map (outer_items l.known.files.now) (range_with_len l.at (length (scoping l.known.files.now) - l.at))))
