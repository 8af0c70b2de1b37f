use Rattle.std.proofs.Common.{◌≡◌, take}
use Rattle.std.specs.List.{flat_map}
use Rattle.ftn_tree.specs.DeclarationFaults.{first_finding}
use Rattle.ftn_tree.specs.NameFaults.{use_rank}
use Rattle.scope_bind.specs.steps.ItemFaults.{item_findings}
use Rattle.scope_bind.proofs.item_faults.first_in_statement.Given as goal

abbrev pub invariant-loop-mention : goal.invariant-loop-mention
invariant-loop-mention l = l.first ≡ first_finding use_rank (flat_map (item_findings l.known.files.now l.file l.statement) (take l.mention-index l.mention-items))
