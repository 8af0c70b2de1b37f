use Rattle.std.proofs.Common.{◌≡◌, ◌<◌, ◌≤◌, ◌∙◌, length, ap, arith}
use Rattle.ftn_tree.specs.DeclarationFaults.{first_finding}
use Rattle.ftn_tree.specs.Extents.{scoping}
use Rattle.ftn_tree.specs.NameFaults.{use_rank}
use Rattle.scope_bind.specs.declared.finding.Kinds.TheVariants as kinds
use Rattle.scope_bind.specs.steps.ItemFaults.{outer_items}
use Rattle.scope_bind.proofs.FindingTurns.{next_turn, last_turn}
use Rattle.scope_bind.proofs.ItemFindings.{all_items}
use Rattle.scope_bind.proofs.item_faults.first_not_public.Goals as goal

pub loop-at-preserved : goal.loop-at-preserved
loop-at-preserved c =
    let files = c.args.known.now.files.now in
    let long = ap length c.requires.known.scoping.units in
    let less : c.loop-at.at < length (scoping files) = omega arith in
    next_turn kinds.Uses (outer_items files) _ c.loop-at.first _ c.earlier-first.result c.loop-at.at (length (scoping files)) less c.loop-at.invariant c.in_ok-next.ensures c.earlier-first.ensures.value

pub returns : goal.returns
returns c =
    let files = c.args.known.now.files.now in
    let long = ap length c.requires.known.scoping.units in
    let past : length (scoping files) ≤ c.loop-at.at = omega arith in
    last_turn kinds.Uses (outer_items files) _ c.loop-at.first c.loop-at.at (length (scoping files)) past c.loop-at.invariant
    ∙ ap (first_finding use_rank) (all_items files)
