use Rattle.std.proofs.Common.{◌++◌, Some, sym, ap, ◌∙◌}
use Rattle.std.specs.List.{flat_map}
use Rattle.std.proofs.lemmas.List.{take_all}
use Rattle.std.proofs.lemmas.Option.{slice_get-get_or}
use Rattle.ftn_tree.specs.DeclarationFaults.{first_finding}
use Rattle.ftn_tree.specs.NameFaults.{use_rank}
use Rattle.ftn_tree.specs.Sayings.{mentions_at}
use Rattle.scope_bind.specs.declared.finding.Kinds.TheVariants as kinds
use Rattle.scope_bind.specs.steps.ItemFaults.{item_findings}
use Rattle.scope_bind.proofs.FindingTurns.{more_found}
use Rattle.scope_bind.proofs.ItemFindings.{statement_items}
use Rattle.scope_bind.proofs.item_faults.first_in_statement.Goals as goal

pub loop-mention-preserved : goal.loop-mention-preserved
loop-mention-preserved c =
    let all = c.deref-mention-items.result.now in
    more_found kinds.Uses (item_findings c.args.known.now.files.now c.args.file c.args.statement) all c.loop-mention.mention-index c.mention-item.result
    (slice_get-get_or all c.loop-mention.mention-index c.mention-item.result c.loop-mention-test.true ∙ ap Some (sym c.mention-item.is))
    c.loop-mention.first c.in_ok-next.next c.earlier-first.result c.loop-mention.invariant c.in_ok-next.ensures c.earlier-first.ensures.value

pub returns : goal.returns
returns c =
    let files = c.args.known.now.files.now in
    c.loop-mention.invariant
    ∙ ap (λ ms. first_finding use_rank (flat_map (item_findings files c.args.file c.args.statement) ms))
    (take_all c.loop-mention.mention-index c.deref-mention-items.result.now c.loop-mention-test.false
    ∙ c.deref-mention-items.ensures.value ∙ c.in_ok-push_statement.ensures ∙ ap (λ front. front ++ mentions_at files c.args.file c.args.statement) c.new-mentions.ensures.items)
    ∙ ap (first_finding use_rank) (statement_items files c.args.file c.args.statement)
