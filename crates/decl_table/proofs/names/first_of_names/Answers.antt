use Rattle.std.proofs.Common.{ap, ◌∙◌, bytes_eq, []}
use Rattle.std.specs.Map.{lookup}
use Rattle.std.specs.Option.{unwrap_or}
use Rattle.ftn_tree.specs.Sayings.{Saying}
use Rattle.ftn_tree.specs.DeclarationFaults.{each_after}
use Rattle.decl_table.specs.steps.Firsts.{nothing}
use Rattle.decl_table.specs.steps.Gathering.{earlier}
use Rattle.decl_table.specs.steps.KnownNames.{known}
use Rattle.decl_table.specs.steps.NameFindings.{twice_finding}
use Rattle.decl_table.proofs.Gathering.{first_gathered}
use Rattle.decl_table.proofs.SayingTurns.{known_next, found_next}
use Rattle.decl_table.proofs.names.first_of_names.Goals as goal

pub loop-index-init : goal.loop-index-init
loop-index-init c = (
  λ name. ap (λ es. unwrap_or (lookup (λ key. bytes_eq name key.now) es) nothing) c.new-names.ensures.empty,
  first_gathered (each_after c.args.kind c.args.file [] c.args.said.now),
)

pub loop-index-preserved : goal.loop-index-preserved
loop-index-preserved c =
    let named = ap (λ (s : Saying). s.name) c.s.view_is in
    let before = c.known-before.ensures ∙ c.loop-index.invariant.0 c.s.inside.name.now in (
      λ name. known_next c.args.said.now c.loop-index.index c.index-said-index.result c.loop-index-test.true c.index-said-index.is c.s.inside.name.now named c.known-before.result c.of-one.result c.and.result
          (known c.loop-index.names name) (known c.put.new.names name) before c.of-one.ensures c.and.ensures name (c.loop-index.invariant.0 name) (c.in_ok-put.ensures name),
      found_next c.args.said.now c.loop-index.index c.index-said-index.result c.loop-index-test.true c.index-said-index.is c.args.kind c.args.file c.s.inside.name.now named c.known-before.result c.of-one.result
          before c.of-one.ensures c.loop-index.found c.earlier-found.result c.earlier-found-in-loop-index.result c.loop-index.invariant.1
          (c.earlier-found.ensures.value ∙ ap (earlier c.loop-index.found) (c.twice_finding.ensures ∙ ap (twice_finding c.args.file c.args.said.now c.index-said-index.result) c.partner-partner.ensures))
          (c.earlier-found-in-loop-index.ensures.value ∙ ap (earlier c.earlier-found.result) c.conflicting_finding.ensures),
    )
