use Rattle.std.proofs.Common.{◌≡◌, [], false, sym, ap, ◌∙◌, if◌then◌else◌}
use Rattle.std.specs.Option.{is_some}
use Rattle.std.specs.List.{flat_map}
use Rattle.std.proofs.lemmas.Result.{IfOk-weaker}
use Rattle.ftn_tree.specs.DeclarationFaults.{first_finding}
use Rattle.ftn_tree.specs.NameFaults.{not_public_at, use_rank}
use Rattle.ftn_tree.specs.Scopes.{all_statements, host_number}
use Rattle.scope_bind.specs.steps.Globals.{unit_at}
use Rattle.scope_bind.specs.steps.ItemFaults.{outer_items, unit_items}
use Rattle.scope_bind.proofs.ItemFindings.{outer_is}
use Rattle.scope_bind.proofs.item_faults.first_at.Goals as goal

pub returns : goal.returns
returns c =
    let files = c.args.known.now.files.now in
    let unit = c.unit.result in
    let outer : is_some (host_number files (unit_at files c.args.scope)) ≡ false = ap is_some (sym c.host.ensures) ∙ sym c.is_some.ensures ∙ c.if-is_some.false in
    IfOk-weaker c.first_in_unit.result (λ found. found ≡ first_finding use_rank (flat_map (not_public_at files unit.file) (all_statements unit)))
    (λ found. found ≡ first_finding use_rank (outer_items files c.args.scope))
    (λ found is. is ∙ ap (λ e. first_finding use_rank (unit_items files e)) c.unit.ensures ∙ ap (first_finding use_rank) (outer_is files c.requires.known.trees c.args.scope outer))
    c.first_in_unit.ensures
