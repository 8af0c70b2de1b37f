use Rattle.std.proofs.Common.{ap, ◌∙◌}
use Rattle.ftn_tree.specs.Scopes.{scope_name}
use Rattle.scope_bind.proofs.OccurrenceMeanings.{opened_body}
use Rattle.scope_bind.proofs.occurrences.opened_meaning.Goals as goal

pub returns-then-is_body : goal.returns-then-is_body
returns-then-is_body c =
    let files = c.args.known.now.files.now in
    opened_body files c.requires.known.trees c.args.scope c.scope_name-name.result.now c.scope_name-name.result.now c.procedure_named.result c.is_body.result c.meaning_of.result
    c.is_body.ensures c.if-is_body.true (c.scope_name-name.ensures ∙ ap (scope_name files) c.unit.ensures) c.procedure_named.ensures.value c.meaning_of.ensures
