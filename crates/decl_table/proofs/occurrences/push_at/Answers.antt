use Rattle.std.proofs.Common.{◌≡◌, ◌++◌, OnOk, map, ap, ◌∙◌, subst}
use Rattle.ftn_tree.specs.DeclaredEntities.{number_at}
use Rattle.ftn_tree.specs.Sayings.{mentions_at}
use Rattle.decl_table.specs.steps.Occurrences.{occurrence_by}
use Rattle.decl_table.proofs.OccurrenceLists.{are_named, scope_told}
use Rattle.decl_table.proofs.occurrences.push_at.Goals as goal

pub push_occurrences-requires : goal.push_occurrences-requires
push_occurrences-requires c =
    are_named c.args.files.now c.requires.trees c.args.file c.args.statement c.deref-2.result.now
    (c.deref-2.ensures.value ∙ c.in_ok-push_statement.ensures ∙ ap (λ front. front ++ mentions_at c.args.files.now c.args.file c.args.statement) c.new-mentions.ensures.items)

pub returns : goal.returns
returns c =
    subst (λ more. OnOk c.push_occurrences.result (c.push_occurrences.new.found.items ≡ c.args.found.now.items ++ more))
    (ap (λ scope. map (occurrence_by c.args.files.now c.args.file scope) c.deref-2.result.now)
    (scope_told c.args.files.now c.requires.trees c.args.file c.args.statement c.requires.within c.deref.result.now c.number_at.result c.or_first-scope.result
    (c.deref.ensures.value ∙ c.requires.known.rows) c.number_at.ensures c.or_first-scope.ensures)
    ∙ ap (map (occurrence_by c.args.files.now c.args.file (number_at c.args.files.now c.args.file c.args.statement)))
    (c.deref-2.ensures.value ∙ c.in_ok-push_statement.ensures ∙ ap (λ front. front ++ mentions_at c.args.files.now c.args.file c.args.statement) c.new-mentions.ensures.items))
    c.push_occurrences.ensures
