use Rattle.std.proofs.Common.{◌≡◌, ◌++◌, ℕ, List, OnOk, map, ap, sym, subst, ◌∙◌}
use Rattle.ftn_tree.specs.Sayings.{mentions_at}
use Rattle.decl_table.specs.steps.Occurrences.{AreNamesAt}
use Rattle.decl_table.proofs.OccurrenceLists.{are_named}
use Rattle.scope_bind.specs.declared.occurrences.Denoted.{Denoted}
use Rattle.scope_bind.specs.steps.Occurrences.{denoted_by, unknown_at}
use Rattle.scope_bind.proofs.OccurrenceMeanings.{denoted_in, denoted_nowhere, in_unit}
use Rattle.scope_bind.proofs.occurrences.push_at.Goals as goal

pub push_mentions-requires-clause-within : goal.push_mentions-requires-clause-within
push_mentions-requires-clause-within c =
    (in_unit c.args.known.now.files.now c.requires.known.trees c.args.file c.args.statement c.requires.within c.deref.result.now c.in-Some.scope
    (c.deref.ensures.value ∙ c.requires.known.scoping.rows) (sym c.in-Some.is ∙ c.number_at.ensures)).0

pub push_mentions-requires-clause-names : goal.push_mentions-requires-clause-names
push_mentions-requires-clause-names c =
    let files = c.args.known.now.files.now in
    let same = (in_unit files c.requires.known.trees c.args.file c.args.statement c.requires.within c.deref.result.now c.in-Some.scope
    (c.deref.ensures.value ∙ c.requires.known.scoping.rows) (sym c.in-Some.is ∙ c.number_at.ensures)).1 in
    subst (λ (f : ℕ). AreNamesAt files f c.deref-in-Some.result.now) (sym same)
    (are_named files c.requires.known.trees c.args.file c.args.statement c.deref-in-Some.result.now
    (c.deref-in-Some.ensures.value ∙ c.in_ok-push_statement.ensures ∙ ap (λ front. front ++ mentions_at files c.args.file c.args.statement) c.new-mentions.ensures.items))

pub returns-in-Some : goal.returns-in-Some
returns-in-Some c =
    let files = c.args.known.now.files.now in
    subst (λ (more : List Denoted). OnOk c.push_mentions.result (c.push_mentions.new.found.items ≡ c.args.found.now.items ++ more))
    (ap (map (denoted_by files c.in-Some.scope c.args.statement))
    (c.deref-in-Some.ensures.value ∙ c.in_ok-push_statement.ensures ∙ ap (λ front. front ++ mentions_at files c.args.file c.args.statement) c.new-mentions.ensures.items)
    ∙ denoted_in files c.requires.known.trees c.args.file c.args.statement c.requires.within c.deref.result.now c.in-Some.scope
    (c.deref.ensures.value ∙ c.requires.known.scoping.rows) (sym c.in-Some.is ∙ c.number_at.ensures))
    c.push_mentions.ensures

pub returns : goal.returns
returns c =
    let files = c.args.known.now.files.now in
    subst (λ (more : List Denoted). OnOk c.push_unknown.result (c.push_unknown.new.found.items ≡ c.args.found.now.items ++ more))
    (ap (map (unknown_at c.args.file))
    (c.deref-in-None.ensures.value ∙ c.in_ok-push_statement.ensures ∙ ap (λ front. front ++ mentions_at files c.args.file c.args.statement) c.new-mentions.ensures.items)
    ∙ denoted_nowhere files c.requires.known.trees c.args.file c.args.statement c.requires.within c.deref.result.now
    (c.deref.ensures.value ∙ c.requires.known.scoping.rows) (sym c.in-None.is ∙ c.number_at.ensures))
    c.push_unknown.ensures
