use Rattle.std.proofs.Common.{ap, ◌∙◌}
use Rattle.std.specs.List.{flat_map}
use Rattle.std.proofs.lemmas.List.{take_all}
use Rattle.ftn_tree.specs.Sayings.{mentions_at}
use Rattle.decl_table.specs.steps.Following.{own_by}
use Rattle.decl_table.proofs.OwnStatements.{own_are}
use Rattle.decl_table.proofs.said_lists.own_list.Goals as goal

pub returns : goal.returns
returns c =
    let files = c.args.files.now in
    let e = c.args.unit in
    let statements = c.deref-statement-items.ensures.value ∙ c.in_ok-statements.ensures
    ∙ ap (own_by c.args.number e) (c.deref.ensures.value ∙ c.requires.known.rows) ∙ own_are files c.requires.trees c.args.number e c.requires.unit in
    c.loop-statement.invariant
    ∙ ap (flat_map (mentions_at files e.file)) (take_all c.loop-statement.statement-index c.deref-statement-items.result.now c.loop-statement-test.false ∙ statements)
