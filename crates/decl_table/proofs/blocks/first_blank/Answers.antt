use Rattle.std.proofs.Common.{◌+◌, ◌∙◌, sym}
use Rattle.ftn_tree.specs.DeclaredEntities.{lists_blank_at}
use Rattle.ftn_tree.specs.Extents.{layer_at}
use Rattle.decl_table.proofs.Blanks.{found_here, found_later, found_none}
use Rattle.decl_table.proofs.blocks.first_blank.Goals as goal

pub loop-at-preserved : goal.loop-at-preserved
loop-at-preserved c =
    c.loop-at.invariant
    ∙ found_later (λ statement. lists_blank_at (layer_at c.args.files.now c.args.unit.file statement)) c.loop-at.at (c.args.unit.ending + 1) c.loop-at-test.true
    (sym c.lists_blank.ensures ∙ c.if-lists_blank.false)

pub returns-then-lists_blank : goal.returns-then-lists_blank
returns-then-lists_blank c =
    sym (c.loop-at.invariant
    ∙ found_here (λ statement. lists_blank_at (layer_at c.args.files.now c.args.unit.file statement)) c.loop-at.at (c.args.unit.ending + 1) c.loop-at-test.true
    (sym c.lists_blank.ensures ∙ c.if-lists_blank.true))

pub returns : goal.returns
returns c =
    sym (c.loop-at.invariant
    ∙ found_none (λ statement. lists_blank_at (layer_at c.args.files.now c.args.unit.file statement)) c.loop-at.at (c.args.unit.ending + 1) c.loop-at-test.false)
