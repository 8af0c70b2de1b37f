use Rattle.std.proofs.Common.{◌+◌, ◌∙◌, ap, sym, drop, get_or, true, None}
use Rattle.ftn_tree.specs.declared.table.Extent.{Extent}
use Rattle.ftn_tree.specs.DeclaredEntities.{draft_blank}
use Rattle.decl_table.specs.steps.Blanks.{blanks_of}
use Rattle.decl_table.specs.steps.Blocks.{block_as}
use Rattle.decl_table.proofs.Blanks.{blank_later, blank_here, with_blank}
use Rattle.decl_table.proofs.NameTurns.{opened_or}
use Rattle.decl_table.proofs.blocks.push_blank.Goals as goal

pub loop-unit-preserved : goal.loop-unit-preserved
loop-unit-preserved c =
    let files = c.args.files.now in
    let units = c.args.units.now in
    let i = c.loop-unit.unit-index in
    let d : Extent = record { file = 0; opening = 0; ending = 0 } in (
      c.loop-unit.invariant.0,
      c.loop-unit.invariant.1 ∙ ap (λ es. draft_blank files (blanks_of files es)) (opened_or units i d c.loop-unit-test.true)
          ∙ blank_later files (get_or units i d) (drop (i + 1) units) (sym c.first_blank.ensures ∙ c.in_default.is),
    )

pub returns-in-Some : goal.returns-in-Some
returns-in-Some c =
    let files = c.args.files.now in
    let units = c.args.units.now in
    let i = c.loop-unit.unit-index in
    let d : Extent = record { file = 0; opening = 0; ending = 0 } in
    let whole = c.loop-unit.invariant.1 ∙ ap (λ es. draft_blank files (blanks_of files es)) (opened_or units i d c.loop-unit-test.true) in
    let here = blank_here files (get_or units i d) (drop (i + 1) units) c.in-Some.statement (sym c.first_blank.ensures ∙ c.in-Some.is) c.draft_block.result
    (c.draft_block.ensures ∙ ap (λ token. block_as (record { file = (get_or units i d).file; token = token }) true None) c.first_token_at.ensures) in
    with_blank files c.args.found.now.items c.loop-unit.found.items c.push.new.self.items c.draft_block.result (draft_blank files (blanks_of files units)) (whole ∙ here)
    (ap (λ f. f.items) c.loop-unit.invariant.0) c.in_ok-push.ensures.items
