use Rattle.std.proofs.Common.{◌+◌, ◌++◌, ◌∙◌, ap}
use Rattle.std.specs.List.{flat_map, range_with_len}
use Rattle.decl_table.specs.steps.Blocks.{names_at}
use Rattle.decl_table.proofs.BlockNames.{more_statements, within, all_of_them}
use Rattle.decl_table.proofs.block_names.push_unit_names.Goals as goal

pub loop-at-preserved : goal.loop-at-preserved
loop-at-preserved c = (
  within c.args.unit.opening c.loop-at.at (c.args.unit.ending + 1) c.loop-at.auto.at c.loop-at-test.true,
  more_statements (names_at c.args.files.now c.args.unit.file) c.args.found.now.items c.loop-at.found.items c.push_statement_names.new.found.items
      c.args.unit.opening c.loop-at.at c.loop-at.auto.at c.loop-at.invariant.1 c.in_ok-push_statement_names.ensures,
)

pub returns : goal.returns
returns c =
    c.loop-at.invariant.1
    ∙ ap (λ n. c.args.found.now.items ++ flat_map (names_at c.args.files.now c.args.unit.file) (range_with_len c.args.unit.opening n))
    (all_of_them c.args.unit.opening c.loop-at.at (c.args.unit.ending + 1) c.loop-at.invariant.0 c.loop-at-test.false)
