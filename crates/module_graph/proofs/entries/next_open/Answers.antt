use Rattle.std.proofs.Common.{get_or, arith}
use Rattle.std.proofs.lemmas.Grind.{common_steps}
use Rattle.module_graph.specs.steps.Marks.{IsMarked}
use Rattle.module_graph.proofs.Marking.{marked_next, marked_whole}
use Rattle.module_graph.proofs.entries.next_open.Goals as goal

pub entries-preserved : goal.entries-preserved
entries-preserved c =
    let mark : IsMarked c.args.marks.now (get_or c.args.list.now c.entries.at 0) = grind (arith, common_steps) in
    marked_next c.args.marks.now c.args.list.now c.entries.at c.entries-test.true mark c.entries.invariant

pub returns-clause-shut : goal.returns-clause-shut
returns-clause-shut c = marked_whole c.args.marks.now c.args.list.now c.entries.at c.entries-test.false c.entries.invariant
