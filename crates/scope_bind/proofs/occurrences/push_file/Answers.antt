use Rattle.std.proofs.Common.{◌<◌, ◌≤◌, ◌^◌, ◌++◌, subst, arith}
use Rattle.decl_table.specs.steps.Occurrences.{count_in}
use Rattle.decl_table.proofs.OccurrenceLists.{count_few}
use Rattle.decl_table.proofs.Said.{flat_next, flat_done}
use Rattle.scope_bind.specs.steps.Occurrences.{denoted_at, denoted_in_file}
use Rattle.scope_bind.proofs.occurrences.push_file.Goals as goal

pub overflow_cast-at : goal.overflow_cast-at
overflow_cast-at c =
    let few : count_in c.args.file c.args.known.now.files.now < 2 ^ 32 = count_few c.args.known.now.files.now c.requires.known.trees c.args.file in
    omega (arith, few, c.loop-at-test.true, c.count_in-at-end.ensures)

pub loop-at-preserved : goal.loop-at-preserved
loop-at-preserved c =
    let files = c.args.known.now.files.now in
    flat_next (denoted_at files c.args.file) (c.args.found.now.items ++ denoted_in_file files c.args.file)
    c.loop-at.found.items c.push_at.new.found.items c.loop-at.at (count_in c.args.file files)
    (subst (λ n. c.loop-at.at < n) c.count_in-at-end.ensures c.loop-at-test.true) c.loop-at.invariant c.in_ok-push_at.ensures

pub returns : goal.returns
returns c =
    let files = c.args.known.now.files.now in
    flat_done (denoted_at files c.args.file) (c.args.found.now.items ++ denoted_in_file files c.args.file)
    c.loop-at.found.items c.loop-at.at (count_in c.args.file files)
    (subst (λ n. n ≤ c.loop-at.at) c.count_in-at-end.ensures c.loop-at-test.false) c.loop-at.invariant
