use Rattle.std.proofs.Common.{◌<◌, ◌≤◌, ◌^◌, ◌++◌, ap, ◌∙◌, subst, arith}
use Rattle.std.specs.List.{flat_map, range_with_len}
use Rattle.decl_table.specs.steps.Occurrences.{count_in, occurrences_at}
use Rattle.decl_table.proofs.OccurrenceLists.{count_few, file_told}
use Rattle.decl_table.proofs.Said.{flat_next, flat_done}
use Rattle.decl_table.proofs.occurrences.push_file.Goals as goal

pub overflow_cast-at : goal.overflow_cast-at
overflow_cast-at c =
    let few : count_in c.args.file c.args.files.now < 2 ^ 32 = count_few c.args.files.now c.requires.trees c.args.file in
    omega (arith, few, c.loop-at-test.true, c.count_in-at-end.ensures)

pub loop-at-preserved : goal.loop-at-preserved
loop-at-preserved c =
    flat_next (occurrences_at c.args.files.now c.args.file)
    (c.args.found.now.items ++ flat_map (occurrences_at c.args.files.now c.args.file) (range_with_len 0 (count_in c.args.file c.args.files.now)))
    c.loop-at.found.items c.push_at.new.found.items c.loop-at.at (count_in c.args.file c.args.files.now)
    (subst (λ n. c.loop-at.at < n) c.count_in-at-end.ensures c.loop-at-test.true) c.loop-at.invariant c.in_ok-push_at.ensures

pub returns : goal.returns
returns c =
    flat_done (occurrences_at c.args.files.now c.args.file)
    (c.args.found.now.items ++ flat_map (occurrences_at c.args.files.now c.args.file) (range_with_len 0 (count_in c.args.file c.args.files.now)))
    c.loop-at.found.items c.loop-at.at (count_in c.args.file c.args.files.now)
    (subst (λ n. n ≤ c.loop-at.at) c.count_in-at-end.ensures c.loop-at-test.false) c.loop-at.invariant
    ∙ ap (λ more. c.args.found.now.items ++ more) (file_told c.args.files.now c.args.file)
