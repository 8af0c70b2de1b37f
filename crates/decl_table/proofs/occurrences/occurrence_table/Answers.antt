use Rattle.std.proofs.Common.{◌<◌, length, arith}
use Rattle.ftn_tree.specs.DeclaredEntities.{occurrences_of}
use Rattle.decl_table.proofs.OccurrenceLists.{listed_next}
use Rattle.decl_table.proofs.occurrences.occurrence_table.Goals as goal

pub loop-at-preserved : goal.loop-at-preserved
loop-at-preserved c =
    let less : c.loop-at.at < length c.args.files.now = omega (arith, c.loop-at-test.true) in
    listed_next c.args.files.now (occurrences_of c.args.files.now) c.loop-at.found.items c.push_file.new.found.items c.loop-at.at less c.loop-at.invariant c.in_ok-push_file.ensures
