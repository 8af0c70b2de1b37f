use Rattle.std.proofs.Common.{◌∙◌, length}
use Rattle.std.specs.List.{flat_map, range_with_len}
use Rattle.decl_table.proofs.Said.{flat_next, flat_done}
use Rattle.scope_bind.specs.steps.Occurrences.{denoted_in_file}
use Rattle.scope_bind.proofs.AllDenoted.{all_told}
use Rattle.scope_bind.proofs.occurrences.all_denoted.Goals as goal

pub loop-at-preserved : goal.loop-at-preserved
loop-at-preserved c =
    let files = c.args.known.now.files.now in
    flat_next (denoted_in_file files) (flat_map (denoted_in_file files) (range_with_len 0 (length files)))
    c.loop-at.found.items c.push_file.new.found.items c.loop-at.at (length files) c.loop-at-test.true c.loop-at.invariant c.in_ok-push_file.ensures

pub returns : goal.returns
returns c =
    let files = c.args.known.now.files.now in
    flat_done (denoted_in_file files) (flat_map (denoted_in_file files) (range_with_len 0 (length files)))
    c.loop-at.found.items c.loop-at.at (length files) c.loop-at-test.false c.loop-at.invariant
    ∙ all_told files
