use Rattle.std.proofs.Common.{◌≡◌, ◌<◌, ◌∙◌, length, map, ap, arith}
use Rattle.ftn_tree.specs.Extents.{scoping}
use Rattle.decl_table.specs.steps.Drafts.{drafted_of}
use Rattle.scope_bind.proofs.LetterDrafts.{unit_pushed}
use Rattle.scope_bind.proofs.entities.push_all_letters.Goals as goal

pub loop-at-preserved : goal.loop-at-preserved
loop-at-preserved c =
    let files = c.args.known.now.files.now in
    let long = ap length c.requires.known.scoping.units in
    let less : c.loop-at.at < length (scoping files) = omega arith in
    unit_pushed files c.loop-at.at less (map (drafted_of files) c.args.found.now.items) (map (drafted_of files) c.loop-at.found.items) (map (drafted_of files) c.push_letters.new.found.items) c.loop-at.invariant
    c.in_ok-push_letters.ensures
