use Rattle.std.proofs.Common.{◌≡◌, ◌<◌, ◌∙◌, length, sym, ap, arith, take}
use Rattle.std.specs.List.{flat_map}
use Rattle.ftn_tree.specs.DeclarationFaults.{first_finding}
use Rattle.ftn_tree.specs.Extents.{scoping}
use Rattle.ftn_tree.specs.NameFaults.{name_findings, name_rank}
use Rattle.decl_table.proofs.Entries.{flat_more}
use Rattle.scope_bind.specs.steps.Globals.{unit_at}
use Rattle.scope_bind.proofs.Units.{unit_there}
use Rattle.scope_bind.proofs.name_faults.first_of_names.Goals as goal

pub loop-at-preserved : goal.loop-at-preserved
loop-at-preserved c =
    let files = c.args.known.now.files.now in
    let at = c.loop-at.at in
    let long = ap length c.requires.known.scoping.units in
    let less : at < length (scoping files) = omega arith in
    c.earlier-first.ensures.joined (flat_map (name_findings files) (take at (scoping files))) (name_findings files (unit_at files at)) c.loop-at.invariant c.in_ok-next.ensures
    ∙ ap (first_finding name_rank) (sym (flat_more (name_findings files) (scoping files) at (unit_at files at) (unit_there files at less)))
