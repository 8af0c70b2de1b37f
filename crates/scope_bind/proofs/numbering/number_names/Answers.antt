use Rattle.std.proofs.Common.{◌≡◌, ◌<◌, ◌^◌, ◌+◌, ◌*◌, length, ap, ◌∙◌, arith}
use Rattle.ftn_tree.specs.declared.table.Tables.{Tables}
use Rattle.ftn_tree.specs.DeclaredEntities.{occurrences_of}
use Rattle.ftn_tree.specs.Extents.{scoping}
use Rattle.decl_table.proofs.Arounds.{units_few}
use Rattle.scope_bind.proofs.Small.{trees_small}
use Rattle.scope_bind.proofs.numbering.number_names.Goals as goal

pub overflow_cast-result : goal.overflow_cast-result
overflow_cast-result c =
    let files = c.args.files.now in
    let few : length (scoping files) < 2 ^ 32 = units_few files c.requires.trees in
    let same : length c.args.scoping.now.units.items ≡ length (scoping files) = ap length c.requires.known.units in
    omega (arith, few, same, c.len.ensures)

pub overflow_cast-result-2 : goal.overflow_cast-result-2
overflow_cast-result-2 c =
    let files = c.args.files.now in
    let all : length c.as_slice-occurrences.result.now ≡ length (occurrences_of files) =
    ap length (c.as_slice-occurrences.ensures ∙ ap (λ (t : Tables). t.occurrences) c.requires.tables) in
    let small : length (scoping files) + 3 * length (occurrences_of files) < 2 ^ 32 = (trees_small files c.requires.trees).names in
    omega (arith, all, small)
