use Rattle.std.proofs.Common.{◌≡◌, ◌<◌, ap, ◌∙◌, arith, length}
use Rattle.ftn_tree.specs.declared.table.Tables.{Tables}
use Rattle.ftn_tree.specs.Extents.{scoping}
use Rattle.scope_bind.proofs.BeginPlaces.{occurs_as, begins_as}
use Rattle.scope_bind.proofs.name_faults.own_place.Goals as goal

pub returns-then-one-known : goal.returns-then-one-known
returns-then-one-known c = λ scope name within occurs.
    let files = c.args.known.now.files.now in
    let o = c.index-as_slice-occurrence.result in
    let (scopes, names) = occurs_as files c.as_slice.result.now (c.as_slice.ensures ∙ ap (λ (t : Tables). t.occurrences) c.requires.known.tables) scope c.args.occurrence name occurs o c.index-as_slice-occurrence.is in
    begins_as files scope o.scope name c.bytes.result.now c.begin_place.result scopes (c.bytes.ensures.bytes ∙ names) c.begin_place.ensures

pub returns-else-one-known : goal.returns-else-one-known
returns-else-one-known c = λ scope name within occurs.
    let files = c.args.known.now.files.now in
    let o = c.index-as_slice-occurrence.result in
    let (scopes, names) = occurs_as files c.as_slice.result.now (c.as_slice.ensures ∙ ap (λ (t : Tables). t.occurrences) c.requires.known.tables) scope c.args.occurrence name occurs o c.index-as_slice-occurrence.is in
    let low : scope < length (scoping files) = within in
    let same : o.scope ≡ scope = scopes in
    absurd (omega (arith, c.if-one-known.false, c.requires.known.numbering.units, low, same))
