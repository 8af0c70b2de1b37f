use Rattle.std.proofs.Common.{◌≡◌, ℕ, List, ap, ap₂, ◌∙◌}
use Rattle.ftn_tree.specs.DeclarationFaults.{found}
use Rattle.ftn_tree.specs.GlobalNames.{Place, place}
use Rattle.ftn_tree.specs.NameFaults.{said_of}
use Rattle.scope_bind.specs.steps.Globals.{unit_at}
use Rattle.scope_bind.specs.steps.Told.{begins_by}
use Rattle.scope_bind.proofs.BeginPlaces.{begins_told}
use Rattle.scope_bind.proofs.name_faults.found_at.Goals as goal

pub returns : goal.returns
returns c =
    let files = c.args.known.now.files.now in
    let e = unit_at files c.args.scope in
    c.found.ensures
    ∙ ap₂ (λ (f t : ℕ). found c.args.kind (place f t)) (ap (λ e. e.file) c.unit.ensures) (c.place-token.ensures ∙ ap begins_by c.told.ensures ∙ begins_told (said_of files e c.args.name.now))
