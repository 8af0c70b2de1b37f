use Rattle.std.proofs.Common.{◌≡◌, ◌<◌, ◌≤◌, ◌-◌, ℕ, Some, ap, sym, ◌∙◌, arith}
use Rattle.scope_bind.specs.steps.Numbering.{units_count, names_count}
use Rattle.scope_bind.proofs.EntityPlaces.{of_unit, of_name}
use Rattle.scope_bind.proofs.name_faults.entity_place.Goals as goal

pub returns-then-entity-units : goal.returns-then-entity-units
returns-then-entity-units c = λ key numbered member is.
    let files = c.args.known.now.files.now in
    let less : c.args.entity.0 < units_count files = omega (arith, c.if-entity-units.true, c.requires.known.numbering.units) in
    of_unit files c.requires.known.trees c.args.entity c.unit_place.result less c.unit_place.ensures key numbered is

pub returns-then-entity-units-2 : goal.returns-then-entity-units-2
returns-then-entity-units-2 c = λ key numbered member is.
    let files = c.args.known.now.files.now in
    let n = c.args.entity.0 in
    let more : units_count files ≤ n = omega (arith, c.if-entity-units.false, c.requires.known.numbering.units) in
    let less : n - units_count files < names_count files = omega (arith, c.if-entity-units-2.true, c.requires.known.numbering.units, c.requires.known.numbering.occurrences) in
    of_name files c.requires.known.trees c.args.entity c.own_place.result more less
    (λ scope name within occurs. c.own_place.ensures scope name within (occurs ∙ ap (λ (u : ℕ). Some (n - u)) (sym c.requires.known.numbering.units)))
    key numbered member is
