use Rattle.std.proofs.Common.{◌≡◌, ◌∙◌, ℕ, Bool, false, List, ap₂, refl}
use Rattle.std.specs.List.{flat_map}
use Rattle.std.specs.Option.{is_some}
use Rattle.ftn_tree.specs.declared.table.Extent.{Extent}
use Rattle.ftn_tree.specs.DeclarationFaults.{first_finding}
use Rattle.ftn_tree.specs.NameFaults.{use_rank, use_statements}
use Rattle.ftn_tree.specs.Scopes.{host_number}
use Rattle.scope_bind.specs.steps.Globals.{unit_at}
use Rattle.scope_bind.specs.steps.UseFaults.{use_by}
use Rattle.scope_bind.proofs.UseTurns.{outer_told}
use Rattle.scope_bind.proofs.use_faults.first_at.Goals as goal

pub returns : goal.returns
returns c =
    let files = c.args.known.now.files.now in
    let none : is_some (host_number files (unit_at files c.args.scope)) ≡ false = cc in
    outer_told files c.requires.known.trees c.args.on_cycle c.args.marks.now c.args.scope c.requires.within c.requires.cycle none c.first_in_unit.result
    (c.first_in_unit.ensures ∙ ap₂ (λ (x : Extent) (ms : List Bool). first_finding use_rank (flat_map (use_by files x ms) (use_statements files x))) c.unit.ensures c.marks_in.ensures)
