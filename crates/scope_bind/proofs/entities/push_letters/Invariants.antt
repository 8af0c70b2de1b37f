use Rattle.std.proofs.Common.{◌≡◌, ◌++◌, map, take}
use Rattle.std.specs.List.{flat_map}
use Rattle.decl_table.specs.steps.Drafts.{drafted_of}
use Rattle.scope_bind.specs.steps.Entities.{letter_at}
use Rattle.scope_bind.specs.steps.Globals.{unit_at}
use Rattle.scope_bind.proofs.entities.push_letters.Given as goal

abbrev pub invariant-loop-token : goal.invariant-loop-token
invariant-loop-token l =
    map (drafted_of l.known.files.now) l.found.items
    ≡ map (drafted_of l.known.files.now) l.initial.found.items ++ flat_map (letter_at l.known.files.now (unit_at l.known.files.now l.scope)) (take l.token-index l.token-items)
