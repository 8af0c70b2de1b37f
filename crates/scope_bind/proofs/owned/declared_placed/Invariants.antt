use Rattle.std.proofs.Common.{◌≡◌, map, take}
use Rattle.std.specs.List.{flat_map}
use Rattle.scope_bind.specs.steps.Globals.{unit_at}
use Rattle.scope_bind.specs.steps.Owned.{place_of, placed_pair}
use Rattle.scope_bind.proofs.Owning.{Spelled, declared_token}
use Rattle.scope_bind.proofs.owned.declared_placed.Given as goal

abbrev pub invariant-loop-token : goal.invariant-loop-token
invariant-loop-token l =
    (map (placed_pair l.known.files.now (unit_at l.known.files.now l.scope).file) l.placed.items
    ≡ map (place_of l.known.files.now (unit_at l.known.files.now l.scope)) (flat_map (declared_token l.known.files.now l.scope) (take l.token-index l.token-items)))
    × Spelled l.known.files.now (unit_at l.known.files.now l.scope).file l.placed.items
