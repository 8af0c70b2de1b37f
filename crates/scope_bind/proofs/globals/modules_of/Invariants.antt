use Rattle.std.proofs.Common.{◌≡◌, ℕ, map, Some, take}
use Rattle.std.specs.List.{filter}
use Rattle.ftn_tree.specs.Extents.{scoping}
use Rattle.ftn_tree.specs.GlobalNames.{has_no_host}
use Rattle.ftn_tree.specs.Meanings.{is_module}
use Rattle.ftn_tree.specs.Scopes.{scope_kind, scope_number}
use Rattle.scope_bind.proofs.globals.modules_of.Given as goal

abbrev pub invariant-loop-at : goal.invariant-loop-at
invariant-loop-at l =
    map (λ (n : ℕ). Some n) l.modules.items
    ≡ map (scope_number l.files) (filter (λ e. is_module (scope_kind l.files e)) (filter (has_no_host l.files) (take l.at (scoping l.files))))
