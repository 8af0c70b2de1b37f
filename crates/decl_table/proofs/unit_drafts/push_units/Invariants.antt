use Rattle.std.proofs.Common.{◌≡◌, ◌++◌, not, map, take}
use Rattle.std.specs.List.{filter}
use Rattle.ftn_tree.specs.Extents.{is_body, scoping}
use Rattle.ftn_tree.specs.DeclaredEntities.{draft_unit}
use Rattle.decl_table.specs.steps.Drafts.{drafted_of}
use Rattle.decl_table.proofs.unit_drafts.push_units.Given as goal

abbrev pub invariant-loop-unit : goal.invariant-loop-unit
invariant-loop-unit l =
    (l.number ≡ l.unit-index)
    × (map (drafted_of l.files) l.found.items ≡ map (drafted_of l.files) l.initial.found.items
    ++ map (draft_unit l.files) (filter (λ e. not (is_body l.files e)) (take l.unit-index (scoping l.files))))
