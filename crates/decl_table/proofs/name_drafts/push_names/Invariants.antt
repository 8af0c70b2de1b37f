use Rattle.std.proofs.Common.{◌≡◌, ◌++◌, map, take}
use Rattle.std.specs.List.{flat_map}
use Rattle.ftn_tree.specs.Extents.{scoping}
use Rattle.ftn_tree.specs.DeclaredEntities.{drafts_in}
use Rattle.decl_table.specs.steps.Drafts.{drafted_of}
use Rattle.decl_table.proofs.name_drafts.push_names.Given as goal

abbrev pub invariant-loop-unit : goal.invariant-loop-unit
invariant-loop-unit l =
    (l.number ≡ l.unit-index)
    × (map (drafted_of l.files) l.found.items ≡ map (drafted_of l.files) l.initial.found.items
    ++ flat_map (drafts_in l.files) (take l.unit-index (scoping l.files)))
