use Rattle.std.proofs.Common.{◌≡◌, ◌++◌, map, take}
use Rattle.std.specs.List.{flat_map}
use Rattle.ftn_tree.specs.Bindings.{letter_drafts}
use Rattle.ftn_tree.specs.Extents.{scoping}
use Rattle.decl_table.specs.steps.Drafts.{drafted_of}
use Rattle.scope_bind.proofs.entities.push_all_letters.Given as goal

abbrev pub invariant-loop-at : goal.invariant-loop-at
invariant-loop-at l =
    map (drafted_of l.known.files.now) l.found.items
    ≡ map (drafted_of l.known.files.now) l.initial.found.items ++ flat_map (letter_drafts l.known.files.now) (take l.at (scoping l.known.files.now))
