use Rattle.std.proofs.Common.{◌≡◌, ◌++◌, ℕ, List, [], drop, map}
use Rattle.ftn_tree.specs.Bindings.{draft_intrinsic}
use Rattle.ftn_tree.specs.GlobalNames.{Global, firsts_after}
use Rattle.decl_table.specs.steps.Blocks.{global_of}
use Rattle.decl_table.specs.steps.Drafts.{drafted_of}
use Rattle.decl_table.specs.steps.Seen.{has_come}
use Rattle.decl_table.proofs.FirstBlocks.{is_given}
use Rattle.scope_bind.proofs.entities.push_firsts.Given as goal

abbrev pub invariant-loop-at : goal.invariant-loop-at
invariant-loop-at l =
    (gs : List Global) × ((name : List ℕ) → has_come l.seen name ≡ is_given gs name)
    × (map (drafted_of l.files) l.initial.found.items ++ map (draft_intrinsic l.files) (firsts_after [] (map (global_of l.files) l.names))
    ≡ map (drafted_of l.files) l.found.items ++ map (draft_intrinsic l.files) (firsts_after gs (map (global_of l.files) (drop l.at-index l.names))))
