use Rattle.std.proofs.Common.{◌≡◌, map, take}
use Rattle.decl_table.specs.steps.Blocks.{global_of}
use Rattle.decl_table.proofs.global_names.names_at.Given as goal

abbrev pub invariant-loop-at : goal.invariant-loop-at
invariant-loop-at l = l.found.items ≡ map (global_of l.files) (take l.at-index l.tokens)
