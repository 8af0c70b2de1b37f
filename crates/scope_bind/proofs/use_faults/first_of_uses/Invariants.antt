use Rattle.std.proofs.Common.{◌≡◌, ◌-◌, ◌++◌, List, length}
use Rattle.std.specs.List.{flat_map, range_with_len}
use Rattle.ftn_tree.specs.DeclarationFaults.{Finding, first_finding}
use Rattle.ftn_tree.specs.Extents.{scoping}
use Rattle.ftn_tree.specs.NameFaults.{use_rank}
use Rattle.scope_bind.specs.steps.UseFaults.{outer_uses}
use Rattle.scope_bind.proofs.use_faults.first_of_uses.Given as goal

abbrev pub invariant-loop-at : goal.invariant-loop-at
invariant-loop-at l = record {
  done : List Finding;
  first : l.first ≡ first_finding use_rank done;
  whole : flat_map (outer_uses l.known.files.now l.on_cycle l.marks) (range_with_len 0 (length (scoping l.known.files.now)))
      ≡ done ++ flat_map (outer_uses l.known.files.now l.on_cycle l.marks) (range_with_len l.at (length (scoping l.known.files.now) - l.at));
}
