use Rattle.std.proofs.Common.{◌≡◌, ◌+◌, ◌-◌, ◌++◌, List}
use Rattle.std.specs.List.{flat_map, range_with_len}
use Rattle.ftn_tree.specs.DeclarationFaults.{Finding, first_finding}
use Rattle.ftn_tree.specs.NameFaults.{use_rank}
use Rattle.ftn_tree.specs.Scopes.{all_statements}
use Rattle.scope_bind.specs.steps.UseFaults.{use_at}
use Rattle.scope_bind.proofs.use_faults.first_in_unit.Given as goal

abbrev pub invariant-loop-at : goal.invariant-loop-at
invariant-loop-at l = record {
  done : List Finding;
  first : l.first ≡ first_finding use_rank done;
  whole : flat_map (use_at l.known.files.now l.unit l.marks) (all_statements l.unit)
      ≡ done ++ flat_map (use_at l.known.files.now l.unit l.marks) (range_with_len l.at (l.unit.ending + 1 - l.at));
}
