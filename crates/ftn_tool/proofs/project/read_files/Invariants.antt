use Rattle.std.proofs.Common.{◌≡◌, ◌≤◌, ◌+◌, ◌++◌, true, List, length, drop}
use Rattle.std.specs.Prelude.{IfSome}
use Rattle.std.specs.List.{filter}
use Rattle.ftn_base.specs.Files.{File, is_source}
use Rattle.ftn_base.specs.Limits.{most_project_bytes}
use Rattle.ftn_tree.specs.ProjectLimits.{past_bytes}
use Rattle.ftn_tool.specs.steps.Fronts.{are_sources, fronts}
use Rattle.ftn_tool.proofs.project.read_files.Given as goal

abbrev pub invariant-names : goal.invariant-names
invariant-names g l = record {
  found : IfSome (g.S.Store.files l.store) (λ told. fronts told l.names ≡ l.files.items ++ fronts told (drop l.name-index l.names));
  sources : are_sources l.files.items ≡ true;
  few : length l.files.items + length (filter is_source (drop l.name-index l.names)) ≤ length (filter is_source l.names);
  measured : (rest : List File) → past_bytes 0 (l.files.items ++ rest) ≡ past_bytes l.size rest;
  room : l.size ≤ most_project_bytes;
  same : g.S.Store.files l.store ≡ g.S.Store.files l.initial.store;
  later : g.S.Store.faults l.initial.store ≤ g.S.Store.faults l.store;
}
