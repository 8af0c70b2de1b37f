use Rattle.std.proofs.Common.{◌≡◌, map, take}
use Rattle.ftn_tree.specs.DeclaredEntities.{scope_entry}
use Rattle.ftn_tree.specs.Extents.{scoping}
use Rattle.ftn_tree.specs.ScopeLetters.{entries_of}
use Rattle.ftn_tree.specs.Scopes.{path_of}
use Rattle.decl_table.proofs.scopes.scope_table.Given as goal

abbrev pub invariant-loop-at : goal.invariant-loop-at
invariant-loop-at l = record {
  made : l.made.items ≡ map (scope_entry l.files) (take l.at (scoping l.files));
  paths : l.paths.items ≡ map (path_of l.files) (take l.at (scoping l.files));
  maps : l.maps.items ≡ map (entries_of l.files) (take l.at (scoping l.files));
}
