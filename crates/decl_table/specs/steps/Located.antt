-- What is kept of the scoping units of a project: they themselves, whether each is an interface body, the number of each one's host, and
-- the numbers of statements. It serves the proof alone.
use Rattle.std.specs.Prelude.{◌≡◌, ℕ, Bool, List, map, slice_get, Option}
use Rattle.std.specs.Option.{option_and_then}
use Rattle.ftn_tree.specs.declared.table.Extent.{Extent}
use Rattle.ftn_tree.specs.declared.unit.FileTree.{FileTree}
use Rattle.ftn_tree.specs.Extents.{scoping, is_body, is_some_interface}
use Rattle.ftn_tree.specs.Scopes.{host_number}
use Rattle.decl_table.specs.declared.scoping.Scoping.{Scoping}
use Rattle.decl_table.specs.steps.Rows.{rows_of}

-- whether the extent of that number is an interface block
abbrev pub is_interface_number : List FileTree → List Extent → Option ℕ → Bool
is_interface_number files all number = is_some_interface files (option_and_then (slice_get all) number)

pub record IsScoping (files : List FileTree) (s : Scoping) : Type 0 where
  pub units : s.units.items ≡ scoping files
  pub bodies : s.bodies.items ≡ map (is_body files) (scoping files)
  pub hosts : s.hosts.items ≡ map (host_number files) (scoping files)
  pub rows : s.rows.items ≡ rows_of files (scoping files)
