-- Program units, procedures, interface bodies and interface blocks by the statements that they take up, and the scoping units among
-- them (Fortran 90, 2.2, 14.1.1). Files, statements and tokens are told by their numbers, from 0.
use Rattle.std.specs.Prelude.{ℕ, ◌+◌, Bool, true, false, not, ◌&&◌, ◌==◌, nat_le, nat_lt, List, [], ◌∷◌, ◌++◌, slice_get, Option, Some, None}
use Rattle.std.specs.List.{flat_map, filter, last_or}
use Rattle.std.specs.Option.{option_map, option_map_or, option_and_then}
use Rattle.ftn_tree.specs.declared.form.Form.{Form, out-Form}
use Rattle.ftn_tree.specs.declared.form.Form.TheOpen.{Form-F}
use Rattle.ftn_tree.specs.declared.table.Extent.{Extent}
use Rattle.ftn_tree.specs.declared.unit.Unit.{Unit as UnitTree, fold-Unit}
use Rattle.ftn_tree.specs.declared.unit.Unit.TheOpen.{Unit-F}
use Rattle.ftn_tree.specs.declared.unit.FileTree.{FileTree}
use Rattle.ftn_tree.specs.Layers.{FormLayer}

abbrev pub extent_step : ℕ → Unit-F (List Extent) → List Extent
extent_step file u = record { file = file; opening = u.opening; ending = u.ending } ∷ flat_map (λ inner. inner) u.inner

-- a unit, and then all that is inside it
abbrev pub extents_in : ℕ → UnitTree → List Extent
extents_in file = fold-Unit (List Extent) (extent_step file)

abbrev pub extents_from : ℕ → List FileTree → List Extent
extents_from file [] = []
extents_from file (tree ∷ trees) = flat_map (extents_in file) tree.units ++ extents_from (file + 1) trees

-- all of a project, in the order of their openings
abbrev pub extents : List FileTree → List Extent
extents files = extents_from 0 files

abbrev pub form_in : ℕ → FileTree → Option Form
form_in statement tree = option_map (λ s. s.form) (slice_get tree.statements statement)

abbrev pub form_at : List FileTree → ℕ → ℕ → Option Form
form_at files file statement = option_and_then (form_in statement) (slice_get files file)

abbrev pub layer_at : List FileTree → ℕ → ℕ → Option FormLayer
layer_at files file statement = option_map out-Form (form_at files file statement)

abbrev pub is_interface_at : Option FormLayer → Bool
is_interface_at (Some (Form-F.Interface name)) = true
is_interface_at _ = false

abbrev pub is_interface : List FileTree → Extent → Bool
is_interface files e = is_interface_at (layer_at files e.file e.opening)

-- the scoping units: all but interface blocks
abbrev pub scoping : List FileTree → List Extent
scoping files = filter (λ e. not (is_interface files e)) (extents files)

-- the statement stands in it, its opening and its ending with it
abbrev pub covers : ℕ → ℕ → Extent → Bool
covers file statement e = (e.file == file) && nat_le e.opening statement && nat_le statement e.ending

-- the same without its opening
abbrev pub encloses : ℕ → ℕ → Extent → Bool
encloses file statement e = covers file statement e && nat_lt e.opening statement

-- the innermost of these that pass: inner ones come after those around them
abbrev pub innermost : (Extent → Bool) → List Extent → Option Extent
innermost test all = last_or None (filter test all)

-- the scoping unit in which a statement stands
abbrev pub scope_of : List FileTree → ℕ → ℕ → Option Extent
scope_of files file statement = innermost (covers file statement) (scoping files)

-- its host: the scoping unit around it (2.2.3), also of an interface body
abbrev pub host_of : List FileTree → Extent → Option Extent
host_of files e = innermost (encloses e.file e.opening) (scoping files)

abbrev pub is_some_interface : List FileTree → Option Extent → Bool
is_some_interface files found = option_map_or (is_interface files) found false

-- an interface body stands right in an interface block (12.3.2.1)
abbrev pub is_body : List FileTree → Extent → Bool
is_body files e = is_some_interface files (innermost (encloses e.file e.opening) (extents files))

abbrev pub same_extent : Extent → Extent → Bool
same_extent one other = (one.file == other.file) && (one.opening == other.opening)

abbrev pub is_some_extent : Extent → Option Extent → Bool
is_some_extent e found = option_map_or (same_extent e) found false
