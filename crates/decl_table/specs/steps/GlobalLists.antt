-- The global names of a project, one after the other: what the code does.
use Rattle.std.specs.Prelude.{ℕ, if◌then◌else◌, List, [], ◌∷◌, is_none, Option}
use Rattle.ftn_tree.specs.declared.table.Extent.{Extent}

abbrev pub outer_at : Extent → Option ℕ → List Extent
outer_at unit host = if is_none host then unit ∷ [] else []
