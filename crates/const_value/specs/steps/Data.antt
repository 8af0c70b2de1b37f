-- What the statements of scoping units write for names, by their numbers. It serves the proof alone.
use Rattle.std.specs.Prelude.{ℕ, List, [], ◌∷◌, slice_get, slice_set, Option, Some, None}
use Rattle.std.specs.List.{flat_map}
use Rattle.std.specs.Option.{option_map_or}
use Rattle.ftn_tree.specs.declared.table.Extent.{Extent}
use Rattle.ftn_tree.specs.declared.unit.FileTree.{FileTree}
use Rattle.ftn_tree.specs.Declarations.{Declared, declared_at}
use Rattle.ftn_tree.specs.Extents.{layer_at}
use Rattle.ftn_tree.specs.Scopes.{own_statements}
use Rattle.const_value.specs.steps.Written.{WrittenAs, with_declared}

-- what the own statements of a scoping unit declare
abbrev pub declared_in : List FileTree → Extent → List Declared
declared_in files e = flat_map (λ statement. declared_at (layer_at files e.file statement)) (own_statements files e)

-- one more is written for the name with that number, where there is one
abbrev pub put_one : List WrittenAs → Option ℕ → Declared → List WrittenAs
put_one written None d = written
put_one written (Some number) d = option_map_or (λ w. slice_set written number (with_declared w d)) (slice_get written number) written

abbrev pub put_by : (Declared → Option ℕ) → List WrittenAs → List Declared → List WrittenAs
put_by number written [] = written
put_by number written (d ∷ more) = put_by number (put_one written (number d) d) more
