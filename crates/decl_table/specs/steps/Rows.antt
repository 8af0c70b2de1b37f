-- For each statement of a project the number of the last of some extents that cover it, given in turn: what the code does. Laws in
-- `proofs` say that these are the innermost extents of the definitions. It serves the proof alone.
use Rattle.std.specs.Prelude.{ℕ, ◌+◌, not, ◌&&◌, nat_le, if◌then◌else◌, List, [], ◌∷◌, map, length, replicate, slice_get, slice_set, Option, Some, None}
use Rattle.std.specs.List.{filter}
use Rattle.std.specs.Option.{option_map_or}
use Rattle.ftn_tree.specs.declared.table.Extent.{Extent}
use Rattle.ftn_tree.specs.declared.unit.FileTree.{FileTree}
use Rattle.ftn_tree.specs.Extents.{is_interface}

abbrev pub Row : Type 0
Row = List (Option ℕ)

abbrev pub unpainted : ℕ → Row
unpainted count = replicate count None

abbrev pub number_in : ℕ → Row → Option ℕ
number_in statement row = option_map_or (λ number. number) (slice_get row statement) None

abbrev pub number_at : List Row → ℕ → ℕ → Option ℕ
number_at rows file statement = option_map_or (number_in statement) (slice_get rows file) None

-- the statements of a row that begins at one of them
abbrev pub painted_from : ℕ → ℕ → ℕ → ℕ → Row → Row
painted_from at opening ending number [] = []
painted_from at opening ending number (here ∷ rest) =
    (if nat_le opening at && nat_le at ending then Some number else here) ∷ painted_from (at + 1) opening ending number rest

abbrev pub painted : ℕ → ℕ → ℕ → Row → Row
painted opening ending number row = painted_from 0 opening ending number row

abbrev pub empty_rows : List FileTree → List Row
empty_rows files = map (λ (tree : FileTree). unpainted (length tree.statements)) files

abbrev pub with_extent : Extent → ℕ → List Row → List Row
with_extent e number rows = option_map_or (λ row. slice_set rows e.file (painted e.opening e.ending number row)) (slice_get rows e.file) rows

abbrev pub rows_after : ℕ → List Extent → List Row → List Row
rows_after number [] rows = rows
rows_after number (e ∷ rest) rows = rows_after (number + 1) rest (with_extent e number rows)

abbrev pub around_after : ℕ → List Extent → List Row → List (Option ℕ)
around_after number [] rows = []
around_after number (e ∷ rest) rows = number_at rows e.file e.opening ∷ around_after (number + 1) rest (with_extent e number rows)

abbrev pub rows_of : List FileTree → List Extent → List Row
rows_of files extents = rows_after 0 extents (empty_rows files)

abbrev pub around_of : List FileTree → List Extent → List (Option ℕ)
around_of files extents = around_after 0 extents (empty_rows files)

-- those that are no interface blocks
abbrev pub units_of : List FileTree → List Extent → List Extent
units_of files all = filter (λ e. not (is_interface files e)) all
