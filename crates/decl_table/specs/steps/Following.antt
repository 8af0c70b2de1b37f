-- Paths and letters of a scoping unit by those of its host, and its own statements by numbers: what the code does. It serves the proof alone.
use Rattle.std.specs.Prelude.{ℕ, ◌+◌, ◌-◌, ◌==◌, Bool, false, if◌then◌else◌, List, [], ◌∷◌, ◌++◌, slice_get, Option, Some, None}
use Rattle.std.specs.List.{filter, range_with_len}
use Rattle.std.specs.Option.{option_map_or}
use Rattle.ftn_base.specs.ImplicitLetters as letters
use Rattle.ftn_base.specs.ImplicitLetters.{Entry}
use Rattle.ftn_tree.specs.declared.expr.Expr.{Expr, out-Expr}
use Rattle.ftn_tree.specs.declared.parts.LetterRange.{LetterRange}
use Rattle.ftn_tree.specs.declared.table.Extent.{Extent}
use Rattle.ftn_tree.specs.Extents.{layer_at}
use Rattle.ftn_tree.specs.declared.unit.FileTree.{FileTree}
use Rattle.ftn_tree.specs.Scopes.{scope_name}
use Rattle.ftn_tree.specs.ScopeLetters.{after_own, after_statement, whole_at}
use Rattle.decl_table.specs.steps.Rows.{Row, number_at}

-- by the paths of the scoping units before it
abbrev pub path_by : List FileTree → Extent → Option ℕ → List (List ℕ) → List ℕ
path_by files e None paths = scope_name files e
path_by files e (Some host) paths = option_map_or (λ path. path ++ 47 ∷ scope_name files e) (slice_get paths host) (scope_name files e)

-- by the letters of the scoping units before it
abbrev pub entries_by : List FileTree → Extent → Option ℕ → List (List Entry) → List Entry
entries_by files e None maps = after_own files letters.standard e
entries_by files e (Some host) maps = after_own files (option_map_or (λ entries. entries) (slice_get maps host) letters.standard) e

abbrev pub is_number : ℕ → Option ℕ → Bool
is_number number None = false
is_number number (Some found) = found == number

abbrev pub own_at : ℕ → ℕ → List Row → ℕ → List ℕ
own_at number file rows statement = if is_number number (number_at rows file statement) then statement ∷ [] else []

-- the statements from its opening to its ending that have its number
abbrev pub own_by : ℕ → Extent → List Row → List ℕ
own_by number e rows = filter (λ statement. is_number number (number_at rows e.file statement)) (range_with_len e.opening (e.ending + 1 - e.opening))

abbrev pub whole_of : Expr → ℕ
whole_of e = whole_at (out-Expr e)

-- the last letter of a range, or the only one
abbrev pub last_of : LetterRange → ℕ
last_of range = option_map_or (λ last. last) range.last range.first

abbrev pub letters_after : List FileTree → ℕ → List Entry → ℕ → List Entry
letters_after files file entries statement = after_statement files file entries (layer_at files file statement)
