-- What scoping units are, and their paths (Fortran 90, 2.2, 11.3, 11.4, 12.1.2.2, 14.1.1).
use Rattle.std.specs.Prelude.{ℕ, ◌+◌, ◌-◌, Bool, true, false, if◌then◌else◌, List, [], ◌∷◌, map, codes, slice_get, Option, Some, None}
use Rattle.std.specs.List.{filter, position, range_with_len, join_with_byte}
use Rattle.std.specs.Option.{option_map_or, option_and_then}
use Rattle.ftn_base.specs.declared.place.Range.{Range}
use Rattle.ftn_base.specs.declared.place.Span.{Span}
use Rattle.ftn_tree.specs.declared.form.Form.TheOpen.{Form-F}
use Rattle.ftn_tree.specs.declared.token.Tokens.{Tokens}
use Rattle.ftn_tree.specs.declared.table.Extent.{Extent}
use Rattle.ftn_tree.specs.declared.unit.FileTree.{FileTree}
use Rattle.ftn_tree.specs.declared.unit.Statement.{Statement}
use Rattle.ftn_tree.specs.declared.table.ScopeKind.{ScopeKind}
use Rattle.ftn_tree.specs.declared.table.ScopeKind.TheVariants as kinds
use Rattle.ftn_tree.specs.Layers.{FormLayer}
use Rattle.ftn_tree.specs.Roles.{name_bytes}
use Rattle.ftn_tree.specs.Extents.{scoping, layer_at, covers, scope_of, host_of, is_body, same_extent, is_some_extent}

-- ---- tokens

abbrev pub no_span : Range
no_span = record { start = 0; end = 0 }

abbrev pub token_bytes : Tokens → ℕ → Range
token_bytes tokens token = option_map_or (λ here. here.range) (slice_get tokens.items token) no_span

-- where a token of a file stands
abbrev pub span_of : List FileTree → ℕ → ℕ → Span
span_of files file token = record { file = file; range = option_map_or (λ tree. token_bytes tree.tokens token) (slice_get files file) no_span }

-- the folded name at a token of a file
abbrev pub name_at : List FileTree → ℕ → ℕ → List ℕ
name_at files file token = option_map_or (λ tree. name_bytes tree.tokens token) (slice_get files file) []

abbrev pub statement_start : ℕ → FileTree → ℕ
statement_start statement tree = option_map_or (λ (s : Statement). s.tokens.start) (slice_get tree.statements statement) 0

-- the first token of a statement
abbrev pub first_token_at : List FileTree → ℕ → ℕ → ℕ
first_token_at files file statement = option_map_or (statement_start statement) (slice_get files file) 0

-- ---- names

-- the name that an opening gives
abbrev pub opening_name : FormLayer → Option ℕ
opening_name (Form-F.Program name) = Some name
opening_name (Form-F.Module name) = Some name
opening_name (Form-F.BlockData joined name) = name
opening_name (Form-F.Subroutine name dummies) = Some name
opening_name (Form-F.Function ty name dummies answer) = Some name
opening_name _ = None

abbrev pub name_token : List FileTree → Extent → Option ℕ
name_token files e = option_and_then opening_name (layer_at files e.file e.opening)

-- the name of a scoping unit. A BLOCK DATA without a name has one of this project's own
abbrev pub scope_name : List FileTree → Extent → List ℕ
scope_name files e = option_map_or (name_at files e.file) (name_token files e) (codes "%blockdata")

-- the scoping units around an opening and itself, the outermost first
abbrev pub chain : List FileTree → Extent → List Extent
chain files e = filter (covers e.file e.opening) (scoping files)

-- its name, with the host's path and `/` before it (this project's own)
abbrev pub path_of : List FileTree → Extent → List ℕ
path_of files e = join_with_byte 47 (map (scope_name files) (chain files e))

-- ---- kinds

abbrev pub procedure_kind : Bool → ScopeKind → ScopeKind
procedure_kind true kind = kinds.Body
procedure_kind false kind = kind

abbrev pub kind_by : Bool → Option FormLayer → ScopeKind
kind_by body (Some (Form-F.Program name)) = kinds.Program
kind_by body (Some (Form-F.Module name)) = kinds.Module
kind_by body (Some (Form-F.BlockData joined name)) = kinds.BlockData
kind_by body (Some (Form-F.Function ty name dummies answer)) = procedure_kind body kinds.Function
kind_by body _ = procedure_kind body kinds.Subroutine

abbrev pub scope_kind : List FileTree → Extent → ScopeKind
scope_kind files e = kind_by (is_body files e) (layer_at files e.file e.opening)

-- ---- numbers

-- the number of a scoping unit
abbrev pub scope_number : List FileTree → Extent → Option ℕ
scope_number files e = position (same_extent e) (scoping files)

abbrev pub host_number : List FileTree → Extent → Option ℕ
host_number files e = option_and_then (scope_number files) (host_of files e)

-- all statements from its opening to its ending
abbrev pub all_statements : Extent → List ℕ
all_statements e = range_with_len e.opening (e.ending + 1 - e.opening)

-- its own statements: those that stand in no other scoping unit inside it
abbrev pub own_statements : List FileTree → Extent → List ℕ
own_statements files e = filter (λ statement. is_some_extent e (scope_of files e.file statement)) (all_statements e)
