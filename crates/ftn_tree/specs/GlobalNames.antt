-- The global names of a project: those of program units, external procedures and common blocks (Fortran 90, 11, 14.1.1; that a block has
-- no program unit's name is this project's own).
use Rattle.std.specs.Prelude.{ℕ, Bool, true, false, not, ◌&&◌, ◌||◌, ◌==◌, nat_lt, if◌then◌else◌, List, [], ◌∷◌, ◌++◌, map, Option, Some, None}
use Rattle.std.specs.List.{flat_map, filter, find, list_any}
use Rattle.std.specs.Option.{option_map, option_map_or}
use Rattle.std.specs.Str.{bytes_eq}
use Rattle.ftn_tree.specs.declared.form.Form.TheOpen.{Form-F}
use Rattle.ftn_tree.specs.declared.mention.Mention.{Mention}
use Rattle.ftn_tree.specs.declared.mention.Role.TheVariants as role
use Rattle.ftn_tree.specs.declared.table.Extent.{Extent}
use Rattle.ftn_tree.specs.declared.unit.FileTree.{FileTree}
use Rattle.ftn_tree.specs.Layers.{FormLayer}
use Rattle.ftn_tree.specs.Roles.{says}
use Rattle.ftn_tree.specs.Extents.{scoping, layer_at, host_of}
use Rattle.ftn_tree.specs.Scopes.{name_at, name_token, first_token_at, all_statements}
use Rattle.ftn_tree.specs.Sayings.{mentions_at}

-- a token of a file
pub record Place : Type 0 where
  pub file : ℕ
  pub token : ℕ

abbrev pub place : ℕ → ℕ → Place
place file token = record { file = file; token = token }

abbrev pub before : Place → Place → Bool
before one other = nat_lt one.file other.file || ((one.file == other.file) && nat_lt one.token other.token)

-- a global name, or none, and where it is given
pub record Global : Type 0 where
  pub name : Option (List ℕ)
  pub at : Place

abbrev pub same_name : Option (List ℕ) → Option (List ℕ) → Bool
same_name None None = true
same_name (Some one) (Some other) = bytes_eq one other
same_name _ _ = false

-- ---- program units and external procedures (11, 2.2.1)

abbrev pub has_no_host : List FileTree → Extent → Bool
has_no_host files e = option_map_or (λ host. false) (host_of files e) true

abbrev pub program_units : List FileTree → List Extent
program_units files = filter (has_no_host files) (scoping files)

-- its name, or the first token of an opening without one
abbrev pub unit_global : List FileTree → Extent → Global
unit_global files e = record {
  name = option_map (name_at files e.file) (name_token files e);
  at = place e.file (option_map_or (λ token. token) (name_token files e) (first_token_at files e.file e.opening));
}

abbrev pub unit_globals : List FileTree → List Global
unit_globals files = map (unit_global files) (program_units files)

-- ---- common blocks (5.5.2)

abbrev pub is_common_at : Option FormLayer → Bool
is_common_at (Some (Form-F.Common groups)) = true
is_common_at _ = false

abbrev pub block_names_at : List FileTree → ℕ → ℕ → List Global
block_names_at files file statement =
    if is_common_at (layer_at files file statement)
    then map (λ (m : Mention). record { name = Some (name_at files file m.token); at = place file m.token })
    (filter (λ m. says role.Slash m) (mentions_at files file statement))
    else []

-- all names between slashes in COMMON, in the order of tokens
abbrev pub block_names : List FileTree → List Global
block_names files = flat_map (λ e. flat_map (block_names_at files e.file) (all_statements e)) (program_units files)

-- those that no one before has
abbrev pub firsts_after : List Global → List Global → List Global
firsts_after seen [] = []
firsts_after seen (g ∷ rest) =
    if list_any (λ earlier. same_name earlier.name g.name) seen then firsts_after seen rest else g ∷ firsts_after (g ∷ seen) rest

abbrev pub blocks : List FileTree → List Global
blocks files = firsts_after [] (block_names files)

-- ---- declared twice

-- a later one of a name and the first one of it
abbrev pub unit_pairs : List Global → List Global → List (Place × Place)
unit_pairs seen [] = []
unit_pairs seen (g ∷ rest) =
    option_map_or (λ (first : Global). (g.at, first.at) ∷ []) (find (λ earlier. same_name earlier.name g.name) seen) []
    ++ unit_pairs (seen ++ g ∷ []) rest

-- the later and the earlier of two places
abbrev pub in_turn : Place → Place → Place × Place
in_turn one other = if before one other then (other, one) else (one, other)

-- a common block and the first unit of its name
abbrev pub block_pair : List Global → Global → List (Place × Place)
block_pair units block = option_map_or (λ (unit : Global). in_turn unit.at block.at ∷ []) (find (λ unit. same_name unit.name block.name) units) []

abbrev pub global_twice : List FileTree → List (Place × Place)
global_twice files = unit_pairs [] (unit_globals files) ++ flat_map (block_pair (unit_globals files)) (blocks files)
