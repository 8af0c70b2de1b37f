-- Names of common blocks by their tokens.
use Rattle.std.specs.Prelude.{ℕ, Bool, false, if◌then◌else◌, List, [], map, Option, Some, None}
use Rattle.std.specs.List.{filter, flat_map}
use Rattle.std.specs.Option.{option_map_or}
use Rattle.ftn_tree.specs.declared.form.Form.{Form, out-Form}
use Rattle.ftn_tree.specs.declared.mention.Mention.{Mention}
use Rattle.ftn_tree.specs.declared.mention.Role.TheVariants as role
use Rattle.ftn_tree.specs.declared.table.Extent.{Extent}
use Rattle.ftn_tree.specs.declared.table.EntityKind.TheVariants as kinds
use Rattle.ftn_tree.specs.declared.unit.FileTree.{FileTree}
use Rattle.ftn_tree.specs.Roles.{says}
use Rattle.ftn_tree.specs.Mentions.{mentions_of}
use Rattle.ftn_tree.specs.Extents.{form_at}
use Rattle.ftn_tree.specs.Scopes.{name_at, all_statements}
use Rattle.ftn_tree.specs.GlobalNames.{Global, place, is_common_at}
use Rattle.decl_table.specs.declared.block_names.TokenAt.{TokenAt}
use Rattle.decl_table.specs.declared.draft.Draft.{Draft}

abbrev pub token_at : ℕ → Mention → TokenAt
token_at file m = record { file = file; token = m.token }

abbrev pub slashes : ℕ → List Mention → List TokenAt
slashes file mentions = map (token_at file) (filter (λ m. says role.Slash m) mentions)

abbrev pub names_in : ℕ → Form → List TokenAt
names_in file form = if is_common_at (Some (out-Form form)) then slashes file (mentions_of form) else []

abbrev pub names_at : List FileTree → ℕ → ℕ → List TokenAt
names_at files file statement = option_map_or (names_in file) (form_at files file statement) []

abbrev pub names_of : List FileTree → List Extent → List TokenAt
names_of files units = flat_map (λ e. flat_map (names_at files e.file) (all_statements e)) units

-- the global name at a token
abbrev pub global_of : List FileTree → TokenAt → Global
global_of files at = record { name = Some (name_at files at.file at.token); at = place at.file at.token }

-- a block, where it is first
abbrev pub block_as : TokenAt → Bool → Option ℕ → Draft
block_as at last name = record {
  file = at.file;
  token = at.token;
  last = last;
  name = name;
  home = None;
  kind = kinds.Block;
  implicit = false;
  opens = None;
}
