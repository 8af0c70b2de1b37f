-- The lists of common blocks (Fortran 90, 5.5.2): repeated lists of one block in one scoping unit are one list (5.5.2.1).
use Rattle.std.specs.Prelude.{ℕ, Bool, List, [], ◌∷◌, map, Option, Some, None}
use Rattle.std.specs.List.{filter, flat_map}
use Rattle.std.specs.Option.{is_some, option_and_then, unwrap_or}
use Rattle.ftn_base.specs.Accessible.{once}
use Rattle.ftn_base.specs.declared.storage.BlockList.{BlockList}
use Rattle.ftn_base.specs.declared.storage.Member.{Member}
use Rattle.ftn_tree.specs.declared.form.Form.TheOpen.{Form-F}
use Rattle.ftn_tree.specs.declared.parts.BlockName.{BlockName}
use Rattle.ftn_tree.specs.declared.parts.BlockName.TheVariants as blocks
use Rattle.ftn_tree.specs.declared.parts.CommonGroup.{CommonGroup}
use Rattle.ftn_tree.specs.declared.parts.CommonMember.{CommonMember}
use Rattle.ftn_tree.specs.declared.table.Extent.{Extent}
use Rattle.ftn_tree.specs.declared.unit.FileTree.{FileTree}
use Rattle.ftn_tree.specs.Layers.{FormLayer}
use Rattle.ftn_tree.specs.Extents.{scoping, layer_at}
use Rattle.ftn_tree.specs.Scopes.{name_at, first_token_at, own_statements, scope_number}
use Rattle.ftn_tree.specs.GlobalNames.{Place, place, same_name}
use Rattle.ftn_tree.specs.Meanings.{block}
use Rattle.ftn_tree.specs.Bindings.{entity_number}
use Rattle.ftn_tree.specs.KeyKinds.{key_at}
use Rattle.ftn_tree.specs.StorageObjects.{object_number}

-- ---- groups: a statement, the block that it lists, which has a name or is blank common, and the names of the members

pub record Group : Type 0 where
  pub statement : ℕ
  pub name : Option (List ℕ)
  pub members : List ℕ

abbrev pub block_named : List FileTree → ℕ → BlockName → Option (List ℕ)
block_named files file (blocks.Named slash name) = Some (name_at files file name)
block_named files file _ = None

abbrev pub group_of : List FileTree → ℕ → ℕ → CommonGroup → Group
group_of files file statement g = record {
  statement = statement;
  name = block_named files file g.block;
  members = map (λ (m : CommonMember). m.name) g.members;
}

abbrev pub groups_said : List FileTree → ℕ → ℕ → Option FormLayer → List Group
groups_said files file statement (Some (Form-F.Common groups)) = map (group_of files file statement) groups
groups_said files file statement _ = []

abbrev pub groups_in : List FileTree → Extent → List Group
groups_in files e = flat_map (λ statement. groups_said files e.file statement (layer_at files e.file statement)) (own_statements files e)

-- ---- lists: the groups of one block in one scoping unit

pub record Listed : Type 0 where
  pub scope : Extent
  pub name : Option (List ℕ)
  pub groups : List Group

abbrev pub list_in : List FileTree → Extent → Option (List ℕ) → Listed
list_in files e name = record { scope = e; name = name; groups = filter (λ (g : Group). same_name g.name name) (groups_in files e) }

abbrev pub lists_in : List FileTree → Extent → List Listed
lists_in files e = map (list_in files e) (once same_name (map (λ (g : Group). g.name) (groups_in files e)))

-- all of a project: by scoping units, and in each by the first group of the block
abbrev pub common_lists : List FileTree → List Listed
common_lists files = flat_map (lists_in files) (scoping files)

-- the names of its members, as places
abbrev pub member_places : Listed → List Place
member_places list = map (place list.scope.file) (flat_map (λ (g : Group). g.members) list.groups)

-- the first token of the first COMMON statement of the list
abbrev pub first_of_groups : List FileTree → ℕ → List Group → Place
first_of_groups files file [] = place file 0
first_of_groups files file (g ∷ rest) = place file (first_token_at files file g.statement)

abbrev pub list_place : List FileTree → Listed → Place
list_place files list = first_of_groups files list.scope.file list.groups

-- ---- the same by numbers

abbrev pub object_at : List FileTree → Place → ℕ
object_at files at = unwrap_or (option_and_then (object_number files) (key_at files at.file at.token)) 0

abbrev pub block_number : List FileTree → Listed → ℕ
block_number files list = (entity_number files (block list.name)).0

abbrev pub list_scope : List FileTree → Listed → ℕ
list_scope files list = unwrap_or (scope_number files list.scope) 0

abbrev pub members_listed : List FileTree → Listed → List ℕ
members_listed files list = map (object_at files) (member_places list)

-- the members of all lists, in their order
abbrev pub member_of : ℕ → ℕ → ℕ → Member
member_of number scope object = record { block = number; scope = scope; object = object }

abbrev pub list_members : List FileTree → Listed → List Member
list_members files list = map (member_of (block_number files list) (list_scope files list)) (members_listed files list)

abbrev pub members_of : List FileTree → List Member
members_of files = flat_map (list_members files) (common_lists files)

-- what is given to be laid out is that list
pub record Row : Type 0 where
  pub block : ℕ
  pub named : Bool
  pub scope : ℕ
  pub members : List ℕ

abbrev pub row_of : BlockList → Row
row_of list = record { block = list.block; named = list.named; scope = list.scope; members = list.members.items }

abbrev pub row_listed : List FileTree → Listed → Row
row_listed files list = record {
  block = block_number files list;
  named = is_some list.name;
  scope = list_scope files list;
  members = members_listed files list;
}

abbrev pub rows_listed : List FileTree → List Row
rows_listed files = map (row_listed files) (common_lists files)
