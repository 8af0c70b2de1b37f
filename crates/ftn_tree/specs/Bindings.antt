-- What each occurrence of a name denotes, and all entities of a project (Fortran 90, 11.3.2, 12.3.2.1, 14.1.2).
use Rattle.std.specs.Prelude.{ℕ, ◌==◌, Bool, true, false, not, ◌&&◌, if◌then◌else◌, List, [], ◌∷◌, ◌++◌, map, length, slice_get, Option, Some, None}
use Rattle.std.specs.List.{filter, find, flat_map, list_any, position, range_with_len, enumerate_from}
use Rattle.std.specs.Option.{is_some, option_map, option_map_or, option_eq, unwrap_or}
use Rattle.ftn_base.specs.Accessible.{entities_of, exports_of}
use Rattle.ftn_base.specs.Exports.{Pair, PairOf}
use Rattle.ftn_base.specs.declared.entity.EntityId.{EntityId}
use Rattle.ftn_tree.specs.declared.form.Form.TheOpen.{Form-F}
use Rattle.ftn_tree.specs.declared.mention.Mention.{Mention}
use Rattle.ftn_tree.specs.declared.mention.Role.{Role}
use Rattle.ftn_tree.specs.declared.mention.Role.TheVariants as role
use Rattle.ftn_tree.specs.declared.parts.OnlyItem.{OnlyItem}
use Rattle.ftn_tree.specs.declared.parts.Rename.{Rename}
use Rattle.ftn_tree.specs.declared.table.Bound.{Bound}
use Rattle.ftn_tree.specs.declared.table.Entity.{Entity}
use Rattle.ftn_tree.specs.declared.table.EntityKind.{EntityKind}
use Rattle.ftn_tree.specs.declared.table.EntityKind.TheVariants as kinds
use Rattle.ftn_tree.specs.declared.table.Extent.{Extent}
use Rattle.ftn_tree.specs.declared.table.Tables.{Tables}
use Rattle.ftn_tree.specs.declared.unit.FileTree.{FileTree}
use Rattle.ftn_tree.specs.Layers.{FormLayer}
use Rattle.ftn_tree.specs.Extents.{scoping, layer_at, scope_of, is_body}
use Rattle.ftn_tree.specs.Scopes.{name_at, scope_name, scope_number}
use Rattle.ftn_tree.specs.Sayings.{mentions_at}
use Rattle.ftn_tree.specs.GlobalNames.{Place, place, Global, same_name, firsts_after, blocks}
use Rattle.ftn_tree.specs.DeclaredEntities.{Drafted, drafted, drafts, in_order, scope_entry, occurrences_of, first_occurrence}
use Rattle.ftn_tree.specs.Meanings.{Key, unit, own, block, intrinsic_function, Meaning, one, unknown, same_names, known, is_nothing, same_key, unit_of, is_module, external_of, declared_in, used_meaning, module_number, names_in, all_exports, accessible_in, denotes, meaning_at}

-- ---- names of which the place alone tells what they denote

-- the name of what opens; that of an interface body is the project's procedure (12.3.2.1)
abbrev pub opened_meaning : List FileTree → Extent → Meaning
opened_meaning files e = if is_body files e then known (external_of files (scope_name files e)) else one (unit e)

-- the name after END: of the scoping unit, if the statement ends it, else of a construct or an interface block in it
abbrev pub ended_meaning : List FileTree → Extent → ℕ → Mention → Meaning
ended_meaning files e statement m = if statement == e.ending then opened_meaning files e else meaning_at files e m

-- there is a block where some COMMON lists it (5.5.2)
abbrev pub block_meaning : List FileTree → List ℕ → Meaning
block_meaning files name =
    if list_any (λ (g : Global). same_name g.name (Some name)) (blocks files) then one (block (Some name)) else unknown

abbrev pub module_meaning : List FileTree → List ℕ → Meaning
module_meaning files name = known (option_map unit (unit_of files is_module name))

-- ---- items of USE (11.3.2)

-- the token of the module's name
abbrev pub module_token : FormLayer → Option ℕ
module_token (Form-F.UseAll name renames) = Some name
module_token (Form-F.UseOnly name items) = Some name
module_token _ = None

abbrev pub rename_tokens : Rename → List (ℕ × ℕ)
rename_tokens item = (item.local, item.source) ∷ (item.source, item.source) ∷ []

abbrev pub only_tokens : OnlyItem → List (ℕ × ℕ)
only_tokens item = (unwrap_or item.local item.source, item.source) ∷ (item.source, item.source) ∷ []

-- each name of an item, and the name that the item has in the module
abbrev pub item_tokens : FormLayer → List (ℕ × ℕ)
item_tokens (Form-F.UseAll name renames) = flat_map rename_tokens renames
item_tokens (Form-F.UseOnly name items) = flat_map only_tokens items
item_tokens _ = []

-- what a module exports by a name
abbrev pub exported_keys : List FileTree → List ℕ → List ℕ → List Key
exported_keys files module_name source =
    option_map_or (λ number. entities_of (exports_of (all_exports files) number) source) (module_number files module_name) []

abbrev pub keys_by_tokens : List FileTree → ℕ → Option ℕ → Option (ℕ × ℕ) → List Key
keys_by_tokens files file (Some name) (Some item) = exported_keys files (name_at files file name) (name_at files file item.1)
keys_by_tokens files file _ _ = []

-- what the item with a name at this token gives
abbrev pub item_keys : List FileTree → ℕ → Option FormLayer → ℕ → List Key
item_keys files file None token = []
item_keys files file (Some form) token = keys_by_tokens files file (module_token form) (find (λ item. item.0 == token) (item_tokens form))

abbrev pub keys_at : List FileTree → Extent → ℕ → Mention → List Key
keys_at files e statement m = item_keys files e.file (layer_at files e.file statement) m.token

-- ---- occurrences

-- a name before `=>` denotes what the item gives first; where that is several, the name after it is the one that is ambiguous
abbrev pub meaning_by : Role → List FileTree → Extent → ℕ → Mention → Meaning
meaning_by role.Opens files e statement m = opened_meaning files e
meaning_by role.Ends files e statement m = ended_meaning files e statement m
meaning_by role.Slash files e statement m = block_meaning files (name_at files e.file m.token)
meaning_by role.Module files e statement m = module_meaning files (name_at files e.file m.token)
meaning_by role.Source files e statement m = used_meaning (keys_at files e statement m)
meaning_by role.Local files e statement m = known (slice_get (keys_at files e statement m) 0)
meaning_by _ files e statement m = meaning_at files e m

abbrev pub occurrence_meaning : List FileTree → ℕ → ℕ → Mention → Meaning
occurrence_meaning files file statement m = option_map_or (λ e. meaning_by m.role files e statement m) (scope_of files file statement) unknown

-- a name where it stands, and what it denotes there
pub record Denoting : Type 0 where
  pub at : Place
  pub name : List ℕ
  pub meaning : Meaning

abbrev pub denoting : List FileTree → ℕ → ℕ → Mention → Denoting
denoting files file statement m = record {
  at = place file m.token;
  name = name_at files file m.token;
  meaning = occurrence_meaning files file statement m;
}

abbrev pub denotings_in : List FileTree → ℕ → FileTree → List Denoting
denotings_in files file tree =
    flat_map (λ statement. map (denoting files file statement) (mentions_at files file statement)) (range_with_len 0 (length tree.statements))

-- of all occurrences, in their order
abbrev pub denotings : List FileTree → List Denoting
denotings files = flat_map (λ numbered. denotings_in files numbered.0 numbered.1) (enumerate_from 0 files)

-- ---- entities that no statement declares

-- it is that entity and no other
abbrev pub is_key : Key → Meaning → Bool
is_key key (one other) = same_key key other
is_key key _ = false

-- 5.3: the name is that of an entity of the scoping unit which its first letter alone types
abbrev pub is_letter_typed : List FileTree → Extent → List ℕ → Bool
is_letter_typed files e name = is_nothing (declared_in files e name) && is_key (own e name) (denotes files e name)

abbrev pub draft_letter : List FileTree → Extent → List ℕ → Drafted
draft_letter files e name =
    drafted files (place e.file (first_occurrence files e name)) false (Some name) (scope_number files e) kinds.Variable true None

abbrev pub letter_drafts : List FileTree → Extent → List Drafted
letter_drafts files e = map (draft_letter files e) (filter (is_letter_typed files e) (names_in files e))

-- 13.10: an intrinsic function is an entity where a name denotes it
abbrev pub intrinsic_at : Denoting → List Global
intrinsic_at d = if is_key (intrinsic_function d.name) d.meaning then record { name = Some d.name; at = d.at } ∷ [] else []

abbrev pub draft_intrinsic : List FileTree → Global → Drafted
draft_intrinsic files g = drafted files g.at false g.name None kinds.Intrinsic false None

abbrev pub intrinsic_drafts : List FileTree → List Drafted
intrinsic_drafts files = map (draft_intrinsic files) (firsts_after [] (flat_map intrinsic_at (denotings files)))

-- ---- all entities, with their numbers

abbrev pub bound_entities : List FileTree → List Entity
bound_entities files =
    map (λ d. d.entity) (in_order (drafts files ++ (flat_map (letter_drafts files) (scoping files) ++ intrinsic_drafts files)))

-- there is a number, and it is that one
abbrev pub same_number : Option ℕ → Option ℕ → Bool
same_number found wanted = is_some found && option_eq ◌==◌ found wanted

abbrev pub is_block : EntityKind → Bool
is_block kinds.Block = true
is_block _ = false

abbrev pub is_intrinsic_kind : EntityKind → Bool
is_intrinsic_kind kinds.Intrinsic = true
is_intrinsic_kind _ = false

-- the entity is the one that the key tells
abbrev pub is_entity_of : List FileTree → Key → Entity → Bool
is_entity_of files (unit e) entity = same_number entity.opens (scope_number files e)
is_entity_of files (own e name) entity =
    not (is_some entity.opens) && same_number entity.home (scope_number files e) && same_names entity.name (Some name)
is_entity_of files (block name) entity = is_block entity.kind && same_names entity.name name
is_entity_of files (intrinsic_function name) entity = is_intrinsic_kind entity.kind && same_names entity.name (Some name)

abbrev pub entity_number : List FileTree → Key → EntityId
entity_number files key = record { 0 = unwrap_or (position (is_entity_of files key) (bound_entities files)) 0 }

-- a project without a fault has no other meanings
abbrev pub meaning_number : List FileTree → Meaning → EntityId
meaning_number files (one key) = entity_number files key
meaning_number files _ = record { 0 = 0 }

abbrev pub numbered_pair : List FileTree → PairOf Key → Pair
numbered_pair files pair = (pair.0, entity_number files pair.1)

abbrev pub bound_tables : List FileTree → Tables
bound_tables files = record { scopes = map (scope_entry files) (scoping files); entities = bound_entities files; occurrences = occurrences_of files }

-- the tables of a project, what each of its names denotes, and what USE makes accessible in each scoping unit
abbrev pub bound_of : List FileTree → Bound
bound_of files = record {
  tables = bound_tables files;
  denotes = map (λ (d : Denoting). meaning_number files d.meaning) (denotings files);
  accessible = map (λ e. map (numbered_pair files) (accessible_in files e)) (scoping files);
}
