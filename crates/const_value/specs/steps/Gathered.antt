-- What is gathered of a project, by what its files define: its names in the order of scoping units, each with its number, and its entities.
-- It serves the proof alone.
use Rattle.std.specs.Prelude.{◌≡◌, ℕ, List, map, Option}
use Rattle.std.specs.List.{position}
use Rattle.std.specs.Option.{option_and_then, option_map, unwrap_or}
use Rattle.ftn_tree.specs.declared.table.Entity.{Entity}
use Rattle.ftn_tree.specs.declared.unit.FileTree.{FileTree}
use Rattle.ftn_tree.specs.Bindings.{bound_entities, bound_of, entity_number, is_entity_of}
use Rattle.ftn_tree.specs.DeclarationFaults.{is_block_data}
use Rattle.ftn_tree.specs.KeyKinds.{Datum, key_at}
use Rattle.ftn_tree.specs.Meanings.{Key, own}
use Rattle.ftn_tree.specs.NameFaults.{said_of}
use Rattle.ftn_tree.specs.Scopes.{scope_kind, scope_number}
use Rattle.const_expr.specs.Namings.{entity_in}
use Rattle.const_value.specs.declared.name_numbers.Owned.{Owned}
use Rattle.const_value.specs.declared.project.Project.{Project}
use Rattle.const_value.specs.steps.Links.{name_of}
use Rattle.const_value.specs.steps.Names.{all_data, all_said, letter_of, number_of}
use Rattle.const_value.specs.steps.Projects.{row_in}
use Rattle.const_value.specs.steps.Said.{said_in}
use Rattle.const_value.specs.steps.Written.{written_of, written_seen}

-- ---- names: that of number n is the datum at place n of `all_data`

-- where it is, and what is said of it
abbrev pub owned_of : List FileTree → Datum → Owned
owned_of files d = record {
  scope = unwrap_or (scope_number files d.scope) 0;
  file = d.scope.file;
  letter = letter_of d.name;
  said = said_in (is_block_data (scope_kind files d.scope)) (said_of files d.scope d.name);
}

-- the number of a name of a scoping unit
abbrev pub datum_number : List FileTree → Datum → Option ℕ
datum_number files d = option_and_then (λ scope. number_of (all_said files) scope d.name) (scope_number files d.scope)

-- ---- entities: that of number n is at place n of `bound_entities`

-- the number of the name under which what an entity holds is declared
abbrev pub name_number : List FileTree → Entity → Option ℕ
name_number files entity = name_of (number_of (all_said files)) entity

abbrev pub key_number : List FileTree → Key → Option ℕ
key_number files key = position (is_entity_of files key) (bound_entities files)

-- the number of the scoping unit's own entity of that name
abbrev pub own_entity : List FileTree → Datum → Option ℕ
own_entity files d = key_number files (own d.scope d.name)

-- the number by which an entity stands at tokens
abbrev pub entity_index : List FileTree → Key → ℕ
entity_index files key = (entity_number files key).0

pub record IsGathered (files : List FileTree) (p : Project) : Type 0 where
  pub trees : p.files.now ≡ files
  pub tables : p.bound.now ≡ bound_of files
  pub names : p.names.items ≡ map (owned_of files) (all_data files)
  pub written : map written_seen p.written.items ≡ map (written_of files) (all_data files)
  pub name_of : p.links.name_of.items ≡ map (name_number files) (bound_entities files)
  pub entity_of : p.links.entity_of.items ≡ map (own_entity files) (all_data files)
  pub tokens : (file token : ℕ) → entity_in (row_in p.rows.items file) token ≡ option_map (entity_index files) (key_at files file token)
