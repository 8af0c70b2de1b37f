-- What is known of the names and entities of a project, by what its files define. It serves the proof alone.
use Rattle.std.specs.Prelude.{◌≡◌, ℕ, if◌then◌else◌, List, [], map, Option, Some, None}
use Rattle.std.specs.List.{list_any}
use Rattle.std.specs.Option.{option_and_then, option_map, unwrap_or}
use Rattle.ftn_tree.specs.declared.table.Entity.{Entity}
use Rattle.ftn_tree.specs.declared.table.EntityKind.{EntityKind}
use Rattle.ftn_tree.specs.declared.table.EntityKind.TheVariants as kinds
use Rattle.ftn_tree.specs.declared.unit.FileTree.{FileTree}
use Rattle.ftn_tree.specs.declared.value.Value.{Value}
use Rattle.ftn_tree.specs.Bindings.{bound_entities}
use Rattle.ftn_tree.specs.Constants.{Known, all_pairs, declared_type, function_if, is_empty_pair, known_of, naming_at, pairs_of}
use Rattle.ftn_tree.specs.EntityValues.{extent_numbered}
use Rattle.ftn_tree.specs.Evaluations as spec
use Rattle.ftn_tree.specs.Intrinsics.{function_named}
use Rattle.ftn_tree.specs.KeyKinds.{Datum, datum, is_constant, kind_of, rank_of}
use Rattle.ftn_tree.specs.Meanings.{Key, own}
use Rattle.const_expr.specs.declared.naming.Naming.{Naming}
use Rattle.const_expr.specs.Namings.{naming_by, naming_of}
use Rattle.const_value.specs.declared.measured.Measured.{Measured}
use Rattle.const_value.specs.declared.project.Project.{Project}
use Rattle.const_value.specs.steps.Names.{all_data}
use Rattle.const_value.specs.steps.Projects.{row_in}

-- ---- names

-- only constants have values
abbrev pub value_of : List FileTree → (Key → Known) → Datum → Option Value
value_of files known d = if is_constant (kind_of files (own d.scope d.name)) then (known (own d.scope d.name)).value else None

abbrev pub measured_of : List FileTree → (Key → Known) → Datum → Measured
measured_of files known d = record {
  ty = declared_type files known d;
  bounds = all_pairs (pairs_of files known d);
  empty = list_any is_empty_pair (pairs_of files known d);
  value = value_of files known d;
}

-- ---- entities in constant expressions

abbrev pub naming_seen : Naming → spec.Naming
naming_seen one = naming_of (Some one)

-- where it is a scoping unit's own
abbrev pub own_datum : List FileTree → Entity → Option Datum
own_datum files entity = option_map (λ e. datum e (unwrap_or entity.name [])) (extent_numbered files entity.home)

abbrev pub constant_naming : List FileTree → (Key → Known) → Option Datum → spec.Naming
constant_naming files known None = spec.Constant None 0 None
constant_naming files known (Some d) = spec.Constant (known (own d.scope d.name)).value (rank_of files d) (known (own d.scope d.name)).bounds

abbrev pub naming_as : List FileTree → (Key → Known) → EntityKind → Entity → spec.Naming
naming_as files known kinds.Intrinsic entity = function_if (option_and_then function_named entity.name)
naming_as files known kinds.Constant entity = constant_naming files known (own_datum files entity)
naming_as files known kind entity = spec.Stray

abbrev pub naming_due : List FileTree → (Key → Known) → Entity → spec.Naming
naming_due files known entity = naming_as files known entity.kind entity

-- ---- all that is known

-- what expressions are told of entities
abbrev pub AreNamings : List FileTree → (Key → Known) → List Naming → Type 0
AreNamings files known namings = map naming_seen namings ≡ map (naming_due files known) (bound_entities files)

pub record IsKnown (files : List FileTree) (p : Project) (all : List Measured) (namings : List Naming) : Type 0 where
  pub names : all ≡ map (measured_of files (known_of files)) (all_data files)
  pub tokens : (file token : ℕ) → naming_by (row_in p.rows.items file) namings token ≡ naming_at files (known_of files) file token
